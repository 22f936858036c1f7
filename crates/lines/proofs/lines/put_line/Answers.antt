-- The pairs of bytes are the line's hops, and a line with so few of them is short.
use Rattle.std.proofs.Common.{refl, arith}
use Rattle.lines.proofs.Hops.{line_put}
use Rattle.lines.proofs.lines.put_line.Goals as goal

pub returns : goal.returns
returns c =
    let put =
    line_put c.args.source.0 c.args.destination.0 c.args.walked c.args.trace.now c.requires.1
    (omega (arith, c.requires.2)) (omega arith) (omega arith)
    c.requires.0 (λ i. (c.type_inv.trace i).fits) refl c.as_chunks.ensures.front c.put_answer.ensures in
    record { line = grind (arith, put.0.same_buffer, put.0.line_is); size = put.0.size_is; upper_bound = put.1 }
