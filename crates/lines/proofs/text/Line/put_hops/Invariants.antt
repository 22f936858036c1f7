-- After i turns the text of the first i hops is put.
use Rattle.std.proofs.Common.{◌≡◌, take}
use Rattle.lines.specs.Text.{added}
use Rattle.lines.specs.Lines.{hops_of, hops_text}
use Rattle.lines.proofs.text.Line.put_hops.Given as goal

abbrev pub invariant-loop-switch : goal.invariant-loop-switch
invariant-loop-switch l = l.self ≡ added l.initial.self (hops_text (hops_of (take l.switch-index l.hops)))
