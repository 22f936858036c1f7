-- After the checks the packet is carried in the cleared tag (Answering.antt).
use Rattle.std.proofs.Common.{arith, rules, sym, ap, ◌∙◌}
use Rattle.sheet.specs.Refusals.{answer_of}
use Rattle.walk.specs.Walk.{walk_checks}
use Rattle.walk.proofs.Answering.{tag_cleared, carried_through, walk_meets}
use Rattle.walk.proofs.walk.walk.Goals as goal

pub carry-requires-clause-tag_value : goal.carry-requires-clause-tag_value
carry-requires-clause-tag_value c =
    tag_cleared c.args.lists.now.sheet.now _ (sym c.check_faults-checked.ensures ∙ ap answer_of c.in-Ok.is) c.fill.new.self (search rules) _

pub returns : goal.returns
unfolding walk_checks
returns c =
    let a = c.args in
    let walks = carried_through _ _ (sym c.check_faults-checked.ensures ∙ ap answer_of c.in-Ok.is) c.fill.new.self (search rules)
    a.tag.now a.trace.now a.source.0 a.destination.0 (grind arith) (search rules) c.carry.ensures in
    record { walks = walks; condition3 = walk_meets _ _ _ _ _ _ c.carry.result walks }
