-- The checks that have passed leave what the step after them needs.
use Rattle.std.proofs.Common.{arith, sym, ap, ◌∙◌}
use Rattle.sheet.specs.Refusals.{answer_of}
use Rattle.sheet.proofs.Places.{placed_order}
use Rattle.switch.specs.Checks.{check_of, arrival_rule}
use Rattle.switch.proofs.Passing.{cell_inside, arrival_byte}
use Rattle.switch.proofs.step.step.Goals as goal

pub advance-requires : goal.advance-requires
advance-requires c =
    let a = c.args in
    let ordered = c.new-ports.ensures.order
    ∙ placed_order a.lists.now.sheet.now a.v.0 (c.as_slice.ensures.value ∙ c.port_order.ensures) in
    let arrived = c.check_arrival-arrived.ensures ∙ (λ i. arrival_rule (ordered i) (c.new-ports.ensures.faults i) a.arrival.0) in
    record {
      cell = cell_inside c.in-Ok.accepted.switches a.tag.now a.v.0 a.d.0 (grind arith) (grind arith);
      byte = arrival_byte a.lists.now.sheet.now a.lists.now.faults.now a.v.0 a.arrival.0
          (sym c.check_faults-checked.ensures ∙ ap answer_of c.in-Ok.is) (sym arrived ∙ ap check_of c.in-Ok-arrived.is);
    }
