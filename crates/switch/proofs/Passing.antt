-- What the checks of a step leave for the code after them, once they pass.
use Prim.Native.Nat.{ℕ, ◌*◌, ◌<◌}
use mathlib.Core.Path.{◌≡◌, refl, subst}
use mathlib.Core.List.{List}
use mathlib.Core.Bool.{Bool, true, false}
use native.Mathlib.Omega.{arith}
use lib.ListN.{length}
use lib.Dec.{leb, eqb}
use borrow.Author.Tests.{leb-true, eqb-true}
use Rattle.sheet.specs.Lists.{both, either, ◌∈◌}
use Rattle.sheet.specs.Cables.{rows_of, within}
use Rattle.sheet.specs.Order.{port_order, is_cabled, is_live}
use Rattle.sheet.specs.Refusals.{accepted, list_answer}
use Rattle.sheet.specs.declared.cables.Cable.{Cable}
use Rattle.sheet.proofs.Lists.{both_true}
use Rattle.sheet.proofs.Rows.{decides_within}
use Rattle.sheet.proofs.Cabling.{position_found, ends_apart}
use Rattle.sheet.proofs.Exactly.{both_accepted}
use Rattle.switch.specs.Cell.{CellInside}
use Rattle.switch.specs.Checks.{rule, switches_rule, tag_rule, arrival_rule}
use Rattle.switch.specs.Checks.{Passed}
use Rattle.switch.proofs.Stepping.{lists_rows, lists_sound}

rule_holds : (number : ℕ) (holds : Bool) → rule number holds ≡ Passed → holds ≡ true
rule_holds number holds e = grind arith

pub cell_inside : (n : ℕ) (tag : List ℕ) (v d : ℕ) → switches_rule n v d ≡ Passed → tag_rule n tag ≡ Passed → CellInside tag v
cell_inside n tag v d e e' =
    let here = (decides_within n v).0 (both_true (within n v) (within n d) (rule_holds 6 (both (within n v) (within n d)) e)).0 in
    let long = leb-true (2 * n) (length tag) (rule_holds 7 (leb (2 * n) (length tag)) e') in
    record { low = here.0; inside = omega arith }

-- an arrival port is 0, or a port of the sheet
pub arrival_byte : (s f : List ℕ) {n cables : ℕ} (v arrival : ℕ) → list_answer s f ≡ accepted n cables
    → arrival_rule (port_order (rows_of s) v) f arrival ≡ Passed → arrival < 256
arrival_byte s f {n} {cables} v arrival lists e =
    go (eqb arrival 0) refl (rule_holds 8 (either (eqb arrival 0) (is_live f arrival order)) e)
  where
    order : List Cable
    order = port_order (rows_of s) v

    go : (b : Bool) → eqb arrival 0 ≡ b → either b (is_live f arrival order) ≡ true → arrival < 256
    go true none t = omega (arith, eqb-true arrival 0 none)
    go false some t =
        let accepts = (both_accepted s f n cables).0 lists in
        let (c, at, port, found) = position_found arrival order (both_true (is_cabled arrival order) _ t).0 in
        let there = subst (λ rows. c ∈ port_order rows v) (lists_rows accepts) at in
        let range = (ends_apart (lists_sound accepts) v c there).0.near.1.1 in
        omega (arith, port)
