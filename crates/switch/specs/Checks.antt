-- Refusals 6 to 10, in order; the first rule that is broken gives the number.
use Rattle.std.specs.Prelude.{ℕ, ◌*◌, List, [], ◌∷◌, Bool, not, length, take, leb, eqb, Result, Ok, Err}
use Rattle.sheet.specs.Lists.{pick, both, either, any}
use Rattle.sheet.specs.Cables.{within}
use Rattle.sheet.specs.Order.{is_cabled, is_live}
use Rattle.sheet.specs.Refusals.{refusal_number}
use Rattle.sheet.specs.declared.cables.Cable.{Cable}
use Rattle.sheet.specs.declared.refusals.Refusal.{Refusal}
use Rattle.switch.specs.Cell.{cell_of}
use Rattle.switch.specs.declared.cell.Cell.{Cell}

-- what a check comes to: passed, or refused by its number
pub data Check : Type 0 where
  Passed : Check
  Refused : (number : ℕ) → Check

-- what each case of the code's answer says
abbrev pub check_of : Result (Unit {0}) Refusal → Check
check_of (Ok passed) = Passed
check_of (Err refusal) = Refused (refusal_number refusal)

-- a rule that holds, or its number
abbrev pub rule : ℕ → Bool → Check
rule number holds = pick holds Passed (Refused number)

-- 6: source, destination or present switch outside 1 to n
abbrev pub switches_rule : ℕ → ℕ → ℕ → Check
switches_rule n v d = rule 6 (both (within n v) (within n d))

-- 7: tag shorter than 2n bytes
abbrev pub tag_rule : ℕ → List ℕ → Check
tag_rule n tag = rule 7 (leb (2 * n) (length tag))

-- 8: arrival port is not 0 and is not a cabled port of this switch, or its cable is dead
abbrev pub arrival_rule : List Cable → List ℕ → ℕ → Check
arrival_rule order faults arrival = rule 8 (either (eqb arrival 0) (is_live faults arrival order))

abbrev pub nonzero : ℕ → Bool
nonzero byte = not (eqb byte 0)

-- 9: arrival port 0 and any of the first 2n tag bytes not 0
abbrev pub fresh_rule : ℕ → List ℕ → ℕ → Check
fresh_rule n tag arrival = rule 9 (either (not (eqb arrival 0)) (not (any nonzero (take (2 * n) tag))))

-- 10: this switch's current port is not 0 and either it is not cabled here, or the parent is not 0 and is uncabled here or dead
abbrev pub cell_rule : List Cable → List ℕ → Cell → Check
cell_rule order faults cell =
    rule 10
    (either (eqb cell.current.0 0)
    (both (is_cabled cell.current.0 order) (either (eqb cell.parent.0 0) (is_live faults cell.parent.0 order))))

-- the first that is broken
abbrev pub first_broken : List Check → Check
first_broken [] = Passed
first_broken (Passed ∷ checks) = first_broken checks
first_broken (Refused number ∷ checks) = Refused number

-- for the present switch v, whose port order is given
unfoldable pub checks : ℕ → List Cable → List ℕ → List ℕ → ℕ → ℕ → ℕ → Check
checks n order faults tag v arrival d =
    first_broken
    (switches_rule n v d
    ∷ tag_rule n tag
    ∷ arrival_rule order faults arrival
    ∷ fresh_rule n tag arrival
    ∷ cell_rule order faults (cell_of tag v)
    ∷ [])
