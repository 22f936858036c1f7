-- One answer: two results that satisfy a promise are equal. Most promises are equations of the result with a definition, and leave no room.
-- The others are taken here: an answer told by the paper's values, and a part told by its bytes and its place.
use Prim.Native.Nat.{ℕ, ◌≤◌}
use mathlib.Core.Path.{◌≡◌, ap, ap₂, sym, ◌∙◌}
use mathlib.Core.List.{List}
use denote.Ref.{Bor}
use native.Mathlib.Omega.{arith}
use Rattle.std.specs.Prelude.{Result, Ok, Err}
use Rattle.sheet.specs.Refusals.{answer_of, refusal_number}
use Rattle.sheet.specs.FaultyRow.{IsPart}
use Rattle.sheet.specs.declared.check.Part.{Part}
use Rattle.sheet.specs.declared.check.Part.TheVariants.{OfSheet, OfFaults}
use Rattle.sheet.specs.declared.check.Accepted.{Accepted}
use Rattle.sheet.specs.declared.refusals.Refusal.{Refusal}

-- a refusal is told by its number
pub one_refusal : (r r' : Refusal) → refusal_number r ≡ refusal_number r' → r ≡ r'
one_refusal r r' e = grind arith

pub refusal_small : (refusal : Refusal) → refusal_number refusal ≤ 10
refusal_small refusal = grind arith

-- the checks: the paper's values tell the answer
pub one_check : (r r' : Result Accepted Refusal) → answer_of r ≡ answer_of r' → r ≡ r'
one_check (Ok lists) (Ok lists') e =
    let n : lists.switches ≡ lists'.switches = cc in
    let m : lists.cables ≡ lists'.cables = cc in
    ap₂ (λ switches cables. Ok (record { switches = switches; cables = cables })) n m
one_check (Ok lists) (Err refusal) e = cc
one_check (Err refusal) (Ok lists) e = cc
one_check (Err refusal) (Err refusal') e =
    let same : refusal_number refusal ≡ refusal_number refusal' = cc in ap (λ r. Err r) (one_refusal refusal refusal' same)

-- the faulty row: the same bytes at the same place
module _ (sheet faults r r' : Bor (List ℕ)) where
  pub one_row : (part : Part) → IsPart sheet faults part r → IsPart sheet faults part r' → (r.now ≡ r'.now) × (r.ref_ptr ≡ r'.ref_ptr)
  one_row (OfSheet start size) p q = (p.bytes ∙ sym q.bytes, p.begins ∙ sym q.begins)
  one_row (OfFaults start size) p q = (p.bytes ∙ sym q.bytes, p.begins ∙ sym q.begins)
