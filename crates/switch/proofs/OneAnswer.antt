-- One answer: two results that satisfy a promise are equal, the tag included. The promises of the cell are equations of the result with a
-- definition, and leave no room; so is the door's, and its tag's. The others tell an answer: a check's by whether it passed or its number, a
-- step's by the paper's values and the far end, which differ wherever answers do.
use Prim.Native.Nat.{ℕ}
use mathlib.Core.Path.{◌≡◌, refl, ap, ap₂, sym, ◌∙◌}
use mathlib.Core.List.{List}
use native.Mathlib.Omega.{arith}
use Rattle.std.specs.Prelude.{Result, Ok, Err}
use Rattle.sheet.specs.Refusals.{refusal_number}
use Rattle.sheet.specs.declared.order.FarEnd.{FarEnd}
use Rattle.sheet.specs.declared.refusals.Refusal.{Refusal}
use Rattle.sheet.proofs.OneAnswer.{one_refusal}
use Rattle.switch.specs.Answers.{paper_of, move_paper}
use Rattle.switch.specs.Checks.{check_of}
use Rattle.switch.specs.Step.{Stepped, away_of, move_far, answer_far, told, told_move}
use Rattle.switch.specs.declared.step.Move.{Move}
use Rattle.switch.specs.declared.step.Move.TheVariants.{Leaves, Delivered, Nowhere}

one_far : (e e' : FarEnd) → away_of e ≡ away_of e' → e ≡ e'
one_far e e' same = (λ i. record { switch = record { 0 = (same i).switch }; port = record { 0 = (same i).port } })

-- ---- the checks

pub one_passed : (r r' : Result (Unit {0}) Refusal) → check_of r ≡ check_of r' → r ≡ r'
one_passed (Ok u) (Ok u') e = refl
one_passed (Ok u) (Err refusal) e = cc
one_passed (Err refusal) (Ok u) e = cc
one_passed (Err refusal) (Err refusal') e =
    let same : refusal_number refusal ≡ refusal_number refusal' = cc in ap (λ r. Err r) (one_refusal refusal refusal' same)

-- ---- the paper's values and the far end tell the case

pub one_move : (m m' : Move) → move_paper m ≡ move_paper m' → move_far m ≡ move_far m' → m ≡ m'
one_move (Leaves p far) (Leaves p' far') e f = ap₂ Leaves (λ i. record { 0 = (e i).port }) (one_far far far' f)
one_move Delivered Delivered e f = refl
one_move Nowhere Nowhere e f = refl
one_move (Leaves p far) Delivered e f = absurd (omega (arith, ap (λ p. p.end) e))
one_move (Leaves p far) Nowhere e f = absurd (omega (arith, ap (λ p. p.end) e))
one_move Delivered (Leaves p far) e f = absurd (omega (arith, ap (λ p. p.end) e))
one_move Delivered Nowhere e f = absurd (omega (arith, ap (λ p. p.end) e))
one_move Nowhere (Leaves p far) e f = absurd (omega (arith, ap (λ p. p.end) e))
one_move Nowhere Delivered e f = absurd (omega (arith, ap (λ p. p.end) e))

moves : (m : Move) → (move_paper m).end ≡ 3 → ⊥
moves m z = grind arith

pub one_out : (r r' : Result Move Refusal) → paper_of r ≡ paper_of r' → answer_far r ≡ answer_far r' → r ≡ r'
one_out (Ok m) (Ok m') e f = ap (λ move. Ok move) (one_move m m' e f)
one_out (Err k) (Err k') e f = ap (λ refusal. Err refusal) (one_refusal k k' (λ i. (e i).number))
one_out (Ok m) (Err k) e f = absurd (moves m (λ i. (e i).end))
one_out (Err k) (Ok m) e f = absurd (moves m (sym (λ i. (e i).end)))

-- ---- the step, and the step after the checks

module _ {step : Stepped} {tag tag' : List ℕ} where
  pub one_step : (r r' : Result Move Refusal) → told r tag ≡ step → told r' tag' ≡ step → (r ≡ r') × (tag ≡ tag')
  one_step r r' p q =
      let same = p ∙ sym q in (one_out r r' (λ i. (same i).paper) (λ i. (same i).far), (λ i. (same i).tag))

  pub one_advance : (r r' : Move) → told_move r tag ≡ step → told_move r' tag' ≡ step → (r ≡ r') × (tag ≡ tag')
  one_advance r r' p q =
      let same = p ∙ sym q in (one_move r r' (λ i. (same i).paper) (λ i. (same i).far), (λ i. (same i).tag))
