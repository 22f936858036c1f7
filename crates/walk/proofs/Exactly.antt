-- A walk is refused exactly as the table says, with numbers 1 to 7 only: the checks stand in the table's order, each decides its row, and
-- a walk that has passed them ends delivered or none.
use Prim.Native.Nat.{ℕ, ◌*◌, ◌≤◌, ◌<◌}
use mathlib.Core.Path.{◌≡◌, refl, ap, sym, subst, ◌∙◌}
use mathlib.Core.List.{List, [], ◌∷◌}
use mathlib.Core.Logic.{◌⊎◌, inl, inr, ◌↔◌}
use mathlib.Core.Bool.{Bool, true, false}
use native.Mathlib.Omega.{arith}
use lib.ListN.{length}
use lib.Dec.{leb}
use borrow.Author.Tests.{leb-false}
use Rattle.std.proofs.lemmas.Bool.Decides.{nat_tests}
use Rattle.sheet.specs.Lists.{both}
use Rattle.sheet.specs.Cables.{within}
use Rattle.sheet.specs.Refusals.{Answer, accepted, refused, list_answer}
use Rattle.sheet.specs.Exactly.{EitherRefused, of_sheet, of_list, by_form, by_count, by_row, by_fault_form, by_fault}
use Rattle.sheet.proofs.Tests.{true≢false, fails}
use Rattle.sheet.proofs.Exactly.{either_refused, both_accepted}
use Rattle.switch.specs.Checks.{rule, first_broken}
use Rattle.switch.specs.Checks.{Refused}
use Rattle.walk.specs.Walk.{paper, checks_on, walk_checks, Result, Walks, turned_away, arrives}
use Rattle.walk.specs.Exactly.{WalkRefused, by_lists, off_sheet, no_room}
use Rattle.walk.proofs.Checking.{on_sheet_lem, passed_premises, lists_refuse, off_refuse}
use Rattle.walk.proofs.Tender.{never_refused}

module _ (s faults tag trace : List ℕ) (source destination : ℕ) where
  abbrev Broken : ℕ → Type 0
  Broken = WalkRefused s faults tag trace source destination

  -- the row that the checks tell
  told : (number : ℕ) → walk_checks s faults tag trace source destination ≡ Refused number → Broken number
  unfolding walk_checks
  told number = by_answer (list_answer s faults) refl
    where
      numbered : {k : ℕ} → Broken k → Refused k ≡ Refused number → Broken number
      numbered h e = subst Broken (cc) h

      by_tests : {n cables : ℕ} → list_answer s faults ≡ accepted n cables → (on long room : Bool)
          → both (within n source) (within n destination) ≡ on
          → leb (2 * n) (length tag) ≡ long → leb (4 * cables) (length trace) ≡ room
          → first_broken (rule 6 on ∷ rule 7 long ∷ rule 7 room ∷ []) ≡ Refused number → Broken number
      by_tests {n} {cables} e false b c on long room h =
          numbered (off_sheet ((both_accepted s faults n cables).0 e) (λ k. true≢false ((on_sheet_lem source destination n).1 k) on)) h
      by_tests {n} {cables} e true false c on long room h =
          numbered
          (no_room ((both_accepted s faults n cables).0 e) ((on_sheet_lem source destination n).0 on)
          (inl (leb-false (2 * n) (length tag) long))) h
      by_tests {n} {cables} e true true false on long room h =
          numbered
          (no_room ((both_accepted s faults n cables).0 e) ((on_sheet_lem source destination n).0 on)
          (inr (leb-false (4 * cables) (length trace) room))) h
      by_tests e true true true on long room h = cc

      by_answer : (answer : Answer) → list_answer s faults ≡ answer → checks_on answer tag trace source destination ≡ Refused number
          → Broken number
      by_answer (refused k) e h = numbered (by_lists ((either_refused s faults k).0 e)) h
      by_answer (accepted n cables) e h =
          by_tests e (both (within n source) (within n destination)) (leb (2 * n) (length tag)) (leb (4 * cables) (length trace))
          refl refl refl h

  short_refuse : {n cables : ℕ} → list_answer s faults ≡ accepted n cables → both (within n source) (within n destination) ≡ true
      → (length tag < 2 * n) ⊎ (length trace < 4 * cables) → walk_checks s faults tag trace source destination ≡ Refused 7
  unfolding walk_checks
  short_refuse {n} {cables} e on short = rw (e, on) (grind (arith, nat_tests))

  -- and the checks that a row gives
  given : {number : ℕ} → Broken number → walk_checks s faults tag trace source destination ≡ Refused number
  given (by_lists {number} h) = lists_refuse s faults tag trace source destination ((either_refused s faults number).1 h)
  given (off_sheet {n} {cables} h off) =
      off_refuse s faults tag trace source destination ((both_accepted s faults n cables).1 h)
      (fails (both (within n source) (within n destination)) (on_sheet_lem source destination n) off)
  given (no_room {n} {cables} h on short) = short_refuse ((both_accepted s faults n cables).1 h) ((on_sheet_lem source destination n).1 on) short

  pub checks_exactly : (number : ℕ) → (walk_checks s faults tag trace source destination ≡ Refused number) ↔ Broken number
  checks_exactly number = (told number, given)

  -- what a walk came to is a refusal by this number exactly if the row is the first that is broken
  pub walk_refused_exactly : (number : ℕ) {r : Result} → Walks s faults tag trace source destination r
      → (r.paper ≡ paper 3 0 0 number) ↔ Broken number
  walk_refused_exactly number (turned_away {number = k} e) = (
    λ same. (checks_exactly number).0 (e ∙ ap Refused (ap (λ p. p.number) same)),
    λ h. let numbers : Refused k ≡ Refused number = sym e ∙ given h in ap (paper 3 0 0) (cc),
  )
  walk_refused_exactly number (arrives e way end) = (
    λ same.
        absurd (never_refused s faults tag trace source destination (passed_premises s faults tag trace source destination e)
        (arrives e way end) (ap (λ p. p.end) same)),
    λ h. cc (given h),
  )

-- only numbers 1 to 7
pub refusal_numbers : {s faults tag trace : List ℕ} {source destination number : ℕ}
    → WalkRefused s faults tag trace source destination number → (1 ≤ number) × (number ≤ 7)
refusal_numbers (by_lists h) = of_lists h
  where
    of_lists : {s faults : List ℕ} {number : ℕ} → EitherRefused s faults number → (1 ≤ number) × (number ≤ 7)
    of_lists (of_sheet (by_form h)) = (omega arith, omega arith)
    of_lists (of_sheet (by_count h)) = (omega arith, omega arith)
    of_lists (of_sheet (by_row h)) = (omega arith, omega arith)
    of_lists (of_list sheet (by_fault_form h)) = (omega arith, omega arith)
    of_lists (of_list sheet (by_fault h)) = (omega arith, omega arith)
refusal_numbers (off_sheet h off) = (omega arith, omega arith)
refusal_numbers (no_room h on short) = (omega arith, omega arith)
