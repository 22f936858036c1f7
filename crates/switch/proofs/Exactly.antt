-- Each refusal is given exactly if its row of the table is the first that is broken: each check fails exactly if its row is broken, the
-- checks stand in the table's order, and no advance is a refusal.
use Prim.Native.Nat.{ℕ, ◌*◌, ◌≤◌}
use mathlib.Core.Path.{◌≡◌, refl, ap, sym, ◌∙◌}
use mathlib.Core.List.{List, [], ◌∷◌}
use mathlib.Core.Logic.Iff
use mathlib.Core.Logic.{inl, inr, ⊎_elim, ◌↔◌}
use mathlib.Core.Bool.{Bool, true, false}
use native.Mathlib.Omega.{arith}
use lib.ListN.{length}
use lib.Dec.{leb}
use Rattle.sheet.specs.Cables.{Socket, rows_of, within}
use Rattle.sheet.specs.Faults.{faults_of}
use Rattle.sheet.specs.Order.{port_order}
use Rattle.sheet.specs.Refusals.{Answer, accepted, refused, list_answer}
use Rattle.sheet.specs.Sound.{Within, Sound}
use Rattle.sheet.specs.Exactly.{by_form, by_count, by_row, by_fault_form, by_fault}
use Rattle.sheet.specs.Exactly.{BothAccepted, EitherRefused, of_sheet, of_list}
use Rattle.sheet.specs.declared.cables.Cable.{Cable}
use Rattle.sheet.proofs.Tests.{true≢false, decides-≤, decides-≡}
use Rattle.sheet.proofs.Rows.{decides_within}
use Rattle.sheet.proofs.Exactly.{either_refused, both_accepted}
use Rattle.switch.specs.Cell.{cell_of}
use Rattle.switch.specs.Answers.{paper}
use Rattle.switch.specs.Checks.{rule, switches_rule, tag_rule, arrival_rule, fresh_rule, cell_rule, first_broken, checks}
use Rattle.switch.specs.Step.{Stepped, unless, stepped, advanced}
use Rattle.switch.specs.Exactly.{Not, Row, row, FirstBroken, NoneBroken, table, StepRefused, by_lists, by_table}
use Rattle.switch.specs.Exactly.{Breaks6, Breaks7, Breaks8, Breaks9, Breaks10}
use Rattle.switch.specs.declared.cell.Cell.{Cell}
use Rattle.switch.specs.Checks.{Check}
use Rattle.switch.specs.Checks.{Passed, Refused}
use Rattle.switch.proofs.Failing.{Fails, not_refuted, fails_not, not_fails, fails-≤, fails_both, fails_either, uncabled, unusable}
use Rattle.switch.proofs.Blank.{marked}
use Rattle.switch.proofs.Stepping.{lists_rows, lists_faults, lists_sound, Advances, delivered, undelivered, forwarded, advances}
use Rattle.switch.proofs.Stepping.{Steps, lists_refuse, check_refuses, passes, steps, stepped_refused, stepped_accepted}

-- ---- checks in the order of their rows

-- these checks refuse exactly by the first row that is broken, and pass exactly if none is
pub record Follow (list : List Check) (rows : List Row) : Type 0 where
  pub refuses : (number : ℕ) → (first_broken list ≡ Refused number) ↔ FirstBroken rows number
  pub passes : (first_broken list ≡ Passed) ↔ NoneBroken rows

passed≢refused : {number : ℕ} {check : Check} → check ≡ Passed → check ≡ Refused number → ⊥
passed≢refused p q = cc

no_rows : Follow [] []
no_rows = record { refuses = λ number. (passed≢refused refl, λ h. absurd h); passes = (λ e. tt, λ h. refl) }

then : {B : Type 0} (number : ℕ) (test : Bool) {list : List Check} {rows : List Row} → Fails test B → Follow list rows
    → Follow (rule number test ∷ list) (row number B ∷ rows)
then {B} number true fails rest = record {
  refuses = λ k. (λ e. inr (holds, (rest.refuses k).0 e), ⊎_elim (λ h. absurd (holds h.0)) (λ h. (rest.refuses k).1 h.1));
  passes = (λ e. (holds, rest.passes.0 e), λ h. rest.passes.1 h.1);
}
  where
    holds : Not B
    holds b = true≢false refl (fails.1 b)
then number false fails rest = record {
  refuses = λ k. (λ e. inl (fails.0 refl, cc), ⊎_elim (λ h. rw h.1) (λ h. absurd (h.0 (fails.0 refl))));
  passes = (λ e. absurd (passed≢refused e refl), λ h. absurd (h.0 (fails.0 refl)));
}

module _ {n : ℕ} {rows : List Cable} (sound : Sound n rows) (f tag : List ℕ) (v arrival d : ℕ) where
  pub checks_follow :
      Follow
      (switches_rule n v d
      ∷ tag_rule n tag
      ∷ arrival_rule (port_order rows v) f arrival
      ∷ fresh_rule n tag arrival
      ∷ cell_rule (port_order rows v) f (cell_of tag v)
      ∷ [])
      (table n rows (faults_of f) tag v arrival d)
  checks_follow =
      then 6 _ (fails_both _ _ (fails_not _ (decides_within n v)) (fails_not _ (decides_within n d)))
      (then 7 _ (fails-≤ _ _)
      (then 8 _ (fails_either _ _ (fails_not _ (decides-≡ arrival 0)) (unusable sound v f arrival))
      (then 9 _ (fails_either _ _ (not_fails _ (decides-≡ arrival 0)) (not_fails _ (marked n tag)))
      (then 10 _
      (fails_either _ _ (fails_not _ (decides-≡ cell.current.0 0))
      (fails_both _ _ (uncabled sound v cell.current.0)
      (fails_either _ _ (fails_not _ (decides-≡ cell.parent.0 0)) (unusable sound v f cell.parent.0))))
      no_rows))))
    where
      cell : Cell
      cell = cell_of tag v

  pub checks_exactly : (number : ℕ)
      → (checks n (port_order rows v) f tag v arrival d ≡ Refused number) ↔ FirstBroken (table n rows (faults_of f) tag v arrival d) number
  unfolding checks
  checks_exactly number = checks_follow.refuses number

  pub passed_exactly :
      (checks n (port_order rows v) f tag v arrival d ≡ Passed) ↔ NoneBroken (table n rows (faults_of f) tag v arrival d)
  unfolding checks
  passed_exactly = checks_follow.passes

  -- after the checks this switch is on the sheet, and its two bytes are inside the tag
  pub passed_inside : checks n (port_order rows v) f tag v arrival d ≡ Passed → Within n v × (2 * n ≤ length tag)
  passed_inside e =
      let none = passed_exactly.0 e in
      let here = not_refuted (within n v) (decides_within n v) (λ out. none.0 (inl out)) in
      (here, not_refuted (leb (2 * n) (length tag)) (decides-≤ (2 * n) (length tag)) (λ short. none.1.0 (omega arith)))

-- ---- the step

not_refusal : {order : List Cable} {f tag : List ℕ} {v arrival d : ℕ} {step : Stepped} → Advances order f tag v arrival d step
    → step.paper.end ≤ 2
not_refusal (delivered e) = omega arith
not_refusal (undelivered e e') = omega arith
not_refusal (forwarded e e') = omega arith

-- on accepted lists: exactly by the first row of the table that is broken
module _ {s f : List ℕ} {n cables : ℕ} (lists : BothAccepted s f n cables) (tag : List ℕ) (v arrival d : ℕ) where
  abbrev rows : List Cable
  rows = lists.sheet.rows

  abbrev faults : List Socket
  faults = lists.faults

  -- the refusal with this number
  abbrev Given : ℕ → Type 0
  Given number = (stepped s f tag v arrival d).paper ≡ paper 3 0 number

  abbrev checked : Check
  checked = checks n (port_order rows v) f tag v arrival d

  abbrev advance : Stepped
  advance = advanced (port_order rows v) f tag v arrival d

  exactly : (number : ℕ) → (checked ≡ Refused number) ↔ FirstBroken (table n rows faults tag v arrival d) number
  exactly number = rw (lists_faults lists) at (checks_exactly (lists_sound lists) f tag v arrival d number)

  answer : stepped s f tag v arrival d ≡ unless checked tag advance
  answer = rw (lists_rows lists) at (stepped_accepted s f tag v arrival d ((both_accepted s f n cables).1 lists))

  pub table_exactly : (number : ℕ) → Given number ↔ FirstBroken (table n rows faults tag v arrival d) number
  table_exactly number = (
    λ given. by_check checked refl (sym (ap (λ r. r.paper) answer) ∙ given),
    λ broken. ap (λ r. r.paper) answer ∙ rw ((exactly number).1 broken),
  )
    where
      by_check : (check : Check) → checked ≡ check → (unless check tag advance).paper ≡ paper 3 0 number
          → FirstBroken (table n rows faults tag v arrival d) number
      by_check Passed e same =
          let small = not_refusal (advances (port_order rows v) f tag v arrival d) in
          let end = ap (λ p. p.end) same in
          absurd (omega arith)
      by_check (Refused k) e same = (exactly number).0 (e ∙ ap (λ p. Refused p.number) same)

  abbrev Row6 : Type 0
  Row6 = Breaks6 n v d

  abbrev Row7 : Type 0
  Row7 = Breaks7 n tag

  abbrev Row8 : Type 0
  Row8 = Breaks8 rows faults v arrival

  abbrev Row9 : Type 0
  Row9 = Breaks9 n tag arrival

  abbrev Row10 : Type 0
  Row10 = Breaks10 rows faults v (cell_of tag v)

  pub refused_6 : Given 6 ↔ Row6
  refused_6 = Iff.trans (table_exactly 6) (λ h. grind arith, λ h. grind arith)

  pub refused_7 : Given 7 ↔ (Not Row6 × Row7)
  refused_7 = Iff.trans (table_exactly 7) (λ h. grind arith, λ h. grind arith)

  pub refused_8 : Given 8 ↔ (Not Row6 × (Not Row7 × Row8))
  refused_8 = Iff.trans (table_exactly 8) (λ h. grind arith, λ h. grind arith)

  pub refused_9 : Given 9 ↔ (Not Row6 × (Not Row7 × (Not Row8 × Row9)))
  refused_9 = Iff.trans (table_exactly 9) (λ h. grind arith, λ h. grind arith)

  pub refused_10 : Given 10 ↔ (Not Row6 × (Not Row7 × (Not Row8 × (Not Row9 × Row10))))
  refused_10 =
      Iff.trans (table_exactly 10)
      (λ h. grind arith, λ h. inr (h.0, inr (h.1.0, inr (h.1.1.0, inr (h.1.1.1.0, inl (h.1.1.1.1, refl))))))

-- ---- whatever the lists

from_lists : {s f : List ℕ} {number : ℕ} → EitherRefused s f number → number ≤ 5
from_lists (of_sheet (by_form h)) = omega arith
from_lists (of_sheet (by_count h)) = omega arith
from_lists (of_sheet (by_row h)) = omega arith
from_lists (of_list sheet (by_fault_form h)) = omega arith
from_lists (of_list sheet (by_fault h)) = omega arith

module _ {n : ℕ} {rows : List Cable} {faults : List Socket} {tag : List ℕ} {v arrival d : ℕ} where
  from_table : {number : ℕ} → FirstBroken (table n rows faults tag v arrival d) number → (6 ≤ number) × (number ≤ 10)
  from_table h = (grind arith, grind arith)

module _ (s f tag : List ℕ) (v arrival d number : ℕ) where
  -- given exactly when: by the lists, else by the table
  pub refused_exactly : ((stepped s f tag v arrival d).paper ≡ paper 3 0 number) ↔ StepRefused s f tag v arrival d number
  refused_exactly = (by_answer (list_answer s f) refl, answered)
    where
      by_answer : (answer : Answer) → list_answer s f ≡ answer → (stepped s f tag v arrival d).paper ≡ paper 3 0 number
          → StepRefused s f tag v arrival d number
      by_answer (refused k) e given =
          let same = sym (ap (λ r. r.paper) (stepped_refused s f tag v arrival d e)) ∙ given in
          by_lists ((either_refused s f number).0 (e ∙ ap (λ p. refused p.number) same))
      by_answer (accepted n cables) e given =
          let lists = (both_accepted s f n cables).0 e in
          by_table lists ((table_exactly lists tag v arrival d number).0 given)

      answered : StepRefused s f tag v arrival d number → (stepped s f tag v arrival d).paper ≡ paper 3 0 number
      answered (by_lists e) = rw (stepped_refused s f tag v arrival d ((either_refused s f number).1 e))
      answered (by_table lists broken) = (table_exactly lists tag v arrival d number).1 broken

  -- refusals 1 to 5 are those of the lists
  pub lists_exactly : number ≤ 5 → ((stepped s f tag v arrival d).paper ≡ paper 3 0 number) ↔ (list_answer s f ≡ refused number)
  lists_exactly low = (λ given. told (refused_exactly.0 given), λ e. rw (stepped_refused s f tag v arrival d e))
    where
      told : StepRefused s f tag v arrival d number → list_answer s f ≡ refused number
      told (by_lists e) = (either_refused s f number).1 e
      told (by_table lists broken) = let h = from_table broken in absurd (omega arith)

-- no number is over 10
pub number_within : (s f tag : List ℕ) (v arrival d : ℕ) → (stepped s f tag v arrival d).paper.number ≤ 10
number_within s f tag v arrival d = by_step (steps s f tag v arrival d)
  where
    by_advance : {step : Stepped} → Advances (port_order (rows_of s) v) f tag v arrival d step → step.paper.number ≤ 10
    by_advance (delivered e) = omega arith
    by_advance (undelivered e e') = omega arith
    by_advance (forwarded e e') = omega arith

    by_step : {step : Stepped} → Steps s f tag v arrival d step → step.paper.number ≤ 10
    by_step (lists_refuse {number = number} e) = let h = from_lists ((either_refused s f number).0 e) in omega arith
    by_step (check_refuses {n} {cables} {number} e e') =
        let lists = (both_accepted s f n cables).0 e in
        (from_table ((checks_exactly (lists_sound lists) f tag v arrival d number).0 (rw (lists_rows lists) at e'))).1
    by_step (passes e e') = by_advance (advances (port_order (rows_of s) v) f tag v arrival d)
