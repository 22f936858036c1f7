-- What a step comes to by the cases of its definition: refused by the lists, refused by a check, or advanced; and an advance ends in one
-- of three ways. The other laws of the step go by these cases and not by the definition.
use Prim.Native.Nat.{ℕ}
use mathlib.Core.Path.{◌≡◌, refl}
use mathlib.Core.List.{List}
use native.Mathlib.Omega.{arith}
use Rattle.std.proofs.lemmas.Bool.Decides.{nat_tests}
use Rattle.sheet.specs.Cables.{rows_of}
use Rattle.sheet.specs.Faults.{faults_of}
use Rattle.sheet.specs.Order.{port_order}
use Rattle.sheet.specs.Refusals.{Answer, accepted, refused, list_answer}
use Rattle.sheet.specs.Sound.{Sound}
use Rattle.sheet.specs.Accepted.{AcceptedSheet}
use Rattle.sheet.specs.Exactly.{BothAccepted}
use Rattle.sheet.specs.declared.cables.Cable.{Cable}
use Rattle.sheet.proofs.Accepted.{accepted_of}
use Rattle.sheet.proofs.Sheet.{rows_of_lem}
use Rattle.sheet.proofs.FaultList.{fault_right, faults_of_lem}
use Rattle.switch.specs.Choice.{Outcome, leaves, stays, choose}
use Rattle.switch.specs.Cell.{cell_of, entered}
use Rattle.switch.specs.Checks.{checks}
use Rattle.switch.specs.Step.{Stepped, stopped, moved, advanced, unless, stepped_on, stepped}
use Rattle.switch.specs.declared.cell.Cell.{Cell}
use Rattle.switch.specs.Checks.{Check}
use Rattle.switch.specs.Checks.{Passed, Refused}

-- ---- what accepted lists say of the step's arguments

pub accepted_rows : (s : List ℕ) (rows : List Cable) → AcceptedSheet s rows → rows_of s ≡ rows
accepted_rows s rows sheet = rows_of_lem s (accepted_of s rows sheet)

module _ {s f : List ℕ} {n cables : ℕ} (lists : BothAccepted s f n cables) where
  pub lists_rows : rows_of s ≡ lists.sheet.rows
  lists_rows = accepted_rows s lists.sheet.rows lists.sheet.sheet

  pub lists_faults : faults_of f ≡ lists.faults
  lists_faults = faults_of_lem lists.sheet.rows f (fault_right lists.sheet.rows f lists.right)

  pub lists_sound : Sound n lists.sheet.rows
  lists_sound = rw lists.sheet.switches lists.sheet.sheet.sound

-- ---- an advance

-- after the checks: delivered, none, or forwarded by the choice
pub data Advances (order : List Cable) (f tag : List ℕ) (v arrival d : ℕ) : Stepped → Type 0 where
  delivered : v ≡ d → Advances order f tag v arrival d (stopped 1 0 tag)
  undelivered : (v ≡ d → ⊥)
      → choose (faults_of f) (entered (cell_of tag v) arrival).parent.0 (cell_of tag v).current.0 order ≡ stays
      → Advances order f tag v arrival d (stopped 2 0 tag)
  forwarded : (v ≡ d → ⊥) → {port current : ℕ}
      → choose (faults_of f) (entered (cell_of tag v) arrival).parent.0 (cell_of tag v).current.0 order ≡ leaves port current
      → Advances order f tag v arrival d (moved order tag v (entered (cell_of tag v) arrival) (leaves port current))

pub advances : (order : List Cable) (f tag : List ℕ) (v arrival d : ℕ)
    → Advances order f tag v arrival d (advanced order f tag v arrival d)
unfolding advanced
advances order f tag v arrival d =
    let here : v ≡ d → Advances order f tag v arrival d (stopped 1 0 tag) = delivered in
    let away : (v ≡ d → ⊥) → Advances order f tag v arrival d (moved order tag v cell choice) = λ n. by_choice n choice refl in
    grind (arith, nat_tests)
  where
    cell : Cell
    cell = entered (cell_of tag v) arrival

    choice : Outcome
    choice = choose (faults_of f) cell.parent.0 cell.current.0 order

    by_choice : (v ≡ d → ⊥) → (o : Outcome) → choice ≡ o → Advances order f tag v arrival d (moved order tag v cell o)
    by_choice away (leaves port current) e = forwarded away e
    by_choice away stays e = undelivered away e

-- ---- a step

-- refused by the lists; refused by a check; or advanced after all checks
pub data Steps (s f tag : List ℕ) (v arrival d : ℕ) : Stepped → Type 0 where
  lists_refuse : {number : ℕ} → list_answer s f ≡ refused number → Steps s f tag v arrival d (stopped 3 number tag)
  check_refuses : {n cables number : ℕ} → list_answer s f ≡ accepted n cables
      → checks n (port_order (rows_of s) v) f tag v arrival d ≡ Refused number → Steps s f tag v arrival d (stopped 3 number tag)
  passes : {n cables : ℕ} → list_answer s f ≡ accepted n cables
      → checks n (port_order (rows_of s) v) f tag v arrival d ≡ Passed
      → Steps s f tag v arrival d (advanced (port_order (rows_of s) v) f tag v arrival d)

module _ (s f tag : List ℕ) (v arrival d : ℕ) where
  pub steps : Steps s f tag v arrival d (stepped s f tag v arrival d)
  unfolding stepped
  steps = by_answer (list_answer s f) refl
    where
      by_check : {n cables : ℕ} → list_answer s f ≡ accepted n cables → (check : Check)
          → checks n (port_order (rows_of s) v) f tag v arrival d ≡ check
          → Steps s f tag v arrival d (unless check tag (advanced (port_order (rows_of s) v) f tag v arrival d))
      by_check e Passed e' = passes e e'
      by_check e (Refused number) e' = check_refuses e e'

      by_answer : (answer : Answer) → list_answer s f ≡ answer → Steps s f tag v arrival d (stepped_on answer s f tag v arrival d)
      by_answer (refused number) e = lists_refuse e
      by_answer (accepted n cables) e = by_check e (checks n (port_order (rows_of s) v) f tag v arrival d) refl

  pub stepped_refused : {number : ℕ} → list_answer s f ≡ refused number → stepped s f tag v arrival d ≡ stopped 3 number tag
  unfolding stepped
  stepped_refused e = rw e

  pub stepped_accepted : {n cables : ℕ} → list_answer s f ≡ accepted n cables
      → stepped s f tag v arrival d
      ≡ unless (checks n (port_order (rows_of s) v) f tag v arrival d) tag (advanced (port_order (rows_of s) v) f tag v arrival d)
  unfolding stepped
  stepped_accepted e = rw e
