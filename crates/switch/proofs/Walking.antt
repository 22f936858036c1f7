-- The choice as a walk over the places of a port order: a cable that is not open leaves the choice to the cables after it, an open one
-- decides, and past the last the parent does.
use Prim.Native.Nat.{ℕ, ◌+◌, ◌*◌, ◌/◌, ◌≤◌, ◌<◌}
use mathlib.Core.Path.{◌≡◌, ap, sym, ◌∙◌}
use mathlib.Core.List.{List, [], ◌∷◌}
use mathlib.Core.Bool.{Bool, true, false, not}
use native.Mathlib.Omega.{arith}
use native.Mathlib.Numerals.{add-one}
use lib.ListN.{length, drop, drop_of_length-le}
use lib.Seq.{drop-cons}
use lib.Dec.{leb, eqb}
use Rattle.std.specs.Prelude.{Option, Some, None}
use Rattle.std.proofs.lemmas.Bool.Decides.{nat_tests}
use Rattle.sheet.specs.Lists.{both}
use Rattle.sheet.specs.Cables.{Socket}
use Rattle.sheet.specs.Faults.{live}
use Rattle.sheet.specs.Order.{position_of, cable_of, no_cable}
use Rattle.sheet.specs.declared.cables.Cable.{Cable}
use Rattle.switch.specs.Choice.{leaves, outcome_of, Storable, by_parent, first_open}
use Rattle.switch.specs.declared.choice.Leave.{Leave}

-- a position is no further than the end
pub position_within : (p : ℕ) (order : List Cable) → position_of p order ≤ length order
unfolding position_of
position_within p [] = omega arith
position_within p (c ∷ order) = grind (arith, position_within p order)

abbrev pub is_open : List Socket → ℕ → Cable → Bool
is_open faults parent c = both (live faults c) (not (eqb c.near.port parent))

-- the parent is not open
pub parent_shut : (faults : List Socket) (parent : ℕ) (c : Cable) → c.near.port ≡ parent → false ≡ is_open faults parent c
parent_shut faults parent c same = grind (arith, nat_tests)

-- and any other port is, if its cable lives
pub other_open : (faults : List Socket) (parent : ℕ) (c : Cable) {lives : Bool} → (c.near.port ≡ parent → ⊥) → lives ≡ live faults c
    → lives ≡ is_open faults parent c
other_open faults parent c other e = grind (arith, nat_tests)

-- the choice from one position is the choice from another
pub record From (order : List Cable) (faults : List Socket) (parent current from i : ℕ) : Type 0 where
  pub same : first_open faults parent current (drop from order) ≡ first_open faults parent current (drop i order)

module _ {order : List Cable} {faults : List Socket} {parent current from i : ℕ} (walked : From order faults parent current from i) where
  ahead : {c : Cable} → i < length order → c ≡ cable_of i order → drop i order ≡ c ∷ drop (i + 1) order
  ahead more read = drop-cons order i no_cable more ∙ sym (λ k. read k ∷ drop (add-one i k) order)

  pub open_next : {c : Cable} → i < length order → c ≡ cable_of i order → is_open faults parent c ≡ false
      → From order faults parent current from (i + 1)
  unfolding first_open
  open_next more read shut = record { same = walked.same ∙ ap (first_open faults parent current) (ahead more read) ∙ rw shut }

  pub open_found : {c : Cable} → i < length order → c ≡ cable_of i order → is_open faults parent c ≡ true
      → leaves c.near.port c.near.port ≡ first_open faults parent current (drop from order)
  unfolding first_open
  open_found more read free = sym (walked.same ∙ ap (first_open faults parent current) (ahead more read) ∙ rw free)

  pub open_none : length order ≤ i → by_parent parent current ≡ first_open faults parent current (drop from order)
  unfolding first_open
  open_none over = sym (walked.same ∙ ap (first_open faults parent current) (drop_of_length-le order {i = i} over))

-- the laws by which the check finds alone what a cable does to the choice
pub ruleset open_cables = (open_next, open_found, open_none)

-- what by-parent answers can be stored where the current port can
pub by_parent_storable : (choice : Option Leave) (parent current : ℕ) → outcome_of choice ≡ by_parent parent current → current < 256
    → Storable choice
by_parent_storable None parent current e small = tt
by_parent_storable (Some leave) parent current e small = grind arith

-- the halved length decides rule 7 as the doubled number of switches does
pub halved : (n size : ℕ) → leb n (size / 2) ≡ leb (2 * n) size
halved n size = grind (arith, nat_tests)
