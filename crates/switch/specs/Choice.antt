-- The published choice of a port: the first live port after the current one in the port order, the parent excepted; otherwise the parent.
use Rattle.std.specs.Prelude.{ℕ, ◌+◌, ◌<◌, ◌≡◌, List, [], ◌∷◌, ◌++◌, ◌⊎◌, Bool, true, false, not, drop, eqb, Option, Some, None}
use Rattle.sheet.specs.Lists.{pick, both, All}
use Rattle.sheet.specs.Faults.{live}
use Rattle.sheet.specs.Cables.{Socket}
use Rattle.sheet.specs.Order.{position_of}
use Rattle.sheet.specs.declared.cables.Cable.{Cable}
use Rattle.switch.specs.declared.choice.Leave.{Leave}

-- the cables after the current port in the order; all of them where current is 0
abbrev pub after_current : ℕ → List Cable → List Cable
after_current current order = pick (eqb current 0) order (drop (position_of current order + 1) order)

-- a packet leaves by a port, with the switch's current port from then on; or it stays
pub data Outcome : Type 0 where
  leaves : (port current : ℕ) → Outcome
  stays : Outcome

-- what each case of the code's choice says
abbrev pub outcome_of : Option Leave → Outcome
outcome_of (Some leave) = leaves leave.port.0 leave.current.0
outcome_of None = stays

-- a current port that fits a byte
abbrev pub Storable : Option Leave → Type 0
Storable (Some leave) = leave.current.0 < 256
Storable None = Unit {0}

-- step 4: by the parent, and the current port stays; where the parent is 0, nowhere
abbrev pub by_parent : ℕ → ℕ → Outcome
by_parent parent current = pick (eqb parent 0) stays (leaves parent current)

-- step 3: the first that lives and is not the parent
unfoldable pub first_open : List Socket → ℕ → ℕ → List Cable → Outcome
first_open faults parent current [] = by_parent parent current
first_open faults parent current (c ∷ cables) =
    pick (both (live faults c) (not (eqb c.near.port parent))) (leaves c.near.port c.near.port)
    (first_open faults parent current cables)

unfoldable pub choose : List Socket → ℕ → ℕ → List Cable → Outcome
choose faults parent current order = first_open faults parent current (after_current current order)

-- ---- what the choice means, said of the port numbers alone

abbrev pub past : ℕ → List ℕ → List ℕ
past current [] = []
past current (p ∷ ports) = pick (eqb p current) ports (past current ports)

-- the ports after the current one; all of them where current is 0
abbrev pub after : ℕ → List ℕ → List ℕ
after current ports = pick (eqb current 0) ports (past current ports)

module _ (ports : List ℕ) (lives : ℕ → Bool) (parent current : ℕ) where
  -- a port that the choice passes over: dead, or the parent
  abbrev pub Shut : ℕ → Type 0
  Shut q = (lives q ≡ false) ⊎ (q ≡ parent)

  pub data Chosen : Outcome → Type 0 where
    onward : {p : ℕ} (passed rest : List ℕ) → after current ports ≡ passed ++ (p ∷ rest) → All Shut passed → lives p ≡ true
        → (p ≡ parent → ⊥)
        → Chosen (leaves p p)
    homeward : All Shut (after current ports) → (parent ≡ 0 → ⊥) → Chosen (leaves parent current)
    nowhere : All Shut (after current ports) → parent ≡ 0 → Chosen stays
