-- The cabling's questions, asked of a sheet's bytes, and what it means that two sheets answer them alike.
use Rattle.std.specs.Prelude.{ℕ, ◌≡◌, List, Bool}
use Rattle.sheet.specs.Cables.{Socket, socket_of, rows_of}
use Rattle.sheet.specs.Order.{port_order, position_of, cable_of, is_cabled, is_live}
use Rattle.sheet.specs.Refusals.{sheet_answer, list_answer}
use Rattle.sheet.specs.declared.cables.Cable.{Cable}

abbrev pub order_at : List ℕ → ℕ → List Cable
order_at s v = port_order (rows_of s) v

abbrev pub position_at : List ℕ → ℕ → ℕ → ℕ
position_at s v p = position_of p (order_at s v)

abbrev pub cabled_at : List ℕ → ℕ → ℕ → Bool
cabled_at s v p = is_cabled p (order_at s v)

abbrev pub far_at : List ℕ → ℕ → ℕ → Socket
far_at s v p = socket_of (cable_of (position_at s v p) (order_at s v)).far

abbrev pub live_at : List ℕ → List ℕ → ℕ → ℕ → Bool
live_at s faults v p = is_live faults p (order_at s v)

-- the same answer to the check of the sheet and of every fault list, and to every question
pub record SameCabling (s s' : List ℕ) : Type 0 where
  pub answer : sheet_answer s ≡ sheet_answer s'
  pub answers : (faults : List ℕ) → list_answer s faults ≡ list_answer s' faults
  pub order : (v : ℕ) → order_at s v ≡ order_at s' v
  pub position : (v p : ℕ) → position_at s v p ≡ position_at s' v p
  pub cabled : (v p : ℕ) → cabled_at s v p ≡ cabled_at s' v p
  pub far : (v p : ℕ) → far_at s v p ≡ far_at s' v p
  pub live : (faults : List ℕ) (v p : ℕ) → live_at s faults v p ≡ live_at s' faults v p
