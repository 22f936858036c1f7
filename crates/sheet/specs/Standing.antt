-- What may stand at a position of the bytes, said by the table of kinds and not by the order of the walker's tests.
use Rattle.std.specs.Prelude.{ℕ, ◌+◌, ◌≤◌, ◌<◌, ◌≡◌, List, length, get_or}
use Rattle.sheet.specs.Records.{form_of}
use Rattle.sheet.specs.declared.records.Place.{Place}
use Rattle.sheet.specs.declared.records.Form.{Form}

-- the form of the record that begins at a position, by its kind byte
abbrev pub form_at : List ℕ → ℕ → Form
form_at s at = form_of (get_or s at 0)

-- a whole record of this place; the next begins at `next`
pub record Whole (place : Place) (s : List ℕ) (at next : ℕ) : Type 0 where
  pub inside : at < length s
  pub stands : (form_at s at).place.0 ≡ place.0
  pub next_is : next ≡ at + 1 + (form_at s at).body
  pub fits : next ≤ length s

-- a record whose kind does not stand here
pub record OtherKind (place : Place) (s : List ℕ) (at : ℕ) : Type 0 where
  pub inside : at < length s
  pub stands_not : (form_at s at).place.0 ≡ place.0 → ⊥

-- a record of this place that the bytes cut short
pub record Cut (place : Place) (s : List ℕ) (at : ℕ) : Type 0 where
  pub inside : at < length s
  pub stands : (form_at s at).place.0 ≡ place.0
  pub short : length s < at + 1 + (form_at s at).body
