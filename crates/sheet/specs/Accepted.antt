-- The sheets that the bench accepts: the bytes that a number of switches and sound rows are written as.
use Rattle.std.specs.Prelude.{ℕ, ◌≤◌, ◌≡◌, List, length}
use Rattle.sheet.specs.Lists.{◌∈◌}
use Rattle.sheet.specs.Cables.{socket_of, switches_of}
use Rattle.sheet.specs.Sound.{Within, RowInRange, Sound, sockets}
use Rattle.sheet.specs.Rebuilt.{sheet_bytes}
use Rattle.sheet.specs.declared.cables.Cable.{Cable}

-- the rules on switches and ports, of a row after others
pub record RowObeys (n : ℕ) (before : List Cable) (c : Cable) : Type 0 where
  pub range : RowInRange n c
  pub near_free : socket_of c.near ∈ sockets before → ⊥
  pub far_free : socket_of c.far ∈ sockets before → ⊥

pub record AcceptedSheet (s : List ℕ) (rows : List Cable) : Type 0 where
  pub bytes : s ≡ sheet_bytes (switches_of s) rows
  pub count : Within 64 (switches_of s)
  pub few : length rows ≤ 512
  pub sound : Sound (switches_of s) rows

-- accepted, with n switches and so many cables
pub record AcceptedWith (s : List ℕ) (n cables : ℕ) : Type 0 where
  pub rows : List Cable
  pub sheet : AcceptedSheet s rows
  pub switches : n ≡ switches_of s
  pub counted : cables ≡ length rows
