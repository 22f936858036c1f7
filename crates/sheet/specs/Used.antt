-- The working table of used ports: a number for each switch, in which bit p stands for port p.
use Rattle.std.specs.Prelude.{ℕ, ◌-◌, ◌/◌, ◌%◌, ◌^◌, ◌≡◌, List, Bool, length, get_or, eqb}
use Rattle.sheet.specs.Lists.{both}
use Rattle.sheet.specs.Records.{row, wholes}
use Rattle.sheet.specs.Cables.{within, cabled, cable_at}
use Rattle.sheet.specs.declared.cables.Cable.{Cable}

abbrev pub bit : ℕ → ℕ → Bool
bit p word = eqb (word / 2 ^ p % 2) 1

unfoldable pub marked : List ℕ → ℕ → ℕ → Bool
marked table v p = both (both (within 64 v) (within 48 p)) (bit p (get_or table (v - 1) 0))

-- a number for each of the 64 switches, which mark just the ports that these rows use
pub record Marks (table : List ℕ) (rows : List Cable) : Type 0 where
  pub size : length table ≡ 64
  pub ports : (v p : ℕ) → marked table v p ≡ cabled rows v p

-- the first rows of a sheet, as far as they are whole; they begin at its third byte
abbrev pub first_rows : List ℕ → ℕ → List Cable
first_rows s count = wholes row cable_at count s 2
