-- When a walk is refused: by the first row of the table that is broken, of rows 1 to 7.
use Rattle.std.specs.Prelude.{ℕ, ◌*◌, ◌<◌, List, ◌⊎◌, length}
use Rattle.sheet.specs.Sound.{Within}
use Rattle.sheet.specs.Exactly.{BothAccepted, EitherRefused}

pub data WalkRefused (s faults tag trace : List ℕ) (source destination : ℕ) : ℕ → Type 0 where
  -- 1 to 5: the sheet, then the fault list
  by_lists : {number : ℕ} → EitherRefused s faults number → WalkRefused s faults tag trace source destination number
  -- source or destination outside 1 to n
  off_sheet : {n cables : ℕ} → BothAccepted s faults n cables → (Within n source × Within n destination → ⊥)
      → WalkRefused s faults tag trace source destination 6
  -- tag shorter than 2n bytes, or trace shorter than 4 bytes for each cable of the sheet
  no_room : {n cables : ℕ} → BothAccepted s faults n cables → Within n source × Within n destination
      → (length tag < 2 * n) ⊎ (length trace < 4 * cables) → WalkRefused s faults tag trace source destination 7
