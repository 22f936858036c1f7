-- The tag: 2 bytes for each switch, switch 1 first, parent port and then current port. 0 is no port.
use Rattle.std.specs.Prelude.{ℕ, ◌+◌, ◌-◌, ◌*◌, ◌≤◌, ◌<◌, List, length, get_or, set, eqb}
use Rattle.sheet.specs.Lists.{pick}
use Rattle.switch.specs.declared.cell.Cell.{Cell}

abbrev pub cell_of : List ℕ → ℕ → Cell
cell_of tag v = record { parent = record { 0 = get_or tag (2 * (v - 1)) 0 }; current = record { 0 = get_or tag (2 * (v - 1) + 1) 0 } }

abbrev pub with_cell : List ℕ → ℕ → Cell → List ℕ
with_cell tag v cell = set (set tag (2 * (v - 1)) cell.parent.0) (2 * (v - 1) + 1) cell.current.0

-- a switch whose two bytes are inside the tag
pub record CellInside (tag : List ℕ) (v : ℕ) : Type 0 where
  pub low : 1 ≤ v
  pub inside : 2 * v ≤ length tag

-- both ports fit a byte
pub record CellFits (cell : Cell) : Type 0 where
  pub parent : cell.parent.0 < 256
  pub current : cell.current.0 < 256

-- step 2: where current is 0, the parent becomes the arrival port
abbrev pub entered : Cell → ℕ → Cell
entered cell arrival =
    record {
      parent = record { 0 = pick (eqb cell.current.0 0) arrival cell.parent.0 };
      current = cell.current;
    }

-- the cell with another current port
abbrev pub left_by : Cell → ℕ → Cell
left_by cell port = record { parent = cell.parent; current = record { 0 = port } }
