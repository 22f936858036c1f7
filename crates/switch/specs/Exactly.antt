-- The refusals of a step, each given exactly when: the rows of the table in its own words, and the first of them that is broken.
use Rattle.std.specs.Prelude.{ℕ, ◌*◌, ◌<◌, ◌≡◌, List, [], ◌∷◌, ◌⊎◌, length, get_or}
use Rattle.sheet.specs.Lists.{◌∈◌}
use Rattle.sheet.specs.Cables.{Socket, socket_of}
use Rattle.sheet.specs.Sound.{Within, Seen, sockets}
use Rattle.sheet.specs.Exactly.{BothAccepted, EitherRefused}
use Rattle.sheet.specs.declared.cables.Cable.{Cable}
use Rattle.switch.specs.Cell.{cell_of}
use Rattle.switch.specs.declared.cell.Cell.{Cell}

abbrev pub Not : Type 0 → Type 0
Not P = P → ⊥

-- the fault list names either end
abbrev pub Dead : List Socket → Cable → Type 0
Dead faults c = (socket_of c.near ∈ faults) ⊎ (socket_of c.far ∈ faults)

-- a port of a switch that is not cabled
abbrev pub Uncabled : List Cable → ℕ → ℕ → Type 0
Uncabled rows v p = Not (record { switch = v; port = p } ∈ sockets rows)

module _ (rows : List Cable) (faults : List Socket) (v : ℕ) where
  -- a port of this switch whose cable is dead
  pub record DeadAt (p : ℕ) : Type 0 where
    pub cable : Cable
    pub seen : Seen rows v cable
    pub port : cable.near.port ≡ p
    pub dead : Dead faults cable

  abbrev pub Unusable : ℕ → Type 0
  Unusable p = Uncabled rows v p ⊎ DeadAt p

-- ---- the rows of the table

-- destination or present switch outside 1 to n
abbrev pub Breaks6 : ℕ → ℕ → ℕ → Type 0
Breaks6 n v d = Not (Within n v) ⊎ Not (Within n d)

-- tag shorter than 2n bytes
abbrev pub Breaks7 : ℕ → List ℕ → Type 0
Breaks7 n tag = length tag < 2 * n

-- arrival port is not 0 and is not a cabled port of this switch, or its cable is dead
abbrev pub Breaks8 : List Cable → List Socket → ℕ → ℕ → Type 0
Breaks8 rows faults v arrival = Not (arrival ≡ 0) × Unusable rows faults v arrival

-- any of the first 2n tag bytes not 0
pub record Marked (n : ℕ) (tag : List ℕ) : Type 0 where
  pub at : ℕ
  pub inside : at < 2 * n
  pub marked : Not (get_or tag at 0 ≡ 0)

-- arrival port 0, and any of the first 2n tag bytes not 0
abbrev pub Breaks9 : ℕ → List ℕ → ℕ → Type 0
Breaks9 n tag arrival = (arrival ≡ 0) × Marked n tag

-- this switch's current port is not 0 and either it is not cabled here, or the parent is not 0 and is uncabled here or dead
abbrev pub Breaks10 : List Cable → List Socket → ℕ → Cell → Type 0
Breaks10 rows faults v cell =
    Not (cell.current.0 ≡ 0)
    × (Uncabled rows v cell.current.0 ⊎ (Not (cell.parent.0 ≡ 0) × Unusable rows faults v cell.parent.0))

-- ---- the first that is broken

pub record Row : Type 1 where
  pub number : ℕ
  pub Breaks : Type 0

abbrev pub FirstBroken : List Row → ℕ → Type 0
FirstBroken [] number = ⊥
FirstBroken (row ∷ rows) number = (row.Breaks × (number ≡ row.number)) ⊎ (Not row.Breaks × FirstBroken rows number)

abbrev pub NoneBroken : List Row → Type 0
NoneBroken [] = Unit {0}
NoneBroken (row ∷ rows) = Not row.Breaks × NoneBroken rows

abbrev pub row : ℕ → Type 0 → Row
row number Breaks = record { number = number; Breaks = Breaks }

-- rows 6 to 10, for an accepted sheet of n switches with these cable rows, and these faults
abbrev pub table : ℕ → List Cable → List Socket → List ℕ → ℕ → ℕ → ℕ → List Row
table n rows faults tag v arrival d =
    row 6 (Breaks6 n v d)
    ∷ row 7 (Breaks7 n tag)
    ∷ row 8 (Breaks8 rows faults v arrival)
    ∷ row 9 (Breaks9 n tag arrival)
    ∷ row 10 (Breaks10 rows faults v (cell_of tag v))
    ∷ []

-- a step is refused: by the sheet or the fault list, or, where both are accepted, by the first row of the table that is broken
pub data StepRefused (s f tag : List ℕ) (v arrival d number : ℕ) : Type 0 where
  by_lists : EitherRefused s f number → StepRefused s f tag v arrival d number
  by_table : {n cables : ℕ} (lists : BothAccepted s f n cables)
      → FirstBroken (table n lists.sheet.rows lists.faults tag v arrival d) number
      → StepRefused s f tag v arrival d number
