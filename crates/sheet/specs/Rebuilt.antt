-- Another order of the rows, each with its ends either way round.
use Rattle.std.specs.Prelude.{◌≡◌, List, [], ◌∷◌, ◌++◌, ◌⊎◌, ℕ}
use Rattle.sheet.specs.Cables.{turned}
use Rattle.sheet.specs.declared.cables.End.{End}
use Rattle.sheet.specs.declared.cables.Cable.{Cable}

pub data Rebuilt : List Cable → List Cable → Type 0 where
  none : Rebuilt [] []
  row : {c d : Cable} {rows rows' : List Cable} → (d ≡ c) ⊎ (d ≡ turned c) → Rebuilt rows rows' → Rebuilt (c ∷ rows) (d ∷ rows')
  swapped : {c d : Cable} {rows : List Cable} → Rebuilt (c ∷ d ∷ rows) (d ∷ c ∷ rows)
  twice : {rows rows' rows'' : List Cable} → Rebuilt rows rows' → Rebuilt rows' rows'' → Rebuilt rows rows''

-- a cable row as the bench writes it, and a sheet
abbrev pub end_bytes : End → List ℕ
end_bytes e = e.switch ∷ e.port ∷ e.preference ∷ []

abbrev pub row_bytes : Cable → List ℕ
row_bytes c = 2 ∷ end_bytes c.near ++ end_bytes c.far

abbrev pub rows_bytes : List Cable → List ℕ
rows_bytes [] = []
rows_bytes (c ∷ rows) = row_bytes c ++ rows_bytes rows

abbrev pub sheet_bytes : ℕ → List Cable → List ℕ
sheet_bytes n rows = 1 ∷ n ∷ rows_bytes rows
