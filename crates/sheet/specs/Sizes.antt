-- The sizes that the table of kinds gives: the longest record of a place, the longest sheet, the longest fault list.
use Rattle.std.specs.Prelude.{ℕ, ◌+◌, ◌*◌, List, [], ◌∷◌, leb, eqb}
use Rattle.sheet.specs.Lists.{pick}
use Rattle.sheet.specs.Records.{forms, front, row, fault}
use Rattle.sheet.specs.declared.records.Place.{Place}
use Rattle.sheet.specs.declared.records.Form.{Form}

abbrev pub larger : ℕ → ℕ → ℕ
larger a b = pick (leb a b) b a

-- a record's kind byte and its body, where it may stand at this place
abbrev pub size_at : Place → Form → ℕ
size_at place f = pick (eqb f.place.0 place.0) (1 + f.body) 0

abbrev pub longest_of : List Form → Place → ℕ
longest_of [] place = 0
longest_of (f ∷ fs) place = larger (size_at place f) (longest_of fs place)

-- the longest record that may stand at a place
unfoldable pub longest : Place → ℕ
longest place = longest_of forms place

-- one record at the front, then at most 512 rows
unfoldable pub longest_sheet : ℕ
longest_sheet = longest front + longest row * 512

-- at most 512 faults
unfoldable pub longest_list : ℕ
longest_list = longest fault * 512
