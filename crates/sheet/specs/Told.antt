-- What the reading functions tell: where the next record begins, how many records a list has, or the first wrong one.
use Rattle.std.specs.Prelude.{ℕ, length, ◌-◌, List, Option, Some, None, Result, Ok, Err}
use Rattle.sheet.specs.Records.{Reading, right, wrong}
use Rattle.sheet.specs.declared.listing.Wrong.{Wrong}
use Rattle.sheet.specs.declared.records.Found.{Found}
use Rattle.sheet.specs.declared.records.Found.TheVariants.{Record, WrongKind, CutShort, Ended}
use Rattle.sheet.specs.declared.rules.Rule.{Rule}

-- at a record: where the next begins, or nothing at the end, or the rule that its form breaks
abbrev pub next_of : Rule → List ℕ → ℕ → Found → Result (Option ℕ) Wrong
next_of form s at (Record next) = Ok (Some next)
next_of form s at WrongKind = Err (record { rule = form; start = at; size = 1 })
next_of form s at CutShort = Err (record { rule = form; start = at; size = length s - at })
next_of form s at Ended = Ok None

-- how many records there are, all right, or the first wrong one
abbrev pub told_of : {A : Type 0} → Reading A → Result ℕ Wrong
told_of (right records) = Ok (length records)
told_of (wrong rule start size) = Err (record { rule = rule; start = start; size = size })

-- the reading that an answer comes to, where these records were read with it
abbrev pub reading_of : {A T : Type 0} → (T → List A) → Result T Wrong → Reading A
reading_of records (Ok read) = right (records read)
reading_of records (Err first) = wrong first.rule first.start first.size
