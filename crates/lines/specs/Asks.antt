-- The asks: records of kind 4, read by the walker and the table of the sheet.
use Rattle.std.specs.Prelude.{ℕ, ◌+◌, List, get_or}
use Rattle.sheet.specs.Records.{record_at, ask}
use Rattle.sheet.specs.declared.numbers.Switch.{Switch}
use Rattle.sheet.specs.declared.records.Found.{Found}
use Rattle.sheet.specs.declared.records.Found.TheVariants.{Record, WrongKind, CutShort}
use Rattle.lines.specs.declared.asks.Ask.{Ask}
use Rattle.lines.specs.declared.asks.Ask.TheVariants.{Asked, Broken, Ended}

abbrev pub switch_at : List ℕ → ℕ → Switch
switch_at s at = record { 0 = get_or s at 0 }

-- what a record at a position asks: source, destination, and where the next ask begins
abbrev pub asked : List ℕ → ℕ → Found → Ask
asked s at (Record next) = Asked (switch_at s (at + 1)) (switch_at s (at + 2)) next
asked s at WrongKind = Broken
asked s at CutShort = Broken
asked s at Found.Ended = Ended

abbrev pub ask_at : List ℕ → ℕ → Ask
ask_at s at = asked s at (record_at ask s at)
