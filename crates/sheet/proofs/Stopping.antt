-- A match that finds no whole record: what it is left with are the answers at which a walk stops.
use Rattle.std.proofs.Common.{ℕ, ◌≡◌, refl}
use Rattle.sheet.specs.declared.records.Found.{Found}
use Rattle.sheet.specs.declared.records.Found.TheVariants.{Record, WrongKind, CutShort, Ended}
use Rattle.sheet.proofs.Scan.{Stops}

pub stopped : (found : Found) → ((next : ℕ) → found ≡ Record next → ⊥) → Stops found
stopped (Record next) other = absurd (other next refl)
stopped WrongKind other = tt
stopped CutShort other = tt
stopped Ended other = tt
