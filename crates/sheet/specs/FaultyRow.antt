-- The faulty row as it stands in the caller's bytes: a part of the sheet or of the fault list. With an empty sheet, or nothing wrong in
-- either, it is the empty part at the sheet's front.
use Rattle.std.specs.Prelude.{ℕ, ◌+◌, ◌*◌, ◌≡◌, List, take, drop, ltb}
use Rattle.std.specs.Borrow.{Bor}
use Rattle.sheet.specs.Lists.{pick}
use Rattle.sheet.specs.Records.{Reading, right, wrong}
use Rattle.sheet.specs.Cables.{Socket, sheet_reading}
use Rattle.sheet.specs.Faults.{fault_reading}
use Rattle.sheet.specs.declared.cables.Cable.{Cable}
use Rattle.sheet.specs.declared.check.Part.{Part}
use Rattle.sheet.specs.declared.check.Part.TheVariants.{OfSheet, OfFaults}

abbrev pub fault_part_of : Reading Socket → Part
fault_part_of (right faults) = OfSheet 0 0
fault_part_of (wrong rule start size) = OfFaults start size

abbrev pub faulty_part_of : List ℕ → Reading Cable → Part
faulty_part_of faults (right rows) = fault_part_of (fault_reading rows faults)
faulty_part_of faults (wrong rule start size) = OfSheet start size

unfoldable pub faulty_part : List ℕ → List ℕ → Part
faulty_part s faults = faulty_part_of faults (sheet_reading s)

-- this part of a lent slice and no other: its bytes, and where it begins
pub record PartOf (lent : Bor (List ℕ)) (start size : ℕ) (part : Bor (List ℕ)) : Type 0 where
  pub bytes : part.now ≡ take size (drop start lent.now)
  pub begins : part.ref_ptr ≡ (lent.ref_ptr.0, start + lent.ref_ptr.1)

abbrev pub IsPart : Bor (List ℕ) → Bor (List ℕ) → Part → Bor (List ℕ) → Type 0
IsPart sheet faults (OfSheet start size) part = PartOf sheet start size part
IsPart sheet faults (OfFaults start size) part = PartOf faults start size part

-- the part as one number, for a host program in C: 4294967296 where it is of the fault list, 65536 times its start, and its length; both
-- are below 65536 whatever the bytes, as the first wrong record stands among the first 513
abbrev pub packed : ℕ → ℕ → ℕ → ℕ
packed list start size =
    pick (ltb start 65536) (pick (ltb size 65536) (4294967296 * list + 65536 * start + size) 18446744073709551615) 18446744073709551615

abbrev pub part_number : Part → ℕ
part_number (OfSheet start size) = packed 0 start size
part_number (OfFaults start size) = packed 1 start size
