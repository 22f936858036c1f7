-- The faulty part lies in the bytes that it is a part of: the first wrong record does, and so does the empty part at the front.
use Prim.Native.Nat.{ℕ, ◌+◌, ◌≤◌}
use mathlib.Core.Path.{◌≡◌, refl}
use mathlib.Core.List.{List}
use native.Mathlib.Omega.{arith}
use lib.ListN.{length}
use Rattle.sheet.specs.Records.{Reading, right, wrong}
use Rattle.sheet.specs.Cables.{Socket, sheet_reading}
use Rattle.sheet.specs.Faults.{fault_reading}
use Rattle.sheet.specs.FaultyRow.{faulty_part, faulty_part_of, fault_part_of}
use Rattle.sheet.specs.declared.cables.Cable.{Cable}
use Rattle.sheet.specs.declared.check.Part.{Part}
use Rattle.sheet.specs.declared.check.Part.TheVariants.{OfSheet, OfFaults}
use Rattle.sheet.proofs.Sheet.{sheet_inside}
use Rattle.sheet.proofs.FaultList.{faults_inside}

abbrev Inside : List ℕ → List ℕ → Part → Type 0
Inside s f (OfSheet start size) = start + size ≤ length s
Inside s f (OfFaults start size) = start + size ≤ length f

module _ (s f : List ℕ) where
  in_faults : (rows : List Cable) (reading : Reading Socket) → fault_reading rows f ≡ reading → Inside s f (fault_part_of reading)
  in_faults rows (right faults) e = omega arith
  in_faults rows (wrong rule start size) e = faults_inside rows f e

  in_sheet : (reading : Reading Cable) → sheet_reading s ≡ reading → Inside s f (faulty_part_of f reading)
  in_sheet (right rows) e = in_faults rows (fault_reading rows f) refl
  in_sheet (wrong rule start size) e = sheet_inside s e

  part_inside : {part : Part} → part ≡ faulty_part s f → Inside s f part
  unfolding faulty_part
  part_inside e = rw e (in_sheet (sheet_reading s) refl)

  pub inside_sheet : {start size : ℕ} → OfSheet start size ≡ faulty_part s f → start + size ≤ length s
  inside_sheet e = part_inside e

  pub inside_faults : {start size : ℕ} → OfFaults start size ≡ faulty_part s f → start + size ≤ length f
  inside_faults e = part_inside e
