-- The refusal numbers of sheet and fault list, and the paper's values for each answer.
use Rattle.std.specs.Prelude.{ℕ, List, length, Result, Ok, Err}
use Rattle.sheet.specs.Records.{Reading, right, wrong}
use Rattle.sheet.specs.Cables.{Socket, sheet_reading, switches_of}
use Rattle.sheet.specs.Faults.{fault_reading}
use Rattle.sheet.specs.declared.cables.Cable.{Cable}
use Rattle.sheet.specs.declared.rules.Rule.{Rule}
use Rattle.sheet.specs.declared.rules.Rule.TheVariants.{SheetForm, SwitchCount, SwitchRange, PortRange, SameSwitch, PortUsed}
use Rattle.sheet.specs.declared.rules.Rule.TheVariants.{FaultForm, FaultUncabled}
use Rattle.sheet.specs.declared.refusals.Refusal.{Refusal}
use Rattle.sheet.specs.declared.refusals.Refusal.TheVariants.{CableRow, OffSheet, NoRoom, ArrivalPort, MarkedTag, CellPorts}
use Rattle.sheet.specs.declared.check.Accepted.{Accepted}

-- the number of each refusal of the table
abbrev pub refusal_number : Refusal → ℕ
refusal_number Refusal.SheetForm = 1
refusal_number Refusal.SwitchCount = 2
refusal_number CableRow = 3
refusal_number Refusal.FaultForm = 4
refusal_number Refusal.FaultUncabled = 5
refusal_number OffSheet = 6
refusal_number NoRoom = 7
refusal_number ArrivalPort = 8
refusal_number MarkedTag = 9
refusal_number CellPorts = 10

-- the refusal of a record that breaks a rule, and its number
abbrev pub refusal_of : Rule → Refusal
refusal_of SheetForm = Refusal.SheetForm
refusal_of SwitchCount = Refusal.SwitchCount
refusal_of SwitchRange = CableRow
refusal_of PortRange = CableRow
refusal_of SameSwitch = CableRow
refusal_of PortUsed = CableRow
refusal_of FaultForm = Refusal.FaultForm
refusal_of FaultUncabled = Refusal.FaultUncabled

abbrev pub number_of : Rule → ℕ
number_of rule = refusal_number (refusal_of rule)

-- an accepted sheet has n switches and so many cables; a refused one its number
pub data Answer : Type 0 where
  accepted : (n cables : ℕ) → Answer
  refused : (number : ℕ) → Answer

-- what each case of the code's answer says
abbrev pub answer_of : Result Accepted Refusal → Answer
answer_of (Ok lists) = accepted lists.switches lists.cables
answer_of (Err refusal) = refused (refusal_number refusal)

abbrev pub sheet_answer_of : ℕ → Reading Cable → Answer
sheet_answer_of n (right rows) = accepted n (length rows)
sheet_answer_of n (wrong rule start size) = refused (number_of rule)

abbrev pub fault_answer_of : Answer → Reading Socket → Answer
fault_answer_of sheet (right faults) = sheet
fault_answer_of sheet (wrong rule start size) = refused (number_of rule)

-- the sheet, then the fault list
abbrev pub list_answer_of : ℕ → List ℕ → Reading Cable → Answer
list_answer_of n faults (right rows) = fault_answer_of (accepted n (length rows)) (fault_reading rows faults)
list_answer_of n faults (wrong rule start size) = refused (number_of rule)

unfoldable pub sheet_answer : List ℕ → Answer
sheet_answer s = sheet_answer_of (switches_of s) (sheet_reading s)

unfoldable pub list_answer : List ℕ → List ℕ → Answer
list_answer s faults = list_answer_of (switches_of s) faults (sheet_reading s)
