-- The fault list: 0 to 512 records of kind 3, each naming a cabled port of the sheet.
use Rattle.std.specs.Prelude.{ℕ, ◌+◌, List, [], Bool, not, get_or, Result, Ok, Err}
use Rattle.sheet.specs.Lists.{pick, any}
use Rattle.sheet.specs.Records.{Reading, scan, wholes, fault}
use Rattle.sheet.specs.Cables.{Socket, carries, cabled}
use Rattle.sheet.specs.declared.cables.Cable.{Cable}
use Rattle.sheet.specs.declared.rules.Rule.TheVariants.{FaultForm, FaultUncabled}
use Rattle.sheet.specs.declared.rules.Rule.{Rule}

-- switch and port of either end
abbrev pub fault_at : List ℕ → ℕ → Socket
fault_at s at = record { switch = get_or s (at + 1) 0; port = get_or s (at + 2) 0 }

-- a fault is right where it names a cabled port of the sheet's rows
unfoldable pub fault_rule : List Cable → List Socket → Socket → Result (Unit {0}) Rule
fault_rule rows before f = pick (cabled rows f.switch f.port) (Ok tt) (Err FaultUncabled)

unfoldable pub fault_reading : List Cable → List ℕ → Reading Socket
fault_reading rows s = scan fault FaultForm fault_at (fault_rule rows) 512 s 0 []

-- the faults of any bytes, as far as they are whole
unfoldable pub faults_of : List ℕ → List Socket
faults_of s = wholes fault fault_at 512 s 0

-- a cable is live if the list names neither end
unfoldable pub live : List Socket → Cable → Bool
live faults c = not (any (λ f. carries f.switch f.port c) faults)
