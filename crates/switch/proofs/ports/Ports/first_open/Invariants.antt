-- Every cable passed is dead or the parent, so the choice is that of the cables ahead.
use Rattle.sheet.specs.Faults.{faults_of}
use Rattle.switch.proofs.Walking.{From}
use Rattle.switch.proofs.ports.Ports.first_open.Given as goal

abbrev pub invariant-loop-i : goal.invariant-loop-i
invariant-loop-i l = From l.self.order (faults_of l.self.faults.now) l.cell.parent.0 l.cell.current.0 l.initial.i l.i
