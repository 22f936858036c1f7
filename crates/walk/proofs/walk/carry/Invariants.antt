-- The loop keeps the packet of the definition (Carrying.antt). Each hop comes nearer to twice the sheet's cables, which no walk passes.
use Rattle.std.proofs.Common.{◌-◌, ◌*◌, length}
use Rattle.sheet.specs.Cables.{rows_of}
use Rattle.walk.proofs.Carrying.{Turn}
use Rattle.walk.proofs.walk.carry.Given as goal

abbrev pub invariant-loop-port : goal.invariant-loop-port
invariant-loop-port l =
    Turn l.lists.sheet.now l.lists.faults.now l.initial.tag l.initial.trace l.initial.at.0 l.destination.0
    l.tag l.trace l.at.0 l.arrival.0 l.hops

abbrev pub decreases-loop-port : goal.decreases-loop-port
decreases-loop-port l = 2 * length (rows_of l.lists.sheet.now) - l.hops
