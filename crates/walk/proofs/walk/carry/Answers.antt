-- Each turn carries the packet on, and any other step ends the walk. What a hop needs the check finds in the invariant.
use Rattle.std.proofs.Common.{refl, arith}
use Rattle.walk.proofs.Carrying.{carrying_starts, walk_ends, carrying_on, turn}
use Rattle.walk.proofs.walk.carry.Goals as goal

pub loop-port-init : goal.loop-port-init
loop-port-init c = turn (carrying_starts c.requires.premises c.requires.tag_value)

pub returns-in-Delivered : goal.returns-in-Delivered
returns-in-Delivered c = walk_ends c.loop-port.invariant.carrying c.in-Delivered.ensures (omega arith) c.ended.result c.ended.ensures

pub returns-in-Nowhere : goal.returns-in-Nowhere
returns-in-Nowhere c =
    walk_ends c.loop-port.invariant.carrying c.in-Nowhere.ensures (omega arith) c.ended-in-Nowhere.result c.ended-in-Nowhere.ensures

pub loop-port-preserved : goal.loop-port-preserved
loop-port-preserved c = turn (carrying_on c.loop-port.invariant.carrying c.in-Leaves.ensures refl)
