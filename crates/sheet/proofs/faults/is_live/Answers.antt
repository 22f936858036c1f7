-- The walk begins with all faults before it.
use Rattle.sheet.proofs.Faulting.{asks_all}
use Rattle.sheet.proofs.faults.is_live.Goals as goal

pub loop-at-init : goal.loop-at-init
loop-at-init c = asks_all c.new-at-items.ensures c.into_iter-at-iterator.ensures.into_iter_gives
