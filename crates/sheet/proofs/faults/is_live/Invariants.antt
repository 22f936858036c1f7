-- The faults that are left give the answer of all.
use Rattle.sheet.proofs.Faulting.{Asks}
use Rattle.sheet.proofs.faults.is_live.Given as goal

abbrev pub invariant-loop-at : goal.invariant-loop-at
invariant-loop-at l = Asks l.faults l.c l.at-iterator
