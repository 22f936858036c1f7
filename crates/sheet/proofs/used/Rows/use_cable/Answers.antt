-- By `grind` alone, which finds a missing mark wrong and does not give up on it.
use Rattle.std.proofs.Common.{arith}
use Rattle.sheet.proofs.Marking.{cabled_snoc}
use Rattle.sheet.proofs.used.Rows.use_cable.Goals as goal

pub invariant_of-self : goal.invariant_of-self
invariant_of-self c = grind (arith, cabled_snoc)
