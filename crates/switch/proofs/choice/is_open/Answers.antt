-- By `grind arith` alone, which finds a wrong test wrong and does not give up on it.
use Rattle.std.proofs.Common.{arith}
use Rattle.switch.proofs.choice.is_open.Goals as goal

pub returns-then-eq : goal.returns-then-eq
returns-then-eq c = grind arith
