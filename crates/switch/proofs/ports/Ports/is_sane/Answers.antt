-- By `grind arith` alone, which finds a wrong test wrong and does not give up on it.
use Rattle.std.proofs.Common.{arith}
use Rattle.switch.proofs.ports.Ports.is_sane.Goals as goal

pub returns-then-is_cabled : goal.returns-then-is_cabled
returns-then-is_cabled c = grind arith
