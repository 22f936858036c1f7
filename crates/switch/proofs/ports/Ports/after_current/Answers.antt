-- By `grind arith` alone, which finds a wrong position wrong and does not give up on it.
use Rattle.std.proofs.Common.{arith}
use Rattle.switch.proofs.ports.Ports.after_current.Goals as goal

pub returns : goal.returns
returns c = grind arith
