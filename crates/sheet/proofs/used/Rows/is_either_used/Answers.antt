-- By `grind arith` alone, which finds an end that is not asked and does not give up on it.
use Rattle.std.proofs.Common.{arith}
use Rattle.sheet.proofs.used.Rows.is_either_used.Goals as goal

pub returns-else-is_end_used : goal.returns-else-is_end_used
returns-else-is_end_used c = grind arith
