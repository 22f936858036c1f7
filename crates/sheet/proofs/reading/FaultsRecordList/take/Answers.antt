-- By `grind arith` alone, which finds a wrong port wrong and does not give up on it.
use Rattle.std.proofs.Common.{arith}
use Rattle.sheet.specs.Faults.{fault_rule}
use Rattle.sheet.proofs.reading.FaultsRecordList.take.Goals as goal

pub returns-then-not-is_used-clause-judged : goal.returns-then-not-is_used-clause-judged
unfolding fault_rule
returns-then-not-is_used-clause-judged c = grind arith
