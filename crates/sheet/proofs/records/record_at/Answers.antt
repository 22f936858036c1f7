-- By `grind arith` alone, which finds a wrong end wrong and does not give up on it.
use Rattle.std.proofs.Common.{arith}
use Rattle.sheet.specs.Records.{record_at}
use Rattle.sheet.proofs.records.record_at.Goals as goal

pub returns-else-body-bytes : goal.returns-else-body-bytes
unfolding record_at
returns-else-body-bytes c = grind arith
