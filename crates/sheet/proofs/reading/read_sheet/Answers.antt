-- By `grind arith` alone, which finds a wrong size or number wrong and does not give up on it.
use Rattle.std.proofs.Common.{arith}
use Rattle.sheet.specs.Cables.{sheet_reading}
use Rattle.sheet.proofs.reading.read_sheet.Goals as goal

pub returns-then-not-is_within-clause-told : goal.returns-then-not-is_within-clause-told
unfolding sheet_reading
returns-then-not-is_within-clause-told c = grind arith

pub invariant_of-rows : goal.invariant_of-rows
invariant_of-rows c = grind arith
