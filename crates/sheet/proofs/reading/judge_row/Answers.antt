-- By `grind arith` alone, which finds a wrong range wrong and does not give up on it.
use Rattle.std.proofs.Common.{arith}
use Rattle.sheet.specs.Cables.{row_rule}
use Rattle.sheet.proofs.reading.judge_row.Goals as goal

pub returns-then-c : goal.returns-then-c
unfolding row_rule
returns-then-c c = grind arith
