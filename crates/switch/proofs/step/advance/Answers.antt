-- Elsewhere than at the destination, what the parts promise is the step. `grind arith` alone, since with more laws it stops at a limit of
-- its own where a step is wrong, and does not find it wrong.
use Rattle.std.proofs.Common.{arith}
use Rattle.switch.specs.Step.{advanced}
use Rattle.switch.proofs.step.advance.Goals as goal

pub returns-in_default : goal.returns-in_default
unfolding advanced
returns-in_default c = grind arith

pub returns : goal.returns
unfolding advanced
returns c = grind arith
