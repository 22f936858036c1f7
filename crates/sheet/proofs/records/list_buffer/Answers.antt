-- The array is as long as the table says. By `refl`, which shows two sizes that differ; a search gives up on them.
use Rattle.std.proofs.Common.{refl}
use Rattle.sheet.specs.Sizes.{longest, longest_list}
use Rattle.sheet.proofs.records.list_buffer.Goals as goal

pub returns : goal.returns
unfolding longest longest_list
returns c = refl
