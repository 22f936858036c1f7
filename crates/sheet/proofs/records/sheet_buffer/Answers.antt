-- The array is as long as the table says. By `refl`, which shows two sizes that differ; a search gives up on them.
use Rattle.std.proofs.Common.{refl}
use Rattle.sheet.specs.Sizes.{longest, longest_sheet}
use Rattle.sheet.proofs.records.sheet_buffer.Goals as goal

pub returns : goal.returns
unfolding longest longest_sheet
returns c = refl
