-- The line of the walk that `walk` tells of.
use Rattle.lines.proofs.Walked.{line_written}
use Rattle.lines.proofs.lines.write_line.Goals as goal

pub returns-clause-written : goal.returns-clause-written
returns-clause-written c = line_written c.walk-walked.result c.walk-walked.ensures.walks c.put_line.ensures.line c.put_line.ensures.size
