-- After i turns the first i bytes of the text are added.
use Rattle.std.proofs.Common.{◌≡◌, take}
use Rattle.lines.specs.Text.{added}
use Rattle.lines.proofs.text.Line.put_text.Given as goal

abbrev pub invariant-loop-byte : goal.invariant-loop-byte
invariant-loop-byte l = l.self ≡ added l.initial.self (take l.byte-index l.text)
