-- The paper's number for each end, and the values that go with it.
use Rattle.std.specs.Prelude.{ℕ, ◌+◌, ◌*◌, Result, Ok, Err}
use Rattle.sheet.specs.Refusals.{refusal_number}
use Rattle.sheet.specs.declared.refusals.Refusal.{Refusal}
use Rattle.switch.specs.declared.step.Move.{Move}
use Rattle.switch.specs.declared.step.Move.TheVariants.{Leaves, Delivered, Nowhere}

-- the end (0 forwarded, 1 delivered, 2 none, 3 refused), the port by which the packet leaves, the refusal number
pub record Paper : Type 0 where
  pub end : ℕ
  pub port : ℕ
  pub number : ℕ

abbrev pub paper : ℕ → ℕ → ℕ → Paper
paper end port number = record { end = end; port = port; number = number }

-- of a step that has passed the checks
abbrev pub move_paper : Move → Paper
move_paper (Leaves p far) = paper 0 p.0 0
move_paper Delivered = paper 1 0 0
move_paper Nowhere = paper 2 0 0

abbrev pub paper_of : Result Move Refusal → Paper
paper_of (Ok move) = move_paper move
paper_of (Err refusal) = paper 3 0 (refusal_number refusal)

-- the answer as one number, for a host program in C
abbrev pub door_number : Paper → ℕ
door_number a = 4294967296 * a.end + a.port + a.number
