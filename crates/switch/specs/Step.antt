-- One step: the checks, then the published choice.
use Rattle.std.specs.Prelude.{ℕ, ◌<◌, List, eqb, Result, Ok, Err}
use Rattle.sheet.specs.Lists.{pick}
use Rattle.sheet.specs.Cables.{Socket, socket_of, rows_of}
use Rattle.sheet.specs.Faults.{faults_of}
use Rattle.sheet.specs.Order.{port_order, position_of, cable_of}
use Rattle.sheet.specs.Refusals.{Answer, accepted, refused, list_answer}
use Rattle.sheet.specs.declared.cables.Cable.{Cable}
use Rattle.switch.specs.Choice.{Outcome, leaves, stays, choose}
use Rattle.switch.specs.Cell.{CellInside, cell_of, with_cell, entered, left_by}
use Rattle.switch.specs.Answers.{Paper, paper, paper_of, move_paper}
use Rattle.switch.specs.Checks.{Check, Passed, Refused, checks}
use Rattle.sheet.specs.declared.order.FarEnd.{FarEnd}
use Rattle.sheet.specs.declared.refusals.Refusal.{Refusal}
use Rattle.switch.specs.declared.cell.Cell.{Cell}
use Rattle.switch.specs.declared.step.Move.{Move}
use Rattle.switch.specs.declared.step.Move.TheVariants.{Leaves, Delivered, Nowhere}

-- what a step comes to: the paper's values, the far end of the cable that the packet leaves by, and the tag afterwards
pub record Stepped : Type 0 where
  pub paper : Paper
  pub far : Socket
  pub tag : List ℕ

abbrev pub nowhere : Socket
nowhere = record { switch = 0; port = 0 }

-- the packet goes nowhere, and the tag is as it came
abbrev pub stopped : ℕ → ℕ → List ℕ → Stepped
stopped end number tag = record { paper = paper end 0 number; far = nowhere; tag = tag }

-- the far end of the cable at a port of the order
abbrev pub far_of : List Cable → ℕ → Socket
far_of order p = socket_of (cable_of (position_of p order) order).far

abbrev pub moved : List Cable → List ℕ → ℕ → Cell → Outcome → Stepped
moved order tag v cell (leaves port current) =
    record { paper = paper 0 port 0; far = far_of order port; tag = with_cell tag v (left_by cell current) }
moved order tag v cell stays = stopped 2 0 tag

-- a far end in the code
abbrev pub away_of : FarEnd → Socket
away_of e = record { switch = e.switch.0; port = e.port.0 }

abbrev pub move_far : Move → Socket
move_far (Leaves p far) = away_of far
move_far Delivered = nowhere
move_far Nowhere = nowhere

abbrev pub answer_far : Result Move Refusal → Socket
answer_far (Ok move) = move_far move
answer_far (Err refusal) = nowhere

-- an answer in the code and the tag afterwards, as what a step comes to; and the same of a step that has passed the checks
abbrev pub told : Result Move Refusal → List ℕ → Stepped
told r tag = record { paper = paper_of r; far = answer_far r; tag = tag }

abbrev pub told_move : Move → List ℕ → Stepped
told_move r tag = record { paper = move_paper r; far = move_far r; tag = tag }

-- what a step needs that is not checked: the two bytes of its switch are inside the tag, and the arrival port fits a byte
pub record Ready (tag : List ℕ) (v arrival : ℕ) : Type 0 where
  pub cell : CellInside tag v
  pub byte : arrival < 256

-- after the checks, at switch v with this port order: steps 1 to 4
unfoldable pub advanced : List Cable → List ℕ → List ℕ → ℕ → ℕ → ℕ → Stepped
advanced order faults tag v arrival d =
    let cell = entered (cell_of tag v) arrival in
    pick (eqb v d) (stopped 1 0 tag)
    (moved order tag v cell (choose (faults_of faults) cell.parent.0 cell.current.0 order))

abbrev pub unless : Check → List ℕ → Stepped → Stepped
unless Passed tag step = step
unless (Refused number) tag step = stopped 3 number tag

-- refusals 1 to 5, then 6 to 10, then the step
abbrev pub stepped_on : Answer → List ℕ → List ℕ → List ℕ → ℕ → ℕ → ℕ → Stepped
stepped_on (refused number) s faults tag v arrival d = stopped 3 number tag
stepped_on (accepted n cables) s faults tag v arrival d =
    let order = port_order (rows_of s) v in
    unless (checks n order faults tag v arrival d) tag (advanced order faults tag v arrival d)

unfoldable pub stepped : List ℕ → List ℕ → List ℕ → ℕ → ℕ → ℕ → Stepped
stepped s faults tag v arrival d = stepped_on (list_answer s faults) s faults tag v arrival d
