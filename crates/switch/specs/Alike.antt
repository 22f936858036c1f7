-- Two tags that a switch cannot tell apart, and two steps that come to the same for it.
use Rattle.std.specs.Prelude.{ℕ, ◌≡◌, List, ◌↔◌, length}
use Rattle.switch.specs.Cell.{cell_of}
use Rattle.switch.specs.Step.{Stepped}
use Rattle.switch.specs.Exactly.{Marked}

-- as long as one another, alike in the two bytes of switch v and, for a packet from the host, in whether a switch is marked (rule 9)
pub record AlikeTags (n v arrival : ℕ) (tag tag' : List ℕ) : Type 0 where
  pub long : length tag ≡ length tag'
  pub cell : cell_of tag v ≡ cell_of tag' v
  pub marked : arrival ≡ 0 → Marked n tag ↔ Marked n tag'

-- the same answer, the same far end, and the same two bytes of switch v
pub record AlikeSteps (v : ℕ) (step step' : Stepped) : Type 0 where
  pub paper : step.paper ≡ step'.paper
  pub far : step.far ≡ step'.far
  pub cell : cell_of step.tag v ≡ cell_of step'.tag v
