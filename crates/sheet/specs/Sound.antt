-- What the rules on switches and ports say of an accepted sheet's rows, whatever their order.
use Rattle.std.specs.Prelude.{ℕ, ◌≤◌, ◌≡◌, List, [], ◌∷◌, ◌⊎◌}
use Rattle.sheet.specs.Lists.{◌∈◌, Once, All}
use Rattle.sheet.specs.Cables.{Socket, socket_of, turned}
use Rattle.sheet.specs.declared.cables.End.{End}
use Rattle.sheet.specs.declared.cables.Cable.{Cable}

abbrev pub Within : ℕ → ℕ → Type 0
Within most k = (1 ≤ k) × (k ≤ most)

-- switches are 1 to n, ports 1 to 48
abbrev pub EndInRange : ℕ → End → Type 0
EndInRange n e = Within n e.switch × Within 48 e.port

-- both ends in range, on two different switches
pub record RowInRange (n : ℕ) (c : Cable) : Type 0 where
  pub near : EndInRange n c.near
  pub far : EndInRange n c.far
  pub apart : c.near.switch ≡ c.far.switch → ⊥

-- both ends of every row
abbrev pub sockets : List Cable → List Socket
sockets [] = []
sockets (c ∷ rows) = socket_of c.near ∷ socket_of c.far ∷ sockets rows

pub record Sound (n : ℕ) (rows : List Cable) : Type 0 where
  pub ranges : All (RowInRange n) rows
  -- no port of a switch carries two cable ends
  pub once : Once (sockets rows)

-- a row, written from its end at a switch
pub record Seen (rows : List Cable) (v : ℕ) (c : Cable) : Type 0 where
  pub row : (c ∈ rows) ⊎ (turned c ∈ rows)
  pub here : c.near.switch ≡ v
