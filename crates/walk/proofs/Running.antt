-- What the traversal theorem asks of a network, and a packet's way through it as a relation: each hop is the published choice, and carries
-- the packet over the cable.
use mathlib.Core.Path.{◌≡◌}
use mathlib.Core.List.{List, [], ◌∷◌}
use Prim.Native.Nat.{ℕ}
use lib.Dec.{eqb}
use Rattle.sheet.specs.Lists.{pick, ◌∈◌, Once}
use Rattle.switch.specs.Choice.{Outcome, leaves, Chosen}
use Rattle.walk.specs.Network.{Dart, Network, Cabled}

module _ {Row : Type 0} (N : Network Row) where
  abbrev pub ends_of : List Row → List Dart
  ends_of [] = []
  ends_of (r ∷ rs) = N.one r ∷ N.other r ∷ ends_of rs

  pub record Lawful : Type 0 where
    pub port_not_0 : (d : Dart) → Cabled N d → d.port ≡ 0 → ⊥
    pub order_once : (v : ℕ) → Once (N.order v)
    pub ends_once : Once (ends_of N.rows)
    pub end_cabled : (d : Dart) → d ∈ ends_of N.rows → Cabled N d
    pub cabled_end : (d : Dart) → Cabled N d → d ∈ ends_of N.rows
    pub far_one : (r : Row) → r ∈ N.rows → N.far (N.one r) ≡ N.other r
    pub far_other : (r : Row) → r ∈ N.rows → N.far (N.other r) ≡ N.one r
    pub live_both : (r : Row) → r ∈ N.rows → N.live (N.one r) ≡ N.live (N.other r)

-- ---- a packet on its way

pub record Packet : Type 0 where
  pub at : ℕ
  pub arrival : ℕ
  pub parent : ℕ → ℕ
  pub current : ℕ → ℕ

-- rule 2 of the step: where current is 0 the parent becomes the arrival port
abbrev pub parent_then : Packet → ℕ
parent_then k = pick (eqb (k.current k.at) 0) k.arrival (k.parent k.at)

module _ {Row : Type 0} (N : Network Row) where
  abbrev pub ChosenAt : Packet → Outcome → Type 0
  ChosenAt k = Chosen (N.order k.at) (λ p. N.live (record { switch = k.at; port = p })) (parent_then k) (k.current k.at)

  -- what a hop by port p, leaving the current port c, makes of a packet
  pub record Hop (k : Packet) (p c : ℕ) (k' : Packet) : Type 0 where
    pub at : k'.at ≡ (N.far (record { switch = k.at; port = p })).switch
    pub arrival : k'.arrival ≡ (N.far (record { switch = k.at; port = p })).port
    pub parent : k'.parent k.at ≡ parent_then k
    pub current : k'.current k.at ≡ c
    pub parents_stay : (w : ℕ) → (w ≡ k.at → ⊥) → k'.parent w ≡ k.parent w
    pub currents_stay : (w : ℕ) → (w ≡ k.at → ⊥) → k'.current w ≡ k.current w

  -- the way so far, the latest hop first; no hop is made at the destination
  pub data Run (source destination : ℕ) : Packet → List Dart → Type 0 where
    start : {k : Packet} → k.at ≡ source → k.arrival ≡ 0 → ((w : ℕ) → k.parent w ≡ 0) → ((w : ℕ) → k.current w ≡ 0)
        → Run source destination k []
    hop : {k k' : Packet} {way : List Dart} {p c : ℕ} → Run source destination k way → (k.at ≡ destination → ⊥)
        → ChosenAt k (leaves p c) → Hop k p c k' → Run source destination k' (record { switch = k.at; port = p } ∷ way)
