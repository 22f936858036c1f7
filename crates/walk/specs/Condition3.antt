-- Condition 3 of the tender: where the walk delivers, after how many hops, and which cables it crosses.
use Rattle.std.specs.Prelude.{ℕ, ◌-◌, ◌*◌, ◌≤◌, ◌≡◌, List, [], ◌∷◌, map, reverse, ◌⊎◌, ◌↔◌, length, get_or, drop}
use Rattle.sheet.specs.Lists.{◌∈◌, Once, All}
use Rattle.sheet.specs.Cables.{socket_of, rows_of}
use Rattle.sheet.specs.Cabling.{order_at, far_at, live_at}
use Rattle.sheet.specs.Refusals.{accepted, list_answer}
use Rattle.sheet.specs.Sound.{Within}
use Rattle.sheet.specs.declared.cables.Cable.{Cable}
use Rattle.walk.specs.Network.{Dart, Network, Live, Reached, Counted, Chain}
use Rattle.walk.specs.Walk.{Paper}

-- the network of a sheet and a fault list
abbrev pub network_of : List ℕ → List ℕ → Network Cable
network_of s faults =
    record {
      rows = rows_of s;
      one = λ c. socket_of c.near;
      other = λ c. socket_of c.far;
      order = λ v. map (λ c. c.near.port) (order_at s v);
      live = λ d. live_at s faults d.switch d.port;
      far = λ d. far_at s d.switch d.port;
    }

-- a chain of live cables joins the source to a switch
abbrev pub Joined : List ℕ → List ℕ → ℕ → ℕ → Type 0
Joined s faults source v = Reached (network_of s faults) source v

-- M: the number of live cables that such chains from the source can reach
abbrev pub Reachable : List ℕ → List ℕ → ℕ → ℕ → Type 0
Reachable s faults source m = Counted (network_of s faults) source (rows_of s) m

-- an accepted sheet and fault list, source and destination on the sheet, room enough for tag and trace
pub record Premises (s faults tag trace : List ℕ) (source destination : ℕ) : Type 0 where
  pub n : ℕ
  pub cables : ℕ
  pub lists : list_answer s faults ≡ accepted n cables
  pub source_on : Within n source
  pub destination_on : Within n destination
  pub tag_room : 2 * n ≤ length tag
  pub trace_room : 4 * cables ≤ length trace

-- the hops that the first bytes of a trace tell
abbrev pub hops_in : ℕ → List ℕ → List Dart
hops_in ℕ.zero bytes = []
hops_in (ℕ.suc k) bytes = record { switch = get_or bytes 0 0; port = get_or bytes 1 0 } ∷ hops_in k (drop 2 bytes)

-- the tender's sentences, one by one, for a walk that ended with this answer after these hops, M being m
pub record Condition3 (s faults : List ℕ) (source destination m : ℕ) (answer : Paper) (hops : List Dart) : Type 0 where
  -- the walk delivers exactly if a chain of live cables joins source to destination; otherwise none
  pub delivers : (answer.end ≡ 1) ↔ Joined s faults source destination
  pub otherwise : (answer.end ≡ 2) ↔ (Joined s faults source destination → ⊥)
  pub ends : (answer.end ≡ 1) ⊎ (answer.end ≡ 2)
  pub delivered_at : answer.end ≡ 1 → answer.switch ≡ destination
  pub none_at : answer.end ≡ 2 → answer.switch ≡ source
  -- delivery takes no hop where source and destination are one switch, else at most 2 times M, less 1
  pub home : source ≡ destination → answer.hops ≡ 0
  pub at_most : answer.end ≡ 1 → (source ≡ destination → ⊥) → answer.hops ≤ 2 * m - 1
  -- none comes after exactly 2 times M hops, each of those cables crossed once each way
  pub exactly : answer.end ≡ 2 → answer.hops ≡ 2 * m
  pub each_way : answer.end ≡ 2 → (e : Dart) → (e ∈ hops) ↔ (Live (network_of s faults) e × Joined s faults source e.switch)
  -- no cable is ever crossed twice the same way
  pub once : Once hops
  -- each hop crosses a live cable to the switch that makes the next, from the source to the end
  pub live : All (Live (network_of s faults)) hops
  pub chain : Chain (network_of s faults) source answer.switch (reverse hops)
  pub counted : length hops ≡ answer.hops
