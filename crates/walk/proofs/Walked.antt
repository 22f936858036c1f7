-- Every walk keeps the invariant: it holds at the start, where nothing was left and every parent and current port is 0, and
-- each hop keeps it.
use mathlib.Core.Path.{◌≡◌, refl, ◌∙◌}
use mathlib.Core.List.{List, [], ◌∷◌}
use mathlib.Core.Logic.{inl}
use Prim.Native.Nat.{ℕ}
use lib.Dec.{eqb}
use borrow.Author.Tests.{eq-eqb, ne_eqb}
use Rattle.std.proofs.lemmas.Bool.Decides.{nat_tests}
use native.Mathlib.Omega.{arith}
use Rattle.sheet.specs.Lists.{pick}
use Rattle.switch.specs.Choice.{Outcome, leaves}
use Rattle.walk.specs.Network.{Dart, Network}
use Rattle.walk.proofs.Running.{Lawful, Packet, parent_then, ChosenAt, Hop, Run, start, hop}
use Rattle.walk.proofs.Darts.{dart}
use Rattle.walk.proofs.Invariant.{Chooses, Moved, Settled, untouched}
use Rattle.walk.proofs.Step.{hop_keeps, settle}

-- the parents, with that of the packet's switch as the next choice takes it
abbrev pub settled : Packet → ℕ → ℕ
settled k w = pick (eqb w k.at) (parent_then k) (k.parent w)

pub settled_here : (k : Packet) → settled k k.at ≡ parent_then k
settled_here k = rw (eq-eqb k.at k.at refl)

pub settled_away : (k : Packet) (w : ℕ) → (w ≡ k.at → ⊥) → settled k w ≡ k.parent w
settled_away k w n = rw (ne_eqb w k.at n)

module _ {Row : Type 0} (N : Network Row) where
  -- the invariant, of a packet
  abbrev pub Kept : ℕ → Packet → List Dart → Type 0
  Kept s k way = Settled N s (settled k) k.current k.at way

  pub settled_choice : (k : Packet) {o : Outcome} → ChosenAt N k o → Chooses N (settled k) k.current k.at o
  settled_choice k chosen = rw (settled_here k) chosen

  pub parents_settle : (k k' : Packet) (p c : ℕ) → Hop N k p c k' → (w : ℕ) → k'.parent w ≡ settled k w
  parents_settle k k' p c h w = grind (arith, nat_tests, h.parent, h.parents_stay w)

  at_start : (s : ℕ) (k : Packet) → k.at ≡ s → k.arrival ≡ 0 → ((w : ℕ) → k.parent w ≡ 0) → ((w : ℕ) → k.current w ≡ 0)
      → Kept s k []
  at_start s k home arrival parents currents =
      record {
        moved = record {
          chain = home;
          live = tt;
          once = tt;
          rooted = tt;
          source = λ z. refl;
          sites = λ w. record {
            progress = inl (untouched N w (settled k w) (k.current w) [] (currents w) (λ p m. m));
            root = inl (none w, inl (currents w));
            tried = inl (currents w);
          };
        };
        here = inl home;
      }
    where
      none : (w : ℕ) → settled k w ≡ 0
      none w = grind (arith, nat_tests, arrival, parents k.at, parents w)

  after_hop : Lawful N → (s : ℕ) (k k' : Packet) (way : List Dart) (p c : ℕ) → Kept s k way
      → ChosenAt N k (leaves p c) → Hop N k p c k' → Kept s k' (dart k.at p ∷ way)
  after_hop L s k k' way p c S chosen h =
      settle N s L (settled k) k'.current k'.at (dart k.at p) way moved (settled k')
      (λ w n. settled_away k' w n ∙ parents_settle k k' p c h w)
      (settled_here k' ∙ rw (h.arrival, parents_settle k k' p c h k'.at))
    where
      moved : Moved N s (settled k) k'.current k'.at (dart k.at p ∷ way)
      moved = rw h.at
          (hop_keeps N s L (settled k) k.current k.at way S p c (settled_choice k chosen)
          k'.current h.current h.currents_stay)

  pub walked : Lawful N → (s d : ℕ) {k : Packet} {way : List Dart} → Run N s d k way → Kept s k way
  walked L s d (start {k} home arrival parents currents) = at_start s k home arrival parents currents
  walked L s d (hop {k} {k'} {way} {p} {c} r away chosen h) = after_hop L s k k' way p c (walked L s d r) chosen h
