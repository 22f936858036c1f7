-- Every walk ends: a packet that is not at its destination leaves or finds nothing, and no way is longer than twice the rows.
use mathlib.Core.Path.{◌≡◌, refl}
use mathlib.Core.List.{List, [], ◌∷◌}
use mathlib.Core.Logic.{◌⊎◌, inl, inr}
use Prim.Native.Nat.{ℕ, zero, suc, ◌+◌, ◌*◌, ◌≤◌}
use native.Mathlib.Omega.{arith}
use native.Mathlib.Decide.{ℕ_discrete}
use lib.ListN.{length}
use lib.Dec.{eqb}
use borrow.Author.Tests.{eq-eqb, ne_eqb}
use Rattle.sheet.specs.Lists.{pick}
use Rattle.switch.specs.Choice.{Outcome, leaves, stays}
use Rattle.walk.specs.Network.{Dart, Network}
use Rattle.walk.proofs.Running.{Lawful, Packet, parent_then, ChosenAt, Hop, Run, start, hop}
use Rattle.walk.proofs.Darts.{dart}
use Rattle.walk.proofs.Choice.{choice}
use Rattle.walk.proofs.Walked.{settled, settled_here, settled_away, walked}
use Rattle.walk.proofs.Sizes.{within_rows}

module _ {Row : Type 0} (N : Network Row) where
  next : Packet → ℕ → ℕ → Packet
  next k p c =
      record {
        at = (N.far (dart k.at p)).switch;
        arrival = (N.far (dart k.at p)).port;
        parent = settled k;
        current = λ w. pick (eqb w k.at) c (k.current w);
      }

  next_hop : (k : Packet) (p c : ℕ) → Hop N k p c (next k p c)
  unfolding next
  next_hop k p c =
      record {
        at = refl;
        arrival = refl;
        parent = settled_here k;
        current = rw (eq-eqb k.at k.at refl);
        parents_stay = settled_away k;
        currents_stay = λ w n. rw (ne_eqb w k.at n);
      }

  abbrev Ended : ℕ → ℕ → Type 0
  Ended s d = (k : Packet) × (way : List Dart) × Run N s d k way × ((k.at ≡ d) ⊎ ChosenAt N k stays)

  abbrev Further : ℕ → ℕ → List Dart → Type 0
  Further s d way = (k : Packet) × (e : Dart) × Run N s d k (e ∷ way)

  advance : (s d : ℕ) (k : Packet) (way : List Dart) → Run N s d k way → Ended s d ⊎ Further s d way
  advance s d k way r =
      by (ℕ_discrete k.at d) (choice (N.order k.at) (λ p. N.live (dart k.at p)) (parent_then k) (k.current k.at))
    where
      by : Dec (k.at ≡ d) → (o : Outcome) × ChosenAt N k o → Ended s d ⊎ Further s d way
      by (yes e) o = inl (k, way, r, inl e)
      by (no n) (leaves p c, chosen) = inr (next k p c, dart k.at p, hop r n chosen (next_hop k p c))
      by (no n) (stays, chosen) = inl (k, way, r, inr chosen)

  module _ (L : Lawful N) where
    pub rows_bound : {s d : ℕ} {k : Packet} {way : List Dart} → Run N s d k way → length way ≤ 2 * length N.rows
    rows_bound {s} {d} {k} {way} r = let w = walked N L s d r in within_rows N L way w.moved.once w.moved.live

    -- n more hops at most, for no way is longer than twice the rows
    ends_from : (s d n : ℕ) (k : Packet) (way : List Dart) → Run N s d k way → 2 * length N.rows ≤ n + length way → Ended s d
    ends_from s d zero k way r fits = by (advance s d k way r)
      where
        by : Ended s d ⊎ Further s d way → Ended s d
        by (inl ended) = ended
        by (inr (k', e, r')) = absurd (omega (arith, rows_bound r'))
    ends_from s d (suc n) k way r fits = by (advance s d k way r) (ends_from s d n)
      where
        by : Ended s d ⊎ Further s d way
            → ((k' : Packet) (way' : List Dart) → Run N s d k' way' → 2 * length N.rows ≤ n + length way' → Ended s d) → Ended s d
        by (inl ended) further = ended
        by (inr (k', e, r')) further = further k' (e ∷ way) r' (omega arith)

    pub run_ends : (s d : ℕ) → (k : Packet) × (way : List Dart) × Run N s d k way × ((k.at ≡ d) ⊎ ChosenAt N k stays)
    run_ends s d = ends_from s d (2 * length N.rows) first [] (start refl refl (λ w. refl) (λ w. refl)) (omega arith)
      where
        first : Packet
        first = record { at = s; arrival = 0; parent = λ w. 0; current = λ w. 0 }
