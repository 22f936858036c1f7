-- The packets of a walk on an accepted sheet make a run of its network: each hop is the published choice, read from and written to the
-- tag's bytes. So all that the traversal says holds of them. The tag keeps its length, and the packet stays on the sheet.
use Prim.Native.Nat.{ℕ, zero, suc, ◌*◌, ◌≤◌}
use mathlib.Core.Path.{◌≡◌, refl, ap, ◌∙◌}
use mathlib.Core.List.{List, [], ◌∷◌, reverse, reverse-append}
use mathlib.Core.Logic.{◌⊎◌, inl, inr}
use native.Mathlib.Omega.{arith}
use lib.ListN.{length, get_or, replicate, length-replicate}
use Rattle.sheet.specs.Cables.{rows_of, switches_of}
use Rattle.sheet.specs.Cabling.{order_at}
use Rattle.sheet.specs.Sound.{Within, Sound}
use Rattle.switch.specs.Choice.{Outcome}
use Rattle.switch.specs.Cell.{cell_of, left_by}
use Rattle.switch.specs.Step.{Stepped}
use Rattle.switch.proofs.Advancing.{cell_then, ChosenThere, Forwards, forwards, advanced_length}
use Rattle.walk.specs.Network.{Cabled}
use Rattle.walk.specs.Walk.{Packet, step_of, carried, Way}
use Rattle.walk.specs.Condition3.{network_of}
use Rattle.walk.proofs.Running.{Packet as Traveller, ChosenAt, Hop, Run}
use Rattle.walk.proofs.Darts.{dart}
use Rattle.walk.proofs.SheetNetwork.{port_range, far_range, sheet_lawful}
use Rattle.walk.proofs.Traversal.{run_live}

-- ---- parents and currents, as the tag's bytes give them; there is no switch 0

abbrev pub parent_in : List ℕ → ℕ → ℕ
parent_in tag zero = 0
parent_in tag (suc w) = (cell_of tag (suc w)).parent.0

abbrev pub current_in : List ℕ → ℕ → ℕ
current_in tag zero = 0
current_in tag (suc w) = (cell_of tag (suc w)).current.0

abbrev pub traveller_of : Packet → Traveller
traveller_of k = record { at = k.at; arrival = k.arrival; parent = parent_in k.tag; current = current_in k.tag }

pub parent_in_lem : (tag : List ℕ) (v : ℕ) → 1 ≤ v → parent_in tag v ≡ (cell_of tag v).parent.0
parent_in_lem tag zero low = omega arith
parent_in_lem tag (suc v) low = refl

pub current_in_lem : (tag : List ℕ) (v : ℕ) → 1 ≤ v → current_in tag v ≡ (cell_of tag v).current.0
current_in_lem tag zero low = omega arith
current_in_lem tag (suc v) low = refl

all_zero : (n i : ℕ) → ◌≡◌ {A = ℕ} (get_or (replicate n 0) i 0) 0
all_zero zero i = refl
all_zero (suc n) zero = refl
all_zero (suc n) (suc i) = all_zero n i

module _ (s faults : List ℕ) (d source : ℕ) where
  pub record Follows (k : Packet) : Type 0 where
    pub run : Run (network_of s faults) source d (traveller_of k) (reverse k.trace)
    pub long : length k.tag ≡ 2 * switches_of s
    pub on : Within (switches_of s) k.at
    pub came : (k.arrival ≡ 0) ⊎ Within 48 k.arrival

  -- the choice by the cell's bytes is the choice by what they give
  pub chosen_at : (k : Packet) → 1 ≤ k.at → {o : Outcome} → ChosenThere (rows_of s) faults k.tag k.at k.arrival o
      → ChosenAt (network_of s faults) (traveller_of k) o
  chosen_at k low chosen = rw (parent_in_lem k.tag k.at low, current_in_lem k.tag k.at low) chosen

  module _ (sound : Sound (switches_of s) (rows_of s)) where
    module _ (k : Packet) (so : Follows k) (e : (step_of s faults d k).paper.end ≡ 0) where
      abbrev step : Stepped
      step = step_of s faults d k

      how : Forwards (rows_of s) faults k.tag k.at k.arrival d step
      how = forwards (rows_of s) faults k.tag k.at k.arrival d sound e

      low : 1 ≤ k.at
      low = so.on.0

      there : cell_of step.tag k.at ≡ left_by (cell_then k.tag k.at k.arrival) how.current
      there = how.there low (omega (arith, so.long, so.on.1))

      parents_stay : (w : ℕ) → (w ≡ k.at → ⊥) → parent_in step.tag w ≡ parent_in k.tag w
      parents_stay zero other = refl
      parents_stay (suc w) other = ap (λ x. x.parent.0) (how.others low (suc w) (omega arith) other)

      currents_stay : (w : ℕ) → (w ≡ k.at → ⊥) → current_in step.tag w ≡ current_in k.tag w
      currents_stay zero other = refl
      currents_stay (suc w) other = ap (λ x. x.current.0) (how.others low (suc w) (omega arith) other)

      hop_made : Hop (network_of s faults) (traveller_of k) step.paper.port how.current (traveller_of (carried s faults d k))
      hop_made =
          record {
            at = ap (λ x. x.switch) how.far;
            arrival = ap (λ x. x.port) how.far;
            parent = rw (parent_in_lem step.tag k.at low, parent_in_lem k.tag k.at low, current_in_lem k.tag k.at low)
                (ap (λ x. x.parent.0) there);
            current = current_in_lem step.tag k.at low ∙ ap (λ x. x.current.0) there;
            parents_stay = parents_stay;
            currents_stay = currents_stay;
          }

      run_made :
          Run (network_of s faults) source d (traveller_of (carried s faults d k)) (dart k.at step.paper.port ∷ reverse k.trace)
      run_made = Run.hop so.run how.away (chosen_at k low how.choice) hop_made

      cabled : Cabled (network_of s faults) (dart k.at step.paper.port)
      cabled = (run_live (network_of s faults) (sheet_lawful s faults sound) run_made).0.0.0

      pub port_on : Within 48 (step_of s faults d k).paper.port
      port_on = port_range s faults sound k.at step.paper.port cabled

      -- the cable is on the sheet, and so is its far end
      far_on : Within (switches_of s) step.far.switch × Within 48 step.far.port
      far_on = let (c, far, range) = far_range s faults sound k.at step.paper.port cabled in rw (how.far ∙ far) range

      hop_follows : Follows (carried s faults d k)
      hop_follows =
          record {
            run = rw (reverse-append k.trace (dart k.at step.paper.port ∷ [])) run_made;
            long = advanced_length (order_at s k.at) faults k.tag k.at k.arrival d ∙ so.long;
            on = far_on.0;
            came = inr far_on.1;
          }

    pub follows : Within (switches_of s) source → {k : Packet} → Way s faults d source k → Follows k
    follows on Way.start =
        record {
          run = Run.start refl refl zero_parent zero_current;
          long = length-replicate (2 * switches_of s) 0;
          on = on;
          came = inl refl;
        }
      where
        zero_parent : (w : ℕ) → parent_in (replicate (2 * switches_of s) 0) w ≡ 0
        zero_parent zero = refl
        zero_parent (suc w) = all_zero (2 * switches_of s) _

        zero_current : (w : ℕ) → current_in (replicate (2 * switches_of s) 0) w ≡ 0
        zero_current zero = refl
        zero_current (suc w) = all_zero (2 * switches_of s) _
    follows on (Way.hop {k} way e) = hop_follows k (follows on way) e
