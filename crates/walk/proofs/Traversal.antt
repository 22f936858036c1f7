-- The traversal. A packet crosses no cable twice the same way, only live cables between reached switches, in one chain from
-- its source. It ends: at its destination, or home after every such crossing, and then the destination is not reached.
use mathlib.Core.Path.{◌≡◌, refl, sym, ap, subst, ◌∙◌}
use mathlib.Core.List.{List, [], ◌∷◌}
use mathlib.Core.Logic.{◌⊎◌, inl, inr, ◌↔◌}
use Prim.Native.Nat.{ℕ, ◌+◌, ◌*◌, ◌≤◌}
use native.Mathlib.Omega.{arith}
use native.Mathlib.Decide.{ℕ_discrete}
use lib.ListN.{length}
use Rattle.sheet.specs.Lists.{◌∈◌, Once, All}
use Rattle.switch.specs.Choice.{stays}
use Rattle.walk.specs.Network.{Dart, Network, Live, Reached, here, along, Counted, Chain}
use Rattle.walk.proofs.Running.{Lawful, Packet, ChosenAt, Run, start, hop}
use Rattle.sheet.proofs.Lists.{all_at}
use Rattle.walk.proofs.Darts.{dart, Due, entry_live, far_live}
use Rattle.walk.proofs.Balance.{Complete}
use Rattle.walk.proofs.Invariant.{Root}
use Rattle.walk.proofs.Walked.{settled, Kept, settled_choice, parents_settle, walked}
use Rattle.walk.proofs.End.{chain_reached, chain_due, ended}
use Rattle.walk.proofs.Sizes.{counted, at_most, at_least}
pub use Rattle.switch.proofs.Choosing.{chosen_one}
pub use Rattle.walk.proofs.Choice.{choice}
pub use Rattle.walk.proofs.Sizes.{counted_one}
pub use Rattle.walk.proofs.Halting.{rows_bound, run_ends}

module _ {Row : Type 0} (N : Network Row) where
  -- what a packet carries names only ports that are there
  pub record Sane (k : Packet) (way : List Dart) : Type 0 where
    pub arrival : ((k.arrival ≡ 0) × (way ≡ [])) ⊎ Live N (dart k.at k.arrival)
    pub current : (w : ℕ) → (k.current w ≡ 0) ⊎ (k.current w ∈ N.order w)
    pub parent : (w : ℕ) → (k.parent w ≡ 0) ⊎ Live N (dart w (k.parent w))

  -- the packet is home, and its way holds each live dart of a reached switch
  pub record NoneHome (s d : ℕ) (k : Packet) (way : List Dart) : Type 0 where
    pub home : k.at ≡ s
    pub crossed : (e : Dart) → (e ∈ way) ↔ (Live N e × Reached N s e.switch)
    pub size : (m : ℕ) → Counted N s N.rows m → length way ≡ 2 * m
    pub unreached : Reached N s d → ⊥

  module _ (L : Lawful N) where
    module _ {s d : ℕ} where
      held : {k : Packet} {way : List Dart} → Run N s d k way → Kept N s k way
      held r = walked N L s d r

      -- ---- every way

      pub run_once : {k : Packet} {way : List Dart} → Run N s d k way → Once way
      run_once r = (held r).moved.once

      pub run_chain : {k : Packet} {way : List Dart} → Run N s d k way → Chain N s k.at way
      run_chain r = (held r).moved.chain

      pub run_live : {k : Packet} {way : List Dart} → Run N s d k way → All (λ e. Live N e × Reached N s e.switch) way
      run_live {k} {way} r = chain_due N s k.at way (held r).moved.chain (held r).moved.live

      pub run_reached : {k : Packet} {way : List Dart} → Run N s d k way → Reached N s k.at
      run_reached {k} {way} r = chain_reached N s k.at way (held r).moved.chain (held r).moved.live

      pub delivered_reached : {k : Packet} {way : List Dart} → Run N s d k way → k.at ≡ d → Reached N s d
      delivered_reached r e = subst (Reached N s) e (run_reached r)

      -- ---- what the packet carries

      pub run_zero : {k : Packet} {way : List Dart} → Run N s d k way → way ≡ [] → (w : ℕ) → (k.parent w ≡ 0) × (k.current w ≡ 0)
      run_zero (start home arrival parents currents) e w = (parents w, currents w)
      run_zero (hop r away chosen h) e w = cc

      pub run_sane : {k : Packet} {way : List Dart} → Run N s d k way → Sane k way
      run_sane {k} {way} r = record { arrival = arrival r; current = λ w. ((held r).moved.sites w).tried; parent = parent r }
        where
          arrival : {k : Packet} {way : List Dart} → Run N s d k way → ((k.arrival ≡ 0) × (way ≡ [])) ⊎ Live N (dart k.at k.arrival)
          arrival (start home none parents currents) = inl (none, refl)
          arrival (hop {k} {k'} {way} {p} {c} r away chosen h) =
              inr (rw (h.at, h.arrival) (far_live N L (dart k.at p) (held (hop {k' = k'} r away chosen h)).moved.live.0))

          rooted : (w f c : ℕ) (way : List Dart) → All (Live N) way → Root N s w f c way → (f ≡ 0) ⊎ Live N (dart w f)
          rooted w f c way live (inl z) = inl z.0
          rooted w f c way live (inr m) = inr (entry_live N L way live (dart w f) m.0)

          parent : {k : Packet} {way : List Dart} → Run N s d k way → (w : ℕ) → (k.parent w ≡ 0) ⊎ Live N (dart w (k.parent w))
          parent (start home none parents currents) w = inl (parents w)
          parent (hop {k} {k'} {way} {p} {c} r away chosen h) w =
              rw (parents_settle N k k' p c h w)
              (rooted w (settled k w) (k.current w) way (held r).moved.live ((held r).moved.sites w).root)

      -- ---- how long a way is

      -- no hop is made at the destination
      never_there : {k : Packet} {way : List Dart} → Run N s d k way → (e : Dart) → e ∈ way → e.switch ≡ d → ⊥
      never_there (start home arrival parents currents) e m there = m
      never_there (hop r away chosen h) e (inl q) there = away (sym (ap (λ x. x.switch) q) ∙ there)
      never_there (hop r away chosen h) e (inr m) there = never_there r e m there

      pub run_bound : {k : Packet} {way : List Dart} {m : ℕ} → Run N s d k way → Counted N s N.rows m → length way ≤ 2 * m
      run_bound {way} r c = at_most N s L c way (run_once r) (run_live r)

      -- the port of arrival at the destination is never left by
      pub delivered_bound : {k : Packet} {way : List Dart} {m : ℕ} → Run N s d k way → k.at ≡ d → (d ≡ s → ⊥) → Counted N s N.rows m
          → length way + 1 ≤ 2 * m
      delivered_bound {k} {way} {m} r there far c = by (run_sane r).arrival
        where
          by : ((k.arrival ≡ 0) × (way ≡ [])) ⊎ Live N (dart k.at k.arrival) → length way + 1 ≤ 2 * m
          by (inl (z, e)) = absurd (far (sym there ∙ subst (Chain N s k.at) e (run_chain r)))
          by (inr live) =
              omega (
                arith,
                at_most N s L c (dart k.at k.arrival ∷ way)
                    (λ m. never_there r (dart k.at k.arrival) m there, run_once r)
                    ((live, run_reached r), run_live r),
              )

      -- ---- the end

      pub none_home : {k : Packet} {way : List Dart} → Run N s d k way → (k.at ≡ d → ⊥) → ChosenAt N k stays → NoneHome s d k way
      none_home {k} {way} r away chosen =
          record {
            home = end.0;
            crossed = λ e. (all_at (Due N s) way e (run_live r), due e);
            size = λ m c. omega (arith, run_bound r c, at_least N s L c way due);
            unreached = λ t. unreached d t refl;
          }
        where
          end : (k.at ≡ s) × ((w : ℕ) → Reached N s w → Complete N way w)
          end = ended N s L (settled k) k.current k.at way (held r) (settled_choice N k chosen)

          due : (e : Dart) → Due N s e → e ∈ way
          due e t = end.1 e.switch t.1 e.port t.0

          unreached : (w : ℕ) → Reached N s w → w ≡ d → ⊥
          unreached w here e = away (end.0 ∙ e)
          unreached w (along {v = u} t p l) e =
              let far = N.far (dart u p) in
              never_there r far (due far (far_live N L (dart u p) l, along t p l)) e

      pub reached_delivered : {k : Packet} {way : List Dart} → Reached N s d → Run N s d k way → ChosenAt N k stays → (k.at ≡ d → ⊥) → ⊥
      reached_delivered t r chosen away = (none_home r away chosen).unreached t

    pub home : {s : ℕ} {k : Packet} {way : List Dart} → Run N s s k way → way ≡ []
    home (start at arrival parents currents) = refl
    home {s} (hop {k} r away chosen h) = absurd (away (subst (Chain N s k.at) (home r) (run_chain r)))

    -- a walk to a switch finds out whether it is reached
    pub reached? : (s w : ℕ) → Dec (Reached N s w)
    reached? s w = let (k, way, r, end) = run_ends N L s w in by k way r (ℕ_discrete k.at w) end
      where
        by : (k : Packet) (way : List Dart) → Run N s w k way → Dec (k.at ≡ w) → (k.at ≡ w) ⊎ ChosenAt N k stays → Dec (Reached N s w)
        by k way r (yes e) end = yes (delivered_reached r e)
        by k way r (no n) (inl e) = absurd (n e)
        by k way r (no n) (inr chosen) = no (none_home r n chosen).unreached

    pub counted_is : (s : ℕ) → (m : ℕ) × Counted N s N.rows m
    counted_is s = counted N s (reached? s) N.rows
