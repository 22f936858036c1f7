-- Where the choice finds nothing the packet is home, and its way has left every reached switch by every live port: a
-- complete switch was entered by every live port too, so what first came from it has gone back to it, and is complete.
-- f and g are the switches' parents and current ports.
use mathlib.Core.Path.{◌≡◌, refl, sym, subst, ◌∙◌}
use mathlib.Core.List.{List, [], ◌∷◌}
use mathlib.Core.Logic.{◌⊎◌, inl, inr, ⊎_elim}
use Prim.Native.Nat.{ℕ}
use Rattle.sheet.specs.Lists.{◌∈◌, All}
use Rattle.switch.specs.Choice.{after, stays, nowhere}
use Rattle.walk.specs.Network.{Dart, Network, Live, Chain, Reached, here, along}
use Rattle.walk.proofs.Running.{Lawful}
use Rattle.sheet.proofs.Lists.{all_at}
use Rattle.walk.proofs.Darts.{dart, Due, entries, entry_live, entry_left, far_far, far_live}
use Rattle.walk.proofs.Balance.{Complete, entered}
use Rattle.walk.proofs.Invariant.{Chooses, Shuts, Rooted, Settled}
use Rattle.walk.proofs.Step.{no_parent, spent}

module _ {Row : Type 0} (N : Network Row) (s : ℕ) where
  pub chain_reached : (v : ℕ) (way : List Dart) → Chain N s v way → All (Live N) way → Reached N s v
  chain_reached v [] c l = rw c here
  chain_reached v (e ∷ way) c l =
      subst (Reached N s) c.0 (along (chain_reached e.switch way c.1 l.1) e.port l.0)

  pub chain_due : (v : ℕ) (way : List Dart) → Chain N s v way → All (Live N) way → All (Due N s) way
  chain_due v [] c l = tt
  chain_due v (e ∷ way) c l =
      ((l.0, chain_reached e.switch way c.1 l.1), chain_due e.switch way c.1 l.1)

  module _ (L : Lawful N) (f g : ℕ → ℕ) (v : ℕ) (way : List Dart) (S : Settled N s f g v way) where
    module _ (home : v ≡ s) (full : Complete N way s) where
      came_back : (w p : ℕ) → Complete N way w → Live N (dart w p) → N.far (dart w p) ∈ way
      came_back w p done l = entered N L s v way S.moved.chain S.moved.live S.moved.once home w done p l

      -- a switch whose parent leads to a complete one has left by the parent, hence is complete
      parent_left : (w : ℕ) → Live N (dart w (f w)) → Complete N way (N.far (dart w (f w))).switch → Complete N way w
      parent_left w l done = ⊎_elim (λ o. absurd ((o.left (f w) left).1 refl)) (λ c. c.1) (S.moved.sites w).progress
        where
          d : Dart
          d = N.far (dart w (f w))

          left : dart w (f w) ∈ way
          left = subst (λ e. e ∈ way) (far_far N L (dart w (f w)) l) (came_back d.switch d.port done (far_live N L (dart w (f w)) l))

      -- along the way from its start: the parent's cable was crossed inward before the switch was left
      left_complete : (part : List Dart) → All (Live N) part → Rooted N s f part → All (λ e. Complete N way e.switch) part
      left_complete [] l r = tt
      left_complete (e ∷ part) l r = let earlier = left_complete part l.1 r.1 in (by earlier r.0, earlier)
        where
          by : All (λ d. Complete N way d.switch) part → (e.switch ≡ s) ⊎ (dart e.switch (f e.switch) ∈ entries N part)
              → Complete N way e.switch
          by earlier (inl source) = subst (Complete N way) (sym source) full
          by earlier (inr m) =
              let parent = dart e.switch (f e.switch) in
              parent_left e.switch (entry_live N L part l.1 parent m)
              (all_at (λ d. Complete N way d.switch) part (N.far parent) earlier (entry_left N L part l.1 parent m))

      reached_complete : (w : ℕ) → Reached N s w → Complete N way w
      reached_complete w here = full
      reached_complete w (along {v = u} r p l) =
          all_at (λ e. Complete N way e.switch) way (N.far (dart u p)) (left_complete way S.moved.live S.moved.rooted)
          (came_back u p (reached_complete u r) l)

    stayed : Chooses N f g v stays → All (Shuts N f g v) (after (g v) (N.order v)) × (f v ≡ 0)
    stayed (nowhere shut none) = (shut, none)

    pub ended : Chooses N f g v stays → (v ≡ s) × ((w : ℕ) → Reached N s w → Complete N way w)
    ended chosen = (home, reached_complete home (subst (Complete N way) home source))
      where
        none : f v ≡ 0
        none = (stayed chosen).1

        home : v ≡ s
        home = no_parent N s L f g v way S none

        source : Complete N way v
        source p l = ⊎_elim (λ m. m) (λ e. absurd (L.port_not_0 (dart v p) l.0 (e ∙ none)))
            (spent N s L f g v way S (stayed chosen).0 p l)
