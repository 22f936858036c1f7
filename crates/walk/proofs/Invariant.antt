-- What holds of every switch along a way. An open switch has left by the live ports up to its current one, but not by its
-- parent; a complete one has left by all of them. A hop makes the next port of an open switch its current one, or completes
-- the switch; and since a packet never comes to a complete switch, no cable is crossed twice the same way.
use mathlib.Core.Path.{◌≡◌, refl, ap}
use mathlib.Core.List.{List, [], ◌∷◌}
use mathlib.Core.Logic.{◌⊎◌, inl, inr, ⊎_elim, ⊎_map}
use Prim.Native.Nat.{ℕ}
use Rattle.sheet.specs.Lists.{◌∈◌, Once, All}
use Rattle.switch.specs.Choice.{after, Shut, Outcome, Chosen}
use Rattle.walk.specs.Network.{Dart, Network, Live, Chain}
use Rattle.walk.proofs.Darts.{dart, entries}
use Rattle.walk.proofs.Balance.{Complete}
use Rattle.walk.proofs.Choice.{after_none}

module _ {Row : Type 0} (N : Network Row) where
  -- the choice at a switch, under the switches' parents and current ports
  abbrev pub Chooses : (parent current : ℕ → ℕ) (v : ℕ) → Outcome → Type 0
  Chooses parent current v = Chosen (N.order v) (λ q. N.live (dart v q)) (parent v) (current v)

  -- a port that this choice passes over
  abbrev pub Shuts : (parent current : ℕ → ℕ) (v : ℕ) → ℕ → Type 0
  Shuts parent current v = Shut (N.order v) (λ q. N.live (dart v q)) (parent v) (current v)

  -- port p of w is left already, waits behind the current one, or is the parent
  abbrev pub Accounted : (w parent current : ℕ) (way : List Dart) → ℕ → Type 0
  Accounted w parent current way p = (dart w p ∈ way) ⊎ (p ∈ after current (N.order w)) ⊎ (p ≡ parent)

  -- the ports left are behind, and the parent is not among them
  pub record Open (w parent current : ℕ) (way : List Dart) : Type 0 where
    pub left : (p : ℕ) → dart w p ∈ way → (p ∈ after current (N.order w) → ⊥) × (p ≡ parent → ⊥)
    pub rest : (p : ℕ) → Live N (dart w p) → Accounted w parent current way p

  -- a switch that was never left
  pub untouched : (w parent current : ℕ) (way : List Dart) → current ≡ 0 → ((p : ℕ) → dart w p ∈ way → ⊥) → Open w parent current way
  untouched w parent current way z none =
      record { left = λ p m. absurd (none p m); rest = λ p l. inr (inl (rw (after_none current (N.order w) z) l.0)) }

  module _ (s : ℕ) where
    -- the source never completes: it has no parent to leave by
    abbrev pub Progress : (w parent current : ℕ) → List Dart → Type 0
    Progress w parent current way = Open w parent current way ⊎ ((w ≡ s → ⊥) × Complete N way w)

    -- without a parent, never left unless the source; or entered by its parent
    abbrev pub Root : (w parent current : ℕ) → List Dart → Type 0
    Root w parent current way = ((parent ≡ 0) × ((current ≡ 0) ⊎ (w ≡ s))) ⊎ ((dart w parent ∈ entries N way) × (w ≡ s → ⊥))

    pub record Site (w parent current : ℕ) (way : List Dart) : Type 0 where
      pub progress : Progress w parent current way
      pub root : Root w parent current way
      pub tried : (current ≡ 0) ⊎ (current ∈ N.order w)

    -- a switch is left only by a packet that came in by its parent before
    abbrev pub Rooted : (ℕ → ℕ) → List Dart → Type 0
    Rooted parent [] = Unit {0}
    Rooted parent (e ∷ way) = ((e.switch ≡ s) ⊎ (dart e.switch (parent e.switch) ∈ entries N way)) × Rooted parent way

    -- the packet has come to v, whose parent is not yet set
    pub record Moved (parent current : ℕ → ℕ) (v : ℕ) (way : List Dart) : Type 0 where
      pub chain : Chain N s v way
      pub live : All (Live N) way
      pub once : Once way
      pub sites : (w : ℕ) → Site w (parent w) (current w) way
      pub rooted : Rooted parent way
      pub source : current s ≡ 0 → way ≡ []

    -- and now it is set
    pub record Settled (parent current : ℕ → ℕ) (v : ℕ) (way : List Dart) : Type 0 where
      pub moved : Moved parent current v way
      pub here : (v ≡ s) ⊎ (dart v (parent v) ∈ entries N way)

    root_later : (w parent current : ℕ) (way : List Dart) (e : Dart) → Root w parent current way → Root w parent current (e ∷ way)
    root_later w parent current way e r = ⊎_map (λ z. z) (λ m. (inr m.0, m.1)) r

    -- a hop at another switch
    pub aside : (w parent current : ℕ) (way : List Dart) (e : Dart) → (w ≡ e.switch → ⊥)
        → Site w parent current way → Site w parent current (e ∷ way)
    aside w parent current way e away site =
        record { progress = progress site.progress; root = root_later w parent current way e site.root; tried = site.tried }
      where
        left : Open w parent current way → (p : ℕ) → dart w p ∈ (e ∷ way) → (p ∈ after current (N.order w) → ⊥) × (p ≡ parent → ⊥)
        left o p m = ⊎_elim (λ q. absurd (away (ap (λ d. d.switch) q))) (o.left p) m

        rest : (p : ℕ) → Accounted w parent current way p → Accounted w parent current (e ∷ way) p
        rest p = ⊎_map inr (λ q. q)

        progress : Progress w parent current way → Progress w parent current (e ∷ way)
        progress (inl o) = inl (record { left = left o; rest = λ p l. rest p (o.rest p l) })
        progress (inr c) = inr (c.0, λ p l. inr (c.1 p l))

    pub rooted_same : (f g : ℕ → ℕ) (way : List Dart) → ((e : Dart) → e ∈ way → g e.switch ≡ f e.switch) → Rooted f way → Rooted g way
    rooted_same f g [] h r = tt
    rooted_same f g (e ∷ way) h r = (rw (h e (inl refl)) r.0, rooted_same f g way (λ d m. h d (inr m)) r.1)
