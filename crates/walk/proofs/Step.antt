-- Each hop keeps the invariant: first the packet moves, then the switch that it comes to, if it has tried no port yet,
-- takes the port of arrival for its parent. f and g are the switches' parents and current ports before, f' and g' after.
use mathlib.Core.Path.{◌≡◌, refl, sym, ap, subst, ◌∙◌, fun_ext}
use mathlib.Core.List.{List, ◌∷◌, cons≢nil}
use mathlib.Core.Logic.{◌⊎◌, inl, inr, ⊎_elim, ⊎_map}
use Prim.Native.Nat.{ℕ}
use native.Mathlib.Decide.{ℕ_discrete}
use lib.Dec.{eqb}
use Rattle.std.proofs.lemmas.Bool.Decides.{nat_tests}
use native.Mathlib.Omega.{arith}
use Rattle.sheet.specs.Lists.{◌∈◌, All, pick}
use Rattle.switch.specs.Choice.{after, leaves}
use Rattle.walk.specs.Network.{Dart, Network, Live}
use Rattle.walk.proofs.Running.{Lawful}
use Rattle.sheet.proofs.Lists.{all_at}
use Rattle.walk.proofs.Darts.{dart, entries, entry_live}
use Rattle.walk.proofs.Balance.{never_complete}
use Rattle.walk.proofs.Choice.{after_none, after_in, Onward, Homeward, leaving}
use Rattle.walk.proofs.Invariant.{Chooses, Shuts, Accounted, Open, Root, Site, Moved, Settled}
use Rattle.walk.proofs.Invariant.{untouched, aside, rooted_same}

module _ {Row : Type 0} (N : Network Row) (s : ℕ) (L : Lawful N) where
  entered_by : (w p : ℕ) (way : List Dart) → All (Live N) way → dart w p ∈ entries N way → p ≡ 0 → ⊥
  entered_by w p way live m = L.port_not_0 (dart w p) (entry_live N L way live (dart w p) m).0

  -- ---- a hop

  module _ (f g : ℕ → ℕ) (v : ℕ) (way : List Dart) (S : Settled N s f g v way) where
    open_here : Open N v (f v) (g v) way
    open_here =
        ⊎_elim (λ o. o) (λ c. absurd (never_complete N L s v way S.moved.chain S.moved.live S.moved.once c.0 c.1))
        (S.moved.sites v).progress

    -- a packet that has a way home is not at the source, and came in by its parent
    has_parent : (f v ≡ 0 → ⊥) → (dart v (f v) ∈ entries N way) × (v ≡ s → ⊥)
    has_parent has = ⊎_elim (λ z. absurd (has z.0)) (λ m. m) (S.moved.sites v).root

    -- and one without is home
    pub no_parent : f v ≡ 0 → v ≡ s
    no_parent z = ⊎_elim (λ home. home) (λ m. absurd (entered_by v (f v) way S.moved.live m z)) S.here

    -- where every port still to be tried is shut, each live port has been left by or is the parent
    pub spent : All (Shuts N f g v) (after (g v) (N.order v)) → (p : ℕ) → Live N (dart v p) → (dart v p ∈ way) ⊎ (p ≡ f v)
    spent all p l = grind (arith, open_here.rest p l, all_at (Shuts N f g v) (after (g v) (N.order v)) p all, l.1)

    module _ (p c : ℕ) where
      abbrev Goes : Type 0
      Goes = Onward (N.order v) (λ q. N.live (dart v q)) (f v) (g v) p c

      abbrev Returns : Type 0
      Returns = Homeward (N.order v) (λ q. N.live (dart v q)) (f v) (g v) p c

      -- what a choice makes of the switch that it is made at
      record Turned : Type 0 where
        crossed : Live N (dart v p)
        new : dart v p ∈ way → ⊥
        site : Site N s v (f v) c (dart v p ∷ way)
        started : v ≡ s → c ≡ 0 → ⊥

      at_port : (q : ℕ) → q ≡ p → dart v q ∈ (dart v p ∷ way)
      at_port q e = inl (ap (dart v) e)

      goes : Goes → Turned
      goes t =
          record {
            crossed = (cabled, t.alive);
            new = λ m. (open_here.left p m).0 t.waiting;
            site = record {
              progress = inl (record { left = left; rest = λ q l. rest q l (open_here.rest q l) });
              root = root (S.moved.sites v).root;
              tried = inr (rw t.tried cabled);
            };
            started = λ home z. L.port_not_0 (dart v p) cabled (sym t.tried ∙ z);
          }
        where
          cabled : p ∈ N.order v
          cabled = after_in (g v) (N.order v) p t.waiting

          left : (q : ℕ) → dart v q ∈ (dart v p ∷ way) → (q ∈ after c (N.order v) → ⊥) × (q ≡ f v → ⊥)
          left q (inl e) = let h : q ≡ p = ap (λ d. d.port) e in rw h (t.done, t.other)
          left q (inr m) = (λ l. (open_here.left q m).0 (t.kept q l), (open_here.left q m).1)

          rest : (q : ℕ) → Live N (dart v q) → Accounted N v (f v) (g v) way q → Accounted N v (f v) c (dart v p ∷ way) q
          rest q l a = grind (arith, t.passed q, at_port q, l.1)

          root : Root N s v (f v) (g v) way → Root N s v (f v) c (dart v p ∷ way)
          root r = ⊎_map (λ z. (z.0, inr (no_parent z.0))) (λ m. (inr m.0, m.1)) r

      returns : Returns → Turned
      returns t =
          record {
            crossed = rw t.back (entry_live N L way S.moved.live (dart v (f v)) came.0);
            new = λ m. (open_here.left p m).1 t.back;
            site = record {
              progress = inr (came.1, λ q l. ⊎_elim inr (λ e. at_port q (e ∙ sym t.back)) (spent t.shut q l));
              root = inr (inr came.0, came.1);
              tried = rw t.same (S.moved.sites v).tried;
            };
            started = λ home z. came.1 home;
          }
        where
          came : (dart v (f v) ∈ entries N way) × (v ≡ s → ⊥)
          came = has_parent t.has

    turned : (p c : ℕ) → Chooses N f g v (leaves p c) → Turned p c
    turned p c chosen =
        ⊎_elim (goes p c) (returns p c)
        (leaving (N.order v) (λ q. N.live (dart v q)) (f v) (g v) (L.order_once v) (λ q. L.port_not_0 (dart v q)) chosen)

    pub hop_keeps : (p c : ℕ) → Chooses N f g v (leaves p c)
        → (g' : ℕ → ℕ) → g' v ≡ c → ((w : ℕ) → (w ≡ v → ⊥) → g' w ≡ g w)
        → Moved N s f g' (N.far (dart v p)).switch (dart v p ∷ way)
    hop_keeps p c chosen g' now stay =
        record {
          chain = (refl, S.moved.chain);
          live = (t.crossed, S.moved.live);
          once = (t.new, S.moved.once);
          sites = λ w. site w (ℕ_discrete w v);
          rooted = (S.here, S.moved.rooted);
          source = λ z. absurd (source (ℕ_discrete s v) z);
        }
      where
        t : Turned p c
        t = turned p c chosen

        site : (w : ℕ) → Dec (w ≡ v) → Site N s w (f w) (g' w) (dart v p ∷ way)
        site w (yes e) = rw (e, now) t.site
        site w (no n) = rw (stay w n) (aside N s w (f w) (g w) way (dart v p) n (S.moved.sites w))

        source : Dec (s ≡ v) → g' s ≡ 0 → ⊥
        source (yes e) z = t.started (sym e) (sym now ∙ rw e at z)
        source (no n) z = n (sym (rw (S.moved.source (sym (stay s n) ∙ z)) at S.moved.chain))

  -- ---- the switch that the packet has come to

  module _ (f g : ℕ → ℕ) (v : ℕ) (e : Dart) (way : List Dart) (M : Moved N s f g v (e ∷ way)) where
    -- a switch that has tried no port was never left: else it is complete, and the packet would not be there
    unleft : g v ≡ 0 → (p : ℕ) → dart v p ∈ (e ∷ way) → ⊥
    unleft z p m =
        ⊎_elim (λ o. (o.left p m).0 (rw (after_none (g v) (N.order v) z) cabled))
        (λ c. never_complete N L s v (e ∷ way) M.chain M.live M.once c.0 c.1) (M.sites v).progress
      where
        cabled : p ∈ N.order v
        cabled = (all_at (Live N) (e ∷ way) (dart v p) M.live m).0

    away_from_source : g v ≡ 0 → v ≡ s → ⊥
    away_from_source z home = cons≢nil (M.source (rw home at z))

    module _ (f' : ℕ → ℕ) (stay : (w : ℕ) → (w ≡ v → ⊥) → f' w ≡ f w) where
      -- the first visit sets the parent
      fresh : g v ≡ 0 → f' v ≡ (N.far e).port → Settled N s f' g v (e ∷ way)
      fresh z now =
          record {
            moved = record {
              chain = M.chain;
              live = M.live;
              once = M.once;
              sites = λ w. site w (ℕ_discrete w v);
              rooted = rooted_same N s f f' (e ∷ way) same M.rooted;
              source = M.source;
            };
            here = inr arrived;
          }
        where
          arrived : dart v (f' v) ∈ entries N (e ∷ way)
          arrived = inl (λ i. record { switch = sym M.chain.0 i; port = now i })

          site : (w : ℕ) → Dec (w ≡ v) → Site N s w (f' w) (g w) (e ∷ way)
          site w (yes q) = rw q (record {
            progress = inl (untouched N v (f' v) (g v) (e ∷ way) z (unleft z));
            root = inr (arrived, away_from_source z);
            tried = inl z;
          })
          site w (no n) = rw (stay w n) (M.sites w)

          same : (d : Dart) → d ∈ (e ∷ way) → f' d.switch ≡ f d.switch
          same d m = stay d.switch (λ q. unleft z d.port (subst (λ u. dart u d.port ∈ (e ∷ way)) q m))

      -- a later one keeps it
      again : (g v ≡ 0 → ⊥) → f' v ≡ f v → Settled N s f' g v (e ∷ way)
      again n now = record { moved = subst (λ h. Moved N s h g v (e ∷ way)) (sym same) M; here = by (M.sites v).root }
        where
          all : (w : ℕ) → Dec (w ≡ v) → f' w ≡ f w
          all w (yes q) = rw (q, now)
          all w (no k) = stay w k

          same : f' ≡ f
          same = fun_ext (λ w. all w (ℕ_discrete w v))

          by : Root N s v (f v) (g v) (e ∷ way) → (v ≡ s) ⊎ (dart v (f' v) ∈ entries N (e ∷ way))
          by (inl (z, inl unset)) = absurd (n unset)
          by (inl (z, inr home)) = inl home
          by (inr m) = inr (subst (λ p. dart v p ∈ entries N (e ∷ way)) (sym now) m.0)

      pub settle : f' v ≡ pick (eqb (g v) 0) (N.far e).port (f v) → Settled N s f' g v (e ∷ way)
      settle now = grind (arith, nat_tests, fresh, again, now)
