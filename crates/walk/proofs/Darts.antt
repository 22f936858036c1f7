-- What a lawful network says of darts: the far end of a live dart is live, and its far end is the dart itself. So a way that
-- crosses no cable twice the same way also comes in nowhere twice by the same port.
use mathlib.Core.Path.{◌≡◌, sym, ap, subst, ◌∙◌}
use mathlib.Core.List.{List, [], ◌∷◌, map}
use mathlib.Core.Logic.Dec
use mathlib.Core.Logic.{◌⊎◌, inl, inr}
use Prim.Native.Nat.{ℕ}
use native.Mathlib.Decide.{ℕ_discrete}
use native.Mathlib.Omega.{arith}
use Rattle.sheet.specs.Lists.{◌∈◌, Once, All}
use Rattle.walk.specs.Network.{Dart, Network, Cabled, Live, Reached}
use Rattle.walk.proofs.Running.{ends_of, Lawful}

abbrev pub dart : ℕ → ℕ → Dart
dart w p = record { switch = w; port = p }

pub same_dart : (a b : Dart) → Dec (a ≡ b)
same_dart a b =
    Dec.of_iff (λ e i. record { switch = e.0 i; port = e.1 i }, λ e. (ap (λ d. d.switch) e, ap (λ d. d.port) e))
    (Dec.and (ℕ_discrete a.switch b.switch) (ℕ_discrete a.port b.port))

module _ {Row : Type 0} (N : Network Row) where
  -- a dart of the traversal: live, out of a reached switch
  abbrev pub Due : ℕ → Dart → Type 0
  Due s e = Live N e × Reached N s e.switch

  -- where the darts of a way come in
  abbrev pub entries : List Dart → List Dart
  entries way = map N.far way

  row_of : (rs : List Row) (e : Dart) → e ∈ ends_of N rs → (r : Row) × (r ∈ rs) × ((e ≡ N.one r) ⊎ (e ≡ N.other r))
  row_of [] e at = elim at [ ]
  row_of (r ∷ rs) e at = grind (arith, row_of rs e)

  pub one_in : (rs : List Row) (r : Row) → r ∈ rs → N.one r ∈ ends_of N rs
  one_in [] r at = elim at [ ]
  one_in (x ∷ rs) r at = grind (arith, one_in rs r)

  pub other_in : (rs : List Row) (r : Row) → r ∈ rs → N.other r ∈ ends_of N rs
  other_in [] r at = elim at [ ]
  other_in (x ∷ rs) r at = grind (arith, other_in rs r)

  module _ (L : Lawful N) where
    abbrev Paired : Dart → Type 0
    Paired e = (N.far (N.far e) ≡ e) × Cabled N (N.far e) × (N.live (N.far e) ≡ N.live e)

    -- from end a of a row to its end b
    across : (e a b : Dart) → e ≡ a → N.far a ≡ b → N.far b ≡ a → N.live a ≡ N.live b → b ∈ ends_of N N.rows → Paired e
    across e a b q out back same m = (cc, rw (q, out) (L.end_cabled b m), cc)

    paired : (e : Dart) → Cabled N e → Paired e
    paired e c = let (r, m, q) = row_of N.rows e (L.cabled_end e c) in by r m q
      where
        by : (r : Row) → r ∈ N.rows → (e ≡ N.one r) ⊎ (e ≡ N.other r) → Paired e
        by r m (inl q) =
            across e (N.one r) (N.other r) q (L.far_one r m) (L.far_other r m) (L.live_both r m) (other_in N.rows r m)
        by r m (inr q) =
            across e (N.other r) (N.one r) q (L.far_other r m) (L.far_one r m) (sym (L.live_both r m)) (one_in N.rows r m)

    pub far_far : (e : Dart) → Live N e → N.far (N.far e) ≡ e
    far_far e l = (paired e l.0).0

    pub far_live : (e : Dart) → Live N e → Live N (N.far e)
    far_live e l = ((paired e l.0).1, (paired e l.0).2 ∙ l.1)

    pub entry_live : (way : List Dart) → All (Live N) way → (y : Dart) → y ∈ entries way → Live N y
    entry_live [] a y at = elim at [ ]
    entry_live (e ∷ way) a y at = grind (arith, far_live e a.0, entry_live way a.1 y)

    pub entry_left : (way : List Dart) → All (Live N) way → (y : Dart) → y ∈ entries way → N.far y ∈ way
    entry_left [] a y at = elim at [ ]
    entry_left (e ∷ way) a y at = grind (arith, far_far e a.0, entry_left way a.1 y)

    pub entries_once : (way : List Dart) → All (Live N) way → Once way → Once (entries way)
    entries_once [] a o = tt
    entries_once (e ∷ way) a o =
        (λ m. o.0 (subst (λ d. d ∈ way) (far_far e a.0) (entry_left way a.1 (N.far e) m)), entries_once way a.1 o.1)
