-- The number of reached live cables is one number, and twice that number bounds a way through reached live darts: both ends of
-- each counted row, and no other darts, are the live darts of the reached switches.
use mathlib.Core.Path.{◌≡◌, refl, sym, ap, subst, ◌∙◌}
use mathlib.Core.List.{List, [], ◌∷◌}
use mathlib.Core.Bool.{Bool, true, false, false≢true}
use mathlib.Core.Logic.{◌⊎◌, inl, inr, ⊎_elim}
use Prim.Native.Nat.{ℕ, suc, ◌*◌, ◌≤◌}
use native.Mathlib.Omega.{arith}
use lib.ListN.{length}
use Rattle.sheet.specs.Lists.{◌∈◌, Once, All}
use Rattle.walk.specs.Network.{Dart, Network, Live, Reached, along, Counted, nothing, counts, skipped}
use Rattle.walk.proofs.Running.{ends_of, Lawful}
use Rattle.sheet.proofs.Lists.{all_at, once_length}
use Rattle.walk.proofs.Darts.{Due, one_in, other_in}

module _ {Row : Type 0} (N : Network Row) where
  ends_length : (rs : List Row) → length (ends_of N rs) ≡ 2 * length rs
  ends_length [] = refl
  ends_length (r ∷ rs) = omega (arith, ends_length rs)

  pub within_rows : Lawful N → (way : List Dart) → Once way → All (Live N) way → length way ≤ 2 * length N.rows
  within_rows L way once live = rw (← ends_length N.rows)
      (once_length way (ends_of N N.rows) once (λ e m. L.cabled_end e (all_at (Live N) way e live m).0))

  pub counted_one : {s : ℕ} {rs : List Row} {m m' : ℕ} → Counted N s rs m → Counted N s rs m' → m ≡ m'
  counted_one nothing nothing = refl
  counted_one (counts l t c) (counts l' t' c') = ap suc (counted_one c c')
  counted_one (counts l t c) (skipped n c') = absurd (n l t)
  counted_one (skipped n c) (counts l t c') = absurd (n l t)
  counted_one (skipped n c) (skipped n' c') = counted_one c c'

  module _ (s : ℕ) where
    -- a row that is counted
    abbrev pub Counts : Row → Type 0
    Counts r = (N.live (N.one r) ≡ true) × (Reached N s (N.one r).switch ⊎ Reached N s (N.other r).switch)

    pub counted : ((w : ℕ) → Dec (Reached N s w)) → (rs : List Row) → (m : ℕ) × Counted N s rs m
    counted reach [] = (0, nothing)
    counted reach (r ∷ rs) = by (N.live (N.one r)) refl (reach (N.one r).switch) (reach (N.other r).switch) (counted reach rs)
      where
        by : (b : Bool) → N.live (N.one r) ≡ b → Dec (Reached N s (N.one r).switch) → Dec (Reached N s (N.other r).switch)
            → (m : ℕ) × Counted N s rs m → (m : ℕ) × Counted N s (r ∷ rs) m
        by false dead a b (m, c) = (m, skipped (λ l t. false≢true (sym dead ∙ l)) c)
        by true l (yes a) b (m, c) = (suc m, counts l (inl a) c)
        by true l (no a) (yes b) (m, c) = (suc m, counts l (inr b) c)
        by true l (no a) (no b) (m, c) = (m, skipped (λ l t. ⊎_elim a b t) c)

    -- the ends of the counted rows
    abbrev kept : {rs : List Row} {m : ℕ} → Counted N s rs m → List Dart
    kept nothing = []
    kept (counts {r} l t c) = N.one r ∷ N.other r ∷ kept c
    kept (skipped n c) = kept c

    kept_length : {rs : List Row} {m : ℕ} (c : Counted N s rs m) → length (kept c) ≡ 2 * m
    kept_length nothing = refl
    kept_length (counts l t c) = omega (arith, kept_length c)
    kept_length (skipped n c) = kept_length c

    kept_end : {rs : List Row} {m : ℕ} (c : Counted N s rs m) (e : Dart) → e ∈ kept c → e ∈ ends_of N rs
    kept_end nothing e m = elim m [ ]
    kept_end (counts l t c) e (inl q) = inl q
    kept_end (counts l t c) e (inr (inl q)) = inr (inl q)
    kept_end (counts l t c) e (inr (inr m)) = inr (inr (kept_end c e m))
    kept_end (skipped n c) e m = inr (inr (kept_end c e m))

    kept_once : {rs : List Row} {m : ℕ} (c : Counted N s rs m) → Once (ends_of N rs) → Once (kept c)
    kept_once nothing o = tt
    kept_once (skipped n c) o = kept_once c o.1.1
    kept_once (counts {r} l t c) o = (
      λ m. o.0 (elim m [ inl q ↦ inl q | inr k ↦ inr (kept_end c (N.one r) k) ]),
      (λ m. o.1.0 (kept_end c (N.other r) m), kept_once c o.1.1),
    )

    module _ (L : Lawful N) where
      pub counts_due : (r : Row) → r ∈ N.rows → Counts r → Due N s (N.one r) × Due N s (N.other r)
      counts_due r m (l, t) = by t
        where
          one : Live N (N.one r)
          one = (L.end_cabled (N.one r) (one_in N N.rows r m), l)

          other : Live N (N.other r)
          other = (L.end_cabled (N.other r) (other_in N N.rows r m), sym (L.live_both r m) ∙ l)

          by : Reached N s (N.one r).switch ⊎ Reached N s (N.other r).switch → Due N s (N.one r) × Due N s (N.other r)
          by (inl a) = ((one, a), (other, subst (λ d. Reached N s d.switch) (L.far_one r m) (along a (N.one r).port one)))
          by (inr b) = ((one, subst (λ d. Reached N s d.switch) (L.far_other r m) (along b (N.other r).port other)), (other, b))

      kept_due : {rs : List Row} {m : ℕ} (c : Counted N s rs m) → ((r : Row) → r ∈ rs → r ∈ N.rows) → (e : Dart) → e ∈ kept c → Due N s e
      kept_due nothing within e m = elim m [ ]
      kept_due (counts {r} l t c) within e (inl q) = subst (Due N s) (sym q) (counts_due r (within r (inl refl)) (l, t)).0
      kept_due (counts {r} l t c) within e (inr (inl q)) = subst (Due N s) (sym q) (counts_due r (within r (inl refl)) (l, t)).1
      kept_due (counts l t c) within e (inr (inr m)) = kept_due c (λ x k. within x (inr k)) e m
      kept_due (skipped n c) within e m = kept_due c (λ x k. within x (inr k)) e m

      due_kept : {rs : List Row} {m : ℕ} (c : Counted N s rs m) → ((r : Row) → r ∈ rs → r ∈ N.rows)
          → (e : Dart) → e ∈ ends_of N rs → Due N s e → e ∈ kept c
      due_kept nothing within e at d = elim at [ ]
      due_kept (counts l t c) within e (inl q) d = inl q
      due_kept (counts l t c) within e (inr (inl q)) d = inr (inl q)
      due_kept (counts l t c) within e (inr (inr m)) d = inr (inr (due_kept c (λ x k. within x (inr k)) e m d))
      due_kept (skipped {r} n c) within e (inl q) d = absurd (n (sym (ap N.live q) ∙ d.0.1) (inl (rw q at d.1)))
      due_kept (skipped {r} n c) within e (inr (inl q)) d =
          absurd (n (L.live_both r (within r (inl refl)) ∙ sym (ap N.live q) ∙ d.0.1) (inr (rw q at d.1)))
      due_kept (skipped n c) within e (inr (inr m)) d = due_kept c (λ x k. within x (inr k)) e m d

      module _ {m : ℕ} (c : Counted N s N.rows m) (way : List Dart) where
        pub at_most : Once way → All (Due N s) way → length way ≤ 2 * m
        at_most once due = rw (← kept_length c) (once_length way (kept c) once
            (λ e k. let d = all_at (Due N s) way e due k in due_kept c (λ r l. l) e (L.cabled_end e d.0.0) d))

        pub at_least : ((e : Dart) → Due N s e → e ∈ way) → 2 * m ≤ length way
        at_least all = rw (← kept_length c)
            (once_length (kept c) way (kept_once c L.ends_once) (λ e k. all e (kept_due c (λ r l. l) e k)))
