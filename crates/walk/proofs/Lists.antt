-- Laws of membership, of a list read from its other end, and of counting. The one that carries the sizes: where no element of a list
-- stands in it twice and its counted elements stand in another list, it counts no more than the other, since each takes away one of them.
use mathlib.Core.Path.{◌≡◌, refl, sym, ap, subst}
use mathlib.Core.List.Permᴰ
use mathlib.Core.List.{List, [], ◌∷◌, reverse}
use mathlib.Core.Bool.{Bool, true, false}
use mathlib.Core.Logic.{inl, inr, ⊎_elim}
use Prim.Native.Nat.{ℕ, ◌+◌, ◌≤◌}
use native.Mathlib.Omega.{arith}
use Rattle.sheet.specs.Lists.{◌∈◌, Once, All}
use Rattle.sheet.proofs.Lists.{all_at, all_of, without, in_without}
use Rattle.sheet.proofs.Permuted.{permuted_in, permuted_once}

abbrev pub tick : Bool → ℕ
tick true = 1
tick false = 0

module _ {A : Type 0} where
  -- ---- a list from its other end

  pub reverse_in : (xs : List A) (x : A) → x ∈ reverse xs → x ∈ xs
  reverse_in xs x = permuted_in x (Permᴰ.reverse xs)

  pub in_reverse : (xs : List A) (x : A) → x ∈ xs → x ∈ reverse xs
  in_reverse xs x = permuted_in x (Permᴰ.symm (Permᴰ.reverse xs))

  pub reverse_all : (P : A → Type 0) (xs : List A) → All P (reverse xs) → All P xs
  reverse_all P xs all = all_of P xs (λ x m. all_at P (reverse xs) x all (in_reverse xs x m))

  pub reverse_once : (xs : List A) → Once (reverse xs) → Once xs
  reverse_once xs = permuted_once (Permᴰ.reverse xs)

  decide_in : ((a b : A) → Dec (a ≡ b)) → (x : A) (ys : List A) → Dec (x ∈ ys)
  decide_in same x [] = no (λ m. m)
  decide_in same x (y ∷ ys) = by (same x y) (decide_in same x ys)
    where
      by : Dec (x ≡ y) → Dec (x ∈ ys) → Dec (x ∈ (y ∷ ys))
      by (yes e) d = yes (inl e)
      by (no n) (yes m) = yes (inr m)
      by (no n) (no k) = no (λ m. ⊎_elim n k m)

  -- ---- counting

  abbrev pub count : (A → Bool) → List A → ℕ
  count p [] = 0
  count p (x ∷ xs) = tick (p x) + count p xs

  count_without : (p : A → Bool) (x : A) (ys : List A) (m : x ∈ ys) → count p ys ≡ tick (p x) + count p (without x ys m)
  unfolding without
  count_without p x [] m = elim m [ ]
  count_without p x (y ∷ ys) (inl e) = grind arith
  count_without p x (y ∷ ys) (inr m) = omega (arith, count_without p x ys m)

  abbrev Within : (A → Bool) → List A → List A → Type 0
  Within p xs ys = (x : A) → x ∈ xs → p x ≡ true → x ∈ ys

  pub count_within : (p : A → Bool) (xs ys : List A) → Once xs → Within p xs ys → count p xs ≤ count p ys
  count_within p [] ys o h = omega arith
  count_within p (x ∷ xs) ys o h = by (p x) refl (λ zs. count_within p xs zs o.1)
    where
      by : (b : Bool) → p x ≡ b → ((zs : List A) → Within p xs zs → count p xs ≤ count p zs) → tick (p x) + count p xs ≤ count p ys
      by false e rest = omega (arith, ap tick e, rest ys (λ z l. h z (inr l)))
      by true e rest =
          let m = h x (inl refl) e in
          let new : (z : A) → z ∈ xs → z ≡ x → ⊥ = λ z l q. o.0 (subst (λ y. y ∈ xs) q l) in
          omega (arith, count_without p x ys m, rest (without x ys m) (λ z l t. in_without x z ys m (h z (inr l) t) (new z l)))

  -- where the other list counts no more, it has no further counted element
  pub none_left_out : ((a b : A) → Dec (a ≡ b)) → (p : A → Bool) (xs ys : List A) → Once xs → Within p xs ys
      → count p ys ≤ count p xs → Within p ys xs
  none_left_out same p xs ys o h fits y m t = by (decide_in same y xs)
    where
      with_y : Within p (y ∷ xs) ys
      with_y x (inl e) q = subst (λ z. z ∈ ys) (sym e) m
      with_y x (inr l) q = h x l q

      by : Dec (y ∈ xs) → y ∈ xs
      by (yes l) = l
      by (no k) = absurd (omega (arith, ap tick t, count_within p (y ∷ xs) ys (k, o) with_y))
