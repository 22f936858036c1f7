-- Laws on the words of specs/Lists.antt, for lists of any kind: what stands in a list, what all its elements are, and that none stands
-- in it twice. Each is by recursion over the list.
use Prim.Native.Nat.{ℕ, zero, suc, ◌≤◌}
use mathlib.Core.Path.{◌≡◌, refl, ap}
use mathlib.Core.List.{List, [], ◌∷◌, ◌++◌, map}
use mathlib.Core.Logic.{◌⊎◌, inl, inr, ⊎_elim, ◌↔◌}
use mathlib.Core.Bool.{Bool, true}
use native.Mathlib.Omega.{arith}
use lib.ListN.{length}
use Rattle.std.proofs.lemmas.Bool.Decides.{same_from_decides}
use Rattle.sheet.specs.Lists.{pick, both, either, any, ◌∈◌, Once, All}

-- ---- tests

pub both_true : (a b : Bool) → both a b ≡ true → (a ≡ true) × (b ≡ true)
both_true a b e = grind arith

pub true_both : {a b : Bool} → a ≡ true → b ≡ true → both a b ≡ true
true_both p q = rw (p, q)

pub either_swap : (a b : Bool) → either a b ≡ either b a
either_swap a b = grind arith

-- tests that pass together are the same
pub same_test : (a b : Bool) → (a ≡ true → b ≡ true) → (b ≡ true → a ≡ true) → a ≡ b
same_test a b f g = same_from_decides {P = b ≡ true} a b (f, g) (λ t. t, λ t. t)

module _ {A : Type 0} where
  -- an element that passes the test
  abbrev pub Passing : (A → Bool) → List A → Type 0
  Passing f xs = (x : A) × (x ∈ xs) × (f x ≡ true)

  pub any_found : (f : A → Bool) (xs : List A) → any f xs ≡ true → Passing f xs
  any_found f [] e = cc
  any_found f (x ∷ xs) e = grind (arith, any_found f xs)

  pub found_any : (f : A → Bool) (xs : List A) (x : A) → x ∈ xs → f x ≡ true → any f xs ≡ true
  found_any f [] x at t = absurd at
  found_any f (y ∷ xs) x at t = grind (arith, found_any f xs x)

  -- ---- elements

  pub all_at : (P : A → Type 0) (xs : List A) (x : A) → All P xs → x ∈ xs → P x
  all_at P [] x ps at = absurd at
  all_at P (y ∷ xs) x ps at = grind (arith, all_at P xs x ps.1)

  pub all_of : (P : A → Type 0) (xs : List A) → ((x : A) → x ∈ xs → P x) → All P xs
  all_of P [] h = tt
  all_of P (y ∷ xs) h = (h y (inl refl), all_of P xs (λ x at. h x (inr at)))

  pub in_append : (x : A) (xs ys : List A) → (x ∈ (xs ++ ys)) ↔ ((x ∈ xs) ⊎ (x ∈ ys))
  in_append x [] ys = (inr, ⊎_elim (λ p. absurd p) (λ q. q))
  in_append x (y ∷ xs) ys = (grind (arith, in_append x xs ys), grind (arith, in_append x xs ys))

  pub in_right : (xs ys : List A) (x : A) → x ∈ ys → x ∈ (xs ++ ys)
  in_right xs ys x at = (in_append x xs ys).1 (inr at)

  -- a list with one element taken out
  unfoldable pub without : (x : A) (ys : List A) → x ∈ ys → List A
  without x [] at = []
  without x (y ∷ ys) (inl e) = ys
  without x (y ∷ ys) (inr at) = y ∷ without x ys at

  length_without : (x : A) (ys : List A) (at : x ∈ ys) → length ys ≡ suc (length (without x ys at))
  unfolding without
  length_without x [] at = absurd at
  length_without x (y ∷ ys) (inl e) = refl
  length_without x (y ∷ ys) (inr at) = ap suc (length_without x ys at)

  pub in_without : (x z : A) (ys : List A) (at : x ∈ ys) → z ∈ ys → (z ≡ x → ⊥) → z ∈ without x ys at
  unfolding without
  in_without x z [] at there other = there
  in_without x z (y ∷ ys) (inl e) there other = grind arith
  in_without x z (y ∷ ys) (inr at) there other = grind (arith, in_without x z ys at)

  -- the pigeonhole: of elements taken once each from a list there are no more than the list has
  pub once_length : (xs ys : List A) → Once xs → ((x : A) → x ∈ xs → x ∈ ys) → length xs ≤ length ys
  once_length [] ys once from = omega arith
  once_length (x ∷ xs) ys once from =
      omega (arith, length_without x ys at, once_length xs (without x ys at) once.1 still)
    where
      at : x ∈ ys
      at = from x (inl refl)

      still : (z : A) → z ∈ xs → z ∈ without x ys at
      still z there = in_without x z ys at (from z (inr there)) (λ e. once.0 (rw e at there))

-- the numbers 1 to k
up_to : ℕ → List ℕ
up_to zero = []
up_to (suc k) = suc k ∷ up_to k

length_up_to : (k : ℕ) → length (up_to k) ≡ k
unfolding up_to
length_up_to zero = refl
length_up_to (suc k) = ap suc (length_up_to k)

in_up_to : (k x : ℕ) → 1 ≤ x → x ≤ k → x ∈ up_to k
unfolding up_to
in_up_to zero x low high = omega arith
in_up_to (suc k) x low high = grind (arith, in_up_to k x low)

-- of different numbers from 1 to k there are at most k
pub once_within : (k : ℕ) (xs : List ℕ) → Once xs → ((x : ℕ) → x ∈ xs → (1 ≤ x) × (x ≤ k)) → length xs ≤ k
once_within k xs once range =
    omega (arith, length_up_to k, once_length xs (up_to k) once (λ x at. in_up_to k x (range x at).0 (range x at).1))

-- ---- elements and their images

module _ {A B : Type 0} where
  pub in_map : (f : A → B) (xs : List A) (x : A) → x ∈ xs → f x ∈ map f xs
  in_map f [] x at = at
  in_map f (y ∷ xs) x at = grind (arith, in_map f xs x)

  pub map_in : (f : A → B) (xs : List A) (y : B) → y ∈ map f xs → (x : A) × (x ∈ xs) × (y ≡ f x)
  map_in f [] y at = absurd at
  map_in f (x ∷ xs) y at = grind (arith, map_in f xs y)

  pub map_wider : (f : A → B) (xs ys : List A) → ((x : A) → x ∈ xs → x ∈ ys) → (y : B) → y ∈ map f xs → y ∈ map f ys
  map_wider f xs ys wider y at = let (x, there, e) = map_in f xs y at in rw e (in_map f ys x (wider x there))

  -- where no two have the same f, the f tells which element it is
  pub once_same : (f : A → B) (xs : List A) (x y : A) → Once (map f xs) → x ∈ xs → y ∈ xs → f x ≡ f y → x ≡ y
  once_same f [] x y once at there same = absurd at
  once_same f (z ∷ xs) x y once at there same =
      grind (arith, in_map f xs x, in_map f xs y, once_same f xs x y once.1)

module _ {A B C : Type 0} (f : A → B) (g : A → C) where
  -- where no two have the same f, and an equal g makes an equal f, no two have the same g
  pub once_finer : (xs : List A) → ((x y : A) → x ∈ xs → y ∈ xs → g x ≡ g y → f x ≡ f y) → Once (map f xs) → Once (map g xs)
  once_finer [] finer once = tt
  once_finer (x ∷ xs) finer once = (
    λ at. let (y, there, e) = map_in g xs (g x) at in once.0 (rw (finer x y (inl refl) (inr there) e) (in_map f xs y there)),
    once_finer xs (λ y z at there. finer y z (inr at) (inr there)) once.1,
  )

-- ---- the elements that pass a test

module _ {A : Type 0} (f : A → Bool) where
  abbrev pub those : List A → List A
  those [] = []
  those (x ∷ xs) = pick (f x) (x ∷ []) [] ++ those xs

  pub those_in : (xs : List A) (x : A) → x ∈ those xs → (x ∈ xs) × (f x ≡ true)
  those_in [] x at = absurd at
  those_in (y ∷ xs) x at = grind (arith, those_in xs x)

  pub in_those : (xs : List A) (x : A) → x ∈ xs → f x ≡ true → x ∈ those xs
  in_those [] x at t = at
  in_those (y ∷ xs) x at t = grind (arith, in_those xs x)

  pub once_those : {B : Type 0} (g : A → B) (xs : List A) → Once (map g xs) → Once (map g (those xs))
  once_those g [] once = tt
  once_those g (y ∷ xs) once =
      grind (arith, once_those g xs once.1, map_wider g (those xs) xs (λ x there. (those_in xs x there).0) (g y))
