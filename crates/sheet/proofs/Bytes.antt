-- Laws on the table of kinds, on the first bytes of a list, and on what holds along a list that is put together of two.
use Prim.Native.Nat.{ℕ, zero, suc, ◌+◌, ◌≤◌}
use mathlib.Core.Path.{◌≡◌, refl, ◌∙◌, ap}
use mathlib.Core.List.{List, [], ◌∷◌, ◌++◌}
use mathlib.Core.Logic.{inr, ◌↔◌}
use native.Mathlib.Omega.{arith}
use lib.ListN.{length, get_or, drop}
use Rattle.sheet.specs.Lists.{◌∈◌, Once, All}
use Rattle.sheet.specs.Records.{form_of}
use Rattle.sheet.specs.Standing.{Whole}
use Rattle.sheet.proofs.Lists.{in_append}

-- in the table a kind stands at the place of its own number, or nowhere
stands_kind : (k place : ℕ) → (form_of k).place.0 ≡ suc place → k ≡ suc place
unfolding form_of
stands_kind zero place e = e
stands_kind (suc zero) place e = e
stands_kind (suc (suc zero)) place e = e
stands_kind (suc (suc (suc zero))) place e = e
stands_kind (suc (suc (suc (suc zero)))) place e = e
stands_kind (suc (suc (suc (suc (suc k))))) place e = absurd (omega arith)

-- so a whole record has its place's kind, and the length of that kind
pub whole_form : (place : ℕ) {s : List ℕ} {at next : ℕ} → Whole (record { 0 = suc place }) s at next
    → (get_or s at 0 ≡ suc place) × (next ≡ at + 1 + (form_of (suc place)).body)
whole_form place {s} {at} whole =
    let kind : get_or s at 0 ≡ suc place = stands_kind (get_or s at 0) place whole.stands in
    (kind, whole.next_is ∙ ap (λ (k : ℕ). at + 1 + (form_of k).body) kind)

-- the first values of a function
abbrev pub firsts : {A : Type 0} → ℕ → (ℕ → A) → List A
firsts zero f = []
firsts (suc k) f = f 0 ∷ firsts k (λ i. f (suc i))

-- so many bytes, one by one, and the rest
pub first_bytes : (k : ℕ) (s : List ℕ) → k ≤ length s → s ≡ firsts k (λ i. get_or s i 0) ++ drop k s
first_bytes zero s h = refl
first_bytes (suc k) [] h = absurd (omega arith)
first_bytes (suc k) (x ∷ s) h = ap (λ (l : List ℕ). x ∷ l) (first_bytes k s (omega arith))

module _ {A : Type 0} where
  pub all_append : (P : A → Type 0) (xs ys : List A) → All P (xs ++ ys) ↔ (All P xs × All P ys)
  all_append P [] ys = (λ h. (tt, h), λ h. h.1)
  all_append P (x ∷ xs) ys = (
    λ h. ((h.0, ((all_append P xs ys).0 h.1).0), ((all_append P xs ys).0 h.1).1),
    λ h. (h.0.0, (all_append P xs ys).1 (h.0.1, h.1)),
  )

  -- each part has its elements once, and no element stands in both
  pub record Apart (xs ys : List A) : Type 0 where
    pub first : Once xs
    pub second : Once ys
    pub apart : (x : A) → x ∈ xs → x ∈ ys → ⊥

  pub once_append : (xs ys : List A) → Once (xs ++ ys) ↔ Apart xs ys
  once_append [] ys = (λ h. record { first = tt; second = h; apart = λ x p. absurd p }, λ h. h.second)
  once_append (y ∷ xs) ys = (
    λ h. let rest = (once_append xs ys).0 h.1 in record {
      first = (λ m. grind (arith, in_append y xs ys), rest.first);
      second = rest.second;
      apart = λ x m n. grind (arith, in_append x xs ys, rest.apart x);
    },
    λ h. (
      λ m. grind (arith, in_append y xs ys, h.apart y),
      (once_append xs ys).1 (record { first = h.first.1; second = h.second; apart = λ x p q. h.apart x (inr p) q }),
    ),
  )
