-- Two lists with the same elements, each as often, in any order: what the order of a list does not touch. Each law is by recursion over
-- the steps that lead from the one list to the other.
use mathlib.Core.List.Permᴰ
use mathlib.Core.List.{List, Permᴰ}
use mathlib.Core.List.Permᴰ.{nil, cons, swap, trans}
use mathlib.Core.Logic.{◌↔◌}
use native.Mathlib.Omega.{arith}
use Rattle.sheet.specs.Lists.{◌∈◌, Once}

module _ {A : Type 0} where
  pub permuted_in : {xs ys : List A} (z : A) → Permᴰ xs ys → z ∈ xs → z ∈ ys
  permuted_in z nil at = at
  permuted_in z (cons e p) at = grind (arith, permuted_in z p)
  permuted_in z (swap e e') at = grind arith
  permuted_in z (trans p q) at = permuted_in z q (permuted_in z p at)

  pub permuted_holds : {xs ys : List A} → Permᴰ xs ys → (z : A) → (z ∈ ys) ↔ (z ∈ xs)
  permuted_holds p z = (permuted_in z (Permᴰ.symm p), permuted_in z p)

  pub permuted_once : {xs ys : List A} → Permᴰ xs ys → Once xs → Once ys
  permuted_once nil once = once
  permuted_once (cons {a = x} e p) once = grind (arith, permuted_in x (Permᴰ.symm p), permuted_once p once.1)
  permuted_once (swap e e') once = grind arith
  permuted_once (trans p q) once = permuted_once q (permuted_once p once)
