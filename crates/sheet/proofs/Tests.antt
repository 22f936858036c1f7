-- Tests that decide statements, put together as their statements are; and verdicts that judge one: nothing wrong exactly if it holds, and
-- whatever is found wrong has one refusal number.
use Prim.Native.Nat.{ℕ, ◌≤◌}
use mathlib.Core.Path.{◌≡◌, refl}
use mathlib.Core.Logic.{◌⊎◌, ◌↔◌}
use mathlib.Core.Bool.{Bool, true, false}
use native.Mathlib.Omega.{arith}
use lib.Dec.{leb, eqb}
use borrow.Author.Tests.{leb-true, le-leb, eqb-true, eq-eqb}
use Rattle.sheet.specs.Lists.{pick, both, either}
use Rattle.sheet.specs.Refusals.{number_of}
use Rattle.sheet.specs.declared.rules.Rule.{Rule}
use Rattle.std.proofs.lemmas.Bool.{false_from_ne_true}
use Rattle.std.specs.Prelude.{Result, Ok, Err}

-- the test passes exactly if P holds
abbrev pub Decides : Bool → Type 0 → Type 0
Decides test P = (test ≡ true) ↔ P

pub true≢false : {b : Bool} → b ≡ true → b ≡ false → ⊥
true≢false p q = cc

pub fails : {P : Type 0} (test : Bool) → Decides test P → (P → ⊥) → test ≡ false
fails test decides never = false_from_ne_true test (λ t. never (decides.0 t))

pub decides-≤ : (a b : ℕ) → Decides (leb a b) (a ≤ b)
decides-≤ a b = (leb-true a b, le-leb a b)

pub decides-≡ : (a b : ℕ) → Decides (eqb a b) (a ≡ b)
decides-≡ a b = (eqb-true a b, eq-eqb a b)

pub decides-× : {P Q : Type 0} (a b : Bool) → Decides a P → Decides b Q → Decides (both a b) (P × Q)
decides-× a b d e = (grind arith, grind arith)

pub decides-⊎ : {P Q : Type 0} (a b : Bool) → Decides a P → Decides b Q → Decides (either a b) (P ⊎ Q)
decides-⊎ a b d e = (grind arith, grind arith)

-- a verdict on whether P holds; its rule breaks have one refusal number
pub data Judges (number : ℕ) (P : Type 0) : Result (Unit {0}) Rule → Type 0 where
  obeyed : P → Judges number P (Ok tt)
  disobeyed : {rule : Rule} → number_of rule ≡ number → (P → ⊥) → Judges number P (Err rule)

pub when_fine : {number : ℕ} {P : Type 0} → Judges number P (Ok tt) → P
when_fine (obeyed p) = p

pub when_breaks : {number : ℕ} {P : Type 0} {rule : Rule} → Judges number P (Err rule) → (number_of rule ≡ number) × (P → ⊥)
when_breaks (disobeyed n never) = (n, never)

pub fine_when : {number : ℕ} {P : Type 0} {v : Result (Unit {0}) Rule} → Judges number P v → P → v ≡ Ok tt
fine_when (obeyed p) q = refl
fine_when (disobeyed n never) q = absurd (never q)

module _ {number : ℕ} {P T : Type 0} (test : Bool) (rest : Result (Unit {0}) Rule) (rule : Rule) (numbered : number_of rule ≡ number)
    (decides : Decides test T) where
  -- a test that a right record passes
  pub judges_pass : (P → T) → (T → Judges number P rest) → Judges number P (pick test rest (Err rule))
  judges_pass needs then = grind (arith, then, decides, λ (n : P → ⊥). disobeyed {rule = rule} numbered n)

  -- a test that a right record fails
  pub judges_fail : (P → T → ⊥) → ((T → ⊥) → Judges number P rest) → Judges number P (pick test (Err rule) rest)
  judges_fail shuns then = grind (arith, then, decides, λ (n : P → ⊥). disobeyed {rule = rule} numbered n)
