-- The walk over a fault list for one cable: a fault that names neither end leaves the question to the faults after it.
use Prim.Native.Nat.{ℕ, suc, ◌<◌}
use mathlib.Core.Path.{◌≡◌, ap, sym, subst}
use mathlib.Core.List.{List, ◌∷◌, map}
use mathlib.Core.Bool.{false}
use native.Mathlib.Omega.{arith}
use lib.ListN.{length}
use Rattle.std.specs.List.{All}
use Rattle.sheet.specs.Records.{wholes, fault}
use Rattle.sheet.specs.Cables.{carries}
use Rattle.sheet.specs.Faults.{fault_at, faults_of, live}
use Rattle.sheet.specs.Order.{start_at}
use Rattle.sheet.specs.declared.cables.Cable.{Cable}
use Rattle.sheet.proofs.Scan.{wholes_read, wholes_inside}

-- the answer is that of the faults whose positions are left, all inside the bytes
pub record Asks (s : List ℕ) (c : Cable) (left : List ℕ) : Type 0 where
  pub same : live (faults_of s) c ≡ live (map (fault_at s) left) c
  pub inside : All (λ start. start < length s) left

-- before the first fault
pub asks_all : {s : List ℕ} {c : Cable} {first starts : List ℕ} → first ≡ wholes fault start_at 512 s 0 → starts ≡ first → Asks s c starts
unfolding faults_of
asks_all {s} {c} e p = rw (p, e) (record {
  same = ap (λ faults. live faults c) (sym (wholes_read fault fault_at s 512 0));
  inside = wholes_inside fault s 512 0;
})

-- a fault that names neither end
pub asks_next : {s : List ℕ} {c : Cable} {starts left : List ℕ} {at : ℕ} → Asks s c starts → starts ≡ at ∷ left
    → carries (fault_at s at).switch (fault_at s at).port c ≡ false → Asks s c left
unfolding live
asks_next {s} asks next by = record {
  same = grind arith;
  inside = λ k d below. (subst (All (λ start. start < length s)) next asks.inside) (suc k) d (omega (arith, below));
}
