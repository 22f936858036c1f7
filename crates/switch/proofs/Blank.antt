-- The first bytes of a tag: one of them is not 0 exactly if the test of rule 9 finds one.
use Prim.Native.Nat.{ℕ, zero, suc, ◌*◌, ◌<◌}
use mathlib.Core.Path.{◌≡◌, refl}
use mathlib.Core.List.{List, [], ◌∷◌}
use mathlib.Core.Bool.{Bool, true, false, not}
use mathlib.Core.Logic.{inl, inr}
use native.Mathlib.Omega.{arith}
use lib.ListN.{get_or, take}
use Rattle.std.proofs.lemmas.Bool.Decides.{nat_tests}
use Rattle.std.proofs.lemmas.Bool.{cases_eq}
use Rattle.std.specs.Prelude.{All}
use Rattle.sheet.specs.Lists.{either, any}
use Rattle.sheet.proofs.Tests.{Decides, true≢false}
use Rattle.switch.specs.Checks.{nonzero}
use Rattle.switch.specs.Exactly.{Not, Marked}

any_marked : (k : ℕ) (tag : List ℕ) → any nonzero (take k tag) ≡ true → (i : ℕ) × (i < k) × Not (get_or tag i 0 ≡ 0)
any_marked zero tag t = absurd (true≢false t refl)
any_marked (suc k) [] t = absurd (true≢false t refl)
any_marked (suc k) (b ∷ tag) t = elim (cases_eq b 0) [
  | inl e ↦ let (i, inside, marked) = any_marked k tag (grind (arith, nat_tests)) in (suc i, omega arith, marked)
  | inr not ↦ (0, omega arith, not)
]

marked_any : (k : ℕ) (tag : List ℕ) (i : ℕ) → i < k → Not (get_or tag i 0 ≡ 0) → any nonzero (take k tag) ≡ true
marked_any zero tag i inside marked = absurd (omega arith)
marked_any (suc k) [] i inside marked = absurd (marked refl)
marked_any (suc k) (b ∷ tag) zero inside marked = grind (arith, nat_tests)
marked_any (suc k) (b ∷ tag) (suc i) inside marked = grind (arith, marked_any k tag i)

pub marked : (n : ℕ) (tag : List ℕ) → Decides (any nonzero (take (2 * n) tag)) (Marked n tag)
marked n tag = (
  λ t. let (i, inside, not-0) = any_marked (2 * n) tag t in record { at = i; inside = inside; marked = not-0 },
  λ h. marked_any (2 * n) tag h.at h.inside h.marked,
)

-- ---- the test finds none exactly if all bytes are 0

pub none_marked : (bytes : List ℕ) → All (λ byte. byte ≡ 0) bytes → any nonzero bytes ≡ false
none_marked [] zeros = refl
none_marked (b ∷ bytes) zeros = rw (zeros 0 0 (omega arith)) (none_marked bytes (λ k d inside. zeros (suc k) d (omega arith)))

first_zero : (b : ℕ) (rest : Bool) → either (nonzero b) rest ≡ false → (b ≡ 0) × (rest ≡ false)
first_zero b rest none = grind (arith, nat_tests)

pub all_zero : (bytes : List ℕ) → any nonzero bytes ≡ false → All (λ byte. byte ≡ 0) bytes
all_zero [] none k d inside = absurd (omega arith)
all_zero (b ∷ bytes) none zero d inside = (first_zero b (any nonzero bytes) none).0
all_zero (b ∷ bytes) none (suc k) d inside = all_zero bytes (first_zero b (any nonzero bytes) none).1 k d (omega arith)
