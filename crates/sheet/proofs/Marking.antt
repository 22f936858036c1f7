-- The table of used ports. Setting bit p of a number changes no other bit, so that marking a port marks that port alone.
use Prim.Native.Nat.{ℕ, suc, ◌+◌, ◌-◌, ◌*◌, ◌/◌, ◌%◌, ◌^◌, ◌<◌, max}
use mathlib.Core.Path.{◌≡◌, refl, sym}
use mathlib.Core.List.{List, [], ◌∷◌, ◌++◌}
use native.Mathlib.Omega.{arith}
use native.Mathlib.Nat.{mod-lt, div-eq_of_lt, mul_assoc, one-mul, zero-div}
use lib.ListN.{get_or, set, length, replicate, get_or-replicate}
use lib.Seq.{get_or-set_same, get_or-set_other}
use lib.Dec.{eqb, lit<}
use lib.Pow.{pow-add, pow-lt, shl_exact, shl-shr}
use lib.Arith.{digits_mod}
use lib.Bits.{bit_or, or_shr, or_step, shifted_even}
use Rattle.std.proofs.lemmas.Bool.Decides.{nat_tests}
use Rattle.sheet.specs.Lists.{pick, both, either}
use Rattle.sheet.specs.Cables.{cabled, carries}
use Rattle.sheet.specs.Used.{bit, marked, Marks}
use Rattle.sheet.specs.Sound.{Within}
use Rattle.sheet.specs.declared.cables.Cable.{Cable}

-- the lowest bit of an or
or_odd : (x y : ℕ) → bit_or x y % 2 ≡ max (x % 2) (y % 2)
or_odd x y =
    let a : x % 2 < 2 = mod-lt x (lit< tt) in
    let b : y % 2 < 2 = mod-lt y (lit< tt) in
    rw (or_step x y) (digits_mod (bit_or (x / 2) (y / 2)) (omega arith))

-- the bits of a single set bit
one_bit : (p q : ℕ) → 1 * 2 ^ p / 2 ^ q % 2 ≡ pick (eqb p q) 1 0
one_bit p q = grind (arith, nat_tests, above, below (p - q - 1), shl-shr 1 q)
  where
    below : (d : ℕ) → p ≡ suc d + q → 1 * 2 ^ p / 2 ^ q % 2 ≡ 0
    below d split =
        let power : 1 * 2 ^ p ≡ 1 * 2 ^ suc d * 2 ^ q = rw (split, pow-add 2 (suc d) q) (sym (mul_assoc 1 (2 ^ suc d) (2 ^ q))) in
        rw (power, shl-shr (1 * 2 ^ suc d) q) (shifted_even 1 d)

    above : p < q → 1 * 2 ^ p / 2 ^ q % 2 ≡ 0
    above l = rw (one-mul (2 ^ p), div-eq_of_lt (pow-lt l)) refl

-- or with a bit sets that bit and keeps the others
pub bit_set : (word p q : ℕ) → p < 64 → bit q (bit_or word (1 * 2 ^ p % 18446744073709551616)) ≡ either (eqb p q) (bit q word)
bit_set word p q small =
    rw (shl_exact {a = 1} 1 p 64 (lit< tt) (omega arith), or_shr word (1 * 2 ^ p) q, or_odd (word / 2 ^ q) (1 * 2 ^ p / 2 ^ q), one_bit p q)
    (grind (arith, nat_tests))

module _ (table : List ℕ) (v p : ℕ) (size : length table ≡ 64) (switch : Within 64 v) (port : Within 48 p) where
  -- a port in range, marked in a table, is the only change
  pub mark_port : (w q : ℕ) → marked (set table (v - 1) (bit_or (get_or table (v - 1) 0) (1 * 2 ^ p % 18446744073709551616))) w q
      ≡ either (both (eqb v w) (eqb p q)) (marked table w q)
  unfolding marked
  mark_port w q = grind (arith, nat_tests, get_or-set_same {A = ℕ}, get_or-set_other {A = ℕ}, bit_set)

-- one row more
pub cabled_snoc : (rows : List Cable) (c : Cable) (v p : ℕ) → cabled (rows ++ (c ∷ [])) v p ≡ either (carries v p c) (cabled rows v p)
unfolding cabled
cabled_snoc [] c v p = refl
cabled_snoc (d ∷ rows) c v p = grind (arith, cabled_snoc rows c v p)

-- a table of zeros marks nothing
pub marks_none : Marks (replicate 64 0) []
unfolding marked cabled
marks_none = record { size = refl; ports = λ v p. grind (arith, nat_tests, get_or-replicate {A = ℕ} 64 (v - 1) 0 0, zero-div (2 ^ p)) }
