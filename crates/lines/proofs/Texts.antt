-- Laws on text. Texts added one after another are added as one text; a number's digits are those that the library prints; a
-- whole line is set into its buffer as far as it fits.
use Prim.Native.Nat.{ℕ, zero, suc, min, ◌+◌, ◌-◌, ◌/◌, ◌%◌, ◌^◌, ◌≤◌, ◌<◌}
use native.Mathlib.Nat.{add-zero}
use native.Mathlib.Numerals.{add-one}
use mathlib.Core.Path.{◌≡◌, refl, sym, ap, ◌∙◌}
use mathlib.Core.List.{List, [], ◌∷◌, ◌++◌}
use mathlib.Core.Logic.{◌⊎◌, inl, inr}
use mathlib.Core.Bool.{Bool, true, false}
use native.Mathlib.Omega.{arith}
use lib.ListN.{length, get_or, take, set}
use lib.Seq.{sets, take-nil, take-suc}
use lib.Dec.{leb}
use borrow.Author.Tests.{leb-true, leb-false}
use Rattle.std.proofs.lemmas.Bool.Decides.{nat_tests}
use Rattle.std.proofs.lemmas.Fmt.{decimal_from_appends, length-decimal-le, length-decimal-le_succ}
use Rattle.std.specs.Fmt as printed
use Rattle.lines.specs.Text.{digits, decimal, one_more, added, filled}
use Rattle.lines.specs.declared.text.Line.{Line}

-- ---- numbers

digits_less : (most n : ℕ) → n < 10 → digits (suc most) n ≡ (48 + n) ∷ []
unfolding digits
digits_less most n h = grind (arith, nat_tests)

digits_more : (most n : ℕ) → 10 ≤ n → digits (suc most) n ≡ digits most (n / 10) ++ ((48 + n % 10) ∷ [])
unfolding digits
digits_more most n h = grind (arith, nat_tests)

ten : (n : ℕ) → (n < 10) ⊎ (10 ≤ n)
ten n = by (leb 10 n) refl
  where
    by : (b : Bool) → leb 10 n ≡ b → (n < 10) ⊎ (10 ≤ n)
    by true e = inr (leb-true 10 n e)
    by false e = inl (leb-false 10 n e)

-- room beyond what the digits need changes nothing
digits_same : (j k n : ℕ) → n < j → n < k → digits j n ≡ digits k n
digits_same zero k n h h' = absurd (omega arith)
digits_same (suc j) zero n h h' = absurd (omega arith)
digits_same (suc j) (suc k) n h h' = by (ten n) (λ a b. digits_same j k (n / 10) a b)
  where
    by : (n < 10) ⊎ (10 ≤ n) → (n / 10 < j → n / 10 < k → digits j (n / 10) ≡ digits k (n / 10)) → digits (suc j) n ≡ digits (suc k) n
    by (inl small) rest = digits_less j n small ∙ sym (digits_less k n small)
    by (inr large) rest =
        digits_more j n large
        ∙ ap (λ (l : List ℕ). l ++ ((48 + n % 10) ∷ [])) (rest (omega arith) (omega arith))
        ∙ sym (digits_more k n large)

-- a number of any size: one digit, or those of its tenth and one more
module _ (n : ℕ) where
  pub decimal_less : n < 10 → decimal n ≡ (48 + n) ∷ []
  unfolding decimal
  decimal_less h = digits_less n n h

  pub decimal_more : 10 ≤ n → decimal n ≡ decimal (n / 10) ++ ((48 + n % 10) ∷ [])
  unfolding decimal
  decimal_more h =
      digits_more n n h
      ∙ ap (λ (l : List ℕ). l ++ ((48 + n % 10) ∷ [])) (digits_same n (suc (n / 10)) (n / 10) (omega arith) (omega arith))

-- a number of 64 bits has the digits that the library prints
module _ (n : ℕ) (h : n < 2 ^ 64) where
  pub decimal_printed : decimal n ≡ printed.decimal n
  unfolding decimal
  decimal_printed =
      decimal_from_appends digits (record { one = digits_less; more = digits_more }) (suc n) n h
      (omega (arith, length-decimal-le_succ n h))

  decimal_length : (most : ℕ) → 0 < most → n < 10 ^ most → length (decimal n) ≤ most
  decimal_length most some few = rw decimal_printed (length-decimal-le most n some few h)

-- so many digits has a number of 64 bits, and so many a byte
pub decimal_word : (n : ℕ) → n < 2 ^ 64 → length (decimal n) ≤ 20
decimal_word n h = decimal_length n h 20 (omega arith) (omega arith)

pub decimal_byte : (n : ℕ) → n < 256 → length (decimal n) ≤ 3
decimal_byte n h = decimal_length n (omega arith) 3 (omega arith) (omega arith)

-- ---- text in a line

pub added_append : (line : Line) (a b : List ℕ) → added line (a ++ b) ≡ added (added line a) b
added_append line [] b = refl
added_append line (x ∷ a) b = added_append (one_more line x) a b

-- one byte more of a text
pub added_next : (line : Line) (text : List ℕ) (i : ℕ) → i < length text
    → added line (take (i + 1) text) ≡ one_more (added line (take i text)) (get_or text i 0)
added_next line text i h = rw (add-one i, take-suc text i 0) (added_append line (take i text) (get_or text i 0 ∷ []))

-- ---- a whole line

-- where the count stays small, the text is set from the line's end on
added_sets : (line : Line) (text : List ℕ) → line.size + length text < 2 ^ 64
    → added line text ≡ record line {
      buffer = record line.buffer { now = sets line.buffer.now line.size text };
      size = line.size + length text;
    }
added_sets line [] h = ap (λ (k : ℕ). record line { size = k }) (sym (add-zero line.size))
added_sets line (x ∷ text) h =
    ap (λ (k : ℕ). added (record line { buffer = record line.buffer { now = set line.buffer.now line.size x }; size = k }) text) one
    ∙ added_sets (record line { buffer = record line.buffer { now = set line.buffer.now line.size x }; size = suc line.size }) text
    (omega arith)
    ∙ ap (λ (k : ℕ).
    record line { buffer = record line.buffer { now = sets (set line.buffer.now line.size x) (suc line.size) text }; size = k })
    (omega arith)
  where
    one : min (line.size + 1) (2 ^ 64 - 1) ≡ suc line.size
    one = omega arith

-- from the front on: as much as fits
sets_later : (x : ℕ) (line : List ℕ) (at : ℕ) (a : List ℕ) → sets (x ∷ line) (suc at) a ≡ x ∷ sets line at a
sets_later x line at [] = refl
sets_later x line at (b ∷ a) = sets_later x (set line at b) (suc at) a

sets_nothing : (at : ℕ) (a : List ℕ) → sets [] at a ≡ []
sets_nothing at [] = refl
sets_nothing at (b ∷ a) = sets_nothing (suc at) a

sets_filled : (line text : List ℕ) → sets line 0 text ≡ filled text line
sets_filled line [] = simp take-nil
sets_filled [] (b ∷ text) = sets_nothing 1 text
sets_filled (x ∷ line) (b ∷ text) = sets_later b line 0 text ∙ ap (λ (l : List ℕ). b ∷ l) (sets_filled line text)

-- a line that was begun in a buffer and added to
pub record Done (before after : Line) (text : List ℕ) : Type 0 where
  pub same_buffer : after.buffer.ghost_name ≡ before.buffer.ghost_name
  pub line_is : after.buffer.now ≡ filled text before.buffer.now
  pub size_is : after.size ≡ length text

pub line_done : {before after : Line} {text : List ℕ} → before.size ≡ 0 → length text < 2 ^ 64 → after ≡ added before text
    → Done before after text
line_done {before} {after} {text} begun short told =
    record {
      same_buffer = ap (λ (l : Line). l.buffer.ghost_name) whole;
      line_is = ap (λ (l : Line). l.buffer.now) whole ∙ ap (λ (k : ℕ). sets before.buffer.now k text) begun
          ∙ sets_filled before.buffer.now text;
      size_is = ap (λ (l : Line). l.size) whole ∙ omega arith;
    }
  where
    whole : after ≡ record before {
      buffer = record before.buffer { now = sets before.buffer.now before.size text };
      size = before.size + length text;
    }
    whole = told ∙ added_sets before text (omega arith)
