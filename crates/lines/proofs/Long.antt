-- A list of records that is longer than any accepted one is wrong for the same reason as its bytes up to one past the longest: the records
-- before the 513th lie before that byte, and the 513th, cut short there or not, is one of form.
use Prim.Native.Nat.{ℕ, ◌+◌, ◌*◌, ◌≤◌, ◌<◌}
use native.Mathlib.Nat.{mul-add, mul-le-mul_left}
use mathlib.Core.Path.{◌≡◌, refl, ap, subst}
use mathlib.Core.List.{List, [], ◌∷◌, ◌++◌}
use mathlib.Core.Bool.{Bool, true, false}
use native.Mathlib.Omega.{arith}
use lib.ListN.{length, take, length-append}
use lib.Seq.{get_or-take, length-take-le}
use lib.Dec.{leb}
use borrow.Author.Tests.{leb-true, leb-false}
use Rattle.sheet.specs.Records.{form_of}
use Rattle.sheet.specs.Standing.{form_at, Whole, OtherKind, Cut}
use Rattle.sheet.specs.Exactly.{Right, none, more, AllRight, FormWrong, other_kind, cut_short, one_too_many, RuleBroken, broken}
use Rattle.sheet.specs.declared.records.Place.{Place}
use Rattle.sheet.proofs.Right.{Listing, right_few}

module _ (place : Place) (s : List ℕ) (m : ℕ) (long : m ≤ length s) where
  size_is : length (take m s) ≡ m
  size_is = length-take-le m s long

  same_form : (at : ℕ) → at < m → form_at (take m s) at ≡ form_at s at
  same_form at h = ap form_of (get_or-take m s at 0 h)

  -- what stands before the cut stands in the prefix
  pub other_there : {at : ℕ} → at < m → OtherKind place s at → OtherKind place (take m s) at
  other_there {at} h other = record { inside = omega (arith, size_is); stands_not = rw (same_form at h) other.stands_not }

  pub whole_there : {at next : ℕ} → next ≤ m → Whole place s at next → Whole place (take m s) at next
  whole_there {at} {next} h whole =
      let before : at < m = omega (arith, whole.next_is) in
      record {
        inside = omega (arith, size_is);
        stands = rw (same_form at before) whole.stands;
        next_is = rw (same_form at before) whole.next_is;
        fits = omega (arith, size_is);
      }

  pub cut_there : {at : ℕ} → at < m → (form_at s at).place.0 ≡ place.0 → m < at + 1 + (form_at s at).body → Cut place (take m s) at
  cut_there {at} h stands short =
      record { inside = omega (arith, size_is); stands = rw (same_form at h) stands; short = rw (same_form at h, size_is) short }

module _ {A : Type 0} (listing : Listing A) (start size : ℕ)
    (sized : (s : List ℕ) (at next : ℕ) → Whole listing.place s at next → next ≡ at + size) where
  open listing use {place, read, Obeys}

  -- where the records end so far
  right_at : (s : List ℕ) {at : ℕ} {before : List A} → Right place read Obeys s start at before → at ≡ start + size * length before
  right_at s none = omega arith
  right_at s (more {at = at} {next = next} {before = before} chain few whole obeys) =
      let longer : length (before ++ (read s at ∷ [])) ≡ length before + 1 = length-append before (read s at ∷ []) in
      omega (
        arith,
        sized s at next whole,
        right_at s chain,
        ap (λ (k : ℕ). size * k) longer,
        mul-add size (length before) 1,
      )

  -- an accepted list is no longer than 512 records
  pub right_short : (s : List ℕ) {records : List A} → AllRight place read Obeys s start records → length s ≤ start + size * 512
  right_short s {records} all =
      omega (arith, right_at s all.right, mul-le-mul_left size (right_few listing s start all.right), all.ended)

  module _ (s : List ℕ) (m : ℕ) (long : m ≤ length s) (reach : start + size * 512 < m)
      (reads : (at : ℕ) → at + size ≤ m → read (take m s) at ≡ read s at) where
    -- a record with room after those before it lies before the cut
    room : {at : ℕ} {before : List A} → Right place read Obeys s start at before → length before < 512 → at + size ≤ m
    room {at} {before} chain few =
        let enough : size * (length before + 1) ≤ size * 512 = mul-le-mul_left size (omega arith) in
        omega (arith, right_at s chain, mul-add size (length before) 1)

    begins : {at : ℕ} {before : List A} → Right place read Obeys s start at before → at < m
    begins chain = omega (arith, right_at s chain, mul-le-mul_left size (right_few listing s start chain))

    there : {at next : ℕ} → at + size ≤ m → Whole place s at next → Whole place (take m s) at next
    there {at} {next} h whole = whole_there place s m long (omega (arith, sized s at next whole)) whole

    right_there : {at : ℕ} {before : List A} → Right place read Obeys s start at before → Right place read Obeys (take m s) start at before
    right_there none = none
    right_there (more {at = at} {next = next} {before = before} chain few whole obeys) =
        let h : at + size ≤ m = room chain few in
        subst (λ (x : A). Right place read Obeys (take m s) start next (before ++ (x ∷ []))) (reads at h)
        (more (right_there chain) few (there h whole) (rw (reads at h) obeys))

    pub form_there : FormWrong place read Obeys s start → FormWrong place read Obeys (take m s) start
    form_there (other_kind chain other) = other_kind (right_there chain) (other_there place s m long (begins chain) other)
    form_there (cut_short chain short) =
        cut_short (right_there chain) (cut_there place s m long (begins chain) short.stands (omega (arith, short.short)))
    form_there (one_too_many {at = at} {next = next} chain full whole) = by (leb next m) refl
      where
        by : (b : Bool) → leb next m ≡ b → FormWrong place read Obeys (take m s) start
        by true e = one_too_many (right_there chain) full (whole_there place s m long (leb-true next m e) whole)
        by false e = cut_short (right_there chain)
            (cut_there place s m long (begins chain) whole.stands (omega (arith, leb-false next m e, whole.next_is)))

    pub rule_there : RuleBroken place read Obeys s start → RuleBroken place read Obeys (take m s) start
    rule_there (broken {at = at} {next = next} chain few whole breaks) =
        let h : at + size ≤ m = room chain few in
        broken (right_there chain) few (there h whole) (rw (reads at h) breaks)
