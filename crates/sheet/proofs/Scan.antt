-- The walker and the scan as laws, so that no other file opens `record_at`, `scan` or `wholes`. The walker's answer is exactly what stands
-- at the position, since each of its tests decides one field; a scan is a chain of steps, each named by what the walker finds.
use Prim.Native.Nat.{ℕ, zero, suc, ◌+◌, ◌-◌, ◌≤◌, ◌<◌}
use mathlib.Core.Path.{◌≡◌, refl, sym, subst}
use mathlib.Core.List.{List, [], ◌∷◌, ◌++◌, map, append_assoc, append-nil}
use mathlib.Core.Logic.{inl, inr}
use native.Mathlib.Omega.{arith}
use lib.ListN.{length}
use borrow.Author.Tests.{le-leb, lt-leb, eq-eqb, ne_eqb}
use Rattle.std.proofs.lemmas.Bool.{cases_lt, cases_eq}
use Rattle.sheet.specs.Records.{record_at, Reading, right, wrong, scan, go_on, wholes}
use Rattle.sheet.specs.Standing.{form_at, Whole, OtherKind, Cut}
use Rattle.sheet.specs.declared.records.Place.{Place}
use Rattle.sheet.specs.declared.records.Found.{Found}
use Rattle.sheet.specs.declared.records.Found.TheVariants.{Record, WrongKind, CutShort, Ended}
use Rattle.sheet.specs.declared.rules.Rule.{Rule}
use Rattle.std.specs.Prelude.{All, Result, Ok, Err}

-- what each answer of the walker says
abbrev pub Standing : Place → List ℕ → ℕ → Found → Type 0
Standing place s at (Record next) = Whole place s at next
Standing place s at WrongKind = OtherKind place s at
Standing place s at CutShort = Cut place s at
Standing place s at Ended = length s ≤ at

module _ (place : Place) (s : List ℕ) (at : ℕ) where
  pub record_ended : length s ≤ at → record_at place s at ≡ Ended
  unfolding record_at
  record_ended h = rw (le-leb (length s) at h)

  pub record_kind : OtherKind place s at → record_at place s at ≡ WrongKind
  unfolding record_at
  record_kind h = rw (lt-leb (length s) at h.inside, ne_eqb (form_at s at).place.0 place.0 h.stands_not)

  pub record_cut : Cut place s at → record_at place s at ≡ CutShort
  unfolding record_at
  record_cut h =
      rw (
        lt-leb (length s) at h.inside,
        eq-eqb (form_at s at).place.0 place.0 h.stands,
        lt-leb (form_at s at).body (length s - at - 1) (omega arith),
      )

  pub record_whole : {next : ℕ} → Whole place s at next → record_at place s at ≡ Record next
  unfolding record_at
  record_whole h =
      rw (
        lt-leb (length s) at h.inside,
        eq-eqb (form_at s at).place.0 place.0 h.stands,
        le-leb (form_at s at).body (length s - at - 1) (omega arith),
        h.next_is,
      )

  -- each of the three tests decides one field
  found_so : Standing place s at (record_at place s at)
  found_so = elim (cases_lt at (length s)) [
    | inr over ↦ rw (record_ended over) over
    | inl inside ↦ elim (cases_eq (form_at s at).place.0 place.0) [
      | inr not ↦
          let other : OtherKind place s at = record { inside = inside; stands_not = not } in
          rw (record_kind other) other
      | inl stands ↦ elim (cases_lt (length s) (at + 1 + (form_at s at).body)) [
        | inl lack ↦
            let short : Cut place s at = record { inside = inside; stands = stands; short = lack } in
            rw (record_cut short) short
        | inr fits ↦
            let whole : Whole place s at (at + 1 + (form_at s at).body) =
            record { inside = inside; stands = stands; next_is = refl; fits = fits } in
            rw (record_whole whole) whole
      ]
    ]
  ]

  -- the walker's answer, read backwards
  pub found_is : {found : Found} → record_at place s at ≡ found → Standing place s at found
  found_is e = subst (Standing place s at) e found_so

module _ {A : Type 0} (place : Place) (broken : Rule) (read : List ℕ → ℕ → A) (check : List A → A → Result (Unit {0}) Rule) (s : List ℕ) where
  abbrev from : ℕ → ℕ → List A → Reading A
  from room at before = scan place broken read check room s at before

  -- the scan, one law for each thing that can happen at a record
  pub scan_ended : (room at : ℕ) (before : List A) → record_at place s at ≡ Ended → from room at before ≡ right before
  unfolding scan
  scan_ended zero at before e = rw e
  scan_ended (suc room) at before e = rw e

  pub scan_kind : (room at : ℕ) (before : List A) → record_at place s at ≡ WrongKind → from room at before ≡ wrong broken at 1
  unfolding scan
  scan_kind zero at before e = rw e
  scan_kind (suc room) at before e = rw e

  pub scan_cut : (room at : ℕ) (before : List A) → record_at place s at ≡ CutShort → from room at before ≡ wrong broken at (length s - at)
  unfolding scan
  scan_cut zero at before e = rw e
  scan_cut (suc room) at before e = rw e

  pub scan_full : (at next : ℕ) (before : List A) → record_at place s at ≡ Record next → from zero at before ≡ wrong broken at (next - at)
  unfolding scan
  scan_full at next before e = rw e

  pub scan_breaks : (room at next : ℕ) (before : List A) (rule : Rule) → record_at place s at ≡ Record next
      → check before (read s at) ≡ Err rule → from (suc room) at before ≡ wrong rule at (next - at)
  unfolding scan
  scan_breaks room at next before rule e c = rw (e, c)

  pub scan_fine : (room at next : ℕ) (before : List A) → record_at place s at ≡ Record next → check before (read s at) ≡ Ok tt
      → from (suc room) at before ≡ from room next (before ++ (read s at ∷ []))
  unfolding scan
  scan_fine room at next before e c = rw (e, c)

  -- the same laws as a relation between a scan's arguments and its answer, to be taken apart by cases
  pub data Scanned : ℕ → ℕ → List A → Reading A → Type 0 where
    ended : {room at : ℕ} {before : List A} → record_at place s at ≡ Ended → Scanned room at before (right before)
    kind : {room at : ℕ} {before : List A} → record_at place s at ≡ WrongKind → Scanned room at before (wrong broken at 1)
    cut : {room at : ℕ} {before : List A} → record_at place s at ≡ CutShort → Scanned room at before (wrong broken at (length s - at))
    full : {at next : ℕ} {before : List A} → record_at place s at ≡ Record next → Scanned zero at before (wrong broken at (next - at))
    breaks : {room at next : ℕ} {before : List A} {rule : Rule} → record_at place s at ≡ Record next → check before (read s at) ≡ Err rule
        → Scanned (suc room) at before (wrong rule at (next - at))
    fine : {room at next : ℕ} {before : List A} {reading : Reading A} → record_at place s at ≡ Record next → check before (read s at) ≡ Ok tt
        → Scanned room next (before ++ (read s at ∷ [])) reading → Scanned (suc room) at before reading

  scanned : (room at : ℕ) (before : List A) → Scanned room at before (from room at before)
  scanned zero at before = by_found (record_at place s at) refl
    where
      by_found : (found : Found) → record_at place s at ≡ found → Scanned zero at before (from zero at before)
      by_found (Record next) e = rw (scan_full at next before e) (full e)
      by_found WrongKind e = rw (scan_kind zero at before e) (kind e)
      by_found CutShort e = rw (scan_cut zero at before e) (cut e)
      by_found Ended e = rw (scan_ended zero at before e) (ended e)
  scanned (suc room) at before = by_found (λ next. scanned room next (before ++ (read s at ∷ []))) (record_at place s at) refl
    where
      by_check : (next : ℕ) → record_at place s at ≡ Record next
          → Scanned room next (before ++ (read s at ∷ [])) (from room next (before ++ (read s at ∷ [])))
          → (verdict : Result (Unit {0}) Rule) → check before (read s at) ≡ verdict
          → Scanned (suc room) at before (from (suc room) at before)
      by_check next e rest (Ok tt) c = rw (scan_fine room at next before e c) (fine e c rest)
      by_check next e rest (Err rule) c = rw (scan_breaks room at next before rule e c) (breaks e c)

      by_found : ((next : ℕ) → Scanned room next (before ++ (read s at ∷ [])) (from room next (before ++ (read s at ∷ []))))
          → (found : Found) → record_at place s at ≡ found → Scanned (suc room) at before (from (suc room) at before)
      by_found rest (Record next) e = by_check next e (rest next) (check before (read s at)) refl
      by_found rest WrongKind e = rw (scan_kind (suc room) at before e) (kind e)
      by_found rest CutShort e = rw (scan_cut (suc room) at before e) (cut e)
      by_found rest Ended e = rw (scan_ended (suc room) at before e) (ended e)

  pub scan_is : (room at : ℕ) (before : List A) {reading : Reading A} → from room at before ≡ reading
      → Scanned room at before reading
  scan_is room at before e = subst (Scanned room at before) e (scanned room at before)

  pub is_scan : {room at : ℕ} {before : List A} {reading : Reading A} → Scanned room at before reading
      → from room at before ≡ reading
  is_scan (ended {room = r} {at = a} {before = b} e) = scan_ended r a b e
  is_scan (kind {room = r} {at = a} {before = b} e) = scan_kind r a b e
  is_scan (cut {room = r} {at = a} {before = b} e) = scan_cut r a b e
  is_scan (full {at = a} {next = n} {before = b} e) = scan_full a n b e
  is_scan (breaks {room = r} {at = a} {next = n} {before = b} {rule = u} e c) = scan_breaks r a n b u e c
  is_scan (fine {room = r} {at = a} {next = n} {before = b} e c rest) = rw (scan_fine r a n b e c) (is_scan rest)

-- no more records: another kind, cut short, or ended
abbrev pub Stops : Found → Type 0
Stops (Record next) = ⊥
Stops WrongKind = Unit {0}
Stops CutShort = Unit {0}
Stops Ended = Unit {0}

module _ (place : Place) (s : List ℕ) where
  -- each of their positions is inside
  pub wholes_inside : (room at : ℕ) → All (λ start. start < length s) (wholes place (λ t start. start) room s at)
  unfolding wholes
  wholes_inside zero at k d below = absurd (omega (arith, below))
  wholes_inside (suc room) at k d below = go (record_at place s at) refl (λ next. wholes_inside room next) k d below
    where
      go : (found : Found) → record_at place s at ≡ found
          → ((next : ℕ) → All (λ start. start < length s) (wholes place (λ t start. start) room s next))
          → All (λ start. start < length s) (go_on found (λ next. at ∷ wholes place (λ t start. start) room s next))
      go (Record next) e rest zero d below = (found_is place s at e).inside
      go (Record next) e rest (suc k) d below = rest next k d (omega (arith, below))
      go WrongKind e rest k d below = absurd (omega (arith, below))
      go CutShort e rest k d below = absurd (omega (arith, below))
      go Ended e rest k d below = absurd (omega (arith, below))

module _ {A : Type 0} (place : Place) (read : List ℕ → ℕ → A) (s : List ℕ) where
  pub wholes_none : (at : ℕ) → wholes place read zero s at ≡ []
  unfolding wholes
  wholes_none at = refl

  pub wholes_next : (room at next : ℕ) → record_at place s at ≡ Record next
      → wholes place read (suc room) s at ≡ read s at ∷ wholes place read room s next
  unfolding wholes
  wholes_next room at next e = rw e

  pub wholes_stop : (room at : ℕ) (found : Found) → Stops found → record_at place s at ≡ found → wholes place read room s at ≡ []
  unfolding wholes
  wholes_stop zero at found other e = refl
  wholes_stop (suc room) at found other e = grind arith

  -- to read the records is to read at the position of each
  pub wholes_read : (room at : ℕ) → map (read s) (wholes place (λ t start. start) room s at) ≡ wholes place read room s at
  unfolding wholes
  wholes_read zero at = refl
  wholes_read (suc room) at = grind (arith, wholes_read room)

module _ {A : Type 0} (place : Place) (broken : Rule) (read : List ℕ → ℕ → A) (check : List A → A → Result (Unit {0}) Rule) (s : List ℕ) where
  -- a scan that finds nothing wrong has read every whole record
  scanned_wholes : {room at : ℕ} {before rows : List A} → Scanned place broken read check s room at before (right rows)
      → rows ≡ before ++ wholes place read room s at
  scanned_wholes (ended {room = r} {at = a} {before = b} e) = rw (wholes_stop place read s r a Ended tt e) (sym (append-nil b))
  scanned_wholes (fine {room = r} {at = a} {next = n} {before = b} e c rest) =
      rw (wholes_next place read s r a n e, ← append_assoc b (read s a ∷ []) (wholes place read r s n)) (scanned_wholes rest)

  pub scan_wholes : (room at : ℕ) (before : List A) {rows : List A} → scan place broken read check room s at before ≡ right rows
      → rows ≡ before ++ wholes place read room s at
  scan_wholes room at before e = scanned_wholes (scan_is place broken read check s room at before e)

  -- a wrong record lies in the bytes
  scanned_inside : {room at start size : ℕ} {before : List A} {rule : Rule}
      → Scanned place broken read check s room at before (wrong rule start size) → start + size ≤ length s
  scanned_inside (kind {at = a} e) = let h : OtherKind place s a = found_is place s a e in omega arith
  scanned_inside (cut {at = a} e) = let h : Cut place s a = found_is place s a e in omega arith
  scanned_inside (full {at = a} {next = n} e) = let h : Whole place s a n = found_is place s a e in omega arith
  scanned_inside (breaks {at = a} {next = n} e c) = let h : Whole place s a n = found_is place s a e in omega arith
  scanned_inside (fine e c rest) = scanned_inside rest

  pub scan_inside : (room at : ℕ) (before : List A) {rule : Rule} {start size : ℕ}
      → scan place broken read check room s at before ≡ wrong rule start size → start + size ≤ length s
  scan_inside room at before e = scanned_inside (scan_is place broken read check s room at before e)
