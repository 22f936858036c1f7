-- The sheet's reading: its front record decides, or the scan of its rows does. So a reading tells which statement of the table holds, and
-- each statement fixes the reading; the rows are the whole rows of the bytes, and a wrong record lies in them.
use Prim.Native.Nat.{ℕ, ◌+◌, ◌-◌, ◌≤◌}
use mathlib.Core.Path.{◌≡◌, refl, sym, subst}
use mathlib.Core.List.{List, []}
use mathlib.Core.Logic.{inl, inr}
use mathlib.Core.Bool.{Bool, true, false}
use native.Mathlib.Omega.{arith}
use lib.ListN.{length}
use Rattle.sheet.specs.Records.{form_of, record_at, Reading, right, wrong, scan, front, row}
use Rattle.sheet.specs.Cables.{cable_at, within, row_rule, switches_of, sheet_reading, rows_of}
use Rattle.sheet.specs.Refusals.{number_of}
use Rattle.sheet.specs.Sound.{Within}
use Rattle.sheet.specs.Standing.{Whole, OtherKind, Cut}
use Rattle.sheet.specs.Exactly.{FrontRight, RowsRight, empty, front_kind, front_cut, later, SheetRefusal, by_form, by_count, by_row}
use Rattle.sheet.specs.declared.cables.Cable.{Cable}
use Rattle.sheet.specs.declared.records.Found.{Found}
use Rattle.sheet.specs.declared.records.Found.TheVariants.{Record, WrongKind, CutShort, Ended}
use Rattle.sheet.specs.declared.rules.Rule.{Rule}
use Rattle.sheet.specs.declared.rules.Rule.TheVariants.{SheetForm, SwitchCount}
use Rattle.sheet.proofs.Scan.{record_ended, record_kind, record_cut, record_whole, found_is, scan_wholes, scan_inside}
use Rattle.sheet.proofs.Tests.{true≢false, fails}
use Rattle.sheet.proofs.Bytes.{whole_form}
use Rattle.sheet.proofs.Right.{Tells, scan_tells, scan_right, scan_form, scan_broken, WrongWith}
use Rattle.sheet.proofs.Rows.{decides_within, row_listing}

module _ (s : List ℕ) where
  abbrev rows_reading : Reading Cable
  rows_reading = scan row SheetForm cable_at (row_rule (switches_of s)) 512 s 2 []

  -- the sheet's reading, by what stands at its front
  data SheetRead : Reading Cable → Type 0 where
    no_front : length s ≡ 0 → SheetRead (wrong SheetForm 0 0)
    other_front : OtherKind front s 0 → SheetRead (wrong SheetForm 0 1)
    cut_front : Cut front s 0 → SheetRead (wrong SheetForm 0 (length s - 0))
    wrong_count : Whole front s 0 2 → (Within 64 (switches_of s) → ⊥) → SheetRead (wrong SwitchCount 0 2)
    front_then : {reading : Reading Cable} → FrontRight s → rows_reading ≡ reading → SheetRead reading

  is_sheet : {reading : Reading Cable} → SheetRead reading → sheet_reading s ≡ reading
  unfolding sheet_reading
  is_sheet (no_front none) = rw (record_ended front s 0 (omega arith))
  is_sheet (other_front other) = rw (record_kind front s 0 other)
  is_sheet (cut_front short) = rw (record_cut front s 0 short)
  is_sheet (wrong_count whole outside) =
      rw (record_whole front s 0 whole, fails (within 64 (switches_of s)) (decides_within 64 (switches_of s)) outside)
  is_sheet (front_then first e) = rw (record_whole front s 0 first.whole, (decides_within 64 (switches_of s)).1 first.count) e

  -- one answer that is so is the answer
  some_read : {reading : Reading Cable} → SheetRead reading → SheetRead (sheet_reading s)
  some_read h = rw (is_sheet h) h

  sheet_read : SheetRead (sheet_reading s)
  unfolding form_of
  sheet_read = by_found (record_at front s 0) refl
    where
      by_switches : Whole front s 0 2 → (b : Bool) → within 64 (switches_of s) ≡ b → SheetRead (sheet_reading s)
      by_switches whole true inside =
          some_read (front_then (record { whole = whole; count = (decides_within 64 (switches_of s)).0 inside }) refl)
      by_switches whole false outside =
          some_read (wrong_count whole (λ h. true≢false ((decides_within 64 (switches_of s)).1 h) outside))

      by_found : (found : Found) → record_at front s 0 ≡ found → SheetRead (sheet_reading s)
      by_found (Record next) e =
          let whole : Whole front s 0 next = found_is front s 0 e in
          by_switches (subst (Whole front s 0) (whole_form 0 whole).1 whole) (within 64 (switches_of s)) refl
      by_found WrongKind e = some_read (other_front (found_is front s 0 e))
      by_found CutShort e = some_read (cut_front (found_is front s 0 e))
      by_found Ended e =
          let none : length s ≤ 0 = found_is front s 0 e in
          some_read (no_front (omega arith))

  sheet_is : {reading : Reading Cable} → sheet_reading s ≡ reading → SheetRead reading
  sheet_is e = subst SheetRead e sheet_read

  -- what a reading tells of the records
  abbrev SheetTells : Reading Cable → Type 0
  SheetTells (right rows) = RowsRight s rows
  SheetTells (wrong rule start size) = SheetRefusal s (number_of rule)

  read_tells : {reading : Reading Cable} → SheetRead reading → SheetTells reading
  read_tells (no_front none) = by_form (empty none)
  read_tells (other_front other) = by_form (front_kind other)
  read_tells (cut_front short) = by_form (front_cut short)
  read_tells (wrong_count whole outside) = by_count (record { whole = whole; outside = outside })
  read_tells (front_then {reading = reading} first e) = after_front reading (scan_tells (row_listing (switches_of s)) s 2 e)
    where
      after_front : (reading : Reading Cable) → Tells (row_listing (switches_of s)) s 2 reading → SheetTells reading
      after_front (right rows) all = (first, all)
      after_front (wrong rule start size) (inl told) = rw told.0 (by_form (later first told.1))
      after_front (wrong rule start size) (inr told) = rw told.0 (by_row (record { front = first; rule = told.1 }))

  pub sheet_tells : {reading : Reading Cable} → sheet_reading s ≡ reading → SheetTells reading
  sheet_tells e = read_tells (sheet_is e)

  -- and the reading, from what the records are
  pub sheet_right : {rows : List Cable} → RowsRight s rows → sheet_reading s ≡ right rows
  sheet_right h = is_sheet (front_then h.0 (scan_right (row_listing (switches_of s)) s 2 h.1))

  refused_at : {rule : Rule} {start size : ℕ} → SheetRead (wrong rule start size) → WrongWith (number_of rule) (sheet_reading s)
  refused_at {rule} {start} {size} h = record { rule = rule; start = start; size = size; numbered = refl; wrong_there = is_sheet h }

  refused_later : {number : ℕ} → FrontRight s → WrongWith number rows_reading → WrongWith number (sheet_reading s)
  refused_later first h = rw h.numbered at (refused_at (front_then first h.wrong_there))

  pub sheet_refused : {number : ℕ} → SheetRefusal s number → WrongWith number (sheet_reading s)
  sheet_refused (by_form (empty none)) = refused_at (no_front none)
  sheet_refused (by_form (front_kind other)) = refused_at (other_front other)
  sheet_refused (by_form (front_cut short)) = refused_at (cut_front short)
  sheet_refused (by_form (later first form)) = refused_later first (scan_form (row_listing (switches_of s)) s 2 form)
  sheet_refused (by_count h) = refused_at (wrong_count h.whole h.outside)
  sheet_refused (by_row h) = refused_later h.front (scan_broken (row_listing (switches_of s)) s 2 h.rule)

  -- the rows of an accepted sheet are the whole rows of its bytes
  pub rows_of_lem : {rows : List Cable} → sheet_reading s ≡ right rows → rows_of s ≡ rows
  unfolding rows_of
  rows_of_lem e = by_read (sheet_is e)
    where
      by_read : {rows : List Cable} → SheetRead (right rows) → rows_of s ≡ rows
      by_read (front_then first e) =
          rw (record_whole front s 0 first.whole) (sym (scan_wholes row SheetForm cable_at (row_rule (switches_of s)) s 512 2 [] e))

  -- the part that is wrong lies in the bytes
  pub sheet_inside : {rule : Rule} {start size : ℕ} → sheet_reading s ≡ wrong rule start size → start + size ≤ length s
  sheet_inside e = by_read (sheet_is e)
    where
      by_read : {rule : Rule} {start size : ℕ} → SheetRead (wrong rule start size) → start + size ≤ length s
      by_read (no_front none) = omega arith
      by_read (other_front other) = omega arith
      by_read (cut_front short) = omega arith
      by_read (wrong_count whole outside) = omega arith
      by_read (front_then first e) = scan_inside row SheetForm cable_at (row_rule (switches_of s)) s 512 2 [] e
