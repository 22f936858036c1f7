-- A prefix decides: the first 3,587 bytes of a sheet and the first 1,537 of a fault list. The longest accepted sheet has 2 + 512 * 7
-- bytes, the longest accepted list 512 * 3, so one byte more already tells that a longer one is refused, and the first wrong record that
-- decides its number stands in those bytes too.
use Prim.Native.Nat.{ℕ, ◌+◌, ◌≤◌, ◌<◌}
use mathlib.Core.Path.{◌≡◌, refl, sym, ap, ◌∙◌, subst}
use mathlib.Core.List.{List}
use mathlib.Core.Logic.{◌↔◌}
use mathlib.Core.Bool.{Bool, true, false}
use native.Mathlib.Omega.{arith}
use lib.ListN.{length, take}
use lib.Seq.{get_or-take, take_all}
use lib.Dec.{leb}
use borrow.Author.Tests.{leb-true, leb-false}
use Rattle.sheet.specs.Records.{form_of, front, row, fault}
use Rattle.sheet.specs.Cables.{cable_at, switches_of}
use Rattle.sheet.specs.Faults.{fault_at}
use Rattle.sheet.specs.Refusals.{Answer, accepted, refused, list_answer}
use Rattle.sheet.specs.Standing.{Whole}
use Rattle.sheet.specs.Accepted.{AcceptedSheet}
use Rattle.sheet.specs.Exactly.{FrontRight, empty, front_kind, front_cut, later, SheetRefusal, by_form, by_count, by_row}
use Rattle.sheet.specs.Exactly.{ListRefusal, by_fault_form, by_fault, EitherRefused, of_sheet, of_list}
use Rattle.sheet.specs.declared.cables.Cable.{Cable}
use Rattle.sheet.proofs.Bytes.{whole_form}
use Rattle.sheet.proofs.Rows.{row_listing, fault_listing}
use Rattle.sheet.proofs.Sheet.{sheet_tells}
use Rattle.sheet.proofs.Accepted.{accepted_of}
use Rattle.sheet.proofs.Exactly.{either_refused, both_accepted}
use Rattle.switch.specs.Checks.{Refused}
use Rattle.walk.specs.Walk.{Result, Walks, turned_away, walk_checks}
use Rattle.walk.proofs.Checking.{lists_refuse}
use Rattle.walk.proofs.OneAnswer.{walks_one}
use Rattle.lines.proofs.Long.{other_there, whole_there, cut_there, right_short, form_there, rule_there}

-- ---- sheets

row_sized : (s : List ℕ) (at next : ℕ) → Whole row s at next → next ≡ at + 7
unfolding form_of
row_sized s at next whole = omega (arith, (whole_form 1 whole).1)

-- seven bytes before the cut are the same row
row_reads : (s : List ℕ) (m at : ℕ) → at + 7 ≤ m → cable_at (take m s) at ≡ cable_at s at
row_reads s m at h =
    rw (
      get_or-take m s (at + 1) 0 (omega arith),
      get_or-take m s (at + 1 + 1) 0 (omega arith),
      get_or-take m s (at + 1 + 2) 0 (omega arith),
      get_or-take m s (at + 4) 0 (omega arith),
      get_or-take m s (at + 4 + 1) 0 (omega arith),
      get_or-take m s (at + 4 + 2) 0 (omega arith),
    )

accepted_short : (s : List ℕ) {rows : List Cable} → AcceptedSheet s rows → length s ≤ 3586
accepted_short s {rows} sheet =
    right_short (row_listing (switches_of s)) 2 7 row_sized s (sheet_tells s (accepted_of s rows sheet)).1

module _ (s : List ℕ) (m : ℕ) (long : m ≤ length s) (reach : 3586 < m) where
  same_count : switches_of (take m s) ≡ switches_of s
  same_count = get_or-take m s 1 0 (omega arith)

  front_there : FrontRight s → FrontRight (take m s)
  front_there first =
      record { whole = whole_there front s m long (omega arith) first.whole; count = rw same_count first.count }

  sheet_there : {number : ℕ} → SheetRefusal s number → SheetRefusal (take m s) number
  sheet_there (by_form (empty none)) = absurd (omega arith)
  sheet_there (by_form (front_kind other)) = by_form (front_kind (other_there front s m long (omega arith) other))
  sheet_there (by_form (front_cut short)) =
      by_form (front_cut (cut_there front s m long (omega arith) short.stands (omega (arith, short.short))))
  sheet_there (by_form (later first wrong)) =
      by_form (later (front_there first)
      (rw same_count (form_there (row_listing (switches_of s)) 2 7 row_sized s m long (omega arith) (row_reads s m) wrong)))
  sheet_there (by_count h) =
      by_count (record { whole = whole_there front s m long (omega arith) h.whole; outside = rw same_count h.outside })
  sheet_there (by_row h) =
      by_row (record {
        front = front_there h.front;
        rule = rw same_count (rule_there (row_listing (switches_of s)) 2 7 row_sized s m long (omega arith) (row_reads s m) h.rule);
      })

-- ---- fault lists

fault_sized : (f : List ℕ) (at next : ℕ) → Whole fault f at next → next ≡ at + 3
unfolding form_of
fault_sized f at next whole = omega (arith, (whole_form 2 whole).1)

fault_reads : (f : List ℕ) (m at : ℕ) → at + 3 ≤ m → fault_at (take m f) at ≡ fault_at f at
fault_reads f m at h = rw (get_or-take m f (at + 1) 0 (omega arith), get_or-take m f (at + 2) 0 (omega arith))

list_there : (rows : List Cable) (f : List ℕ) (m : ℕ) → m ≤ length f → 1536 < m → {number : ℕ} → ListRefusal rows f number
    → ListRefusal rows (take m f) number
list_there rows f m long reach (by_fault_form wrong) =
    by_fault_form (form_there (fault_listing rows) 0 3 fault_sized f m long (omega arith) (fault_reads f m) wrong)
list_there rows f m long reach (by_fault breaks) =
    by_fault (rule_there (fault_listing rows) 0 3 fault_sized f m long (omega arith) (fault_reads f m) breaks)

-- ---- both

module _ (s f : List ℕ) where
  either_there : {number : ℕ} → EitherRefused s f number → EitherRefused (take 3587 s) (take 1537 f) number
  either_there {number} (of_sheet h) = of_sheet (by (leb 3587 (length s)) refl)
    where
      by : (b : Bool) → leb 3587 (length s) ≡ b → SheetRefusal (take 3587 s) number
      by true e = sheet_there s 3587 (leb-true 3587 (length s) e) (omega arith) h
      by false e = subst (λ (t : List ℕ). SheetRefusal t number) (sym (take_all 3587 s (omega (arith, leb-false 3587 (length s) e)))) h
  either_there {number} (of_list {rows = rows} sheet h) =
      of_list (subst (λ (t : List ℕ). AcceptedSheet t rows) (sym (take_all 3587 s (omega (arith, accepted_short s sheet)))) sheet)
      (by (leb 1537 (length f)) refl)
    where
      by : (b : Bool) → leb 1537 (length f) ≡ b → ListRefusal rows (take 1537 f) number
      by true e = list_there rows f 1537 (leb-true 1537 (length f) e) (omega arith) h
      by false e = subst (λ (t : List ℕ). ListRefusal rows t number) (sym (take_all 1537 f (omega (arith, leb-false 1537 (length f) e)))) h

  -- accepted lists are their prefixes
  accepted_whole : {n cables : ℕ} → list_answer s f ≡ accepted n cables → (take 3587 s ≡ s) × (take 1537 f ≡ f)
  accepted_whole {n} {cables} e =
      let h = (both_accepted s f n cables).0 e in (
        take_all 3587 s (omega (arith, accepted_short s h.sheet.sheet)),
        take_all 1537 f (omega (arith, right_short (fault_listing h.sheet.rows) 0 3 fault_sized f h.right)),
      )

  pub prefix_decides : list_answer s f ≡ list_answer (take 3587 s) (take 1537 f)
  prefix_decides = by (list_answer s f) refl
    where
      by : (answer : Answer) → list_answer s f ≡ answer → list_answer s f ≡ list_answer (take 3587 s) (take 1537 f)
      by (refused number) e =
          e ∙ sym ((either_refused (take 3587 s) (take 1537 f) number).1 (either_there ((either_refused s f number).0 e)))
      by (accepted n cables) e =
          let (sheet, faults) = accepted_whole e in
          sym (ap (λ (t : List ℕ). list_answer t (take 1537 f)) sheet ∙ ap (list_answer s) faults)

  pub prefix_whole : {n cables : ℕ} → list_answer (take 3587 s) (take 1537 f) ≡ accepted n cables
      → (take 3587 s ≡ s) × (take 1537 f ≡ f)
  prefix_whole e = accepted_whole (prefix_decides ∙ e)

  -- so a walk on the prefixes is the walk on the whole files
  module _ (tag trace : List ℕ) (source destination : ℕ) where
    pub prefix_walks : (r : Result)
        → Walks s f tag trace source destination r ↔ Walks (take 3587 s) (take 1537 f) tag trace source destination r
    prefix_walks r = ((by (list_answer s f) refl).0, (by (list_answer s f) refl).1)
      where
        by : (answer : Answer) → list_answer s f ≡ answer
            → Walks s f tag trace source destination r ↔ Walks (take 3587 s) (take 1537 f) tag trace source destination r
        by (accepted n cables) e =
            let (sheet, faults) = accepted_whole e in
            rw (sheet, faults) (λ h. h, λ h. h)
        by (refused number) e = (
          λ h. subst (λ (q : Result). Walks (take 3587 s) (take 1537 f) tag trace source destination q)
              (walks_one (turned_away here) h) (turned_away there),
          λ h. subst (λ (q : Result). Walks s f tag trace source destination q) (walks_one (turned_away there) h) (turned_away here),
        )
          where
            here : walk_checks s f tag trace source destination ≡ Refused number
            here = lists_refuse s f tag trace source destination e

            there : walk_checks (take 3587 s) (take 1537 f) tag trace source destination ≡ Refused number
            there = lists_refuse (take 3587 s) (take 1537 f) tag trace source destination (sym prefix_decides ∙ e)
