-- Each refusal number is given exactly when its statement of the table holds, and a sheet or a list is accepted exactly when all its
-- records are right: the reading tells which statement holds, each statement fixes the reading, and numbers differ.
use Prim.Native.Nat.{ℕ}
use mathlib.Core.Path.{◌≡◌, refl, ◌∙◌, ap}
use mathlib.Core.List.{List}
use mathlib.Core.Logic.Iff
use mathlib.Core.Logic.{◌↔◌}
use lib.ListN.{length}
use Rattle.sheet.specs.Records.{Reading, right, wrong}
use Rattle.sheet.specs.Cables.{Socket, sheet_reading, switches_of}
use Rattle.sheet.specs.Faults.{fault_reading}
use Rattle.sheet.specs.Refusals.{number_of, accepted, refused, sheet_answer_of, sheet_answer, list_answer_of, fault_answer_of, list_answer}
use Rattle.sheet.specs.Accepted.{AcceptedSheet, AcceptedWith}
use Rattle.sheet.specs.Exactly.{Refusal1, Refusal2, Refusal3, Refusal4, Refusal5, SheetRefusal, by_form, by_count, by_row}
use Rattle.sheet.specs.Exactly.{ListRefusal, by_fault_form, by_fault, BothAccepted, EitherRefused, of_sheet, of_list}
use Rattle.sheet.specs.declared.cables.Cable.{Cable}
use Rattle.sheet.proofs.Right.{WrongWith}
use Rattle.sheet.proofs.FaultList.{fault_tells, fault_right, fault_refused}
use Rattle.sheet.proofs.Accepted.{accepted_is, accepted_of}
use Rattle.sheet.proofs.Sheet.{sheet_tells, sheet_refused}

module _ (s : List ℕ) where
  answer_of_lem : {reading : Reading Cable} → sheet_reading s ≡ reading → sheet_answer s ≡ sheet_answer_of (switches_of s) reading
  unfolding sheet_answer
  answer_of_lem e = ap (sheet_answer_of (switches_of s)) e

  refused_of : {number : ℕ} → WrongWith number (sheet_reading s) → sheet_answer s ≡ refused number
  refused_of h = answer_of_lem h.wrong_there ∙ ap refused h.numbered

  counts : {n cables : ℕ} (h : AcceptedWith s n cables) → accepted (switches_of s) (length h.rows) ≡ accepted n cables
  counts h = cc (h.switches, h.counted)

  pub accepted_exactly : (n cables : ℕ) → (sheet_answer s ≡ accepted n cables) ↔ AcceptedWith s n cables
  accepted_exactly n cables =
      (λ e. by_reading e (sheet_reading s) refl, λ h. answer_of_lem (accepted_of s h.rows h.sheet) ∙ counts h)
    where
      by_reading : sheet_answer s ≡ accepted n cables → (reading : Reading Cable) → sheet_reading s ≡ reading → AcceptedWith s n cables
      by_reading e (right rows) r =
          record { rows = rows; sheet = accepted_is s r; switches = cc (answer_of_lem r); counted = cc (answer_of_lem r) }
      by_reading e (wrong rule start size) r = cc (answer_of_lem r)

  pub refused_exactly : (number : ℕ) → (sheet_answer s ≡ refused number) ↔ SheetRefusal s number
  refused_exactly number = (λ e. by_reading e (sheet_reading s) refl, λ h. refused_of (sheet_refused s h))
    where
      by_reading : sheet_answer s ≡ refused number → (reading : Reading Cable) → sheet_reading s ≡ reading → SheetRefusal s number
      by_reading e (right rows) r = cc (answer_of_lem r)
      by_reading e (wrong rule start size) r =
          let same : number_of rule ≡ number = cc (answer_of_lem r) in
          rw same at (sheet_tells s r)

  pub refused_1 : (sheet_answer s ≡ refused 1) ↔ Refusal1 s
  refused_1 = Iff.trans (refused_exactly 1) (λ h. elim h [ by_form p ↦ p ], by_form)

  pub refused_2 : (sheet_answer s ≡ refused 2) ↔ Refusal2 s
  refused_2 = Iff.trans (refused_exactly 2) (λ h. elim h [ by_count p ↦ p ], by_count)

  pub refused_3 : (sheet_answer s ≡ refused 3) ↔ Refusal3 s
  refused_3 = Iff.trans (refused_exactly 3) (λ h. elim h [ by_row p ↦ p ], by_row)

module _ (s f : List ℕ) where
  list_of_sheet : {reading : Reading Cable} → sheet_reading s ≡ reading → list_answer s f ≡ list_answer_of (switches_of s) f reading
  unfolding list_answer
  list_of_sheet e = ap (list_answer_of (switches_of s) f) e

  -- a sheet that is refused decides, whatever the list
  pub refused_sheet : {number : ℕ} → sheet_answer s ≡ refused number → list_answer s f ≡ refused number
  refused_sheet {number} e = by_reading (sheet_reading s) refl
    where
      by_reading : (reading : Reading Cable) → sheet_reading s ≡ reading → list_answer s f ≡ refused number
      by_reading (right rows) r = cc (answer_of_lem s r)
      by_reading (wrong rule start size) r = cc (answer_of_lem s r, list_of_sheet r)

  -- after an accepted sheet, the list does
  module _ (rows : List Cable) (sheet : AcceptedSheet s rows) where
    list_of : {reading : Reading Socket} → fault_reading rows f ≡ reading
        → list_answer s f ≡ fault_answer_of (accepted (switches_of s) (length rows)) reading
    list_of e = list_of_sheet (accepted_of s rows sheet) ∙ ap (fault_answer_of (accepted (switches_of s) (length rows))) e

    refused_of_list : {number : ℕ} → WrongWith number (fault_reading rows f) → list_answer s f ≡ refused number
    refused_of_list h = list_of h.wrong_there ∙ ap refused h.numbered

    pub list_exactly : (number : ℕ) → (list_answer s f ≡ refused number) ↔ ListRefusal rows f number
    list_exactly number = (λ e. by_reading e (fault_reading rows f) refl, λ h. refused_of_list (fault_refused rows f h))
      where
        by_reading : list_answer s f ≡ refused number → (reading : Reading Socket) → fault_reading rows f ≡ reading
            → ListRefusal rows f number
        by_reading e (right faults) r = cc (list_of r)
        by_reading e (wrong rule start size) r =
            let same : number_of rule ≡ number = cc (list_of r) in
            rw same at (fault_tells rows f r)

    pub refused_4 : (list_answer s f ≡ refused 4) ↔ Refusal4 rows f
    refused_4 = Iff.trans (list_exactly 4) (only_4, by_fault_form)
      where
        only_4 : ListRefusal rows f 4 → Refusal4 rows f
        only_4 (by_fault_form h) = h

    pub refused_5 : (list_answer s f ≡ refused 5) ↔ Refusal5 rows f
    refused_5 = Iff.trans (list_exactly 5) (only_5, by_fault)
      where
        only_5 : ListRefusal rows f 5 → Refusal5 rows f
        only_5 (by_fault h) = h

  -- both lists, whatever they are
  pub either_refused : (number : ℕ) → (list_answer s f ≡ refused number) ↔ EitherRefused s f number
  either_refused number = (λ e. by_sheet e (sheet_reading s) refl, answered)
    where
      by_sheet : list_answer s f ≡ refused number → (reading : Reading Cable) → sheet_reading s ≡ reading → EitherRefused s f number
      by_sheet e (right rows) r = of_list (accepted_is s r) ((list_exactly rows (accepted_is s r) number).0 e)
      by_sheet e (wrong rule start size) r = of_sheet ((refused_exactly s number).0 (cc (answer_of_lem s r, list_of_sheet r)))

      answered : EitherRefused s f number → list_answer s f ≡ refused number
      answered (of_sheet h) = refused_sheet ((refused_exactly s number).1 h)
      answered (of_list {rows = rows} sheet h) = (list_exactly rows sheet number).1 h

  pub both_accepted : (n cables : ℕ) → (list_answer s f ≡ accepted n cables) ↔ BothAccepted s f n cables
  both_accepted n cables = (
    λ e. by_sheet e (sheet_reading s) refl,
    λ h. list_of h.sheet.rows h.sheet.sheet (fault_right h.sheet.rows f h.right) ∙ counts s h.sheet,
  )
    where
      by_faults : (rows : List Cable) (sheet : AcceptedSheet s rows) → list_answer s f ≡ accepted n cables
          → (reading : Reading Socket) → fault_reading rows f ≡ reading → BothAccepted s f n cables
      by_faults rows sheet e (right faults) r =
          record {
            sheet = record { rows = rows; sheet = sheet; switches = cc (list_of rows sheet r); counted = cc (list_of rows sheet r) };
            faults = faults;
            right = fault_tells rows f r;
          }
      by_faults rows sheet e (wrong rule start size) r = cc (list_of rows sheet r)

      by_sheet : list_answer s f ≡ accepted n cables → (reading : Reading Cable) → sheet_reading s ≡ reading → BothAccepted s f n cables
      by_sheet e (right rows) r = by_faults rows (accepted_is s r) e (fault_reading rows f) refl
      by_sheet e (wrong rule start size) r = cc (list_of_sheet r)
