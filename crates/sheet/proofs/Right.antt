-- What a scan answers, by the records up to the first wrong one. The scan and the chain of right records walk the same way: from a right
-- chain the scan goes on as from the start, so that its answer tells where the chain ends, and how the chain ends fixes its answer.
use Prim.Native.Nat.{ℕ, suc, ◌+◌, ◌-◌, ◌≤◌}
use mathlib.Core.Path.{◌≡◌, refl, subst}
use mathlib.Core.List.{List, [], ◌∷◌, ◌++◌}
use mathlib.Core.Logic.{◌⊎◌, inl, inr}
use native.Mathlib.Omega.{arith}
use lib.ListN.{length, length-append}
use Rattle.sheet.specs.Records.{Reading, right, wrong, scan}
use Rattle.sheet.specs.Refusals.{number_of}
use Rattle.sheet.specs.Exactly.{Right, none, more, AllRight, FormWrong, other_kind, cut_short, one_too_many, RuleBroken, broken}
use Rattle.sheet.specs.declared.records.Place.{Place}
use Rattle.sheet.specs.declared.rules.Rule.{Rule}
use Rattle.std.specs.Prelude.{Result, Ok, Err}
use Rattle.sheet.proofs.Tests.{Judges, when_fine, when_breaks, fine_when}
use Rattle.sheet.proofs.Scan.{record_ended, record_kind, record_cut, record_whole, found_is, Scanned, ended, kind, cut, full}
use Rattle.sheet.proofs.Scan.{breaks, fine, scan_is, is_scan}

-- a reading that finds something wrong, of this refusal number
pub record WrongWith {A : Type 0} (number : ℕ) (reading : Reading A) : Type 0 where
  pub rule : Rule
  pub start : ℕ
  pub size : ℕ
  pub numbered : number_of rule ≡ number
  pub wrong_there : reading ≡ wrong rule start size

-- a list of records of one place, with the rule that their form breaks and the check that judges their contents
pub record Listing (A : Type 0) : Type 1 where
  pub place : Place
  pub form : Rule
  pub read : List ℕ → ℕ → A
  pub check : List A → A → Result (Unit {0}) Rule
  pub Obeys : List A → A → Type 0
  pub number : ℕ
  pub judges : (before : List A) (x : A) → Judges number (Obeys before x) (check before x)

module _ {A : Type 0} (listing : Listing A) (s : List ℕ) (start : ℕ) where
  open listing use {place, form, read, check, Obeys, number, judges}

  abbrev RightTo : ℕ → List A → Type 0
  RightTo = Right place read Obeys s start

  abbrev Scans : ℕ → ℕ → List A → Reading A → Type 0
  Scans = Scanned place form read check s

  verdict_judges : {verdict : Result (Unit {0}) Rule} (before : List A) (x : A) → check before x ≡ verdict → Judges number (Obeys before x) verdict
  verdict_judges before x c = subst (Judges number (Obeys before x)) c (judges before x)

  abbrev answered : Reading A
  answered = scan place form read check 512 s start []

  one_more : (before : List A) (x : A) → length (before ++ (x ∷ [])) ≡ length before + 1
  one_more before x = length-append before (x ∷ [])

  pub right_few : {at : ℕ} {records : List A} → RightTo at records → length records ≤ 512
  right_few none = omega arith
  right_few (more {at = at} {before = before} chain room whole obeys) = omega (arith, one_more before (read s at))

  -- from the end of a right chain the scan goes on as from the start
  from_start : {at : ℕ} {before : List A} {reading : Reading A} (room : ℕ) → RightTo at before → room + length before ≡ 512
      → Scans room at before reading → Scans 512 start [] reading
  from_start {reading} room none size rest =
      let full_room : room ≡ 512 = omega arith in
      subst (λ (r : ℕ). Scans r start [] reading) full_room rest
  from_start room (more {at = at} {before = before} chain few whole obeys) size rest =
      from_start (suc room) chain (omega (arith, one_more before (read s at)))
      (fine (record_whole place s at whole) (fine_when (judges before (read s at)) obeys) rest)

  -- what an answer tells of the records
  abbrev pub Tells : Reading A → Type 0
  Tells (right records) = AllRight place read Obeys s start records
  Tells (wrong rule from size) =
      ((number_of rule ≡ number_of form) × FormWrong place read Obeys s start)
      ⊎ ((number_of rule ≡ number) × RuleBroken place read Obeys s start)

  -- at each record the chain grows by one, or the scan says how it ends
  tells : {room at : ℕ} {before : List A} {reading : Reading A} → RightTo at before → room + length before ≡ 512
      → Scans room at before reading → Tells reading
  tells chain size (ended {at = at} e) = record { end = at; right = chain; ended = found_is place s at e }
  tells chain size (kind {at = at} e) = inl (refl, other_kind chain (found_is place s at e))
  tells chain size (cut {at = at} e) = inl (refl, cut_short chain (found_is place s at e))
  tells chain size (full {at = at} e) = inl (refl, one_too_many chain (omega arith) (found_is place s at e))
  tells chain size (breaks {at = at} {before = before} {rule = rule} e c) =
      let told : (number_of rule ≡ number) × (Obeys before (read s at) → ⊥) = when_breaks (verdict_judges before (read s at) c) in
      inr (told.0, broken chain (omega arith) (found_is place s at e) told.1)
  tells chain size (fine {at = at} {before = before} e c rest) =
      tells
      (more chain (omega arith) (found_is place s at e) (when_fine (verdict_judges before (read s at) c)))
      (omega (arith, one_more before (read s at)))
      rest

  pub scan_tells : {reading : Reading A} → answered ≡ reading → Tells reading
  scan_tells e = tells none refl (scan_is place form read check s 512 start [] e)

  -- the scan's answer from what the records are
  answer : {at : ℕ} {before : List A} {reading : Reading A} → RightTo at before → Scans (512 - length before) at before reading
      → answered ≡ reading
  answer {before} chain rest =
      let few : length before ≤ 512 = right_few chain in
      is_scan place form read check s (from_start (512 - length before) chain (omega arith) rest)

  pub scan_right : {records : List A} → AllRight place read Obeys s start records → answered ≡ right records
  scan_right all = answer all.right (ended (record_ended place s all.end all.ended))

  refuses : {at size : ℕ} {before : List A} {rule : Rule} → RightTo at before → Scans (512 - length before) at before (wrong rule at size)
      → WrongWith (number_of rule) answered
  refuses {at} {size} {rule = rule} chain rest =
      record { rule = rule; start = at; size = size; numbered = refl; wrong_there = answer chain rest }

  pub scan_form : FormWrong place read Obeys s start → WrongWith (number_of form) answered
  scan_form (other_kind {at = at} chain other) = refuses chain (kind (record_kind place s at other))
  scan_form (cut_short {at = at} chain short) = refuses chain (cut (record_cut place s at short))
  scan_form (one_too_many {at = at} {next = next} {before = before} chain many whole) = refuses chain no_room
    where
      no_room : Scans (512 - length before) at before (wrong form at (next - at))
      no_room = rw many (full (record_whole place s at whole))

  pub scan_broken : RuleBroken place read Obeys s start → WrongWith number answered
  scan_broken (broken {at = at} {next = next} {before = before} chain few whole disobeys) = by_check (check before (read s at)) refl
    where
      by_check : (verdict : Result (Unit {0}) Rule) → check before (read s at) ≡ verdict → WrongWith number answered
      by_check (Ok tt) c = absurd (disobeys (when_fine (verdict_judges before (read s at) c)))
      by_check (Err rule) c = rw (when_breaks (verdict_judges before (read s at) c)).0 at (refuses chain some_room)
        where
          some_room : Scans (512 - length before) at before (wrong rule at (next - at))
          some_room =
              let left : 512 - length before ≡ suc (512 - length before - 1) = omega arith in
              rw left (breaks (record_whole place s at whole) c)
