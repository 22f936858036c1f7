-- A list of records, read one by one with the records kept: so far `count` records were right, and what is left to read comes to what the
-- whole list comes to. One law for each way that a record can turn out. (The loop of the code keeps no records: proofs/Listed.)
use Prim.Native.Nat.{ℕ, suc, ◌+◌, ◌-◌, ◌≤◌, ◌<◌}
use mathlib.Core.Path.{◌≡◌, refl, ap, ◌∙◌}
use mathlib.Core.List.{List, [], ◌∷◌, ◌++◌}
use native.Mathlib.Omega.{arith}
use lib.ListN.{length, length-append}
use Rattle.sheet.specs.Records.{record_at, Reading, right, wrong, scan}
use Rattle.sheet.specs.Told.{told_of}
use Rattle.sheet.specs.declared.records.Place.{Place}
use Rattle.sheet.specs.declared.records.Found.TheVariants.{Record, WrongKind, CutShort, Ended}
use Rattle.sheet.specs.declared.rules.Rule.{Rule}
use Rattle.std.specs.Prelude.{Result, Ok, Err}
use Rattle.sheet.proofs.Scan.{scan_ended, scan_kind, scan_cut, scan_full, scan_breaks, scan_fine}

module _ {A : Type 0} (place : Place) (broken : Rule) (read : List ℕ → ℕ → A) (check : List A → A → Result (Unit {0}) Rule) (s : List ℕ) (from : ℕ) where
  abbrev pub scan_from : ℕ → ℕ → List A → Reading A
  scan_from room at before = scan place broken read check room s at before

  abbrev pub whole : Reading A
  whole = scan place broken read check 512 s from []

  pub record Through (at count : ℕ) (before : List A) : Type 0 where
    pub size : length before ≡ count
    pub room : count ≤ 512
    pub same : scan place broken read check 512 s from [] ≡ scan place broken read check (512 - count) s at before

  pub through_start : Through from 0 []
  through_start = record { size = refl; room = omega arith; same = refl }

  module _ {at count : ℕ} {before : List A} (so_far : Through at count before) where
    pub through_right : record_at place s at ≡ Ended → whole ≡ right before
    through_right e = so_far.same ∙ scan_ended place broken read check s (512 - count) at before e

    pub through_ended : record_at place s at ≡ Ended → Ok count ≡ told_of whole
    through_ended e = rw (through_right e, so_far.size)

    pub through_kind : record_at place s at ≡ WrongKind → whole ≡ wrong broken at 1
    through_kind e = so_far.same ∙ scan_kind place broken read check s (512 - count) at before e

    pub through_cut : record_at place s at ≡ CutShort → whole ≡ wrong broken at (length s - at)
    through_cut e = so_far.same ∙ scan_cut place broken read check s (512 - count) at before e

    pub through_full : {next : ℕ} → record_at place s at ≡ Record next → count ≡ 512 → whole ≡ wrong broken at (next - at)
    through_full {next} e full =
        let none : 512 - count ≡ 0 = omega arith in
        so_far.same ∙ rw none (scan_full place broken read check s at next before e)

    module _ {next : ℕ} (e : record_at place s at ≡ Record next) (below : count < 512) where
      one_more : 512 - count ≡ suc (511 - count)
      one_more = omega arith

      pub through_breaks : {rule : Rule} → check before (read s at) ≡ Err rule → whole ≡ wrong rule at (next - at)
      through_breaks {rule} b =
          so_far.same ∙ rw one_more (scan_breaks place broken read check s (511 - count) at next before rule e b)

      pub through_fine : check before (read s at) ≡ Ok tt → Through next (count + 1) (before ++ (read s at ∷ []))
      through_fine f =
          let left : 511 - count ≡ 512 - (count + 1) = omega arith in
          record {
            size = length-append before (read s at ∷ []) ∙ ap (λ (k : ℕ). k + 1) so_far.size;
            room = omega arith;
            same = so_far.same ∙ rw (one_more, ← left) (scan_fine place broken read check s (511 - count) at next before e f);
          }
