-- A loop that reads a list of records: so far `count` records were right, and what is left to read comes to what the whole list comes to.
-- One law for each way that a turn can go.
use Prim.Native.Nat.{ℕ, suc, ◌+◌, ◌-◌, ◌≤◌, ◌<◌}
use mathlib.Core.Path.{◌≡◌, ap, sym, ◌∙◌}
use mathlib.Core.List.{List, [], ◌∷◌, ◌++◌, append_assoc}
use native.Mathlib.Omega.{arith}
use native.Mathlib.Nat.{sub-zero, zero-add}
use lib.ListN.{length, length-append}
use Rattle.std.specs.Prelude.{None, Result, Ok, Err}
use Rattle.sheet.specs.Records.{form_of, record_at, Reading, right, wrong, scan, wholes, front}
use Rattle.sheet.specs.Told.{next_of}
use Rattle.sheet.specs.declared.listing.Wrong.{Wrong}
use Rattle.sheet.specs.declared.records.Place.{Place}
use Rattle.sheet.specs.declared.records.Found.TheVariants.{Record}
use Rattle.sheet.specs.declared.rules.Rule.{Rule}
use Rattle.sheet.specs.Standing.{Whole}
use Rattle.sheet.proofs.Bytes.{whole_form}
use Rattle.sheet.proofs.Scan.{found_is, scan_ended, scan_kind, scan_cut, scan_full, scan_breaks, scan_fine, wholes_none, wholes_next}

-- a whole record begins in the bytes, and before its end
pub record_begins : (place : Place) (s : List ℕ) (at : ℕ) {next : ℕ} → record_at place s at ≡ Record next → (at < length s) × (at < next)
record_begins place s at {next} e = let whole : Whole place s at next = found_is place s at e in (omega arith, omega arith)

module _ {A : Type 0} (place : Place) (broken : Rule) (read : List ℕ → ℕ → A) (check : List A → A → Result (Unit {0}) Rule) (most : ℕ)
    (s : List ℕ) (from : ℕ) where
  pub record Listed (at count : ℕ) : Type 0 where
    pub size : length (wholes place read count s from) ≡ count
    pub room : count ≤ most
    pub same : scan place broken read check most s from []
        ≡ scan place broken read check (most - count) s at (wholes place read count s from)
    pub goes_on : (k : ℕ) → wholes place read (count + k) s from ≡ wholes place read count s from ++ wholes place read k s at

  pub listed_start : {at count : ℕ} → at ≡ from → count ≡ 0 → Listed at count
  listed_start p q = rw (p, q) (record {
    size = ap length (wholes_none place read s from);
    room = omega arith;
    same = rw (sub-zero, wholes_none place read s from);
    goes_on = λ k. rw (zero-add k, wholes_none place read s from);
  })

module _ {A : Type 0} {place : Place} {broken : Rule} {read : List ℕ → ℕ → A} {check : List A → A → Result (Unit {0}) Rule} {most : ℕ}
    {s : List ℕ} {from at count : ℕ} (so_far : Listed place broken read check most s from at count) where
  abbrev whole : Reading A
  whole = scan place broken read check most s from []

  abbrev first : ℕ → List A
  first n = wholes place read n s from

  pub listed_ended : Ok None ≡ next_of broken s at (record_at place s at) → right (first count) ≡ whole
  listed_ended e = grind (arith, so_far.same, scan_ended {A = A})

  pub listed_form : {w : Wrong} → Err w ≡ next_of broken s at (record_at place s at) → wrong w.rule w.start w.size ≡ whole
  listed_form {w} e = grind (arith, so_far.same, scan_kind {A = A}, scan_cut {A = A})

  module _ {next : ℕ} (e : record_at place s at ≡ Record next) where
    pub listed_full : count ≡ most → wrong broken at (next - at) ≡ whole
    listed_full full =
        let none : most - count ≡ 0 = omega arith in
        sym (so_far.same ∙ rw none (scan_full place broken read check s at next (first count) e))

    pub listed_next : first (count + 1) ≡ first count ++ (read s at ∷ [])
    listed_next =
        so_far.goes_on 1
        ∙ ap (λ xs. first count ++ xs) (wholes_next place read s 0 at next e ∙ ap (λ xs. read s at ∷ xs) (wholes_none place read s next))

    module _ (below : count < most) where
      one_more : most - count ≡ suc (most - (count + 1))
      one_more = omega arith

      pub listed_breaks : {rule : Rule} → Err rule ≡ check (first count) (read s at) → wrong rule at (next - at) ≡ whole
      listed_breaks {rule} b =
          sym (so_far.same
          ∙ rw one_more (scan_breaks place broken read check s (most - (count + 1)) at next (first count) rule e (sym b)))

      pub listed_fine : Ok tt ≡ check (first count) (read s at) → Listed place broken read check most s from next (count + 1)
      listed_fine f =
          record {
            size = ap length listed_next ∙ length-append (first count) (read s at ∷ []) ∙ ap (λ (k : ℕ). k + 1) so_far.size;
            room = omega arith;
            same = so_far.same
                ∙ rw (one_more, listed_next) (scan_fine place broken read check s (most - (count + 1)) at next (first count) e (sym f));
            goes_on = λ k.
                let more : count + 1 + k ≡ count + suc k = omega arith in
                rw (more, listed_next, append_assoc)
                (so_far.goes_on (suc k) ∙ ap (λ xs. first count ++ xs) (wholes_next place read s k at next e));
          }

-- the laws by which the check finds alone how a turn goes
pub ruleset turns = (listed_ended, listed_form, listed_full, listed_next, record_begins)

-- after a whole front record the rows begin
pub front_size : (s : List ℕ) {next : ℕ} → record_at front s 0 ≡ Record next → next ≡ 2
unfolding form_of
front_size s found = (whole_form 0 (found_is front s 0 found)).1
