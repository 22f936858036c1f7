-- No whole record of a place is longer than the longest that the table has for it: its form is an entry of the table, and the longest is
-- at least the size of every entry.
use Prim.Native.Nat.{ℕ, zero, suc, ◌+◌, ◌≤◌}
use mathlib.Core.Path.{◌≡◌, refl}
use mathlib.Core.List.{List, [], ◌∷◌}
use native.Mathlib.Omega.{arith}
use lib.ListN.{get_or}
use Rattle.std.proofs.lemmas.Bool.Decides.{nat_tests}
use Rattle.sheet.specs.Records.{form, forms, form_of}
use Rattle.sheet.specs.Sizes.{longest_of, longest, longest_sheet, longest_list}
use Rattle.sheet.specs.Standing.{Whole}
use Rattle.sheet.specs.declared.records.Place.{Place}
use Rattle.sheet.specs.declared.records.Form.{Form}

module _ (place : Place) (somewhere : 1 ≤ place.0) where
  entry_fits : (fs : List Form) (kind : ℕ) → (get_or fs kind (form 0 0)).place.0 ≡ place.0
      → 1 + (get_or fs kind (form 0 0)).body ≤ longest_of fs place
  entry_fits [] kind stands = absurd (omega arith)
  entry_fits (f ∷ fs) zero stands = grind (arith, nat_tests)
  entry_fits (f ∷ fs) (suc kind) stands = grind (arith, nat_tests, entry_fits fs kind)

  pub whole_fits : {s : List ℕ} {at next : ℕ} → Whole place s at next → next ≤ at + longest place
  unfolding form_of longest
  whole_fits {s} {at} whole = omega (arith, entry_fits forms (get_or s at 0) whole.stands, whole.next_is)

-- the sizes as numbers: one byte more is what the laws on prefixes take
pub sizes : (longest_sheet ≡ 3586) × (longest_list ≡ 1536)
unfolding longest longest_sheet longest_list
sizes = (refl, refl)
