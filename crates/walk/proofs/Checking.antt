-- The checks of a walk pass exactly under the premises of condition 3; and what the premises say of the sheet's rows.
use Prim.Native.Nat.{ℕ, ◌*◌, ◌≤◌}
use mathlib.Core.Path.{◌≡◌, refl}
use mathlib.Core.List.{List, [], ◌∷◌}
use mathlib.Core.Bool.{Bool, true, false}
use lib.ListN.{length}
use lib.Dec.{leb}
use borrow.Author.Tests.{leb-true, le-leb}
use Rattle.sheet.specs.Lists.{both}
use Rattle.sheet.specs.Cables.{rows_of, switches_of, within}
use Rattle.sheet.specs.Refusals.{Answer, accepted, refused, list_answer}
use Rattle.sheet.specs.Sound.{Within, Sound}
use Rattle.sheet.specs.Accepted.{AcceptedWith}
use Rattle.sheet.proofs.Tests.{Decides, decides-×}
use Rattle.sheet.proofs.Rows.{decides_within}
use Rattle.sheet.proofs.Accepted.{accepted_of}
use Rattle.sheet.proofs.Sheet.{rows_of_lem}
use Rattle.sheet.proofs.Exactly.{both_accepted}
use Rattle.switch.specs.Checks.{rule, first_broken}
use Rattle.switch.specs.Checks.{Passed, Refused}
use Rattle.walk.specs.Walk.{checks_on, walk_checks}
use Rattle.walk.specs.Condition3.{Premises}

pub on_sheet_lem : (source destination n : ℕ)
    → Decides (both (within n source) (within n destination)) (Within n source × Within n destination)
on_sheet_lem source destination n =
    decides-× (within n source) (within n destination) (decides_within n source) (decides_within n destination)

module _ (s faults tag trace : List ℕ) (source destination : ℕ) where
  pub premises_pass : Premises s faults tag trace source destination → walk_checks s faults tag trace source destination ≡ Passed
  unfolding walk_checks
  premises_pass p =
      rw (
        p.lists,
        (on_sheet_lem source destination p.n).1 (p.source_on, p.destination_on),
        le-leb (2 * p.n) (length tag) p.tag_room,
        le-leb (4 * p.cables) (length trace) p.trace_room,
      )

  pub passed_premises : walk_checks s faults tag trace source destination ≡ Passed → Premises s faults tag trace source destination
  unfolding walk_checks
  passed_premises = by_answer (list_answer s faults) refl
    where
      by_tests : {n cables : ℕ} → list_answer s faults ≡ accepted n cables → (on long room : Bool)
          → both (within n source) (within n destination) ≡ on
          → leb (2 * n) (length tag) ≡ long → leb (4 * cables) (length trace) ≡ room
          → first_broken (rule 6 on ∷ rule 7 long ∷ rule 7 room ∷ []) ≡ Passed → Premises s faults tag trace source destination
      by_tests {n} {cables} e true true true on long room h =
          record {
            n = n;
            cables = cables;
            lists = e;
            source_on = ((on_sheet_lem source destination n).0 on).0;
            destination_on = ((on_sheet_lem source destination n).0 on).1;
            tag_room = leb-true (2 * n) (length tag) long;
            trace_room = leb-true (4 * cables) (length trace) room;
          }
      by_tests e true true false on long room h = cc
      by_tests e true false c on long room h = cc
      by_tests e false b c on long room h = cc

      by_answer : (answer : Answer) → list_answer s faults ≡ answer → checks_on answer tag trace source destination ≡ Passed
          → Premises s faults tag trace source destination
      by_answer (refused number) e h = cc
      by_answer (accepted n cables) e h =
          by_tests e (both (within n source) (within n destination)) (leb (2 * n) (length tag)) (leb (4 * cables) (length trace))
          refl refl refl h

  -- the two refusals that no buffer can change
  pub lists_refuse : {number : ℕ} → list_answer s faults ≡ refused number
      → walk_checks s faults tag trace source destination ≡ Refused number
  unfolding walk_checks
  lists_refuse e = rw e

  pub off_refuse : {n cables : ℕ} → list_answer s faults ≡ accepted n cables → both (within n source) (within n destination) ≡ false
      → walk_checks s faults tag trace source destination ≡ Refused 6
  unfolding walk_checks
  off_refuse e off = rw (e, off)

-- ---- what accepted lists say of the rows

module _ (s faults : List ℕ) {n cables : ℕ} (lists : list_answer s faults ≡ accepted n cables) where
  sheet : AcceptedWith s n cables
  sheet = ((both_accepted s faults n cables).0 lists).sheet

  rows_are : rows_of s ≡ sheet.rows
  rows_are = rows_of_lem s (accepted_of s sheet.rows sheet.sheet)

  pub lists_switches : n ≡ switches_of s
  lists_switches = sheet.switches

  pub lists_cables : cables ≡ length (rows_of s)
  lists_cables = rw rows_are sheet.counted

  pub lists_sound : Sound (switches_of s) (rows_of s)
  lists_sound = rw rows_are sheet.sheet.sound

  -- at most 64 switches, and at most 512 cables
  pub lists_few : (n ≤ 64) × (cables ≤ 512)
  lists_few = (rw sheet.switches sheet.sheet.count.1, rw sheet.counted sheet.sheet.few)
