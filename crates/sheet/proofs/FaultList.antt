-- The fault list's reading: what it tells of the faults, and what the faults fix of it. It is a scan, so all of it is Right.antt's.
use Prim.Native.Nat.{ℕ, ◌+◌, ◌≤◌}
use mathlib.Core.Path.{◌≡◌, sym}
use mathlib.Core.List.{List, [], ◌∷◌}
use mathlib.Core.Logic.{inl, inr}
use mathlib.Core.Bool.{true}
use lib.ListN.{length}
use Rattle.sheet.specs.Lists.{All}
use Rattle.sheet.specs.Records.{Reading, right, wrong, fault}
use Rattle.sheet.specs.Cables.{Socket, cabled}
use Rattle.sheet.specs.Faults.{fault_at, fault_rule, fault_reading, faults_of}
use Rattle.sheet.specs.Refusals.{number_of}
use Rattle.sheet.specs.Exactly.{Right, none, more, Names, FaultsRight, ListRefusal, by_fault_form, by_fault}
use Rattle.sheet.specs.declared.cables.Cable.{Cable}
use Rattle.sheet.specs.declared.rules.Rule.{Rule}
use Rattle.sheet.specs.declared.rules.Rule.TheVariants.{FaultForm}
use Rattle.sheet.proofs.Scan.{scan_wholes, scan_inside}
use Rattle.sheet.proofs.Bytes.{all_append}
use Rattle.sheet.proofs.Right.{Tells, scan_tells, scan_right, scan_form, scan_broken, WrongWith}
use Rattle.sheet.proofs.Rows.{cabled_socket, fault_listing}

module _ (rows : List Cable) (f : List ℕ) where
  -- what a reading tells of the faults
  abbrev FaultTells : Reading Socket → Type 0
  FaultTells (right faults) = FaultsRight rows f faults
  FaultTells (wrong rule start size) = ListRefusal rows f (number_of rule)

  pub fault_tells : {reading : Reading Socket} → fault_reading rows f ≡ reading → FaultTells reading
  unfolding fault_reading
  fault_tells {reading} e = by_tells reading (scan_tells (fault_listing rows) f 0 e)
    where
      by_tells : (reading : Reading Socket) → Tells (fault_listing rows) f 0 reading → FaultTells reading
      by_tells (right faults) all = all
      by_tells (wrong rule start size) (inl told) = rw told.0 (by_fault_form told.1)
      by_tells (wrong rule start size) (inr told) = rw told.0 (by_fault told.1)

  -- and the reading, from what the faults are
  pub fault_right : {faults : List Socket} → FaultsRight rows f faults → fault_reading rows f ≡ right faults
  unfolding fault_reading
  fault_right all = scan_right (fault_listing rows) f 0 all

  pub fault_refused : {number : ℕ} → ListRefusal rows f number → WrongWith number (fault_reading rows f)
  unfolding fault_reading
  fault_refused (by_fault_form h) = scan_form (fault_listing rows) f 0 h
  fault_refused (by_fault h) = scan_broken (fault_listing rows) f 0 h

  -- the faults of an accepted list are the whole faults of its bytes
  pub faults_of_lem : {faults : List Socket} → fault_reading rows f ≡ right faults → faults_of f ≡ faults
  unfolding fault_reading faults_of
  faults_of_lem e = sym (scan_wholes fault FaultForm fault_at (fault_rule rows) f 512 0 [] e)

  -- and each names a cabled port
  pub faults_cabled : {faults : List Socket} → fault_reading rows f ≡ right faults
      → All (λ x. cabled rows x.switch x.port ≡ true) faults
  faults_cabled e = each (fault_tells e).right
    where
      each : {at : ℕ} {faults : List Socket} → Right fault fault_at (Names rows) f 0 at faults
          → All (λ x. cabled rows x.switch x.port ≡ true) faults
      each none = tt
      each (more {at = at} {before = before} chain few whole names) =
          (all_append (λ x. cabled rows x.switch x.port ≡ true) before (fault_at f at ∷ [])).1
          (each chain, ((cabled_socket rows (fault_at f at).switch (fault_at f at).port).1 names, tt))

  -- the part that is wrong lies in the bytes
  pub faults_inside : {rule : Rule} {start size : ℕ} → fault_reading rows f ≡ wrong rule start size → start + size ≤ length f
  unfolding fault_reading
  faults_inside e = scan_inside fault FaultForm fault_at (fault_rule rows) f 512 0 [] e
