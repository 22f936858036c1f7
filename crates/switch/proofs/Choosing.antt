-- The choice by the port numbers alone: the definition walks the cables after the current port, and on a sound sheet a port tells its
-- cable, so each cable that the walk passes over is a port that is dead or the parent. No two outcomes meet that.
use Prim.Native.Nat.{ℕ, ◌+◌}
use mathlib.Core.Path.{◌≡◌, refl, ap, sym, ◌∙◌}
use mathlib.Core.List.{List, [], ◌∷◌, ◌++◌, map, append_assoc, append-nil}
use mathlib.Core.Logic.Iff
use mathlib.Core.Logic.{inl, inr, ⊎_elim, ◌↔◌}
use mathlib.Core.Bool.{Bool, true}
use native.Mathlib.Omega.{arith}
use native.Mathlib.Numerals.{add-one}
use lib.ListN.{take, drop, take-append-drop}
use Rattle.std.proofs.lemmas.Bool.Decides.{nat_tests}
use Rattle.sheet.specs.Lists.{◌∈◌, Once, All}
use Rattle.sheet.specs.Cables.{Socket}
use Rattle.sheet.specs.Faults.{live, faults_of}
use Rattle.sheet.specs.Order.{port_order, position_of, is_live}
use Rattle.sheet.specs.Sound.{Sound}
use Rattle.sheet.specs.declared.cables.Cable.{Cable}
use Rattle.sheet.proofs.Cabling.{port_of, in_cabled, position_in, ports_once}
use Rattle.sheet.proofs.Bytes.{all_append}
use Rattle.sheet.proofs.Lists.{in_right}
use Rattle.sheet.proofs.Tests.{true≢false}
use Rattle.switch.specs.Choice.{Outcome, leaves, stays, after_current, first_open, choose, past, after, Shut, Chosen}
use Rattle.switch.specs.Choice.{onward, homeward, nowhere}

-- ---- the cables after the current port, by their ports

past_ports : (current : ℕ) (order : List Cable) → map port_of (drop (position_of current order + 1) order) ≡ past current (map port_of order)
unfolding position_of
past_ports current [] = refl
past_ports current (c ∷ order) = grind (arith, add-one, past_ports current order)

after_ports : (current : ℕ) (order : List Cable) → map port_of (after_current current order) ≡ after current (map port_of order)
after_ports current order = grind (arith, past_ports current order)

in_drop : (k : ℕ) (cables : List Cable) (c : Cable) → c ∈ drop k cables → c ∈ cables
in_drop k cables c at = rw take-append-drop at (in_right (take k cables) (drop k cables) c at)

in_after : (current : ℕ) (order : List Cable) (c : Cable) → c ∈ after_current current order → c ∈ order
in_after current order c at = grind (arith, in_drop (position_of current order + 1) order c)

-- where no port stands twice, a cable of the order lives exactly if its port does
live_port : (faults : List ℕ) (order : List Cable) → Once (map port_of order) → (c : Cable) → c ∈ order
    → is_live faults (port_of c) order ≡ live (faults_of faults) c
live_port faults order once c at = rw (in_cabled (port_of c) order c at refl, position_in order c at once)

-- ---- the walk over them

module _ (ports : List ℕ) (lives : ℕ → Bool) (parent current : ℕ) where
  abbrev Closed : ℕ → Type 0
  Closed = Shut ports lives parent current

  abbrev Ends : Outcome → Type 0
  Ends = Chosen ports lives parent current

  first_open_lem : (faults : List Socket) (passed : List ℕ) (cables : List Cable) → after current ports ≡ passed ++ map port_of cables
      → All Closed passed → ((c : Cable) → c ∈ cables → lives (port_of c) ≡ live faults c)
      → Chosen ports lives parent current (first_open faults parent current cables)
  unfolding first_open
  first_open_lem faults passed [] split shut alike =
      let none : parent ≡ 0 → Ends stays = nowhere all in
      let home : (parent ≡ 0 → ⊥) → Ends (leaves parent current) = homeward all in
      grind (arith, nat_tests)
    where
      all : All Closed (after current ports)
      all = rw (split, append-nil) shut
  first_open_lem faults passed (c ∷ cables) split shut alike =
      let free : lives (port_of c) ≡ true → (port_of c ≡ parent → ⊥) → Ends (leaves (port_of c) (port_of c)) =
      onward passed (map port_of cables) split shut in
      let rest : Closed (port_of c) → Ends (first_open faults parent current cables) =
      λ closed. first_open_lem faults (passed ++ (port_of c ∷ [])) cables (rw append_assoc split)
      ((all_append Closed passed (port_of c ∷ [])).1 (shut, (closed, tt))) (λ d at. alike d (inr at)) in
      grind (arith, nat_tests, alike c (inl refl))

  -- ---- the outcome is one

  not_shut : (p : ℕ) → lives p ≡ true → (p ≡ parent → ⊥) → Closed p → ⊥
  not_shut p alive other = ⊎_elim (true≢false alive) other

  some_open : (passed rest : List ℕ) (p : ℕ) → after current ports ≡ passed ++ (p ∷ rest) → lives p ≡ true → (p ≡ parent → ⊥)
      → All Closed (after current ports) → ⊥
  some_open passed rest p e alive other all = not_shut p alive other ((all_append Closed passed (p ∷ rest)).0 (rw e at all)).1.0

  first_one : (passed passed' rest rest' : List ℕ) (p p' : ℕ) → passed ++ (p ∷ rest) ≡ passed' ++ (p' ∷ rest')
      → All Closed passed → All Closed passed' → (Closed p → ⊥) → (Closed p' → ⊥) → p ≡ p'
  first_one [] [] rest rest' p p' e all all' free free' = cc
  first_one [] (q ∷ passed') rest rest' p p' e all all' free free' = let same : p ≡ q = cc in absurd (free (rw same all'.0))
  first_one (q ∷ passed) [] rest rest' p p' e all all' free free' = let same : p' ≡ q = cc in absurd (free' (rw same all.0))
  first_one (q ∷ passed) (q' ∷ passed') rest rest' p p' e all all' free free' =
      first_one passed passed' rest rest' p p' (cc) all.1 all'.1 free free'

  pub chosen_one : {o o' : Outcome} → Chosen ports lives parent current o → Chosen ports lives parent current o' → o ≡ o'
  chosen_one (onward {p} passed rest e all alive other) (onward {p = p'} passed' rest' e' all' alive' other') =
      ap (λ q. leaves q q)
      (first_one passed passed' rest rest' p p' (sym e ∙ e') all all' (not_shut p alive other) (not_shut p' alive' other'))
  chosen_one (onward {p} passed rest e all alive other) (homeward none some) = absurd (some_open passed rest p e alive other none)
  chosen_one (onward {p} passed rest e all alive other) (nowhere none orphan) = absurd (some_open passed rest p e alive other none)
  chosen_one (homeward none some) (onward {p} passed rest e all alive other) = absurd (some_open passed rest p e alive other none)
  chosen_one (homeward all some) (homeward all' some') = refl
  chosen_one (homeward all some) (nowhere all' orphan) = absurd (some orphan)
  chosen_one (nowhere none orphan) (onward {p} passed rest e all alive other) = absurd (some_open passed rest p e alive other none)
  chosen_one (nowhere all orphan) (homeward all' some) = absurd (some orphan)
  chosen_one (nowhere all orphan) (nowhere all' none') = refl

-- ---- on a sound sheet

module _ {n : ℕ} {rows : List Cable} (sound : Sound n rows) (v : ℕ) (faults : List ℕ) (parent current : ℕ) where
  abbrev order : List Cable
  order = port_order rows v

  abbrev ports : List ℕ
  ports = map port_of order

  abbrev lives : ℕ → Bool
  lives p = is_live faults p order

  abbrev choice : Outcome
  choice = choose (faults_of faults) parent current order

  -- no port after the current one is live and other than the parent
  abbrev NoneOpen : Type 0
  NoneOpen = All (Shut ports lives parent current) (after current ports)

  pub chosen : Chosen (map port_of (port_order rows v)) (λ p. is_live faults p (port_order rows v)) parent current
      (choose (faults_of faults) parent current (port_order rows v))
  unfolding choose
  chosen =
      first_open_lem ports lives parent current (faults_of faults) [] (after_current current order) (sym (after_ports current order)) tt
      (λ c at. live_port faults order (ports_once sound v) c (in_after current order c at))

  -- whatever has the properties of the choice is the choice
  pub chosen_exactly : (o : Outcome) → (choice ≡ o) ↔ Chosen ports lives parent current o
  chosen_exactly o = (λ e. rw e at chosen, chosen_one ports lives parent current chosen)

  -- by the parent exactly if there is no open port
  pub parent_exactly : (choice ≡ leaves parent current) ↔ (NoneOpen × (parent ≡ 0 → ⊥))
  parent_exactly = Iff.trans (chosen_exactly (leaves parent current)) (λ h. told h refl, λ h. homeward h.0 h.1)
    where
      told : {o : Outcome} → Chosen ports lives parent current o → o ≡ leaves parent current → NoneOpen × (parent ≡ 0 → ⊥)
      told (onward {p} passed rest e all alive other) same = absurd (other (cc))
      told (homeward all some) same = (all, some)
      told (nowhere all none) same = cc

  -- none exactly if, besides, the parent is 0
  pub stays_exactly : (choice ≡ stays) ↔ (NoneOpen × (parent ≡ 0))
  stays_exactly = Iff.trans (chosen_exactly stays) (told, λ h. nowhere h.0 h.1)
    where
      told : Chosen ports lives parent current stays → NoneOpen × (parent ≡ 0)
      told (nowhere all none) = (all, none)
