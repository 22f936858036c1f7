-- Tests that fail exactly if a rule is broken, put together as the rules are; and, for the questions that rules 8 and 10 ask of the port
-- order and the faults, what their failing says in the table's words.
use Prim.Native.Nat.{ℕ, ◌<◌}
use mathlib.Core.Path.{◌≡◌, refl}
use mathlib.Core.List.{List}
use mathlib.Core.Logic.{◌⊎◌, inl, inr, ⊎_elim, ◌↔◌}
use mathlib.Core.Bool.{Bool, true, false, not}
use native.Mathlib.Omega.{arith}
use lib.Dec.{leb}
use borrow.Author.Tests.{leb-false, lt-leb}
use Rattle.std.proofs.lemmas.Bool.Decides.{nat_tests}
use Rattle.sheet.specs.Lists.{both, either, any, ◌∈◌}
use Rattle.sheet.specs.Cables.{Socket, socket_of, is_at, carries}
use Rattle.sheet.specs.Faults.{live, faults_of}
use Rattle.sheet.specs.Order.{port_order, position_of, cable_of, is_cabled, is_live}
use Rattle.sheet.specs.Sound.{Sound}
use Rattle.sheet.specs.declared.cables.End.{End}
use Rattle.sheet.specs.declared.cables.Cable.{Cable}
use Rattle.sheet.proofs.Lists.{any_found, found_any}
use Rattle.sheet.proofs.Tests.{Decides, decides-⊎}
use Rattle.sheet.proofs.Rows.{cabled_socket}
use Rattle.sheet.proofs.Cabling.{position_found, position_in, port_order_lem, ports_once, cabled_order}
use Rattle.switch.specs.Exactly.{Not, Dead, Uncabled, DeadAt, Unusable}

-- the test fails exactly if B holds
abbrev pub Fails : Bool → Type 0 → Type 0
Fails test B = (test ≡ false) ↔ B

pub fails_not : {P : Type 0} (test : Bool) → Decides test P → Fails test (Not P)
fails_not test d = (grind (arith, d), grind (arith, d))

-- what a test decides holds if it is not refuted
pub not_refuted : {P : Type 0} (test : Bool) → Decides test P → Not (Not P) → P
not_refuted test d h = grind (arith, d)

pub not_fails : {P : Type 0} (test : Bool) → Decides test P → Fails (not test) P
not_fails test d = (grind (arith, d), grind (arith, d))

pub fails-≤ : (a b : ℕ) → Fails (leb a b) (b < a)
fails-≤ a b = (leb-false a b, lt-leb a b)

pub fails_both : {B C : Type 0} (a b : Bool) → Fails a B → Fails b C → Fails (both a b) (B ⊎ C)
fails_both a b f g = (grind (arith, f, g), grind (arith, f, g))

pub fails_either : {B C : Type 0} (a b : Bool) → Fails a B → Fails b C → Fails (either a b) (B × C)
fails_either a b f g = (grind (arith, f, g), grind (arith, f, g))

-- ---- a cable is dead exactly if the list names an end of it

is_socket : (e : End) (f : Socket) → Decides (is_at f.switch f.port e) (socket_of e ≡ f)
is_socket e f = (λ t. grind (arith, nat_tests), λ same. grind (arith, nat_tests))

named : (faults : List Socket) (c : Cable) → Decides (any (λ f. carries f.switch f.port c) faults) (Dead faults c)
named faults c = (into, ⊎_elim (λ at. from at (inl refl)) (λ at. from at (inr refl)))
  where
    ends : (f : Socket) → Decides (carries f.switch f.port c) ((socket_of c.near ≡ f) ⊎ (socket_of c.far ≡ f))
    ends f =
        decides-⊎ (is_at f.switch f.port c.near) (is_at f.switch f.port c.far) (is_socket c.near f)
        (is_socket c.far f)

    into : any (λ f. carries f.switch f.port c) faults ≡ true → Dead faults c
    into t =
        let (f, at, t') = any_found (λ f. carries f.switch f.port c) faults t in
        ⊎_elim (λ e. inl (rw e at)) (λ e. inr (rw e at)) ((ends f).0 t')

    from : {x : Socket} → x ∈ faults → (socket_of c.near ≡ x) ⊎ (socket_of c.far ≡ x)
        → any (λ f. carries f.switch f.port c) faults ≡ true
    from {x} at end = found_any (λ f. carries f.switch f.port c) faults x at ((ends x).1 end)

pub dead : (faults : List Socket) (c : Cable) → Fails (live faults c) (Dead faults c)
unfolding live
dead faults c = not_fails (any (λ f. carries f.switch f.port c) faults) (named faults c)

-- ---- the ports of a switch on a sound sheet

module _ {n : ℕ} {rows : List Cable} (sound : Sound n rows) (v : ℕ) where
  abbrev order : List Cable
  order = port_order rows v

  pub uncabled : (p : ℕ) → Fails (is_cabled p (port_order rows v)) (Uncabled rows v p)
  uncabled p = rw (cabled_order sound v p) (fails_not _ (cabled_socket rows v p))

  pub unusable : (f : List ℕ) (p : ℕ) → Fails (is_live f p (port_order rows v)) (Unusable rows (faults_of f) v p)
  unusable f p = (λ e. into (is_cabled p order) refl e, ⊎_elim (λ none. off ((uncabled p).1 none)) from)
    where
      cable : Cable
      cable = cable_of (position_of p order) order

      off : is_cabled p order ≡ false → is_live f p order ≡ false
      off e = rw e

      into : (b : Bool) → is_cabled p order ≡ b → both b (live (faults_of f) cable) ≡ false → Unusable rows (faults_of f) v p
      into false e dies = inl ((uncabled p).0 e)
      into true e dies =
          let (c, at, port, found) = position_found p order e in
          let named = rw found at ((dead (faults_of f) cable).0 dies) in
          inr (record { cable = c; seen = ((port_order_lem sound v).holds c).0 at; port = port; dead = named })

      from : DeadAt rows (faults_of f) v p → is_live f p order ≡ false
      from h =
          let at = ((port_order_lem sound v).holds h.cable).1 h.seen in
          let found : cable ≡ h.cable = rw (← h.port) (position_in order h.cable at (ports_once sound v)) in
          let dies : live (faults_of f) cable ≡ false = rw found ((dead (faults_of f) h.cable).1 h.dead) in
          grind (arith, dies)
