-- The rules on a row and on a fault, as statements: the row's tests decide the ranges and whether a socket is among the sockets before, and
-- whatever a check finds wrong has its refusal number. So a scan of rows or faults is told by its records (Right.antt).
use Prim.Native.Nat.{ℕ}
use mathlib.Core.Path.{◌≡◌, refl, sym, subst}
use mathlib.Core.List.{List, [], ◌∷◌}
use mathlib.Core.Logic.Iff
use mathlib.Core.Logic.{inl, inr, ⊎_elim, ⊎_map, ◌↔◌}
use lib.Dec.{leb, eqb}
use Rattle.sheet.specs.Lists.{◌∈◌}
use Rattle.sheet.specs.Records.{row, fault}
use Rattle.sheet.specs.Cables.{Socket, socket_of, is_at, carries, cabled, within, cable_at, row_rule}
use Rattle.sheet.specs.Faults.{fault_at, fault_rule}
use Rattle.sheet.specs.Refusals.{number_of}
use Rattle.sheet.specs.Sound.{Within, sockets}
use Rattle.sheet.specs.Accepted.{RowObeys}
use Rattle.sheet.specs.Exactly.{Names}
use Rattle.sheet.specs.declared.cables.End.{End}
use Rattle.sheet.specs.declared.cables.Cable.{Cable}
use Rattle.sheet.specs.declared.rules.Rule.{Rule}
use Rattle.sheet.specs.declared.rules.Rule.TheVariants.{SheetForm, SwitchRange, PortRange, SameSwitch, PortUsed, FaultForm}
use Rattle.sheet.specs.declared.rules.Rule.TheVariants.{FaultUncabled}
use Rattle.std.specs.Prelude.{Ok, Err}
use Rattle.sheet.proofs.Tests.{Decides, true≢false, decides-≤, decides-≡, decides-×, decides-⊎, Judges, obeyed, when_fine}
use Rattle.sheet.proofs.Tests.{when_breaks, fine_when, judges_pass, judges_fail}
use Rattle.sheet.proofs.Right.{Listing}

abbrev socket : ℕ → ℕ → Socket
socket v p = record { switch = v; port = p }

decides_is_at : (v p : ℕ) (e : End) → Decides (is_at v p e) (socket v p ≡ socket_of e)
decides_is_at v p e =
    Iff.trans
    (decides-× (eqb e.switch v) (eqb e.port p) (decides-≡ e.switch v) (decides-≡ e.port p))
    (λ h i. record { switch = sym h.0 i; port = sym h.1 i }, λ q. (λ i. (sym q i).switch, λ i. (sym q i).port))

-- a port is cabled exactly if its socket is an end of a row
pub cabled_socket : (rows : List Cable) (v p : ℕ) → Decides (cabled rows v p) (socket v p ∈ sockets rows)
unfolding cabled
cabled_socket [] v p = (λ t. true≢false t refl, λ h. absurd h)
cabled_socket (c ∷ rows) v p =
    Iff.trans
    (decides-⊎ (carries v p c) (cabled rows v p)
    (decides-⊎ (is_at v p c.near) (is_at v p c.far) (decides_is_at v p c.near) (decides_is_at v p c.far))
    (cabled_socket rows v p))
    (⊎_elim (⊎_map (λ p. p) inl) (λ r. inr (inr r)), ⊎_elim (λ p. inl (inl p)) (⊎_map inr (λ r. r)))

pub decides_within : (most k : ℕ) → Decides (within most k) (Within most k)
decides_within most k = decides-× (leb 1 k) (leb k most) (decides-≤ 1 k) (decides-≤ k most)

module _ (n : ℕ) (before : List Cable) (c : Cable) where
  abbrev OfBoth : (End → Type 0) → Type 0
  OfBoth P = P c.near × P c.far

  -- test by test, in the rule's order: each either shows a break of the rules or adds to what a right row has
  pub row_judged : Judges 3 (RowObeys n before c) (row_rule n before c)
  unfolding row_rule
  row_judged =
      judges_pass {T = OfBoth (λ e. Within n e.switch)} _ _ SwitchRange refl
      (decides-× _ _ (decides_within n c.near.switch) (decides_within n c.far.switch))
      (λ r. (r.range.near.0, r.range.far.0))
      (λ switches.
      judges_pass {T = OfBoth (λ e. Within 48 e.port)} _ _ PortRange refl
      (decides-× _ _ (decides_within 48 c.near.port) (decides_within 48 c.far.port))
      (λ r. (r.range.near.1, r.range.far.1))
      (λ ports.
      judges_fail _ _ SameSwitch refl (decides-≡ c.near.switch c.far.switch) (λ r. r.range.apart)
      (λ apart.
      judges_fail _ _ PortUsed refl
      (decides-⊎ _ _ (cabled_socket before c.near.switch c.near.port) (cabled_socket before c.far.switch c.far.port))
      (λ r. ⊎_elim r.near_free r.far_free)
      (λ free. obeyed (record {
        range = record { near = (switches.0, ports.0); far = (switches.1, ports.1); apart = apart };
        near_free = λ h. free (inl h);
        far_free = λ h. free (inr h);
      })))))

  pub row_fine : (row_rule n before c ≡ Ok tt) ↔ RowObeys n before c
  row_fine = (λ e. when_fine (subst (Judges 3 (RowObeys n before c)) e row_judged), fine_when row_judged)

  -- a row that is refused breaks the rules on switches and ports, and no other
  pub row_breaks : {rule : Rule} → row_rule n before c ≡ Err rule → (number_of rule ≡ 3) × (RowObeys n before c → ⊥)
  row_breaks e = when_breaks (subst (Judges 3 (RowObeys n before c)) e row_judged)

-- a fault is right exactly if it names a cabled port
pub fault_judged : (rows : List Cable) (before : List Socket) (f : Socket) → Judges 5 (Names rows before f) (fault_rule rows before f)
unfolding fault_rule
fault_judged rows before f =
    judges_pass (cabled rows f.switch f.port) (Ok tt) FaultUncabled refl (cabled_socket rows f.switch f.port) (λ h. h) obeyed

-- the two lists that are scanned
abbrev pub row_listing : ℕ → Listing Cable
row_listing n =
    record {
      place = row;
      form = SheetForm;
      read = cable_at;
      check = row_rule n;
      Obeys = RowObeys n;
      number = 3;
      judges = row_judged n;
    }

abbrev pub fault_listing : List Cable → Listing Socket
fault_listing rows =
    record {
      place = fault;
      form = FaultForm;
      read = fault_at;
      check = fault_rule rows;
      Obeys = Names rows;
      number = 5;
      judges = fault_judged rows;
    }
