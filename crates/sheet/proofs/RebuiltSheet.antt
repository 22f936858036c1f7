-- Rebuild, on the bytes: an accepted sheet whose rows are put in another order, each with its ends either way round, is accepted with the
-- same counts and answers every question alike. The port order decides every question, and the rows' order does not touch it.
use Prim.Native.Nat.{ℕ, ◌≤◌}
use mathlib.Core.Path.{◌≡◌, refl, ap, ap₂, subst}
use mathlib.Core.List.{List, []}
use Rattle.sheet.specs.Lists.{pick}
use Rattle.sheet.specs.Records.{right, scan, fault}
use Rattle.sheet.specs.Cables.{Socket, socket_of, switches_of, sheet_reading, rows_of}
use Rattle.sheet.specs.Faults.{fault_at, fault_rule, fault_reading}
use Rattle.sheet.specs.Order.{port_order, position_of, cable_of, is_cabled, is_live}
use Rattle.sheet.specs.Refusals.{accepted, sheet_answer, list_answer, fault_answer_of}
use Rattle.sheet.specs.Accepted.{AcceptedSheet}
use Rattle.sheet.specs.Rebuilt.{Rebuilt, sheet_bytes}
use Rattle.sheet.specs.Cabling.{SameCabling}
use Rattle.sheet.specs.declared.cables.Cable.{Cable}
use Rattle.sheet.specs.declared.rules.Rule.{Rule}
use Rattle.sheet.specs.declared.rules.Rule.TheVariants.{FaultForm, FaultUncabled}
use Rattle.std.specs.Prelude.{Result, Ok, Err}
use Rattle.sheet.proofs.Accepted.{accepted_of}
use Rattle.sheet.proofs.Sheet.{rows_of_lem}
use Rattle.sheet.proofs.Rebuilding.{rebuilt_length, rebuilt_sound, rebuilt_order, rebuilt_cabled}

module _ {s : List ℕ} {rows rows' : List Cable} (sheet : AcceptedSheet s rows) (rebuilt : Rebuilt rows rows') where
  abbrev again : List ℕ
  again = sheet_bytes (switches_of s) rows'

  pub rebuilt_accepted : AcceptedSheet (sheet_bytes (switches_of s) rows') rows'
  rebuilt_accepted =
      record {
        bytes = refl;
        count = sheet.count;
        few = subst (λ k. k ≤ 512) (rebuilt_length rebuilt) sheet.few;
        sound = rebuilt_sound sheet.sound rebuilt;
      }

  read : sheet_reading s ≡ right rows
  read = accepted_of s rows sheet

  read_again : sheet_reading again ≡ right rows'
  read_again = accepted_of again rows' rebuilt_accepted

  -- the fault list is held to the same ports
  same_list : (f : List ℕ) → fault_reading rows f ≡ fault_reading rows' f
  unfolding fault_reading fault_rule
  same_list f =
      ap (λ (rule : List Socket → Socket → Result (Unit {0}) Rule). scan fault FaultForm fault_at rule 512 f 0 [])
      (λ i before x. pick (rebuilt_cabled rebuilt x.switch x.port i) (Ok tt) (Err FaultUncabled))

  same_order : (v : ℕ) → port_order (rows_of s) v ≡ port_order (rows_of again) v
  same_order v = rw (rows_of_lem s read, rows_of_lem again read_again) (rebuilt_order sheet.sound rebuilt v)

  pub rebuilt_sheet : SameCabling s (sheet_bytes (switches_of s) rows')
  unfolding sheet_answer list_answer
  rebuilt_sheet =
      record {
        answer = rw (read, read_again) (ap (accepted (switches_of s)) (rebuilt_length rebuilt));
        answers = λ f.
            rw (read, read_again)
            (ap₂ fault_answer_of (ap (accepted (switches_of s)) (rebuilt_length rebuilt)) (same_list f));
        order = same_order;
        position = λ v p. ap (position_of p) (same_order v);
        cabled = λ v p. ap (is_cabled p) (same_order v);
        far = λ v p. ap (λ order. socket_of (cable_of (position_of p order) order).far) (same_order v);
        live = λ f v p. ap (is_live f p) (same_order v);
      }
