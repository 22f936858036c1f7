-- Condition 2, the step's share: a sheet built anew, its rows in another order and each either way round, gives the same answer and the
-- same tag, whatever else is passed. The step asks the sheet for the answer to the lists and for one port order, and both are the same.
use Prim.Native.Nat.{ℕ}
use mathlib.Core.Path.{◌≡◌, ap₂}
use mathlib.Core.List.{List}
use native.Mathlib.Omega.{arith}
use Rattle.sheet.specs.Cables.{rows_of, switches_of}
use Rattle.sheet.specs.Order.{port_order}
use Rattle.sheet.specs.Refusals.{Answer, accepted, refused, list_answer}
use Rattle.sheet.specs.Accepted.{AcceptedSheet}
use Rattle.sheet.specs.Rebuilt.{Rebuilt, sheet_bytes}
use Rattle.sheet.specs.Cabling.{SameCabling}
use Rattle.sheet.specs.declared.cables.Cable.{Cable}
use Rattle.sheet.proofs.RebuiltSheet.{rebuilt_sheet}
use Rattle.switch.specs.Checks.{checks}
use Rattle.switch.specs.Step.{Stepped, stopped, unless, advanced, stepped}

module _ (f tag : List ℕ) (v arrival d : ℕ) where
  -- the step by what it asks of the sheet
  answered : Answer → List Cable → Stepped
  answered (refused number) order = stopped 3 number tag
  answered (accepted n cables) order = unless (checks n order f tag v arrival d) tag (advanced order f tag v arrival d)

  asks : (s : List ℕ) → stepped s f tag v arrival d ≡ answered (list_answer s f) (port_order (rows_of s) v)
  unfolding stepped answered
  asks s = grind arith

  -- two sheets that answer every question alike
  pub same_step : (s s' : List ℕ) → SameCabling s s' → stepped s f tag v arrival d ≡ stepped s' f tag v arrival d
  same_step s s' same = rw (asks s, asks s') (ap₂ answered (same.answers f) (same.order v))

pub rebuilt_step : {s s' : List ℕ} {rows rows' : List Cable} → AcceptedSheet s rows → Rebuilt rows rows'
    → s' ≡ sheet_bytes (switches_of s) rows' → (f tag : List ℕ) (v arrival d : ℕ)
    → stepped s f tag v arrival d ≡ stepped s' f tag v arrival d
rebuilt_step {s} {s'} {rows} {rows'} sheet rebuilt bytes f tag v arrival d =
    rw bytes (same_step f tag v arrival d s (sheet_bytes (switches_of s) rows') (rebuilt_sheet sheet rebuilt))
