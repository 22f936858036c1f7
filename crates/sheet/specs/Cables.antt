-- Cable rows, the rules on them, and the sheet: one record of kind 1, then 0 to 512 of kind 2.
use Rattle.std.specs.Prelude.{ℕ, ◌+◌, List, [], Bool, get_or, leb, eqb, Result, Ok, Err}
use Rattle.sheet.specs.Lists.{pick, both, either, any}
use Rattle.sheet.specs.Records.{Reading, wrong, formed, scan, wholes, go_on, record_at, front, row}
use Rattle.sheet.specs.declared.cables.End.{End}
use Rattle.sheet.specs.declared.cables.Cable.{Cable}
use Rattle.sheet.specs.declared.rules.Rule.TheVariants.{SheetForm, SwitchCount, SwitchRange, PortRange, SameSwitch, PortUsed}
use Rattle.sheet.specs.declared.rules.Rule.{Rule}

-- switch, port, preference of one end, then of the other
abbrev pub end_at : List ℕ → ℕ → End
end_at s at = record { switch = get_or s at 0; port = get_or s (at + 1) 0; preference = get_or s (at + 2) 0 }

abbrev pub cable_at : List ℕ → ℕ → Cable
cable_at s at = record { near = end_at s (at + 1); far = end_at s (at + 4) }

-- the same cable, written from its other end
abbrev pub turned : Cable → Cable
turned c = record { near = c.far; far = c.near }

-- a port of a switch
pub record Socket : Type 0 where
  pub switch : ℕ
  pub port : ℕ

abbrev pub socket_of : End → Socket
socket_of e = record { switch = e.switch; port = e.port }

-- an end at this port of this switch
abbrev pub is_at : ℕ → ℕ → End → Bool
is_at v p e = both (eqb e.switch v) (eqb e.port p)

abbrev pub carries : ℕ → ℕ → Cable → Bool
carries v p c = either (is_at v p c.near) (is_at v p c.far)

-- some row has an end there
unfoldable pub cabled : List Cable → ℕ → ℕ → Bool
cabled rows v p = any (carries v p) rows

abbrev pub within : ℕ → ℕ → Bool
within most k = both (leb 1 k) (leb k most)

-- a row held to the rules and to the rows before it
unfoldable pub row_rule : ℕ → List Cable → Cable → Result (Unit {0}) Rule
row_rule n before c =
    pick (both (within n c.near.switch) (within n c.far.switch))
    (pick (both (within 48 c.near.port) (within 48 c.far.port))
    (pick (eqb c.near.switch c.far.switch) (Err SameSwitch)
    (pick (either (cabled before c.near.switch c.near.port) (cabled before c.far.switch c.far.port)) (Err PortUsed)
    (Ok tt)))
    (Err PortRange))
    (Err SwitchRange)

-- n, where the first record is whole
abbrev pub switches_of : List ℕ → ℕ
switches_of s = get_or s 1 0

-- the sheet, record by record
unfoldable pub sheet_reading : List ℕ → Reading Cable
sheet_reading s =
    formed SheetForm s 0 (record_at front s 0)
    (λ next. pick (within 64 (switches_of s)) (scan row SheetForm cable_at (row_rule (switches_of s)) 512 s next []) (wrong SwitchCount 0 next))
    (wrong SheetForm 0 0)

-- the cable rows of any bytes, as far as they are whole
unfoldable pub rows_of : List ℕ → List Cable
rows_of s = go_on (record_at front s 0) (λ next. wholes row cable_at 512 s next)
