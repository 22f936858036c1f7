-- The refusals of sheet and fault list, each given exactly when: told by the records up to the first wrong one, with rules taken from the
-- table and not from the order of the tests.
use Rattle.std.specs.Prelude.{ℕ, ◌≤◌, ◌<◌, ◌≡◌, List, [], ◌∷◌, ◌++◌, length}
use Rattle.sheet.specs.Records.{front, row, fault}
use Rattle.sheet.specs.Cables.{Socket, cable_at, switches_of}
use Rattle.sheet.specs.Faults.{fault_at}
use Rattle.sheet.specs.Lists.{◌∈◌}
use Rattle.sheet.specs.Sound.{Within, sockets}
use Rattle.sheet.specs.Standing.{Whole, OtherKind, Cut}
use Rattle.sheet.specs.Accepted.{RowObeys, AcceptedSheet, AcceptedWith}
use Rattle.sheet.specs.declared.cables.Cable.{Cable}
use Rattle.sheet.specs.declared.records.Place.{Place}

-- at most 512 records of one place from a start on, each held to its rule and to those before it
module _ {A : Type 0} (place : Place) (read : List ℕ → ℕ → A) (Obeys : List A → A → Type 0) (s : List ℕ) (start : ℕ) where
  -- the records up to a position are all right, and hold these
  pub data Right : ℕ → List A → Type 0 where
    none : Right start []
    more : {at next : ℕ} {before : List A} → Right at before → length before < 512 → Whole place s at next → Obeys before (read s at)
        → Right next (before ++ (read s at ∷ []))

  -- and so are all records
  pub record AllRight (records : List A) : Type 0 where
    pub end : ℕ
    pub right : Right end records
    pub ended : length s ≤ end

  -- after right records, one that is wrong by its form
  pub data FormWrong : Type 0 where
    other_kind : {at : ℕ} {before : List A} → Right at before → OtherKind place s at → FormWrong
    cut_short : {at : ℕ} {before : List A} → Right at before → Cut place s at → FormWrong
    one_too_many : {at next : ℕ} {before : List A} → Right at before → length before ≡ 512 → Whole place s at next → FormWrong

  -- after right records, one that is whole and not too many, and breaks its rule
  pub data RuleBroken : Type 0 where
    broken : {at next : ℕ} {before : List A} → Right at before → length before < 512 → Whole place s at next
        → (Obeys before (read s at) → ⊥) → RuleBroken

-- a sheet's front record, whole and with 1 to 64 switches; the rows begin at its third byte
pub record FrontRight (s : List ℕ) : Type 0 where
  pub whole : Whole front s 0 2
  pub count : Within 64 (switches_of s)

-- the rows of a sheet, held to the rules on switches and ports
module _ (s : List ℕ) where
  abbrev pub RowsRight : List Cable → Type 0
  RowsRight rows = FrontRight s × AllRight row cable_at (RowObeys (switches_of s)) s 2 rows

  pub data Refusal1 : Type 0 where
    empty : length s ≡ 0 → Refusal1
    front_kind : OtherKind front s 0 → Refusal1
    front_cut : Cut front s 0 → Refusal1
    later : FrontRight s → FormWrong row cable_at (RowObeys (switches_of s)) s 2 → Refusal1

  pub record Refusal2 : Type 0 where
    pub whole : Whole front s 0 2
    pub outside : Within 64 (switches_of s) → ⊥

  pub record Refusal3 : Type 0 where
    pub front : FrontRight s
    pub rule : RuleBroken row cable_at (RowObeys (switches_of s)) s 2

  -- by number
  pub data SheetRefusal : ℕ → Type 0 where
    by_form : Refusal1 → SheetRefusal 1
    by_count : Refusal2 → SheetRefusal 2
    by_row : Refusal3 → SheetRefusal 3

-- a fault is to name a cabled port of the rows
abbrev pub Names : List Cable → List Socket → Socket → Type 0
Names rows before f = f ∈ sockets rows

module _ (rows : List Cable) (f : List ℕ) where
  abbrev pub FaultsRight : List Socket → Type 0
  FaultsRight = AllRight fault fault_at (Names rows) f 0

  abbrev pub Refusal4 : Type 0
  Refusal4 = FormWrong fault fault_at (Names rows) f 0

  abbrev pub Refusal5 : Type 0
  Refusal5 = RuleBroken fault fault_at (Names rows) f 0

  pub data ListRefusal : ℕ → Type 0 where
    by_fault_form : Refusal4 → ListRefusal 4
    by_fault : Refusal5 → ListRefusal 5

-- a sheet and a fault list accepted, or refused: the sheet comes first
pub record BothAccepted (s f : List ℕ) (n cables : ℕ) : Type 0 where
  pub sheet : AcceptedWith s n cables
  pub faults : List Socket
  pub right : FaultsRight sheet.rows f faults

pub data EitherRefused (s f : List ℕ) (number : ℕ) : Type 0 where
  of_sheet : SheetRefusal s number → EitherRefused s f number
  of_list : {rows : List Cable} → AcceptedSheet s rows → ListRefusal rows f number → EitherRefused s f number
