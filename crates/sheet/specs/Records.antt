-- Bytes on the bench: one byte of kind, then a body whose length the kind fixes. Lists of such records are read from the front, record by
-- record, at each record form before content; the first wrong record decides.
use Rattle.std.specs.Prelude.{ℕ, zero, suc, ◌+◌, ◌-◌, List, [], ◌∷◌, ◌++◌, length, get_or, leb, eqb, Result, Ok, Err}
use Rattle.sheet.specs.Lists.{pick}
use Rattle.sheet.specs.declared.records.Place.{Place}
use Rattle.sheet.specs.declared.records.Form.{Form}
use Rattle.sheet.specs.declared.records.Found.{Found}
use Rattle.sheet.specs.declared.records.Found.TheVariants.{Record, WrongKind, CutShort, Ended}
use Rattle.sheet.specs.declared.rules.Rule.{Rule}

abbrev pub form : ℕ → ℕ → Form
form body place = record { body = body; place = record { 0 = place } }

-- body length and allowed place, by kind; kind 0 stands nowhere
abbrev pub forms : List Form
forms = form 0 0 ∷ form 1 1 ∷ form 6 2 ∷ form 2 3 ∷ form 2 4 ∷ []

-- the places: the sheet's front, the sheet after it, the fault list, the asks
abbrev pub front : Place
front = record { 0 = 1 }

abbrev pub row : Place
row = record { 0 = 2 }

abbrev pub fault : Place
fault = record { 0 = 3 }

abbrev pub ask : Place
ask = record { 0 = 4 }

unfoldable pub form_of : ℕ → Form
form_of kind = get_or forms kind (form 0 0)

-- what stands at a position
unfoldable pub record_at : Place → List ℕ → ℕ → Found
record_at place s at =
    let f = form_of (get_or s at 0) in
    pick (leb (length s) at) Ended
    (pick (eqb f.place.0 place.0)
    (pick (leb f.body (length s - at - 1)) (Record (at + 1 + f.body)) CutShort)
    WrongKind)

-- what a list of records comes to: all right, or the first wrong record, by its rule, its start and its length as far as the bytes go
pub data Reading (A : Type 0) : Type 0 where
  right : List A → Reading A
  wrong : Rule → ℕ → ℕ → Reading A

-- at a record: the rule that its form breaks, or what follows
abbrev pub formed : {A : Type 0} → Rule → List ℕ → ℕ → Found → (ℕ → Reading A) → Reading A → Reading A
formed broken s at (Record next) whole done = whole next
formed broken s at WrongKind whole done = wrong broken at 1
formed broken s at CutShort whole done = wrong broken at (length s - at)
formed broken s at Ended whole done = done

abbrev pub judged : {A : Type 0} → Result (Unit {0}) Rule → ℕ → ℕ → Reading A → Reading A
judged (Ok tt) at size rest = rest
judged (Err rule) at size rest = wrong rule at size

-- at most `room` records of one place from a position on; `read` says what a record holds, and `check` holds it to those before
module _ {A : Type 0} (place : Place) (broken : Rule) (read : List ℕ → ℕ → A) (check : List A → A → Result (Unit {0}) Rule) where
  unfoldable pub scan : ℕ → List ℕ → ℕ → List A → Reading A
  scan zero s at before =
      formed broken s at (record_at place s at) (λ next. wrong broken at (next - at)) (right before)
  scan (suc room) s at before =
      formed broken s at (record_at place s at)
      (λ next. judged (check before (read s at)) at (next - at) (scan room s next (before ++ (read s at ∷ []))))
      (right before)

-- the records as far as they are whole and of one place, at most `room`, whatever they hold
abbrev pub go_on : {A : Type 0} → Found → (ℕ → List A) → List A
go_on (Record next) whole = whole next
go_on WrongKind whole = []
go_on CutShort whole = []
go_on Ended whole = []

module _ {A : Type 0} (place : Place) (read : List ℕ → ℕ → A) where
  unfoldable pub wholes : ℕ → List ℕ → ℕ → List A
  wholes zero s at = []
  wholes (suc room) s at = go_on (record_at place s at) (λ next. read s at ∷ wholes room s next)
