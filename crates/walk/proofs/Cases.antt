-- P1 to P10 hold: the recursion on fuel (Computing.antt) gives the walk, and for each case it computes to what the paper says.
use Prim.Native.Nat.{ℕ}
use mathlib.Core.Path.{◌≡◌, refl, subst}
use mathlib.Core.List.{List, [], ◌∷◌, map}
use mathlib.Core.Bool.{Bool, true, false}
use Rattle.sheet.specs.Lists.{both, All}
use Rattle.sheet.specs.Records.{form_of, record_at, scan, wholes}
use Rattle.sheet.specs.Cables.{rows_of, within, cabled, row_rule, sheet_reading}
use Rattle.sheet.specs.Faults.{fault_rule, fault_reading, faults_of, live}
use Rattle.sheet.specs.Order.{seen_from, insert, sorted, port_order, position_of}
use Rattle.sheet.specs.Refusals.{Answer, accepted, refused, list_answer}
use Rattle.sheet.specs.Sound.{Within}
use Rattle.switch.specs.Choice.{first_open, choose}
use Rattle.switch.specs.Step.{advanced}
use Rattle.walk.specs.Walk.{step_of, turned_away, arrives}
use Rattle.walk.specs.Cases.{Expected, ends, refuses, Case, Holds, cases}
use Rattle.walk.proofs.Checking.{on_sheet_lem, premises_pass, lists_refuse, off_refuse, lists_switches, lists_cables, lists_sound}
use Rattle.walk.proofs.Computing.{last_from, last_ends}

-- what the recursion tells of a case
abbrev on_sheet : Case → Bool → Expected
on_sheet c true =
    let k = last_from c.sheet c.faults c.destination c.source in
    ends (step_of c.sheet c.faults c.destination k).paper.end k.at k.trace k.tag
on_sheet c false = refuses 6

abbrev on_answer : Case → Answer → Expected
on_answer c (refused number) = refuses number
on_answer c (accepted n cables) = on_sheet c (both (within n c.source) (within n c.destination))

abbrev told : Case → Expected
told c = on_answer c (list_answer c.sheet c.faults)

module _ (c : Case) where
  abbrev On : ℕ → Type 0
  On n = Within n c.source × Within n c.destination

  told_on : {n cables : ℕ} → list_answer c.sheet c.faults ≡ accepted n cables → On n → Holds c (on_sheet c true)
  told_on {n} {cables} lists on tag trace tag_room trace_room =
      let switches = lists_switches c.sheet c.faults lists in
      let (way, end) =
      last_ends c.sheet c.faults c.destination c.source (lists_sound c.sheet c.faults lists) (rw switches at on.0) in
      arrives
      (premises_pass c.sheet c.faults tag trace c.source c.destination (record {
        n = n;
        cables = cables;
        lists = lists;
        source_on = on.0;
        destination_on = on.1;
        tag_room = rw switches tag_room;
        trace_room = rw (lists_cables c.sheet c.faults lists) trace_room;
      }))
      way end

  told_holds : Holds c (told c)
  told_holds = by_answer (list_answer c.sheet c.faults) refl
    where
      by_sheet : {n cables : ℕ} → list_answer c.sheet c.faults ≡ accepted n cables → (b : Bool)
          → both (within n c.source) (within n c.destination) ≡ b → Holds c (on_sheet c b)
      by_sheet {n} lists true on =
          told_on lists
          ((on_sheet_lem c.source c.destination n).0 on)
      by_sheet lists false off = λ tag trace.
          turned_away (off_refuse c.sheet c.faults tag trace c.source c.destination lists off)

      by_answer : (answer : Answer) → list_answer c.sheet c.faults ≡ answer → Holds c (on_answer c answer)
      by_answer (refused number) e = λ tag trace.
          turned_away (lists_refuse c.sheet c.faults tag trace c.source c.destination e)
      by_answer (accepted n cables) e = by_sheet e (both (within n c.source) (within n c.destination)) refl

all_told : (list : List Case) → map told list ≡ map (λ c. c.expected) list → All (λ c. Holds c c.expected) list
all_told [] e = tt
all_told (c ∷ list) e =
    let here : told c ≡ c.expected = cc in
    (subst (Holds c) here (told_holds c), all_told list (cc))

pub cases_hold : All (λ c. Holds c c.expected) cases
unfolding form_of record_at scan wholes sheet_reading rows_of fault_reading faults_of fault_rule row_rule cabled live list_answer
    port_order sorted insert seen_from position_of choose first_open advanced
cases_hold = all_told cases refl
