-- What a step does to the tag: only an advance that forwards writes, and it writes the two bytes of its switch. And what the tag does to
-- a step: apart from the tag's length and rule 9, only those two bytes are read.
use Prim.Native.Nat.{ℕ, ◌+◌, ◌-◌, ◌*◌, ◌<◌}
use mathlib.Core.Path.{◌≡◌, refl, ap, sym, ◌∙◌}
use mathlib.Core.List.{List, [], ◌∷◌}
use mathlib.Core.Logic.{◌↔◌}
use mathlib.Core.Bool.{Bool, true, false}
use native.Mathlib.Omega.{arith}
use lib.ListN.{length, get_or, drop, set, length-set}
use lib.Seq.{get_or-set_same, get_or-set_other, drop-set-lt}
use lib.Dec.{leb, eqb}
use Rattle.std.proofs.lemmas.Bool.Decides.{nat_tests}
use Rattle.sheet.specs.Lists.{pick}
use Rattle.sheet.specs.Cables.{rows_of, switches_of}
use Rattle.sheet.specs.Faults.{faults_of}
use Rattle.sheet.specs.Order.{port_order}
use Rattle.sheet.specs.Refusals.{Answer, accepted, refused, list_answer}
use Rattle.sheet.specs.Exactly.{BothAccepted}
use Rattle.sheet.specs.declared.cables.Cable.{Cable}
use Rattle.sheet.proofs.Exactly.{both_accepted}
use Rattle.switch.specs.Choice.{Outcome, leaves, stays, choose}
use Rattle.switch.specs.Cell.{CellFits, cell_of, with_cell, entered, left_by}
use Rattle.switch.specs.Checks.{rule, switches_rule, arrival_rule, fresh_rule, cell_rule, first_broken, checks}
use Rattle.switch.specs.Step.{Stepped, stopped, moved, advanced, unless, stepped}
use Rattle.switch.specs.Exactly.{Marked}
use Rattle.switch.specs.Alike.{AlikeTags, AlikeSteps}
use Rattle.switch.specs.declared.cell.Cell.{Cell}
use Rattle.switch.specs.Checks.{Check}
use Rattle.switch.specs.Checks.{Passed, Refused}
use Rattle.switch.proofs.Blank.{marked}
use Rattle.switch.proofs.Stepping.{lists_rows, lists_sound, Advances, delivered, undelivered, forwarded, advances}
use Rattle.switch.proofs.Stepping.{Steps, lists_refuse, check_refuses, passes, steps, stepped_refused, stepped_accepted}
use Rattle.switch.proofs.Exactly.{passed_inside}

-- ---- a cell that fits its two bytes fits them when it is entered and when it is left

pub entered_fits : {old new : Cell} {arrival : ℕ} → CellFits old → arrival < 256 → new ≡ entered old arrival → CellFits new
entered_fits {old} {new} {arrival} fits small e = rw e (record { parent = go (eqb old.current.0 0); current = fits.current })
  where
    go : (b : Bool) → pick b arrival old.parent.0 < 256
    go true = small
    go false = fits.parent

pub left_fits : {old new : Cell} {port : ℕ} → CellFits old → port < 256 → new ≡ left_by old port → CellFits new
left_fits fits small e = rw e (record { parent = fits.parent; current = small })

-- ---- a cell written to a tag

module _ (tag : List ℕ) (v : ℕ) (cell : Cell) where
  abbrev first : ℕ
  first = 2 * (v - 1)

  pub length_with : length (with_cell tag v cell) ≡ length tag
  length_with = simp length-set

  pub with_other : (i : ℕ) → (i ≡ first → ⊥) → (i ≡ first + 1 → ⊥) → get_or (with_cell tag v cell) i 0 ≡ get_or tag i 0
  with_other i not_first not-second = grind (arith, get_or-set_other {A = ℕ})

  pub with_beyond : (k : ℕ) → first + 1 < k → drop k (with_cell tag v cell) ≡ drop k tag
  with_beyond k h = grind (arith, drop-set-lt {A = ℕ})

  -- read back as it was written
  pub cell_with : first + 1 < length tag → cell_of (with_cell tag v cell) v ≡ cell
  cell_with inside = (λ i. record { parent = record { 0 = parent i }; current = record { 0 = current i } })
    where
      parent : get_or (with_cell tag v cell) first 0 ≡ cell.parent.0
      parent =
          get_or-set_other (set tag first cell.parent.0) (first + 1) first cell.current.0 0 (λ e. omega arith)
          ∙ get_or-set_same tag first cell.parent.0 0 (omega arith)

      current : get_or (with_cell tag v cell) (first + 1) 0 ≡ cell.current.0
      current = get_or-set_same (set tag first cell.parent.0) (first + 1) cell.current.0 0 (simp length-set inside)

-- ---- what a step writes

-- a step that keeps the tag and does not forward, or one that forwards and writes the cell of its switch
pub data Writes (tag : List ℕ) (v : ℕ) (step : Stepped) : Type 0 where
  keeps : step.tag ≡ tag → (step.paper.end ≡ 0 → ⊥) → Writes tag v step
  writes : (cell : Cell) → step.tag ≡ with_cell tag v cell → step.paper.end ≡ 0 → Writes tag v step

pub advance_writes : {order : List Cable} {f tag : List ℕ} {v arrival d : ℕ} {step : Stepped}
    → Advances order f tag v arrival d step → Writes tag v step
advance_writes (delivered e) = keeps refl (λ z. omega arith)
advance_writes (undelivered e e') = keeps refl (λ z. omega arith)
advance_writes {tag = tag} {v} {arrival} (forwarded e {port} {current} e') =
    writes (left_by (entered (cell_of tag v) arrival) current) refl refl

module _ {tag : List ℕ} {v : ℕ} {step : Stepped} where
  pub writes_kept : Writes tag v step → (step.paper.end ≡ 0 → ⊥) → step.tag ≡ tag
  writes_kept (keeps e e') away = e
  writes_kept (writes cell e e') away = absurd (away e')

  pub writes_length : Writes tag v step → length step.tag ≡ length tag
  writes_length (keeps e e') = ap length e
  writes_length (writes cell e e') = ap length e ∙ length_with tag v cell

  pub writes_other : Writes tag v step → (i : ℕ) → (i ≡ 2 * (v - 1) → ⊥) → (i ≡ 2 * (v - 1) + 1 → ⊥)
      → get_or step.tag i 0 ≡ get_or tag i 0
  writes_other (keeps e e') i not_first not-second = ap (λ t. get_or t i 0) e
  writes_other (writes cell e e') i not_first not-second = ap (λ t. get_or t i 0) e ∙ with_other tag v cell i not_first not-second

  pub writes_beyond : Writes tag v step → (k : ℕ) → 2 * (v - 1) + 1 < k → drop k step.tag ≡ drop k tag
  writes_beyond (keeps e e') k inside = ap (drop k) e
  writes_beyond (writes cell e e') k inside = ap (drop k) e ∙ with_beyond tag v cell k inside

module _ (s f tag : List ℕ) (v arrival d : ℕ) where
  pub step_writes : Writes tag v (stepped s f tag v arrival d)
  step_writes = by_step (steps s f tag v arrival d)
    where
      by_step : {r : Stepped} → Steps s f tag v arrival d r → Writes tag v r
      by_step (lists_refuse e) = keeps refl (λ z. omega arith)
      by_step (check_refuses e e') = keeps refl (λ z. omega arith)
      by_step (passes e e') = advance_writes (advances (port_order (rows_of s) v) f tag v arrival d)

  -- refused, delivered or none: the tag is as it came, to the last byte
  pub tag_kept : ((stepped s f tag v arrival d).paper.end ≡ 0 → ⊥) → (stepped s f tag v arrival d).tag ≡ tag
  tag_kept = writes_kept step_writes

  pub tag_length : length (stepped s f tag v arrival d).tag ≡ length tag
  tag_length = writes_length step_writes

  -- forwarded or not: only the two bytes of this switch may differ
  pub tag_other : (i : ℕ) → (i ≡ 2 * (v - 1) → ⊥) → (i ≡ 2 * (v - 1) + 1 → ⊥)
      → get_or (stepped s f tag v arrival d).tag i 0 ≡ get_or tag i 0
  tag_other = writes_other step_writes

  -- no byte from 2n on is ever touched
  pub tag_beyond : (n cables : ℕ) → list_answer s f ≡ accepted n cables
      → drop (2 * n) (stepped s f tag v arrival d).tag ≡ drop (2 * n) tag
  tag_beyond n cables accepts = by_step (steps s f tag v arrival d)
    where
      by_step : {r : Stepped} → Steps s f tag v arrival d r → drop (2 * n) r.tag ≡ drop (2 * n) tag
      by_step (lists_refuse e) = refl
      by_step (check_refuses e e') = refl
      by_step (passes {n = m} {cables = k} e e') =
          let same : m ≡ n = cc in
          let lists = (both_accepted s f m k).0 e in
          let inside = passed_inside (lists_sound lists) f tag v arrival d (rw (lists_rows lists) at e') in
          writes_beyond (advance_writes (advances (port_order (rows_of s) v) f tag v arrival d)) (2 * n) (omega arith)

-- ---- what a step reads

module _ (order : List Cable) (f tag tag' : List ℕ) (v arrival d : ℕ) (cell : cell_of tag v ≡ cell_of tag' v) where
  -- after the checks, only the cell of the switch
  pub advance_alike : 2 * (v - 1) + 1 < length tag → 2 * (v - 1) + 1 < length tag'
      → AlikeSteps v (advanced order f tag v arrival d) (advanced order f tag' v arrival d)
  unfolding advanced
  advance_alike inside inside' = go (eqb v d) (cell_of tag v) cell
    where
      moves : (new : Cell) (o : Outcome) → AlikeSteps v (moved order tag v new o) (moved order tag' v new o)
      moves new (leaves port current) =
          record {
            paper = refl;
            far = refl;
            cell = cell_with tag v (left_by new current) inside ∙ sym (cell_with tag' v (left_by new current) inside');
          }
      moves new stays = record { paper = refl; far = refl; cell = cell }

      chosen : Cell → Outcome
      chosen old = choose (faults_of f) (entered old arrival).parent.0 (entered old arrival).current.0 order

      go : (b : Bool) (old : Cell) → old ≡ cell_of tag' v
          → AlikeSteps v (pick b (stopped 1 0 tag) (moved order tag v (entered old arrival) (chosen old)))
          (pick b (stopped 1 0 tag') (moved order tag' v (entered (cell_of tag' v) arrival) (chosen (cell_of tag' v))))
      go true old e = record { paper = refl; far = refl; cell = cell }
      go false old e = rw e (moves (entered (cell_of tag' v) arrival) (chosen (cell_of tag' v)))

fresh_alike : (n arrival : ℕ) (tag tag' : List ℕ) → (arrival ≡ 0 → Marked n tag ↔ Marked n tag')
    → fresh_rule n tag arrival ≡ fresh_rule n tag' arrival
fresh_alike n arrival tag tag' marks = grind (arith, nat_tests, marks, marked n tag, marked n tag')

checks_alike : (n : ℕ) (order : List Cable) (f tag tag' : List ℕ) (v arrival d : ℕ) → AlikeTags n v arrival tag tag'
    → checks n order f tag v arrival d ≡ checks n order f tag' v arrival d
unfolding checks
checks_alike n order f tag tag' v arrival d alike =
    let fresh = fresh_alike n arrival tag tag' alike.marked in
    (λ i.
    first_broken
    (switches_rule n v d
    ∷ rule 7 (leb (2 * n) (alike.long i))
    ∷ arrival_rule order f arrival
    ∷ fresh i
    ∷ cell_rule order f (alike.cell i)
    ∷ []))

-- two tags of one length that agree in the bytes of this switch, and for a packet from the host in rule 9, give the same answer, the same
-- far end and the same two bytes
pub step_alike : (s f tag tag' : List ℕ) (v arrival d : ℕ) → AlikeTags (switches_of s) v arrival tag tag'
    → AlikeSteps v (stepped s f tag v arrival d) (stepped s f tag' v arrival d)
step_alike s f tag tag' v arrival d alike = by_answer (list_answer s f) refl
  where
    refuses : (number : ℕ) → AlikeSteps v (stopped 3 number tag) (stopped 3 number tag')
    refuses number = record { paper = refl; far = refl; cell = alike.cell }

    by_check : {n cables : ℕ} (lists : BothAccepted s f n cables) (check : Check)
        → checks n (port_order (rows_of s) v) f tag v arrival d ≡ check
        → AlikeSteps v (unless check tag (advanced (port_order (rows_of s) v) f tag v arrival d))
        (unless check tag' (advanced (port_order (rows_of s) v) f tag' v arrival d))
    by_check lists Passed e =
        let inside = passed_inside (lists_sound lists) f tag v arrival d (rw (lists_rows lists) at e) in
        let long = alike.long in
        advance_alike (port_order (rows_of s) v) f tag tag' v arrival d alike.cell (omega arith) (omega arith)
    by_check lists (Refused number) e = refuses number

    by_answer : (answer : Answer) → list_answer s f ≡ answer → AlikeSteps v (stepped s f tag v arrival d) (stepped s f tag' v arrival d)
    by_answer (refused number) e =
        rw (stepped_refused s f tag v arrival d e, stepped_refused s f tag' v arrival d e) (refuses number)
    by_answer (accepted n cables) e =
        let lists = (both_accepted s f n cables).0 e in
        let alike' = rw (← lists.sheet.switches) at alike in
        rw (
          stepped_accepted s f tag v arrival d e,
          stepped_accepted s f tag' v arrival d e,
          ← checks_alike n (port_order (rows_of s) v) f tag tag' v arrival d alike',
        )
        (by_check lists (checks n (port_order (rows_of s) v) f tag v arrival d) refl)
