-- What callers of the step rely on: where it forwards a packet, the published choice says by which port, and only the cell of the present
-- switch changes; where it does not, the tag is as it came. And the bytes of a tag past that cell are neither read nor written.
use Prim.Native.Nat.{ℕ, ◌+◌, ◌-◌, ◌*◌, ◌≤◌}
use mathlib.Core.Path.{◌≡◌, refl, ap, subst, ◌∙◌}
use mathlib.Core.List.{List, ◌++◌, map}
use mathlib.Core.Logic.{◌⊎◌}
use mathlib.Core.Bool.{Bool, true, false, not}
use native.Mathlib.Omega.{arith}
use lib.ListN.{length, take, set, length-set, get_or-append}
use lib.Seq.{set-append_left}
use lib.Dec.{eqb}
use borrow.Author.Tests.{eq-eqb, le-leb}
use Rattle.std.proofs.lemmas.Bool.Decides.{nat_tests}
use Rattle.sheet.specs.Lists.{pick, both, either, any, ◌∈◌}
use Rattle.sheet.specs.Cables.{rows_of}
use Rattle.sheet.specs.Faults.{faults_of}
use Rattle.sheet.specs.Order.{port_order, is_cabled, is_live}
use Rattle.sheet.specs.Refusals.{accepted, list_answer}
use Rattle.sheet.specs.Sound.{Within, Sound}
use Rattle.sheet.specs.declared.cables.Cable.{Cable}
use Rattle.sheet.proofs.Lists.{true_both, any_found}
use Rattle.sheet.proofs.Rows.{decides_within}
use Rattle.sheet.proofs.Cabling.{port_of}
use Rattle.switch.specs.Choice.{Outcome, leaves, stays, choose, Chosen}
use Rattle.switch.specs.Cell.{cell_of, with_cell, entered, left_by}
use Rattle.switch.specs.Answers.{paper}
use Rattle.switch.specs.Checks.{nonzero, checks}
use Rattle.switch.specs.Step.{Stepped, stopped, far_of, moved, advanced, unless, stepped}
use Rattle.switch.specs.declared.cell.Cell.{Cell}
use Rattle.switch.specs.Checks.{Passed}
use Rattle.switch.proofs.Choosing.{chosen}
use Rattle.switch.proofs.Tag.{with_other, cell_with, writes_kept, writes_length, advance_writes}
use Rattle.switch.proofs.Stepping.{Advances, delivered, undelivered, forwarded, advances, stepped_accepted}

-- ---- one cell of a tag

module _ (tag : List ℕ) (v : ℕ) (cell : Cell) (low : 1 ≤ v) where
  cell_kept : (w : ℕ) → 1 ≤ w → (w ≡ v → ⊥) → cell_of (with_cell tag v cell) w ≡ cell_of tag w
  cell_kept w above other =
      (λ i. record {
        parent = record { 0 = with_other tag v cell (2 * (w - 1)) (λ e. omega arith) (λ e. omega arith) i };
        current = record { 0 = with_other tag v cell (2 * (w - 1) + 1) (λ e. omega arith) (λ e. omega arith) i };
      })

  cell_written : 2 * v ≤ length tag → cell_of (with_cell tag v cell) v ≡ cell
  cell_written inside = cell_with tag v cell (omega arith)

-- ---- how an advance comes out

-- the cell as the arrival leaves it
abbrev pub cell_then : List ℕ → ℕ → ℕ → Cell
cell_then tag v arrival = entered (cell_of tag v) arrival

-- what the published choice comes to there
abbrev pub ChosenThere : List Cable → List ℕ → List ℕ → ℕ → ℕ → Outcome → Type 0
ChosenThere rows f tag v arrival =
    Chosen (map port_of (port_order rows v)) (λ p. is_live f p (port_order rows v)) (cell_then tag v arrival).parent.0
    (cell_then tag v arrival).current.0

module _ (rows : List Cable) (f tag : List ℕ) (v arrival d : ℕ) where
  -- forwarded by the choice's port, with the choice's current port in the cell
  pub record Forwards (step : Stepped) : Type 0 where
    pub away : v ≡ d → ⊥
    pub current : ℕ
    pub choice : ChosenThere rows f tag v arrival (leaves step.paper.port current)
    pub far : step.far ≡ far_of (port_order rows v) step.paper.port
    pub there : 1 ≤ v → 2 * v ≤ length tag → cell_of step.tag v ≡ left_by (cell_then tag v arrival) current
    pub others : 1 ≤ v → (w : ℕ) → 1 ≤ w → (w ≡ v → ⊥) → cell_of step.tag w ≡ cell_of tag w

  -- delivered at the destination, none where the choice leaves by no port
  pub data Ends : Stepped → Type 0 where
    delivers : v ≡ d → Ends (stopped 1 0 tag)
    finds_none : (v ≡ d → ⊥) → ChosenThere rows f tag v arrival stays → Ends (stopped 2 0 tag)

  module _ {n : ℕ} (sound : Sound n rows) where
    abbrev cell : Cell
    cell = cell_then tag v arrival

    choice_there : {o : Outcome} → choose (faults_of f) cell.parent.0 cell.current.0 (port_order rows v) ≡ o
        → ChosenThere rows f tag v arrival o
    choice_there e = subst (ChosenThere rows f tag v arrival) e (chosen sound v f cell.parent.0 cell.current.0)

    forwards_so : {step : Stepped} → Advances (port_order rows v) f tag v arrival d step → step.paper.end ≡ 0 → Forwards step
    forwards_so (delivered e) z = absurd (omega arith)
    forwards_so (undelivered away e) z = absurd (omega arith)
    forwards_so (forwarded away {port} {current} e) z =
        record {
          away = away;
          current = current;
          choice = choice_there e;
          far = refl;
          there = λ low inside. cell_written tag v (left_by cell current) low inside;
          others = λ low. cell_kept tag v (left_by cell current) low;
        }

    pub forwards : (advanced (port_order rows v) f tag v arrival d).paper.end ≡ 0 → Forwards (advanced (port_order rows v) f tag v arrival d)
    forwards = forwards_so (advances (port_order rows v) f tag v arrival d)

    ends_so : {step : Stepped} → Advances (port_order rows v) f tag v arrival d step → (step.paper.end ≡ 0 → ⊥) → Ends step
    ends_so (delivered e) z = delivers e
    ends_so (undelivered away e) z = finds_none away (choice_there e)
    ends_so (forwarded away e) z = absurd (z refl)

    pub ends : ((advanced (port_order rows v) f tag v arrival d).paper.end ≡ 0 → ⊥) → Ends (advanced (port_order rows v) f tag v arrival d)
    ends = ends_so (advances (port_order rows v) f tag v arrival d)

-- ---- the tag, whatever the order

-- a step with more bytes behind the tag
abbrev pub followed_by : List ℕ → Stepped → Stepped
followed_by rest step = record { paper = step.paper; far = step.far; tag = step.tag ++ rest }

module _ (order : List Cable) (f tag : List ℕ) (v arrival d : ℕ) where
  pub advanced_length : length (advanced order f tag v arrival d).tag ≡ length tag
  advanced_length = writes_length (advance_writes (advances order f tag v arrival d))

  -- a step that does not forward leaves the tag as it came
  pub advanced_keeps : ((advanced order f tag v arrival d).paper.end ≡ 0 → ⊥) → (advanced order f tag v arrival d).tag ≡ tag
  advanced_keeps = writes_kept (advance_writes (advances order f tag v arrival d))

  -- bytes behind the tag are neither read nor written
  pub longer_tag : (rest : List ℕ) → 1 ≤ v → 2 * v ≤ length tag
      → advanced order f (tag ++ rest) v arrival d ≡ followed_by rest (advanced order f tag v arrival d)
  unfolding advanced
  longer_tag rest low inside = ap on same_cell ∙ by (eqb v d) (choose (faults_of f) cell.parent.0 cell.current.0 order)
    where
      cell : Cell
      cell = entered (cell_of tag v) arrival

      -- the step on the longer tag, were this the cell there
      on : Cell → Stepped
      on c =
          let then = entered c arrival in
          pick (eqb v d) (stopped 1 0 (tag ++ rest))
          (moved order (tag ++ rest) v then (choose (faults_of f) then.parent.0 then.current.0 order))

      same_cell : cell_of (tag ++ rest) v ≡ cell_of tag v
      same_cell =
          (λ i. record {
            parent = record { 0 = get_or-append tag rest 0 (2 * (v - 1)) (omega arith) i };
            current = record { 0 = get_or-append tag rest 0 (2 * (v - 1) + 1) (omega arith) i };
          })

      written : (c : Cell) → with_cell (tag ++ rest) v c ≡ with_cell tag v c ++ rest
      written c =
          ap (λ t. set t (2 * (v - 1) + 1) c.current.0) (set-append_left tag rest (2 * (v - 1)) c.parent.0 (omega arith))
          ∙ set-append_left (set tag (2 * (v - 1)) c.parent.0) rest (2 * (v - 1) + 1) c.current.0 (simp length-set (omega arith))

      by : (b : Bool) (o : Outcome)
          → pick b (stopped 1 0 (tag ++ rest)) (moved order (tag ++ rest) v cell o)
          ≡ followed_by rest (pick b (stopped 1 0 tag) (moved order tag v cell o))
      by true o = refl
      by false stays = refl
      by false (leaves p c) = (λ i. record { paper = paper 0 p 0; far = far_of order p; tag = written (left_by cell c) i })

-- ---- the cell of a switch that has no current port

module _ (order : List Cable) (f tag : List ℕ) (v arrival d : ℕ) (fresh : (cell_of tag v).current.0 ≡ 0) where
  -- the parent becomes the arrival port
  pub first_parent : (cell_then tag v arrival).parent.0 ≡ arrival
  first_parent = rw (eq-eqb (cell_of tag v).current.0 0 fresh)

  -- also when the packet goes straight back, and the current port then stays 0
  pub straight_back : (v ≡ d → ⊥) → 1 ≤ v → 2 * v ≤ length tag → choose (faults_of f) arrival 0 order ≡ leaves arrival 0
      → ((advanced order f tag v arrival d).paper ≡ paper 0 arrival 0)
      × (cell_of (advanced order f tag v arrival d).tag v ≡ record { parent = record { 0 = arrival }; current = record { 0 = 0 } })
  straight_back away low inside back = so (advances order f tag v arrival d)
    where
      then : choose (faults_of f) (cell_then tag v arrival).parent.0 (cell_of tag v).current.0 order ≡ leaves arrival 0
      then = rw (first_parent, fresh) back

      so : {step : Stepped} → Advances order f tag v arrival d step
          → (step.paper ≡ paper 0 arrival 0)
          × (cell_of step.tag v ≡ record { parent = record { 0 = arrival }; current = record { 0 = 0 } })
      so (delivered e) = absurd (away e)
      so (undelivered e e') = cc
      so (forwarded e {port} {current} e') =
          let leaves_by : port ≡ arrival = cc in
          let stays_0 : current ≡ 0 = cc in (
            ap (λ p. paper 0 p 0) leaves_by,
            cell_written tag v (left_by (cell_then tag v arrival) current) low inside
                ∙ (λ i. record { parent = record { 0 = first_parent i }; current = record { 0 = stays_0 i } }),
          )

-- ---- the checks

module _ (n : ℕ) (order : List Cable) (f tag : List ℕ) (v arrival d : ℕ) where
  -- what rules 6 to 10 ask of a step
  pub record InOrder : Type 0 where
    pub present : Within n v
    pub destination : Within n d
    pub tag_room : 2 * n ≤ length tag
    pub arrived : (arrival ≡ 0) ⊎ (is_live f arrival order ≡ true)
    pub fresh : arrival ≡ 0 → (b : ℕ) → b ∈ take (2 * n) tag → b ≡ 0
    pub current : ((cell_of tag v).current.0 ≡ 0) ⊎ (is_cabled (cell_of tag v).current.0 order ≡ true)
    pub parent : ((cell_of tag v).parent.0 ≡ 0) ⊎ (is_live f (cell_of tag v).parent.0 order ≡ true)

  pub in_order_passes : InOrder → checks n order f tag v arrival d ≡ Passed
  unfolding checks
  in_order_passes h =
      rw (
        true_both ((decides_within n v).1 h.present) ((decides_within n d).1 h.destination),
        le-leb (2 * n) (length tag) h.tag_room,
        usable arrival h.arrived,
        fresh_tag,
        cell_usable h.current,
      )
    where
      usable : (p : ℕ) → (p ≡ 0) ⊎ (is_live f p order ≡ true) → either (eqb p 0) (is_live f p order) ≡ true
      usable p t = grind (arith, nat_tests)

      fresh_tag : either (not (eqb arrival 0)) (not (any nonzero (take (2 * n) tag))) ≡ true
      fresh_tag = grind (arith, nat_tests, none)
        where
          none : any nonzero (take (2 * n) tag) ≡ true → arrival ≡ 0 → ⊥
          none t e = let (b, at, t') = any_found nonzero (take (2 * n) tag) t in grind (arith, nat_tests, h.fresh e b at)

      cell_usable : ((cell_of tag v).current.0 ≡ 0) ⊎ (is_cabled (cell_of tag v).current.0 order ≡ true)
          → either (eqb (cell_of tag v).current.0 0)
          (both (is_cabled (cell_of tag v).current.0 order)
          (either (eqb (cell_of tag v).parent.0 0) (is_live f (cell_of tag v).parent.0 order)))
          ≡ true
      cell_usable t = grind (arith, nat_tests, usable (cell_of tag v).parent.0 h.parent)

-- a step that is in order is the advance
pub checked_step : (s f tag : List ℕ) (v arrival d : ℕ) {n cables : ℕ} → list_answer s f ≡ accepted n cables
    → InOrder n (port_order (rows_of s) v) f tag v arrival d
    → stepped s f tag v arrival d ≡ advanced (port_order (rows_of s) v) f tag v arrival d
checked_step s f tag v arrival d {n} lists h =
    stepped_accepted s f tag v arrival d lists
    ∙ ap (λ check. unless check tag (advanced (port_order (rows_of s) v) f tag v arrival d))
    (in_order_passes n (port_order (rows_of s) v) f tag v arrival d h)
