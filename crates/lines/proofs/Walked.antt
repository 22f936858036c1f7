-- What a walk's result leaves room for: at most 1,024 hops, two for each of at most 512 cables, a trace that holds them all, and a
-- refusal number of one digit. So the line that is put for the walk that was told is the line that was promised.
use Prim.Native.Nat.{ℕ, ◌*◌, ◌≤◌}
use mathlib.Core.Path.{◌≡◌, refl, sym, ap, ◌∙◌, subst}
use mathlib.Core.List.{List}
use native.Mathlib.Omega.{arith}
use lib.ListN.{length, drop, length-append}
use Rattle.sheet.specs.Cables.{switches_of}
use Rattle.sheet.specs.Sound.{Within}
use Rattle.walk.specs.Walk.{paper_of, Result, Walks, turned_away, arrives, trace_bytes}
use Rattle.walk.specs.Condition3.{hops_in}
use Rattle.walk.specs.declared.walk.Walked.{Walked}
use Rattle.walk.proofs.Checking.{passed_premises, lists_switches, lists_cables, lists_sound, lists_few}
use Rattle.walk.proofs.Computing.{way_bound, walks_is}
use Rattle.walk.proofs.Exactly.{checks_exactly, refusal_numbers}
use Rattle.walk.proofs.OneAnswer.{paper_hops, walks_one, Told}
use Rattle.walk.proofs.Room.{trace_length}
use Rattle.lines.specs.Text.{filled}
use Rattle.lines.specs.Lines.{line_of, line_after, line_for, Written}

module _ {s faults tag trace : List ℕ} {source destination : ℕ} where
  fits : {w : Result} → Walks s faults tag trace source destination w
      → (w.paper.hops ≤ 1024) × (2 * w.paper.hops ≤ length w.trace) × (w.paper.number ≤ 7)
  fits (turned_away {number} e) =
      (omega arith, omega arith, (refusal_numbers ((checks_exactly s faults tag trace source destination number).0 e)).1)
  fits (arrives {k} e way end) =
      let p = passed_premises s faults tag trace source destination e in
      let on : Within (switches_of s) source = rw (lists_switches s faults p.lists) at p.source_on in (
        omega (
          arith,
          way_bound s faults destination source (lists_sound s faults p.lists) on way,
          lists_cables s faults p.lists,
          (lists_few s faults p.lists).1,
        ),
        omega (arith, trace_length k.trace, length-append (trace_bytes k.trace) (drop (2 * length k.trace) trace)),
        omega arith,
      )

  module _ (walked : Walked) {tag' trace' : List ℕ} (told : Told s faults tag trace source destination walked tag' trace') where
    same_hops : (paper_of walked).hops ≡ walked.hops
    same_hops = paper_hops walked

    pub walk_fits : (walked.hops ≤ 1024) × (2 * walked.hops ≤ length trace') × ((paper_of walked).number ≤ 7)
    walk_fits = rw same_hops at (fits told)

    -- the line of the walk that was told is the line of every walk there is, since there is one
    pub line_written : {line line' : List ℕ} {size : ℕ} → line' ≡ filled (line_after source destination walked trace') line
        → size ≡ length (line_after source destination walked trace')
        → (w : Result) → Walks s faults tag trace source destination w → Written source destination w line line' tag' trace' size
    line_written {line} {line'} {size} put counted w gives =
        let result : Result = record { paper = paper_of walked; tag = tag'; trace = trace' } in
        let same : line_after source destination walked trace' ≡ line_for source destination result =
        ap (λ (k : ℕ). line_of source destination (paper_of walked) (hops_in k trace')) (sym same_hops) in
        subst (λ (v : Result). Written source destination v line line' tag' trace' size) (walks_one told gives)
        (record {
          size_is = counted ∙ ap length same;
          line_is = put ∙ ap (λ (text : List ℕ). filled text line) same;
          tag_is = refl;
          trace_is = refl;
        })

-- one answer: the promise leaves one size, one line, one tag and one trace
module _ (s faults tag trace line : List ℕ) (source destination : ℕ) where
  abbrev Promised : List ℕ → List ℕ → List ℕ → ℕ → Type 0
  Promised line' tag' trace' size =
      (w : Result) → Walks s faults tag trace source destination w → Written source destination w line line' tag' trace' size

  pub one_line : {line' tag' trace' line'' tag'' trace'' : List ℕ} {size size' : ℕ} → Promised line' tag' trace' size
      → Promised line'' tag'' trace'' size' → (size ≡ size') × (line' ≡ line'') × (tag' ≡ tag'') × (trace' ≡ trace'')
  one_line p q =
      let (w, walks) = walks_is s faults tag trace source destination in
      let a = p w walks in
      let b = q w walks in (
        a.size_is ∙ sym b.size_is,
        a.line_is ∙ sym b.line_is,
        a.tag_is ∙ sym b.tag_is,
        a.trace_is ∙ sym b.trace_is,
      )
