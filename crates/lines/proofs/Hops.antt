-- Laws on the text of hops: a trace's pairs of bytes are its hops, and one pair more is its text behind that of the others. A line with
-- at most 1,024 hops has at most 8,265 bytes.
use Prim.Native.Nat.{ℕ, zero, suc, ◌+◌, ◌*◌, ◌/◌, ◌^◌, ◌≤◌, ◌<◌}
use native.Mathlib.Numerals.{add-one}
use mathlib.Core.Path.{◌≡◌, refl, sym, ap, ◌∙◌}
use mathlib.Core.List.{List, [], ◌∷◌, ◌++◌, append_assoc, append-nil}
use native.Mathlib.Omega.{arith}
use lib.ListN.{length, get_or, take, drop, length-append, length-take}
use lib.Seq.{get_or-take, get_or-drop, take_all}
use Rattle.std.specs.Simd.{first_chunks}
use Rattle.walk.specs.Network.{Dart}
use Rattle.walk.specs.Walk.{ended, paper_of}
use Rattle.walk.specs.Condition3.{hops_in}
use Rattle.walk.specs.declared.walk.End.{End}
use Rattle.walk.specs.declared.walk.End.TheVariants.{Delivered, None}
use Rattle.walk.specs.declared.walk.Walked.{Walked}
use Rattle.lines.specs.declared.text.Line.{Line}
use Rattle.lines.specs.Text.{decimal, added}
use Rattle.lines.specs.Lines.{delivered_word, none_word, refused_word, blank, hop_text, hops_text, way_text, refusal_text, end_text}
use Rattle.lines.specs.Lines.{line_of, hops_of, line_after}
use Rattle.lines.proofs.Texts.{decimal_word, decimal_byte, added_append, Done, line_done}

-- the first pairs of a trace are its first hops
pub hops_chunked : (i k : ℕ) (bytes : List ℕ) → i ≤ k → hops_of (take i (first_chunks 2 k bytes)) ≡ hops_in i bytes
hops_chunked zero k bytes h = refl
hops_chunked (suc i) zero bytes h = absurd (omega arith)
hops_chunked (suc i) (suc k) bytes h =
    rw (get_or-take 2 bytes 0 0 (omega arith), get_or-take 2 bytes 1 0 (omega arith), hops_chunked i k (drop 2 bytes) (omega arith))

pairs_counted : (k : ℕ) (bytes : List ℕ) → length (first_chunks 2 k bytes) ≡ k
pairs_counted zero bytes = refl
pairs_counted (suc k) bytes = ap suc (pairs_counted k (drop 2 bytes))

-- one pair more
hops_text_more : (i : ℕ) (pairs : List (List ℕ)) → i < length pairs
    → hops_text (hops_of (take (suc i) pairs))
    ≡ hops_text (hops_of (take i pairs))
    ++ hop_text (record { switch = get_or (get_or pairs i []) 0 0; port = get_or (get_or pairs i []) 1 0 })
hops_text_more i [] h = absurd (omega arith)
hops_text_more zero (pair ∷ pairs) h = append-nil _
hops_text_more (suc i) (pair ∷ pairs) h =
    ap (λ (text : List ℕ). hop_text (record { switch = get_or pair 0 0; port = get_or pair 1 0 }) ++ text)
    (hops_text_more i pairs (omega arith))
    ∙ sym (append_assoc (hop_text (record { switch = get_or pair 0 0; port = get_or pair 1 0 })) (hops_text (hops_of (take i pairs))) _)

pub added_hop : (line : Line) (i : ℕ) (pairs : List (List ℕ)) → i < length pairs
    → added line (hops_text (hops_of (take (i + 1) pairs)))
    ≡ added (added line (hops_text (hops_of (take i pairs))))
    (hop_text (record { switch = get_or (get_or pairs i []) 0 0; port = get_or (get_or pairs i []) 1 0 }))
added_hop line i pairs h = rw (add-one i, hops_text_more i pairs h) (added_append line (hops_text (hops_of (take i pairs))) _)

-- as many hops as there are, are all of them. With this law the check accepts a slice of all hops in `put_way`, and so refuses one that is
-- a hop short for that hop, and not for being a slice.
pub all_hops : (pairs : List (List ℕ)) (k : ℕ) → k ≡ length pairs → take k pairs ≡ pairs
all_hops pairs k all = take_all k pairs (omega (arith, all))

-- ---- how long a line is

hop_length : (switch port : ℕ) → switch < 256 → port < 256 → length (hop_text (record { switch = switch; port = port })) ≤ 8
hop_length switch port h h' =
    omega (arith, length-append (decimal switch) (58 ∷ decimal port), decimal_byte switch h, decimal_byte port h')

hops_length : (k : ℕ) (bytes : List ℕ) → ((i : ℕ) → get_or bytes i 0 < 256) → length (hops_text (hops_in k bytes)) ≤ 8 * k
hops_length zero bytes small = omega arith
hops_length (suc k) bytes small =
    let rest : length (hops_text (hops_in k (drop 2 bytes))) ≤ 8 * k =
    hops_length k (drop 2 bytes) (λ i. rw (get_or-drop 2 bytes i 0) (small (2 + i))) in
    omega (
      arith,
      length-append (hop_text (record { switch = get_or bytes 0 0; port = get_or bytes 1 0 })) (hops_text (hops_in k (drop 2 bytes))),
      hop_length (get_or bytes 0 0) (get_or bytes 1 0) (small 0) (small 1),
      rest,
    )

way_length : (word : List ℕ) (count : ℕ) (hops : List Dart) → length word ≤ 9 → count < 2 ^ 64 → length (hops_text hops) ≤ 8192
    → length (way_text word count hops) ≤ 8222
way_length word count hops h counted few =
    simp length-append (omega (arith, h, few, decimal_word count counted))

refusal_length : (number : ℕ) → number < 2 ^ 64 → length (refusal_text number) ≤ 28
refusal_length number h = omega (arith, length-append refused_word (blank (decimal number)), decimal_word number h)

end_length : (e : End) (switch count : ℕ) (hops : List Dart) → (ended e switch count).number < 2 ^ 64 → count < 2 ^ 64
    → length (hops_text hops) ≤ 8192 → length (end_text (ended e switch count) hops) ≤ 8222
end_length Delivered switch count hops fits counted few = way_length delivered_word count hops (omega arith) counted few
end_length None switch count hops fits counted few = way_length none_word count hops (omega arith) counted few
end_length (End.Refused number) switch count hops fits counted few = omega (arith, refusal_length number fits)

-- a line has at most 8,265 bytes
line_length : (source destination : ℕ) (walked : Walked) (trace : List ℕ) → (paper_of walked).number < 2 ^ 64
    → source < 2 ^ 64 → destination < 2 ^ 64
    → walked.hops ≤ 1024 → ((i : ℕ) → get_or trace i 0 < 256)
    → length (line_after source destination walked trace) ≤ 8265
unfolding line_of
line_length source destination walked trace fits h h' few small =
    let end : length (end_text (paper_of walked) (hops_in walked.hops trace)) ≤ 8222 =
    end_length walked.end walked.switch.0 walked.hops (hops_in walked.hops trace) fits (omega arith)
    (omega (arith, hops_length walked.hops trace small)) in
    simp length-append (omega (arith, end, decimal_word source h, decimal_word destination h'))

-- the pairs that the code takes are the line's hops, and as many as it counts
module _ (source destination : ℕ) (walked : Walked) (trace : List ℕ) (room : 2 * walked.hops ≤ length trace) where
  abbrev pairs : List (List ℕ)
  pairs = take walked.hops (first_chunks 2 (length trace / 2) trace)

  counted : length pairs ≡ walked.hops
  counted = simp (length-take, pairs_counted) (omega arith)

  -- the switch where a walk ended is not told
  no_switch : (e : End) (hops : List Dart) → end_text (ended e 0 walked.hops) hops ≡ end_text (ended e walked.switch.0 walked.hops) hops
  no_switch e hops = grind arith

  pub line_pairs : line_of source destination (ended walked.end 0 (length pairs)) (hops_of pairs)
      ≡ line_after source destination walked trace
  unfolding line_of
  line_pairs =
      rw (counted, hops_chunked walked.hops (length trace / 2) trace (omega arith))
      (ap (λ (text : List ℕ). decimal source ++ blank (decimal destination) ++ blank text ++ (10 ∷ []))
      (no_switch walked.end (hops_in walked.hops trace)))

  -- so a line that was begun and given the pairs is the line of the answer and the trace
  module _ (fits : (paper_of walked).number < 2 ^ 64) (source_fits : source < 2 ^ 64) (destination_fits : destination < 2 ^ 64)
      (few : walked.hops ≤ 1024)
      (small : (i : ℕ) → get_or trace i 0 < 256) where
    pub line_put : {before after : Line} {given : List (List ℕ)} → before.size ≡ 0 → given ≡ first_chunks 2 (length trace / 2) trace
        → after ≡ added before (line_of source destination (ended walked.end 0 (length (take walked.hops given)))
        (hops_of (take walked.hops given)))
        → Done before after (line_after source destination walked trace) × (after.size ≤ 8265)
    line_put {before} {after} begun e put =
        let short : length (line_after source destination walked trace) ≤ 8265 =
        line_length source destination walked trace fits source_fits destination_fits few small in
        let done : Done before after (line_after source destination walked trace) =
        line_done begun (omega arith) (rw e at put ∙ ap (added before) line_pairs) in
        (done, omega (arith, done.size_is))
