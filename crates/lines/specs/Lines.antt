-- The line that the program prints for an ask: source, destination, the end, then the hops and the trace as switch:port, or the refusal
-- number; blanks between, and a newline after the last.
use Rattle.std.specs.Prelude.{ℕ, ◌≡◌, List, [], ◌∷◌, ◌++◌, length, get_or, eqb}
use Rattle.sheet.specs.Lists.{pick}
use Rattle.walk.specs.Network.{Dart}
use Rattle.walk.specs.Walk.{Paper, paper_of, Result}
use Rattle.walk.specs.Condition3.{hops_in}
use Rattle.walk.specs.declared.walk.Walked.{Walked}
use Rattle.lines.specs.Text.{decimal, filled}

-- delivered
abbrev pub delivered_word : List ℕ
delivered_word = 100 ∷ 101 ∷ 108 ∷ 105 ∷ 118 ∷ 101 ∷ 114 ∷ 101 ∷ 100 ∷ []

-- none
abbrev pub none_word : List ℕ
none_word = 110 ∷ 111 ∷ 110 ∷ 101 ∷ []

-- refused
abbrev pub refused_word : List ℕ
refused_word = 114 ∷ 101 ∷ 102 ∷ 117 ∷ 115 ∷ 101 ∷ 100 ∷ []

-- a blank, then what follows it
abbrev pub blank : List ℕ → List ℕ
blank text = 32 ∷ text

-- switch:port, after a blank
abbrev pub hop_text : Dart → List ℕ
hop_text e = blank (decimal e.switch ++ (58 ∷ decimal e.port))

abbrev pub hops_text : List Dart → List ℕ
hops_text [] = []
hops_text (e ∷ hops) = hop_text e ++ hops_text hops

-- a way's end, hop count and hops; and a refusal
abbrev pub way_text : List ℕ → ℕ → List Dart → List ℕ
way_text word count hops = word ++ blank (decimal count) ++ hops_text hops

abbrev pub refusal_text : ℕ → List ℕ
refusal_text number = refused_word ++ blank (decimal number)

-- by the end: 1 delivered, 2 none, 3 refused
abbrev pub end_text : Paper → List Dart → List ℕ
end_text p hops =
    pick (eqb p.end 3) (refusal_text p.number) (way_text (pick (eqb p.end 1) delivered_word none_word) p.hops hops)

unfoldable pub line_of : ℕ → ℕ → Paper → List Dart → List ℕ
line_of source destination p hops =
    decimal source ++ blank (decimal destination) ++ blank (end_text p hops) ++ (10 ∷ [])

-- the same of the answer that the code has, and of a trace's bytes
abbrev pub line_after : ℕ → ℕ → Walked → List ℕ → List ℕ
line_after source destination walked trace = line_of source destination (paper_of walked) (hops_in walked.hops trace)

-- the hops that pairs of bytes tell
abbrev pub hops_of : List (List ℕ) → List Dart
hops_of [] = []
hops_of (pair ∷ pairs) = record { switch = get_or pair 0 0; port = get_or pair 1 0 } ∷ hops_of pairs

-- the line for a walk's result
abbrev pub line_for : ℕ → ℕ → Result → List ℕ
line_for source destination w = line_of source destination w.paper (hops_in w.paper.hops w.trace)

-- what is left of an ask: the line's size, the buffer with as much of it as fits, tag and trace as the walk leaves them
pub record Written (source destination : ℕ) (w : Result) (before line tag trace : List ℕ) (size : ℕ) : Type 0 where
  pub size_is : size ≡ length (line_for source destination w)
  pub line_is : line ≡ filled (line_for source destination w) before
  pub tag_is : tag ≡ w.tag
  pub trace_is : trace ≡ w.trace
