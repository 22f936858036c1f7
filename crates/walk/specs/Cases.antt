-- The walks on paper, P1 to P10, as one list of cases.
use Rattle.std.specs.Prelude.{ℕ, ◌*◌, ◌≤◌, List, [], ◌∷◌, ◌++◌, length, drop, replicate}
use Rattle.sheet.specs.Cables.{switches_of, rows_of}
use Rattle.walk.specs.Network.{Dart}
use Rattle.walk.specs.Walk.{paper, trace_bytes, refused_with, Walks}

-- the end (1 delivered, 2 none), the switch it comes at, the hops, and the final tag; or a refusal by number
pub data Expected : Type 0 where
  ends : (end switch : ℕ) (hops : List Dart) (tag : List ℕ) → Expected
  refuses : (number : ℕ) → Expected

pub record Case : Type 0 where
  pub sheet : List ℕ
  pub faults : List ℕ
  pub source : ℕ
  pub destination : ℕ
  pub expected : Expected

-- so it comes out, whatever the buffers hold: a refusal of the lists in buffers of any length, a walk in buffers with room
abbrev pub Holds : Case → Expected → Type 0
Holds c (refuses number) =
    (tag trace : List ℕ) → Walks c.sheet c.faults tag trace c.source c.destination (refused_with tag trace number)
Holds c (ends end switch hops last) =
    (tag trace : List ℕ) → 2 * switches_of c.sheet ≤ length tag → 4 * length (rows_of c.sheet) ≤ length trace
    → Walks c.sheet c.faults tag trace c.source c.destination
    (record {
      paper = paper end switch (length hops) 0;
      tag = last ++ drop (2 * switches_of c.sheet) tag;
      trace = trace_bytes hops ++ drop (2 * length hops) trace;
    })

abbrev pub case : List ℕ → List ℕ → ℕ → ℕ → Expected → Case
case sheet faults source destination expected =
    record { sheet = sheet; faults = faults; source = source; destination = destination; expected = expected }

-- delivered at a switch, or none, after these hops, with this tag
abbrev pub delivered : ℕ → List Dart → List ℕ → Expected
delivered = ends 1

abbrev pub none : ℕ → List Dart → List ℕ → Expected
none = ends 2

-- switch left, port left by
abbrev pub by : ℕ → ℕ → Dart
by switch port = record { switch = switch; port = port }

-- the square Q, with a preference for port 1 of switch 1; the triangle T; and two switches with two cables
abbrev pub square : ℕ → List ℕ
square preference =
    1 ∷ 5
    ∷ 2 ∷ 1 ∷ 1 ∷ preference ∷ 2 ∷ 1 ∷ 0
    ∷ 2 ∷ 2 ∷ 2 ∷ 0 ∷ 3 ∷ 1 ∷ 0
    ∷ 2 ∷ 3 ∷ 2 ∷ 0 ∷ 4 ∷ 1 ∷ 0
    ∷ 2 ∷ 4 ∷ 2 ∷ 0 ∷ 1 ∷ 2 ∷ 0
    ∷ []

abbrev pub triangle : List ℕ
triangle =
    1 ∷ 5
    ∷ 2 ∷ 1 ∷ 1 ∷ 0 ∷ 2 ∷ 1 ∷ 0
    ∷ 2 ∷ 1 ∷ 2 ∷ 0 ∷ 4 ∷ 1 ∷ 0
    ∷ 2 ∷ 1 ∷ 3 ∷ 0 ∷ 3 ∷ 2 ∷ 0
    ∷ 2 ∷ 2 ∷ 2 ∷ 0 ∷ 3 ∷ 1 ∷ 0
    ∷ []

abbrev pub double : List ℕ
double =
    1 ∷ 3
    ∷ 2 ∷ 1 ∷ 1 ∷ 0 ∷ 2 ∷ 1 ∷ 0
    ∷ 2 ∷ 1 ∷ 2 ∷ 0 ∷ 2 ∷ 2 ∷ 0
    ∷ []

-- a sheet of one cable
abbrev pub single : ℕ → ℕ → ℕ → ℕ → List ℕ
single v p w q = 1 ∷ 2 ∷ 2 ∷ v ∷ p ∷ 0 ∷ w ∷ q ∷ 0 ∷ []

-- the paper gives the tag of P6; the tags of the others follow from the same rules
abbrev pub cases : List Case
cases =
    -- P1 to P5
    case (square 0) [] 1 3 (delivered 3 (by 1 1 ∷ by 2 2 ∷ []) (0 ∷ 1 ∷ 1 ∷ 2 ∷ 0 ∷ 0 ∷ 0 ∷ 0 ∷ 0 ∷ 0 ∷ []))
    ∷ case (square 0) (3 ∷ 2 ∷ 2 ∷ []) 1 3
    (delivered 3 (by 1 1 ∷ by 2 1 ∷ by 1 2 ∷ by 4 1 ∷ []) (0 ∷ 2 ∷ 1 ∷ 0 ∷ 0 ∷ 0 ∷ 2 ∷ 1 ∷ 0 ∷ 0 ∷ []))
    ∷ case (square 0) (3 ∷ 2 ∷ 2 ∷ 3 ∷ 4 ∷ 1 ∷ []) 1 3
    (none 1 (by 1 1 ∷ by 2 1 ∷ by 1 2 ∷ by 4 2 ∷ []) (0 ∷ 2 ∷ 1 ∷ 0 ∷ 0 ∷ 0 ∷ 2 ∷ 0 ∷ 0 ∷ 0 ∷ []))
    ∷ case (square 0) (3 ∷ 1 ∷ 1 ∷ 3 ∷ 1 ∷ 2 ∷ []) 1 3 (none 1 [] (replicate 10 0))
    ∷ case (square 0) [] 3 3 (delivered 3 [] (replicate 10 0))
    -- P6: every cable, once each way
    ∷ case (square 0) [] 1 5
    (none 1 (by 1 1 ∷ by 2 2 ∷ by 3 2 ∷ by 4 2 ∷ by 1 2 ∷ by 4 1 ∷ by 3 1 ∷ by 2 1 ∷ [])
    (0 ∷ 2 ∷ 1 ∷ 2 ∷ 1 ∷ 2 ∷ 1 ∷ 2 ∷ 0 ∷ 0 ∷ []))
    -- P7: the preference turns it the other way
    ∷ case (square 10) [] 1 3 (delivered 3 (by 1 2 ∷ by 4 1 ∷ []) (0 ∷ 2 ∷ 0 ∷ 0 ∷ 0 ∷ 0 ∷ 2 ∷ 1 ∷ 0 ∷ 0 ∷ []))
    -- P8: switch 1 is entered three times
    ∷ case triangle [] 1 5
    (none 1 (by 1 1 ∷ by 2 2 ∷ by 3 2 ∷ by 1 2 ∷ by 4 1 ∷ by 1 3 ∷ by 3 1 ∷ by 2 1 ∷ [])
    (0 ∷ 3 ∷ 1 ∷ 2 ∷ 1 ∷ 2 ∷ 1 ∷ 0 ∷ 0 ∷ 0 ∷ []))
    -- P9: the parent's neighbour by another cable
    ∷ case double [] 1 3 (none 1 (by 1 1 ∷ by 2 2 ∷ by 1 2 ∷ by 2 1 ∷ []) (0 ∷ 2 ∷ 1 ∷ 2 ∷ 0 ∷ 0 ∷ []))
    -- P10: 64 switches and port 48 are accepted, 65 and 49 are not, nor a cable with both ends on one switch
    ∷ case (1 ∷ 64 ∷ []) [] 64 64 (delivered 64 [] (replicate 128 0))
    ∷ case (1 ∷ 65 ∷ []) [] 64 64 (refuses 2)
    ∷ case (single 1 48 2 1) [] 1 2 (delivered 2 (by 1 48 ∷ []) (0 ∷ 48 ∷ 0 ∷ 0 ∷ []))
    ∷ case (single 1 49 2 1) [] 1 2 (refuses 3)
    ∷ case (single 2 1 2 2) [] 1 2 (refuses 3)
    ∷ []
