-- Text in ASCII, and a line that text is added to.
use Rattle.std.specs.Prelude.{ℕ, zero, suc, ◌+◌, ◌-◌, ◌/◌, ◌%◌, ◌^◌, min, List, [], ◌∷◌, ◌++◌, length, take, drop, leb, slice_set}
use Rattle.sheet.specs.Lists.{pick}
use Rattle.lines.specs.declared.text.Line.{Line}

-- a number's digits, at most so many, the last one last
unfoldable pub digits : ℕ → ℕ → List ℕ
digits zero n = []
digits (suc most) n = pick (leb 10 n) (digits most (n / 10)) [] ++ ((48 + n % 10) ∷ [])

-- a number in decimal, without leading zeros; it has no more digits than one more than itself
unfoldable pub decimal : ℕ → List ℕ
decimal n = digits (suc n) n

-- one byte more of a line: set where there is room for it, and counted up to the largest number
abbrev pub one_more : Line → ℕ → Line
one_more line byte =
    record line {
      buffer = record line.buffer { now = slice_set line.buffer.now line.size byte };
      size = min (line.size + 1) (2 ^ 64 - 1);
    }

-- a text more, byte by byte
abbrev pub added : Line → List ℕ → Line
added line [] = line
added line (byte ∷ text) = added (one_more line byte) text

-- a buffer with as much of a text as fits; the bytes beyond are as they came
abbrev pub filled : List ℕ → List ℕ → List ℕ
filled text buffer = take (length buffer) text ++ drop (length text) buffer
