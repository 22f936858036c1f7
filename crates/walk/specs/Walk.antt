-- The walk: the step repeated, the packet carried over each cable to its far end, until delivered or none.
use Rattle.std.specs.Prelude.{ℕ, ◌*◌, ◌≡◌, List, [], ◌∷◌, ◌++◌, length, drop, replicate, leb}
use Rattle.sheet.specs.Cables.{switches_of}
use Rattle.sheet.specs.Refusals.{Answer, accepted, refused, list_answer}
use Rattle.sheet.specs.Cabling.{order_at}
use Rattle.switch.specs.Checks.{rule, switches_rule, tag_rule, first_broken}
use Rattle.switch.specs.Step.{Stepped, advanced}
use Rattle.switch.specs.Checks.{Check}
use Rattle.switch.specs.Checks.{Passed, Refused}
use Rattle.walk.specs.Network.{Dart}
use Rattle.walk.specs.declared.walk.End.{End}
use Rattle.walk.specs.declared.walk.End.TheVariants.{Delivered, None}
use Rattle.walk.specs.declared.walk.Walked.{Walked}

-- a packet: where it is, the port it came in by, the tag it carries, and the hops it has made, each as switch left and port left by
pub record Packet : Type 0 where
  pub at : ℕ
  pub arrival : ℕ
  pub tag : List ℕ
  pub trace : List Dart

module _ (s faults : List ℕ) (destination : ℕ) where
  -- the step at the packet's switch
  abbrev pub step_of : Packet → Stepped
  step_of k = advanced (order_at s k.at) faults k.tag k.at k.arrival destination

  -- carried over the cable that the step chose
  abbrev pub carried : Packet → Packet
  carried k =
      record {
        at = (step_of k).far.switch;
        arrival = (step_of k).far.port;
        tag = (step_of k).tag;
        trace = k.trace ++ (record { switch = k.at; port = (step_of k).paper.port } ∷ []);
      }

  -- from the host at the source, with 2n zero bytes
  abbrev pub sent : ℕ → Packet
  sent source = record { at = source; arrival = 0; tag = replicate (2 * switches_of s) 0; trace = [] }

  -- the packets of a walk: sent, and carried on as long as the step forwards them
  pub data Way (source : ℕ) : Packet → Type 0 where
    start : Way source (sent source)
    hop : {k : Packet} → Way source k → (step_of k).paper.end ≡ 0 → Way source (carried k)

-- ---- the answer, in the paper's values

-- the end (1 delivered, 2 none, 3 refused), the switch it ended at, the hop count, the refusal number
pub record Paper : Type 0 where
  pub end : ℕ
  pub switch : ℕ
  pub hops : ℕ
  pub number : ℕ

abbrev pub paper : ℕ → ℕ → ℕ → ℕ → Paper
paper end switch hops number = record { end = end; switch = switch; hops = hops; number = number }

abbrev pub ended : End → ℕ → ℕ → Paper
ended Delivered switch hops = paper 1 switch hops 0
ended None switch hops = paper 2 switch hops 0
ended (End.Refused number) switch hops = paper 3 switch hops number

abbrev pub paper_of : Walked → Paper
paper_of w = ended w.end w.switch.0 w.hops

-- ---- the checks: refusals 1 to 5, then 6 and 7

-- 7: trace shorter than 4 bytes for each cable of the sheet
abbrev pub trace_rule : ℕ → List ℕ → Check
trace_rule cables trace = rule 7 (leb (4 * cables) (length trace))

abbrev pub checks_on : Answer → List ℕ → List ℕ → ℕ → ℕ → Check
checks_on (refused number) tag trace source destination = Refused number
checks_on (accepted n cables) tag trace source destination =
    first_broken (switches_rule n source destination ∷ tag_rule n tag ∷ trace_rule cables trace ∷ [])

unfoldable pub walk_checks : List ℕ → List ℕ → List ℕ → List ℕ → ℕ → ℕ → Check
walk_checks s faults tag trace source destination = checks_on (list_answer s faults) tag trace source destination

-- ---- the walk: its answer, and both buffers afterwards

abbrev pub trace_bytes : List Dart → List ℕ
trace_bytes [] = []
trace_bytes (e ∷ trace) = e.switch ∷ e.port ∷ trace_bytes trace

pub record Result : Type 0 where
  pub paper : Paper
  pub tag : List ℕ
  pub trace : List ℕ

-- an answer in the code, and both buffers afterwards
abbrev pub result_of : Walked → List ℕ → List ℕ → Result
result_of w tag trace = record { paper = paper_of w; tag = tag; trace = trace }

-- a refusal has no hop and no end switch, and writes nothing
abbrev pub refused_with : List ℕ → List ℕ → ℕ → Result
refused_with tag trace number = record { paper = paper 3 0 0 number; tag = tag; trace = trace }

-- otherwise the first 2n tag bytes are the final tag, the first 2 times hops trace bytes the trace, and all bytes beyond are as they came
abbrev pub ended_with : List ℕ → List ℕ → List ℕ → List ℕ → ℕ → Packet → Result
ended_with s faults tag trace destination k =
    record {
      paper = paper (step_of s faults destination k).paper.end k.at (length k.trace) 0;
      tag = k.tag ++ drop (2 * switches_of s) tag;
      trace = trace_bytes k.trace ++ drop (2 * length k.trace) trace;
    }

pub data Walks (s faults tag trace : List ℕ) (source destination : ℕ) : Result → Type 0 where
  turned_away : {number : ℕ} → walk_checks s faults tag trace source destination ≡ Refused number
      → Walks s faults tag trace source destination (refused_with tag trace number)
  arrives : {k : Packet} → walk_checks s faults tag trace source destination ≡ Passed → Way s faults destination source k
      → ((step_of s faults destination k).paper.end ≡ 0 → ⊥)
      → Walks s faults tag trace source destination (ended_with s faults tag trace destination k)
