-- What users of a walk look for: its hops never pass twice the sheet's cables, which is why a trace of 4 bytes a cable has room enough; and
-- nothing of the answer or of the bytes that it writes hangs on a buffer's length beyond that, or on what stood in the buffers before.
use Prim.Native.Nat.{ℕ, ◌*◌, ◌≤◌}
use mathlib.Core.Path.{◌≡◌, refl, ap, sym, subst, ◌∙◌}
use mathlib.Core.List.{List, [], ◌∷◌, ◌++◌, append_assoc}
use native.Mathlib.Omega.{arith}
use lib.ListN.{length, take, drop, length-append}
use lib.Seq.{take_at, drop_at, drop-append-le}
use Rattle.sheet.specs.Cables.{rows_of, switches_of}
use Rattle.sheet.specs.Refusals.{accepted, list_answer}
use Rattle.sheet.specs.Sound.{Within, Sound}
use Rattle.switch.specs.Checks.{Passed}
use Rattle.walk.specs.Network.{Dart}
use Rattle.walk.specs.Walk.{Packet, Way, walk_checks, trace_bytes, Result, ended_with, Walks, turned_away, arrives}
use Rattle.walk.specs.Condition3.{Premises}
use Rattle.walk.proofs.Checking.{premises_pass, passed_premises, lists_switches, lists_cables, lists_sound}
use Rattle.walk.proofs.Following.{follows}
use Rattle.walk.proofs.OneAnswer.{one_end}
use Rattle.walk.proofs.Computing.{way_bound}

pub trace_length : (trace : List Dart) → length (trace_bytes trace) ≡ 2 * length trace
trace_length [] = refl
trace_length (e ∷ trace) = omega (arith, trace_length trace)

module _ (s faults : List ℕ) (source destination : ℕ) where
  -- ---- how many hops

  pub hops_bound : {tag trace : List ℕ} {n cables : ℕ} → list_answer s faults ≡ accepted n cables → {r : Result}
      → Walks s faults tag trace source destination r → r.paper.hops ≤ 2 * cables
  hops_bound lists (turned_away e) = omega arith
  hops_bound {tag} {trace} {n} {cables} lists (arrives {k} e way end) =
      let p = passed_premises s faults tag trace source destination e in
      let on : Within (switches_of s) source = rw (lists_switches s faults p.lists) at p.source_on in
      omega (arith, lists_cables s faults lists, way_bound s faults destination source (lists_sound s faults lists) on way)

  -- ---- the packet that a walk ends with fits into buffers that pass the checks

  record Fits (tag trace : List ℕ) (k : Packet) : Type 0 where
    long : length k.tag ≡ 2 * switches_of s
    tag_room : 2 * switches_of s ≤ length tag
    trace_room : 2 * length k.trace ≤ length trace

  fits : {tag trace : List ℕ} {k : Packet} → walk_checks s faults tag trace source destination ≡ Passed
      → Way s faults destination source k → Fits tag trace k
  fits {tag} {trace} {k} e way =
      record {
        long = (follows s faults destination source sound on way).long;
        tag_room = rw (lists_switches s faults p.lists) at p.tag_room;
        trace_room =
            omega (arith, p.trace_room, lists_cables s faults p.lists, way_bound s faults destination source sound on way);
      }
    where
      p : Premises s faults tag trace source destination
      p = passed_premises s faults tag trace source destination e

      sound : Sound (switches_of s) (rows_of s)
      sound = lists_sound s faults p.lists

      on : Within (switches_of s) source
      on = rw (lists_switches s faults p.lists) at p.source_on

  -- ---- longer buffers

  -- the same result with the further bytes behind it
  abbrev pub longer_by : List ℕ → List ℕ → Result → Result
  longer_by more more' r = record { paper = r.paper; tag = r.tag ++ more; trace = r.trace ++ more' }

  pub longer_buffers : {tag trace : List ℕ} (more more' : List ℕ) → walk_checks s faults tag trace source destination ≡ Passed
      → {r : Result} → Walks s faults tag trace source destination r
      → Walks s faults (tag ++ more) (trace ++ more') source destination (longer_by more more' r)
  longer_buffers more more' passed (turned_away e) = cc
  longer_buffers {tag} {trace} more more' passed (arrives {k} e way end) =
      subst (Walks s faults (tag ++ more) (trace ++ more') source destination) same (arrives passed_too way end)
    where
      p : Premises s faults tag trace source destination
      p = passed_premises s faults tag trace source destination e

      passed_too : walk_checks s faults (tag ++ more) (trace ++ more') source destination ≡ Passed
      passed_too =
          premises_pass s faults (tag ++ more) (trace ++ more') source destination
          (record {
            n = p.n;
            cables = p.cables;
            lists = p.lists;
            source_on = p.source_on;
            destination_on = p.destination_on;
            tag_room = omega (arith, length-append tag more, p.tag_room);
            trace_room = omega (arith, length-append trace more', p.trace_room);
          })

      f : Fits tag trace k
      f = fits e way

      behind : (front part rest : List ℕ) (at : ℕ) → at ≤ length part → front ++ drop at (part ++ rest) ≡ (front ++ drop at part) ++ rest
      behind front part rest at h = ap (λ l. front ++ l) (drop-append-le at part rest h) ∙ sym (append_assoc front (drop at part) rest)

      same : ended_with s faults (tag ++ more) (trace ++ more') destination k
          ≡ longer_by more more' (ended_with s faults tag trace destination k)
      same =
          (λ i. record {
            paper = (ended_with s faults tag trace destination k).paper;
            tag = behind k.tag tag more (2 * switches_of s) f.tag_room i;
            trace = behind (trace_bytes k.trace) trace more' (2 * length k.trace) f.trace_room i;
          })

  -- ---- the bytes that are written, and those beyond

  -- two results with the same answer and the same written bytes
  pub record SameWalk (r r' : Result) : Type 0 where
    pub answer : r.paper ≡ r'.paper
    pub tag : take (2 * switches_of s) r.tag ≡ take (2 * switches_of s) r'.tag
    pub trace : take (2 * r.paper.hops) r.trace ≡ take (2 * r'.paper.hops) r'.trace

  -- whatever stood in the buffers, and however long they are
  pub old_content : {tag trace tag' trace' : List ℕ} → walk_checks s faults tag trace source destination ≡ Passed
      → walk_checks s faults tag' trace' source destination ≡ Passed → {r r' : Result}
      → Walks s faults tag trace source destination r → Walks s faults tag' trace' source destination r' → SameWalk r r'
  old_content passed passed' (turned_away e) walks' = cc
  old_content passed passed' (arrives e way end) (turned_away e') = cc
  old_content {tag} {trace} {tag'} {trace'} passed passed' (arrives {k} e way end) (arrives {k = k'} e' way' end') =
      record {
        answer = ap (λ x. (ended_with s faults tag trace destination x).paper) same;
        tag = front k.tag _ (fits e way).long ∙ ap (λ x. x.tag) same ∙ sym (front k'.tag _ (fits e' way').long);
        trace =
            front (trace_bytes k.trace) _ (trace_length k.trace)
            ∙ ap (λ x. trace_bytes x.trace) same
            ∙ sym (front (trace_bytes k'.trace) _ (trace_length k'.trace));
      }
    where
      same : k ≡ k'
      same = one_end s faults destination source way way' end end'

      front : (part rest : List ℕ) {n : ℕ} → length part ≡ n → take n (part ++ rest) ≡ part
      front part rest {n} h = take_at part rest n h

  pub record BeyondKept (tag trace : List ℕ) (r : Result) : Type 0 where
    pub tag_kept : drop (2 * switches_of s) r.tag ≡ drop (2 * switches_of s) tag
    pub trace_kept : drop (2 * r.paper.hops) r.trace ≡ drop (2 * r.paper.hops) trace

  -- the bytes beyond are as they came
  pub beyond_kept : {tag trace : List ℕ} {r : Result} → Walks s faults tag trace source destination r → BeyondKept tag trace r
  beyond_kept (turned_away e) = record { tag_kept = refl; trace_kept = refl }
  beyond_kept {tag} {trace} (arrives {k} e way end) =
      record {
        tag_kept = drop_at k.tag (drop (2 * switches_of s) tag) (2 * switches_of s) (fits e way).long;
        trace_kept =
            drop_at (trace_bytes k.trace) (drop (2 * length k.trace) trace) (2 * length k.trace) (trace_length k.trace);
      }
