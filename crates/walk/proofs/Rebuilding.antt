-- Condition 2, whole, on the bytes: a sheet whose rows are put in another order, each with its ends either way round, gives the same walk.
-- A walk asks of a sheet its checks, its number of switches and its port orders, and the rebuilt sheet answers these alike.
use Prim.Native.Nat.{ℕ, ◌*◌}
use mathlib.Core.Path.{◌≡◌, refl, ap, sym, subst, ◌∙◌}
use mathlib.Core.List.{List, [], ◌∷◌, ◌++◌}
use mathlib.Core.Logic.{◌↔◌}
use lib.ListN.{length, replicate, drop}
use Rattle.sheet.specs.Cables.{switches_of}
use Rattle.sheet.specs.Cabling.{SameCabling}
use Rattle.sheet.specs.Accepted.{AcceptedSheet}
use Rattle.sheet.specs.Rebuilt.{Rebuilt, sheet_bytes}
use Rattle.sheet.specs.declared.cables.Cable.{Cable}
use Rattle.sheet.proofs.RebuiltSheet.{rebuilt_sheet}
use Rattle.switch.specs.Step.{Stepped, advanced}
use Rattle.walk.specs.Walk.{Packet, step_of, carried, Way, paper, checks_on, walk_checks, trace_bytes, Result, result_of, ended_with}
use Rattle.walk.specs.Walk.{Walks, turned_away, arrives}
use Rattle.walk.specs.declared.walk.Walked.{Walked}
use Rattle.walk.proofs.OneAnswer.{Told, one_walk}

module _ {s s' : List ℕ} (same : SameCabling s s') (switches : switches_of s ≡ switches_of s') (faults : List ℕ) (destination : ℕ) where
  step_same : (k : Packet) → step_of s faults destination k ≡ step_of s' faults destination k
  step_same k = ap (λ order. advanced order faults k.tag k.at k.arrival destination) (same.order k.at)

  carried_same : (k : Packet) → carried s faults destination k ≡ carried s' faults destination k
  carried_same k = ap by (step_same k)
    where
      by : Stepped → Packet
      by step =
          record {
            at = step.far.switch;
            arrival = step.far.port;
            tag = step.tag;
            trace = k.trace ++ (record { switch = k.at; port = step.paper.port } ∷ []);
          }

  way_same : {source : ℕ} {k : Packet} → Way s faults destination source k → Way s' faults destination source k
  way_same {source} Way.start = subst (Way s' faults destination source) (ap zeros (sym switches)) Way.start
    where
      zeros : ℕ → Packet
      zeros n = record { at = source; arrival = 0; tag = replicate (2 * n) 0; trace = [] }
  way_same {source} (Way.hop {k} way e) =
      subst (Way s' faults destination source) (sym (carried_same k))
      (Way.hop (way_same way) (sym (ap (λ step. step.paper.end) (step_same k)) ∙ e))

  module _ (tag trace : List ℕ) (source : ℕ) where
    checks_same : walk_checks s faults tag trace source destination ≡ walk_checks s' faults tag trace source destination
    unfolding walk_checks
    checks_same = ap (λ answer. checks_on answer tag trace source destination) (same.answers faults)

    result_same : (k : Packet) → ended_with s faults tag trace destination k ≡ ended_with s' faults tag trace destination k
    result_same k =
        (λ i. record {
          paper = paper (step_same k i).paper.end k.at (length k.trace) 0;
          tag = k.tag ++ drop (2 * switches i) tag;
          trace = trace_bytes k.trace ++ drop (2 * length k.trace) trace;
        })

    pub walks_same : {r : Result} → Walks s faults tag trace source destination r → Walks s' faults tag trace source destination r
    walks_same (turned_away e) = turned_away (sym checks_same ∙ e)
    walks_same (arrives {k} e way end) =
        subst (Walks s' faults tag trace source destination) (sym (result_same k))
        (arrives (sym checks_same ∙ e) (way_same way) (λ z. end (ap (λ step. step.paper.end) (step_same k) ∙ z)))

same_back : {s s' : List ℕ} → SameCabling s s' → SameCabling s' s
same_back same =
    record {
      answer = sym same.answer;
      answers = λ f. sym (same.answers f);
      order = λ v. sym (same.order v);
      position = λ v p. sym (same.position v p);
      cabled = λ v p. sym (same.cabled v p);
      far = λ v p. sym (same.far v p);
      live = λ f v p. sym (same.live f v p);
    }

pub rebuilt_walk : {s : List ℕ} {rows rows' : List Cable} → AcceptedSheet s rows → Rebuilt rows rows'
    → (faults tag trace : List ℕ) (source destination : ℕ) (r : Result)
    → Walks s faults tag trace source destination r
    ↔ Walks (sheet_bytes (switches_of s) rows') faults tag trace source destination r
rebuilt_walk {s} {rows} {rows'} sheet rebuilt faults tag trace source destination r =
    let same : SameCabling s (sheet_bytes (switches_of s) rows') = rebuilt_sheet sheet rebuilt in (
      walks_same same refl faults destination tag trace source,
      walks_same (same_back same) refl faults destination tag trace source,
    )

-- so the answer and both buffers that the promise of `walk` leaves are the same for both sheets
pub rebuilt_answer : {s : List ℕ} {rows rows' : List Cable} → AcceptedSheet s rows → Rebuilt rows rows'
    → (faults tag trace : List ℕ) (source destination : ℕ) (w w' : Walked) {tag' trace' tag'' trace'' : List ℕ}
    → Told s faults tag trace source destination w tag' trace'
    → Told (sheet_bytes (switches_of s) rows') faults tag trace source destination w' tag'' trace''
    → (w ≡ w') × (tag' ≡ tag'') × (trace' ≡ trace'')
rebuilt_answer sheet rebuilt faults tag trace source destination w w' {tag'} {trace'} told =
    one_walk w w' ((rebuilt_walk sheet rebuilt faults tag trace source destination (result_of w tag' trace')).0 told)
