-- The answers of a walk: the refusal of its checks; or, after all have passed, the walk in the cleared tag, which is the walk, for only the
-- bytes beyond the first 2n are kept.
use Prim.Native.Nat.{ℕ, ◌*◌}
use mathlib.Core.Path.{◌≡◌, ap, sym, subst, ◌∙◌}
use mathlib.Core.List.{List, ◌++◌}
use lib.ListN.{length, take, drop, replicate, length-replicate}
use lib.Seq.{take_at, drop_at}
use Rattle.sheet.specs.Cables.{switches_of}
use Rattle.sheet.specs.Refusals.{accepted, list_answer}
use Rattle.switch.specs.Checks.{Passed, Refused}
use Rattle.walk.specs.Walk.{paper, paper_of, walk_checks, Result, result_of, ended_with}
use Rattle.walk.specs.Walk.{Walks, turned_away, arrives}
use Rattle.walk.specs.Condition3.{Reachable, Premises, hops_in, Condition3}
use Rattle.walk.specs.declared.walk.Walked.{Walked}
use Rattle.walk.proofs.Checking.{premises_pass, lists_switches}
use Rattle.walk.proofs.OneAnswer.{paper_hops}
use Rattle.walk.proofs.Tender.{walk_keeps}

module _ (s faults tag trace : List ℕ) (source destination : ℕ) where
  -- turned away, with the number of the checks and nothing written
  pub refused_walks : (w : Walked) → walk_checks s faults tag trace source destination ≡ Refused (paper_of w).number
      → paper_of w ≡ paper 3 0 0 (paper_of w).number
      → Walks s faults tag trace source destination (result_of w tag trace)
  refused_walks w e answer =
      subst (Walks s faults tag trace source destination) (λ i. record { paper = sym answer i; tag = tag; trace = trace }) (turned_away e)

-- ---- all checks have passed, and the first bytes are cleared

module _ (s faults : List ℕ) {n cables : ℕ} (listed : list_answer s faults ≡ accepted n cables) (blank : List ℕ)
    (cleared_to_0 : blank ≡ replicate (2 * n) 0) where
  zeros : length blank ≡ 2 * switches_of s
  zeros = ap length cleared_to_0 ∙ length-replicate (2 * n) 0 ∙ ap (λ k. 2 * k) (lists_switches s faults listed)

  pub tag_cleared : (rest : List ℕ) → take (2 * switches_of s) (blank ++ rest) ≡ replicate (2 * switches_of s) 0
  tag_cleared rest =
      take_at blank rest (2 * switches_of s) zeros ∙ cleared_to_0 ∙ ap (λ k. replicate (2 * k) 0) (lists_switches s faults listed)

  -- the walk in the cleared tag is the walk: only the bytes beyond are kept
  module _ (tag trace : List ℕ) (source destination : ℕ) (passes : walk_checks s faults tag trace source destination ≡ Passed)
      (passed : Premises s faults (blank ++ drop (2 * n) tag) trace source destination) where
    pub carried_through : {r : Result} → Walks s faults (blank ++ drop (2 * n) tag) trace source destination r
        → Walks s faults tag trace source destination r
    carried_through (turned_away e) = cc (premises_pass s faults (blank ++ drop (2 * n) tag) trace source destination passed)
    carried_through (arrives {k} e way end) =
        subst (Walks s faults tag trace source destination) same (arrives passes way end)
      where
        beyond : drop (2 * switches_of s) tag ≡ drop (2 * switches_of s) (blank ++ drop (2 * n) tag)
        beyond =
            ap (λ k. drop (2 * k) tag) (sym (lists_switches s faults listed))
            ∙ sym (drop_at blank (drop (2 * n) tag) (2 * switches_of s) zeros)

        same : ended_with s faults tag trace destination k ≡ ended_with s faults (blank ++ drop (2 * n) tag) trace destination k
        same =
            (λ i. record {
              paper = (ended_with s faults tag trace destination k).paper;
              tag = k.tag ++ beyond i;
              trace = (ended_with s faults tag trace destination k).trace;
            })

-- and from the walk condition 3
pub walk_meets : (s faults tag trace : List ℕ) (source destination : ℕ) (w : Walked) {tag' trace' : List ℕ}
    → Walks s faults tag trace source destination (result_of w tag' trace')
    → Premises s faults tag trace source destination → (m : ℕ) → Reachable s faults source m
    → Condition3 s faults source destination m (paper_of w) (hops_in w.hops trace')
walk_meets s faults tag trace source destination w {tag'} {trace'} walks p m counted =
    subst (λ hops. Condition3 s faults source destination m (paper_of w) (hops_in hops trace')) (paper_hops w)
    (walk_keeps s faults tag trace source destination p counted walks)
