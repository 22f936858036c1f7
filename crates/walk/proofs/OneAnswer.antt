-- One answer: the promise of a walk leaves one result, both buffers included. The packet after so many hops is one packet, and a packet
-- that is not forwarded is the last, so two walks from the same start end at the same hop.
use Prim.Native.Nat.{ℕ, zero, suc, ◌<◌}
use mathlib.Core.Path.{◌≡◌, refl, ap, sym, subst, ◌∙◌}
use mathlib.Core.List.{List}
use native.Mathlib.Omega.{arith}
use native.Mathlib.Decide.{ℕ_discrete}
use native.Mathlib.Numerals.{add-one}
use lib.ListN.{length, length-append}
use Rattle.walk.specs.Walk.{Packet, step_of, carried, sent, Way, ended, paper_of, Result, result_of, refused_with, ended_with}
use Rattle.walk.specs.Walk.{Walks, turned_away, arrives}
use Rattle.walk.specs.declared.walk.End.{End}
use Rattle.walk.specs.declared.walk.End.TheVariants.{Delivered, None}
use Rattle.walk.specs.declared.walk.Walked.{Walked}

module _ (s faults : List ℕ) (destination source : ℕ) where
  -- the packet after so many hops
  abbrev after : ℕ → Packet
  after zero = sent s faults destination source
  after (suc i) = carried s faults destination (after i)

  abbrev Forwarded : Packet → Type 0
  Forwarded k = (step_of s faults destination k).paper.end ≡ 0

  one_more : (k : Packet) → length (carried s faults destination k).trace ≡ suc (length k.trace)
  one_more k = length-append k.trace _ ∙ add-one (length k.trace)

  way_after : {k : Packet} → Way s faults destination source k → k ≡ after (length k.trace)
  way_after Way.start = refl
  way_after (Way.hop {k} way e) = ap (carried s faults destination) (way_after way) ∙ ap after (sym (one_more k))

  -- all packets before it were forwarded
  before_forwarded : {k : Packet} → Way s faults destination source k → (i : ℕ) → i < length k.trace → Forwarded (after i)
  before_forwarded Way.start i h = absurd (omega arith)
  before_forwarded (Way.hop {k} way e) i h = by (ℕ_discrete i (length k.trace)) (λ h'. before_forwarded way i h')
    where
      by : Dec (i ≡ length k.trace) → (i < length k.trace → Forwarded (after i)) → Forwarded (after i)
      by (yes q) rest = subst Forwarded (way_after way ∙ ap after (sym q)) e
      by (no n) rest = rest (omega (arith, one_more k))

  pub one_end : {k k' : Packet} → Way s faults destination source k → Way s faults destination source k'
      → ((step_of s faults destination k).paper.end ≡ 0 → ⊥) → ((step_of s faults destination k').paper.end ≡ 0 → ⊥) → k ≡ k'
  one_end {k} {k'} way way' end end' = by (ℕ_discrete (length k.trace) (length k'.trace))
    where
      not_before : {k k' : Packet} → Way s faults destination source k → Way s faults destination source k' → (Forwarded k → ⊥)
          → length k.trace < length k'.trace → ⊥
      not_before {k} way way' end h = end (subst Forwarded (sym (way_after way)) (before_forwarded way' (length k.trace) h))

      by : Dec (length k.trace ≡ length k'.trace) → k ≡ k'
      by (yes q) = way_after way ∙ ap after q ∙ sym (way_after way')
      by (no n) = absurd (n (omega (arith, not_before way way' end, not_before way' way end')))

module _ {s faults tag trace : List ℕ} {source destination : ℕ} where
  pub walks_one : {r r' : Result} → Walks s faults tag trace source destination r → Walks s faults tag trace source destination r'
      → r ≡ r'
  walks_one (turned_away e) (turned_away e') = ap (refused_with tag trace) (cc)
  walks_one (turned_away e) (arrives e' way end) = cc
  walks_one (arrives e way end) (turned_away e') = cc
  walks_one (arrives e way end) (arrives e' way' end') =
      ap (ended_with s faults tag trace destination) (one_end s faults destination source way way' end end')

parts : (a : End) {switch hops : ℕ} → ((ended a switch hops).switch ≡ switch) × ((ended a switch hops).hops ≡ hops)
parts a = (grind arith, grind arith)

pub paper_hops : (w : Walked) → (paper_of w).hops ≡ w.hops
paper_hops w = (parts w.end).1

-- the paper's values tell the answer
pub paper_one : (w w' : Walked) → paper_of w ≡ paper_of w' → w ≡ w'
paper_one w w' e =
    let end = same_end w.end w'.end e in
    let switch = sym (parts w.end).0 ∙ ap (λ p. p.switch) e ∙ (parts w'.end).0 in
    let hops = sym (paper_hops w) ∙ ap (λ p. p.hops) e ∙ paper_hops w' in
    (λ i. record { end = end i; switch = record { 0 = switch i }; hops = hops i })
  where
    same_end : (a b : End) → ended a w.switch.0 w.hops ≡ ended b w'.switch.0 w'.hops → a ≡ b
    same_end Delivered Delivered e = refl
    same_end None None e = refl
    same_end (End.Refused number) (End.Refused number') e = ap End.Refused (ap (λ p. p.number) e)
    same_end Delivered None e = absurd (omega (arith, ap (λ p. p.end) e))
    same_end Delivered (End.Refused number) e = absurd (omega (arith, ap (λ p. p.end) e))
    same_end None Delivered e = absurd (omega (arith, ap (λ p. p.end) e))
    same_end None (End.Refused number) e = absurd (omega (arith, ap (λ p. p.end) e))
    same_end (End.Refused number) Delivered e = absurd (omega (arith, ap (λ p. p.end) e))
    same_end (End.Refused number) None e = absurd (omega (arith, ap (λ p. p.end) e))

-- what the promise of `walk` says of an answer and of both buffers afterwards
abbrev pub Told : List ℕ → List ℕ → List ℕ → List ℕ → ℕ → ℕ → Walked → List ℕ → List ℕ → Type 0
Told s faults tag trace source destination w tag' trace' =
    Walks s faults tag trace source destination (result_of w tag' trace')

pub one_walk : {s faults tag trace : List ℕ} {source destination : ℕ} (w w' : Walked) {tag' trace' tag'' trace'' : List ℕ}
    → Told s faults tag trace source destination w tag' trace' → Told s faults tag trace source destination w' tag'' trace''
    → (w ≡ w') × (tag' ≡ tag'') × (trace' ≡ trace'')
one_walk w w' told told' =
    let same = walks_one told told' in
    (paper_one w w' (ap (λ r. r.paper) same), ap (λ r. r.tag) same, ap (λ r. r.trace) same)
