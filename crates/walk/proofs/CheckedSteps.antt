-- The steps of a walk are those of the checked step: refusals 8 to 10 never come in a walk, for what its packets carry names only live
-- ports that are there, and the tag is all 0 as long as no hop was made.
use Prim.Native.Nat.{ℕ, zero, suc, ◌*◌, ◌≤◌}
use mathlib.Core.Path.{◌≡◌, refl, ap, sym, ◌∙◌}
use mathlib.Core.List.{List, [], map, reverse}
use mathlib.Core.Logic.{◌⊎◌, inl, inr, ⊎_elim, ⊎_map}
use mathlib.Core.Bool.{true}
use native.Mathlib.Omega.{arith}
use lib.ListN.{length, take, replicate, length-append, length-reverse}
use lib.Seq.{take_all}
use Rattle.sheet.specs.Lists.{◌∈◌}
use Rattle.sheet.specs.Cables.{switches_of}
use Rattle.sheet.specs.Order.{is_cabled}
use Rattle.sheet.specs.Cabling.{order_at, live_at}
use Rattle.sheet.specs.Refusals.{accepted, list_answer}
use Rattle.sheet.specs.Sound.{Within}
use Rattle.sheet.proofs.Lists.{map_in}
use Rattle.sheet.proofs.Cabling.{port_of, in_cabled}
use Rattle.switch.specs.Cell.{cell_of}
use Rattle.switch.specs.Step.{stepped}
use Rattle.switch.proofs.Advancing.{InOrder, checked_step}
use Rattle.walk.specs.Network.{Live}
use Rattle.walk.specs.Walk.{Packet, step_of, Way}
use Rattle.walk.specs.Condition3.{network_of}
use Rattle.walk.proofs.Running.{Lawful}
use Rattle.walk.proofs.Darts.{dart}
use Rattle.walk.proofs.SheetNetwork.{sheet_lawful}
use Rattle.walk.proofs.Following.{traveller_of, Follows, follows, parent_in_lem, current_in_lem}
use Rattle.walk.proofs.Checking.{lists_switches, lists_sound}
use Rattle.walk.proofs.Traversal.{Sane, run_sane}

zeros_only : (n b : ℕ) → b ∈ replicate n 0 → b ≡ 0
zeros_only zero b m = absurd m
zeros_only (suc n) b m = ⊎_elim (λ e. e) (zeros_only n b) m

-- before the first hop the tag is as it was sent
untouched : {s faults : List ℕ} {source destination : ℕ} {k : Packet} → Way s faults destination source k → length k.trace ≡ 0
    → k.tag ≡ replicate (2 * switches_of s) 0
untouched Way.start none = refl
untouched (Way.hop {k} way e) none = absurd (omega (arith, simp length-append at none))

module _ (s faults : List ℕ) (source destination : ℕ) {n cables : ℕ} (lists : list_answer s faults ≡ accepted n cables)
    (source_on : Within n source) (destination_on : Within n destination) where
  module _ {k : Packet} (way : Way s faults destination source k) where
    so : Follows s faults destination source k
    so = follows s faults destination source (lists_sound s faults lists) (rw (lists_switches s faults lists) at source_on) way

    lawful : Lawful (network_of s faults)
    lawful = sheet_lawful s faults (lists_sound s faults lists)

    sane : Sane (network_of s faults) (traveller_of k) (reverse k.trace)
    sane = run_sane (network_of s faults) lawful so.run

    low : 1 ≤ k.at
    low = so.on.0

    arrived : ((k.arrival ≡ 0) × (reverse k.trace ≡ [])) ⊎ Live (network_of s faults) (dart k.at k.arrival)
        → (k.arrival ≡ 0) ⊎ (live_at s faults k.at k.arrival ≡ true)
    arrived = ⊎_map (λ host. host.0) (λ live. live.1)

    fresh : ((k.arrival ≡ 0) × (reverse k.trace ≡ [])) ⊎ Live (network_of s faults) (dart k.at k.arrival)
        → k.arrival ≡ 0 → (b : ℕ) → b ∈ take (2 * switches_of s) k.tag → b ≡ 0
    fresh (inr live) e b m = absurd (lawful.port_not_0 (dart k.at k.arrival) live.0 e)
    fresh (inl host) e b m =
        let none : length k.trace ≡ 0 = sym (length-reverse k.trace) ∙ ap length host.1 in
        zeros_only (2 * switches_of s) b
        (rw (take_all (2 * switches_of s) k.tag (omega (arith, so.long)), untouched way none) at m)

    current : ((cell_of k.tag k.at).current.0 ≡ 0) ⊎ (is_cabled (cell_of k.tag k.at).current.0 (order_at s k.at) ≡ true)
    current = by (rw (current_in_lem k.tag k.at low) at (sane.current k.at))
      where
        by : {p : ℕ} → (p ≡ 0) ⊎ (p ∈ map port_of (order_at s k.at)) → (p ≡ 0) ⊎ (is_cabled p (order_at s k.at) ≡ true)
        by {p} = ⊎_map (λ e. e) (λ m. let (c, at, e) = map_in port_of (order_at s k.at) p m in in_cabled p (order_at s k.at) c at (sym e))

    parent : ((cell_of k.tag k.at).parent.0 ≡ 0) ⊎ (live_at s faults k.at (cell_of k.tag k.at).parent.0 ≡ true)
    parent = ⊎_map (λ e. e) (λ live. live.1) (rw (parent_in_lem k.tag k.at low) at (sane.parent k.at))

    in_order : InOrder n (order_at s k.at) faults k.tag k.at k.arrival destination
    in_order =
        record {
          present = rw (lists_switches s faults lists) so.on;
          destination = destination_on;
          tag_room = rw (lists_switches s faults lists) (omega (arith, so.long));
          arrived = arrived sane.arrival;
          fresh = rw (lists_switches s faults lists) (fresh sane.arrival);
          current = current;
          parent = parent;
        }

    pub steps_checked : stepped s faults k.tag k.at k.arrival destination ≡ step_of s faults destination k
    steps_checked = checked_step s faults k.tag k.at k.arrival destination lists in_order
