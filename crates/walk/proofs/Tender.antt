-- Condition 3. The packets of a walk are a run of the sheet's network; at the destination it is delivered, and it finds no port only at
-- home, after each live cable that is reached was crossed once each way.
use Prim.Native.Nat.{ℕ, ◌*◌}
use mathlib.Core.Path.{◌≡◌, refl, ap, sym, subst, ◌∙◌}
use mathlib.Core.List.{List, [], ◌∷◌, ◌++◌, reverse}
use mathlib.Core.Logic.{◌⊎◌, inl, inr, ⊎_elim}
use mathlib.Core.Bool.{true}
use native.Mathlib.Omega.{arith}
use lib.ListN.{length, drop, length-reverse}
use Rattle.sheet.specs.Lists.{◌∈◌, All}
use Rattle.sheet.specs.Cables.{socket_of, rows_of, switches_of}
use Rattle.sheet.specs.Cabling.{live_at}
use Rattle.sheet.specs.Sound.{Within, Sound}
use Rattle.sheet.specs.declared.cables.Cable.{Cable}
use Rattle.switch.specs.Step.{Stepped}
use Rattle.switch.proofs.Advancing.{Ends, delivers, finds_none, ends}
use Rattle.walk.specs.Network.{Dart, Live}
use Rattle.walk.specs.Walk.{Packet, Way, paper, trace_bytes, Result, Walks, turned_away, arrives}
use Rattle.walk.specs.Condition3.{network_of, Joined, Reachable, Premises, hops_in, Condition3}
use Rattle.sheet.proofs.Lists.{all_at, all_of}
use Rattle.walk.proofs.Lists.{reverse_in, in_reverse, reverse_all, reverse_once}
use Rattle.walk.proofs.Running.{Lawful, Run}
use Rattle.walk.proofs.Darts.{Due}
use Rattle.walk.proofs.Sizes.{counts_due}
use Rattle.walk.proofs.SheetNetwork.{sheet_lawful}
use Rattle.walk.proofs.Following.{traveller_of, Follows, chosen_at, follows}
use Rattle.walk.proofs.Checking.{premises_pass, lists_switches, lists_sound}
use Rattle.walk.proofs.Traversal.{run_once, run_chain, run_live, delivered_reached, delivered_bound, home, none_home, NoneHome}
use Rattle.walk.proofs.Traversal.{counted_is, counted_one}

-- ---- the hops that a trace tells are the hops made

pub hops_told : (trace : List Dart) (rest : List ℕ) → hops_in (length trace) (trace_bytes trace ++ rest) ≡ trace
hops_told [] rest = refl
hops_told (e ∷ trace) rest = ap (λ l. e ∷ l) (hops_told trace rest)

module _ (s faults : List ℕ) (source destination : ℕ) (sound : Sound (switches_of s) (rows_of s)) (on : Within (switches_of s) source) where
  lawful : Lawful (network_of s faults)
  lawful = sheet_lawful s faults sound

  -- ---- the sentences, for the packet that a walk ended with

  module _ {k : Packet} (way : Way s faults destination source k) {m : ℕ} (counted : Reachable s faults source m) where
    so : Follows s faults destination source k
    so = follows s faults destination source sound on way

    reached : k.at ≡ destination → Joined s faults source destination
    reached there = delivered_reached (network_of s faults) lawful so.run there

    no_hop : source ≡ destination → length k.trace ≡ 0
    no_hop e =
        sym (length-reverse k.trace)
        ∙ ap length
        (home (network_of s faults) lawful
        (subst (λ d. Run (network_of s faults) source d (traveller_of k) (reverse k.trace)) (sym e) so.run))

    live : All (Live (network_of s faults)) k.trace
    live = reverse_all (Live (network_of s faults)) k.trace
        (all_of (Live (network_of s faults)) (reverse k.trace)
        (λ e m. (all_at (Due (network_of s faults) source) (reverse k.trace) e (run_live (network_of s faults) lawful so.run) m).0))

    condition_3 : {step : Stepped} → Ends (rows_of s) faults k.tag k.at k.arrival destination step
        → Condition3 s faults source destination m (paper step.paper.end k.at (length k.trace) 0) k.trace
    condition_3 (delivers there) =
        record {
          delivers = (λ e. reached there, λ t. refl);
          otherwise = (λ e. absurd (omega arith), λ apart. absurd (apart (reached there)));
          ends = inl refl;
          delivered_at = λ e. there;
          none_at = λ e. absurd (omega arith);
          home = no_hop;
          at_most = λ e apart.
              omega (
                arith,
                length-reverse k.trace,
                delivered_bound (network_of s faults) lawful so.run there (λ q. apart (sym q)) counted,
              );
          exactly = λ e. absurd (omega arith);
          each_way = λ e. absurd (omega arith);
          once = reverse_once k.trace (run_once (network_of s faults) lawful so.run);
          live = live;
          chain = run_chain (network_of s faults) lawful so.run;
          counted = refl;
        }
    condition_3 (finds_none away chosen) =
        record {
          delivers = (λ e. absurd (omega arith), λ t. absurd (none.unreached t));
          otherwise = (λ e. none.unreached, λ apart. refl);
          ends = inr refl;
          delivered_at = λ e. absurd (omega arith);
          none_at = λ e. none.home;
          home = no_hop;
          at_most = λ e apart. absurd (omega arith);
          exactly = λ e. sym (length-reverse k.trace) ∙ none.size m counted;
          each_way = λ e x. (λ l. (none.crossed x).0 (in_reverse k.trace x l), λ t. reverse_in k.trace x ((none.crossed x).1 t));
          once = reverse_once k.trace (run_once (network_of s faults) lawful so.run);
          live = live;
          chain = run_chain (network_of s faults) lawful so.run;
          counted = refl;
        }
      where
        none : NoneHome (network_of s faults) source destination (traveller_of k) (reverse k.trace)
        none =
            none_home (network_of s faults) lawful so.run away (chosen_at s faults destination source k so.on.0 chosen)

-- ---- on the inputs of a walk

module _ (s faults tag trace : List ℕ) (source destination : ℕ) where
  module _ (p : Premises s faults tag trace source destination) where
    sound : Sound (switches_of s) (rows_of s)
    sound = lists_sound s faults p.lists

    on : Within (switches_of s) source
    on = rw (lists_switches s faults p.lists) at p.source_on

    -- M exists
    pub reachable_is : (m : ℕ) × Reachable s faults source m
    reachable_is = counted_is (network_of s faults) (sheet_lawful s faults sound) source

    -- THE theorem: whatever M is, and whatever the walk comes to
    pub walk_keeps : {m : ℕ} → Reachable s faults source m → {r : Result} → Walks s faults tag trace source destination r
        → Condition3 s faults source destination m r.paper (hops_in r.paper.hops r.trace)
    walk_keeps counted (turned_away e) = cc (premises_pass s faults tag trace source destination p)
    walk_keeps counted (arrives {k} e way end) =
        rw (hops_told k.trace (drop (2 * length k.trace) trace))
        (condition_3 s faults source destination sound on way counted
        (ends (rows_of s) faults k.tag k.at k.arrival destination sound end))

    -- where none is reported, each cable that counts for M was crossed from its one end and from its other
    pub each_cable : {r : Result} → Walks s faults tag trace source destination r → r.paper.end ≡ 2
        → (c : Cable) → c ∈ rows_of s → live_at s faults c.near.switch c.near.port ≡ true
        → Joined s faults source c.near.switch ⊎ Joined s faults source c.far.switch
        → (socket_of c.near ∈ hops_in r.paper.hops r.trace) × (socket_of c.far ∈ hops_in r.paper.hops r.trace)
    each_cable walks none c at live reached =
        let (near, far) = counts_due (network_of s faults) source (sheet_lawful s faults sound) c at (live, reached) in
        let crossed = (walk_keeps reachable_is.1 walks).each_way none in
        ((crossed (socket_of c.near)).1 near, (crossed (socket_of c.far)).1 far)

    pub never_refused : {r : Result} → Walks s faults tag trace source destination r → r.paper.end ≡ 3 → ⊥
    never_refused walks e = ⊎_elim (λ one. omega arith) (λ two. omega arith) (walk_keeps reachable_is.1 walks).ends

-- and M is one number
pub reachable_one : (s faults : List ℕ) {source m m' : ℕ} → Reachable s faults source m → Reachable s faults source m' → m ≡ m'
reachable_one s faults c c' = counted_one (network_of s faults) c c'
