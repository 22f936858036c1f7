-- The walk as a recursion on fuel, which computes: with one hop more than twice the rows the fuel never runs out, since no way is longer.
-- So every walk ends, and what the recursion comes to is the walk.
use Prim.Native.Nat.{ℕ, zero, suc, ◌+◌, ◌*◌, ◌≤◌, ◌<◌}
use mathlib.Core.Path.{◌≡◌, refl}
use mathlib.Core.List.{List}
use mathlib.Core.Bool.{Bool, true, false}
use native.Mathlib.Omega.{arith}
use lib.ListN.{length, length-append, length-reverse}
use lib.Dec.{eqb}
use borrow.Author.Tests.{eqb-true, eqb-false}
use Rattle.sheet.specs.Cables.{rows_of, switches_of}
use Rattle.sheet.specs.Sound.{Within, Sound}
use Rattle.switch.specs.Checks.{Check}
use Rattle.switch.specs.Checks.{Passed, Refused}
use Rattle.walk.specs.Walk.{Packet, step_of, carried, sent, Way, walk_checks, Result, refused_with, ended_with}
use Rattle.walk.specs.Walk.{Walks, turned_away, arrives}
use Rattle.walk.specs.Condition3.{network_of}
use Rattle.walk.proofs.SheetNetwork.{sheet_lawful}
use Rattle.walk.proofs.Following.{follows}
use Rattle.walk.proofs.Checking.{passed_premises, lists_switches, lists_sound}
use Rattle.walk.proofs.Traversal.{rows_bound}

module _ (s faults : List ℕ) (destination : ℕ) where
  -- carried on while the step forwards it, so many hops at most
  abbrev pub run : ℕ → Packet → Packet
  run zero k = k
  run (suc fuel) k =
      elim (eqb (step_of s faults destination k).paper.end 0) [ true ↦ run fuel (carried s faults destination k) | false ↦ k ]

  abbrev pub last_from : ℕ → Packet
  last_from source = run (suc (2 * length (rows_of s))) (sent s faults destination source)

  module _ (source : ℕ) (sound : Sound (switches_of s) (rows_of s)) (on : Within (switches_of s) source) where
    pub way_bound : {k : Packet} → Way s faults destination source k → length k.trace ≤ 2 * length (rows_of s)
    way_bound {k} way = rw (← length-reverse k.trace)
        (rows_bound (network_of s faults) (sheet_lawful s faults sound) (follows s faults destination source sound on way).run)

    -- the packet that a walk ends with
    abbrev Last : Packet → Type 0
    Last k = Way s faults destination source k × ((step_of s faults destination k).paper.end ≡ 0 → ⊥)

    run_last : (fuel : ℕ) (k : Packet) → Way s faults destination source k → 2 * length (rows_of s) < fuel + length k.trace
        → Last (run fuel k)
    run_last zero k way fits = absurd (omega (arith, way_bound way))
    run_last (suc fuel) k way fits =
        by (eqb (step_of s faults destination k).paper.end 0) refl
        (λ e more. run_last fuel (carried s faults destination k) (Way.hop way e) more)
      where
        by : (b : Bool) → eqb (step_of s faults destination k).paper.end 0 ≡ b
            → ((step_of s faults destination k).paper.end ≡ 0
            → 2 * length (rows_of s) < fuel + length (carried s faults destination k).trace
            → Last (run fuel (carried s faults destination k)))
            → Last (elim b [ true ↦ run fuel (carried s faults destination k) | false ↦ k ])
        by true e further = further (eqb-true (step_of s faults destination k).paper.end 0 e) (simp length-append (omega arith))
        by false e further = (way, eqb-false (step_of s faults destination k).paper.end 0 e)

    pub last_ends : Way s faults destination source (last_from source)
        × ((step_of s faults destination (last_from source)).paper.end ≡ 0 → ⊥)
    last_ends = run_last (suc (2 * length (rows_of s))) (sent s faults destination source) Way.start (omega arith)

-- ---- every walk ends: there is a result for all inputs

module _ (s faults tag trace : List ℕ) (source destination : ℕ) where
  pub walks_is : (r : Result) × Walks s faults tag trace source destination r
  walks_is = by (walk_checks s faults tag trace source destination) refl
    where
      by : (check : Check) → walk_checks s faults tag trace source destination ≡ check
          → (r : Result) × Walks s faults tag trace source destination r
      by (Refused number) e = (refused_with tag trace number, turned_away e)
      by Passed e =
          let p = passed_premises s faults tag trace source destination e in
          let on : Within (switches_of s) source = rw (lists_switches s faults p.lists) at p.source_on in
          let (way, end) = last_ends s faults destination source (lists_sound s faults p.lists) on in
          (ended_with s faults tag trace destination (last_from s faults destination source), arrives e way end)
