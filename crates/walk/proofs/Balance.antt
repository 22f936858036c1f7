-- A packet comes into a switch as often as it leaves it, but for the source, left once more, and for the switch where it is.
-- So it never comes to a switch that it has left by every live port; and once it is home again, a switch that it has left
-- by every live port it has also entered by every one.
use mathlib.Core.Path.{◌≡◌, refl, sym, ap, subst}
use mathlib.Core.List.{List, [], ◌∷◌}
use mathlib.Core.Bool.{Bool, true}
use Prim.Native.Nat.{ℕ, ◌+◌}
use native.Mathlib.Omega.{arith}
use lib.Dec.{eqb}
use borrow.Author.Tests.{eqb-true, eq-eqb, ne_eqb}
use Rattle.sheet.specs.Lists.{◌∈◌, Once, All}
use Rattle.walk.specs.Network.{Dart, Network, Live, Chain}
use Rattle.walk.proofs.Running.{Lawful}
use Rattle.walk.proofs.Lists.{tick, count, count_within, none_left_out}
use Rattle.walk.proofs.Darts.{dart, same_dart, entries, entry_live, entry_left, entries_once}

abbrev from : ℕ → Dart → Bool
from w e = eqb e.switch w

module _ {Row : Type 0} (N : Network Row) where
  -- the way has left the switch by every live port
  abbrev pub Complete : List Dart → ℕ → Type 0
  Complete way w = (p : ℕ) → Live N (dart w p) → dart w p ∈ way

  balance : (s v w : ℕ) (way : List Dart) → Chain N s v way
      → tick (eqb s w) + count (from w) (entries N way) ≡ tick (eqb v w) + count (from w) way
  balance s v w [] c = rw c refl
  balance s v w (e ∷ way) c = omega (arith, balance s e.switch w way c.1, ap (λ u. tick (eqb u w)) c.0)

  module _ (L : Lawful N) (s v : ℕ) (way : List Dart) (chain : Chain N s v way) (live : All (Live N) way) (once : Once way) where
    entries_within : (w : ℕ) → Complete way w → (e : Dart) → e ∈ entries N way → from w e ≡ true → e ∈ way
    entries_within w full e m t = subst (Complete way) (sym (eqb-true e.switch w t)) full e.port (entry_live N L way live e m)

    pub never_complete : (v ≡ s → ⊥) → Complete way v → ⊥
    never_complete away full =
        omega (
          arith,
          balance s v v way chain,
          ap tick (ne_eqb s v (λ q. away (sym q))),
          ap tick (eq-eqb v v refl),
          count_within (from v) (entries N way) way (entries_once N L way live once) (entries_within v full),
        )

    pub entered : v ≡ s → (w : ℕ) → Complete way w → (p : ℕ) → Live N (dart w p) → N.far (dart w p) ∈ way
    entered home w full p l = entry_left N L way live (dart w p)
        (none_left_out same_dart (from w) (entries N way) way (entries_once N L way live once) (entries_within w full)
        (omega (arith, balance s v w way chain, ap (λ u. tick (eqb u w)) home)) (dart w p) (full p l) (eq-eqb w w refl))
