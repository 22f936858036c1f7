-- A sheet built anew, its rows in another order and each either way round, says the same: read from both ends, its rows are the same
-- cables in another order, and all that is asked of a sheet goes by that list.
use Prim.Native.Nat.{ℕ, suc}
use mathlib.Core.Path.{◌≡◌, refl, ap, ◌∙◌}
use mathlib.Core.List.Permᴰ
use mathlib.Core.List.{List, [], ◌∷◌, Permᴰ}
use mathlib.Core.Logic.Iff
use mathlib.Core.Logic.{◌⊎◌, inl, inr, ◌↔◌}
use mathlib.Core.Bool.{true}
use lib.ListN.{length}
use Rattle.sheet.specs.Cables.{turned, cabled}
use Rattle.sheet.specs.Order.{port_order}
use Rattle.sheet.specs.Sound.{RowInRange, Sound, Seen}
use Rattle.sheet.specs.Rebuilt.{Rebuilt, none, row, swapped, twice}
use Rattle.sheet.specs.declared.cables.Cable.{Cable}
use Rattle.sheet.proofs.Lists.{same_test, all_of}
use Rattle.sheet.proofs.Permuted.{permuted_in, permuted_once}
use Rattle.sheet.proofs.Cabling.{socket_at, both_ways, in_both_ways, both_ways_in, sockets_both, cabled_seen, seen_cabled}
use Rattle.sheet.proofs.Cabling.{seen_range, port_order_lem, port_order_one}

-- a row turned swaps its two readings; two rows swapped move the two readings of the one past those of the other
rebuilt_both : {rows rows' : List Cable} → Rebuilt rows rows' → Permᴰ (both_ways rows) (both_ways rows')
rebuilt_both none = Permᴰ.nil
rebuilt_both (row {c} {d} {rows} {rows'} way rest) = go way (Permᴰ.cons refl (Permᴰ.cons refl (rebuilt_both rest)))
  where
    go : (d ≡ c) ⊎ (d ≡ turned c) → Permᴰ (c ∷ turned c ∷ both_ways rows) (c ∷ turned c ∷ both_ways rows')
        → Permᴰ (c ∷ turned c ∷ both_ways rows) (d ∷ turned d ∷ both_ways rows')
    go (inl e) p = rw e p
    go (inr e) p = rw e (Permᴰ.trans p (Permᴰ.swap refl refl))
rebuilt_both (swapped {c} {d} {rows}) =
    let other = d ∷ turned d ∷ [] in
    Permᴰ.symm
    (Permᴰ.trans (Permᴰ.middle c other (turned c ∷ both_ways rows))
    (Permᴰ.cons refl (Permᴰ.middle (turned c) other (both_ways rows))))
rebuilt_both (twice p q) = Permᴰ.trans (rebuilt_both p) (rebuilt_both q)

pub rebuilt_length : {rows rows' : List Cable} → Rebuilt rows rows' → length rows ≡ length rows'
rebuilt_length none = refl
rebuilt_length (row way rest) = ap suc (rebuilt_length rest)
rebuilt_length swapped = refl
rebuilt_length (twice p q) = rebuilt_length p ∙ rebuilt_length q

-- the same cables are seen from a switch
pub rebuilt_seen : {rows rows' : List Cable} → Rebuilt rows rows' → (v : ℕ) (c : Cable) → Seen rows v c ↔ Seen rows' v c
rebuilt_seen {rows} {rows'} rebuilt v c =
    (along rows rows' (rebuilt_both rebuilt), along rows' rows (Permᴰ.symm (rebuilt_both rebuilt)))
  where
    along : (old new : List Cable) → Permᴰ (both_ways old) (both_ways new) → Seen old v c → Seen new v c
    along old new p seen = record { row = both_ways_in new c (permuted_in c p (in_both_ways old c seen.row)); here = seen.here }

pub rebuilt_sound : {n : ℕ} {rows rows' : List Cable} → Sound n rows → Rebuilt rows rows' → Sound n rows'
rebuilt_sound {n} {rows} {rows'} sound rebuilt = record {
  ranges = all_of (RowInRange n) rows'
      (λ c at. seen_range sound c.near.switch c ((rebuilt_seen rebuilt c.near.switch c).1 (record { row = inl at; here = refl })));
  once = rw sockets_both (permuted_once (Permᴰ.map socket_at (rebuilt_both rebuilt)) (rw sockets_both at sound.once));
}

pub rebuilt_order : {n : ℕ} {rows rows' : List Cable} → Sound n rows → Rebuilt rows rows' → (v : ℕ)
    → port_order rows v ≡ port_order rows' v
rebuilt_order sound rebuilt v =
    port_order_one (rebuilt_sound sound rebuilt) (record {
      holds = λ c. Iff.trans ((port_order_lem sound v).holds c) (rebuilt_seen rebuilt v c);
      rising = (port_order_lem sound v).rising;
    })

pub rebuilt_cabled : {rows rows' : List Cable} → Rebuilt rows rows' → (v p : ℕ) → cabled rows v p ≡ cabled rows' v p
rebuilt_cabled {rows} {rows'} rebuilt v p =
    same_test (cabled rows v p) (cabled rows' v p) (along rows rows' (λ c. (rebuilt_seen rebuilt v c).0))
    (along rows' rows (λ c. (rebuilt_seen rebuilt v c).1))
  where
    along : (old new : List Cable) → ((c : Cable) → Seen old v c → Seen new v c) → cabled old v p ≡ true → cabled new v p ≡ true
    along old new into t = let (c, seen, port) = cabled_seen old v p t in seen_cabled new v p c (into c seen) port
