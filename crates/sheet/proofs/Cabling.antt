-- What sound rows say of the cables at a switch. All of it comes from one list, the rows read from both ends: the cables seen from a
-- switch are those of its elements that begin there, and no two of its elements begin at the same port of the same switch.
use Prim.Native.Nat.{ℕ, ◌<◌}
use mathlib.Core.Path.{◌≡◌, refl, ap, sym, ◌∙◌, fun_ext}
use mathlib.Core.List.Permᴰ
use mathlib.Core.List.{List, [], ◌∷◌, map, append_assoc}
use mathlib.Core.Logic.Iff
use mathlib.Core.Logic.{◌⊎◌, inl, inr, ⊎_elim, ◌↔◌}
use mathlib.Core.Bool.{Bool, true, not}
use native.Mathlib.Omega.{arith}
use lib.ListN.{length, length-map}
use lib.Seq.{take_all}
use lib.Dec.{eqb}
use borrow.Author.Tests.{ltb-true, lt-ltb, eqb-true, eq-eqb}
use Rattle.std.proofs.lemmas.Bool.Decides.{nat_tests}
use Rattle.sheet.specs.Lists.{any, ◌∈◌, Once}
use Rattle.sheet.specs.Cables.{Socket, socket_of, turned, is_at, cabled}
use Rattle.sheet.specs.Faults.{live}
use Rattle.sheet.specs.Order.{seen_from, sorted, port_order, position_of, cable_of, is_cabled}
use Rattle.sheet.specs.Sound.{Within, RowInRange, sockets, Sound, Seen}
use Rattle.sheet.specs.Rising.{PortOrder}
use Rattle.sheet.specs.declared.cables.Cable.{Cable}
use Rattle.sheet.proofs.Lists.{both_true, true_both, either_swap, same_test, any_found, found_any, all_at, map_in}
use Rattle.sheet.proofs.Lists.{once_same, once_finer, once_within, those, those_in, in_those, once_those}
use Rattle.sheet.proofs.Permuted.{permuted_holds, permuted_once}
use Rattle.sheet.proofs.Ordering.{key_of, sorted_permuted, sorted_rising, rising_unique}

abbrev pub port_of : Cable → ℕ
port_of c = c.near.port

abbrev pub socket_at : Cable → Socket
socket_at c = socket_of c.near

-- every row from its one end and from its other
abbrev pub both_ways : List Cable → List Cable
both_ways [] = []
both_ways (c ∷ rows) = c ∷ turned c ∷ both_ways rows

abbrev begins_at : ℕ → Cable → Bool
begins_at v c = eqb c.near.switch v

-- ---- the rows read from both ends

pub in_both_ways : (rows : List Cable) (c : Cable) → (c ∈ rows) ⊎ (turned c ∈ rows) → c ∈ both_ways rows
in_both_ways [] c at = grind arith
in_both_ways (d ∷ rows) c at = grind (arith, in_both_ways rows c)

pub both_ways_in : (rows : List Cable) (c : Cable) → c ∈ both_ways rows → (c ∈ rows) ⊎ (turned c ∈ rows)
both_ways_in [] c at = inl at
both_ways_in (d ∷ rows) c at = grind (arith, both_ways_in rows c)

pub sockets_both : (rows : List Cable) → sockets rows ≡ map socket_at (both_ways rows)
sockets_both [] = refl
sockets_both (c ∷ rows) = rw (sockets_both rows)

seen_both : (v : ℕ) (rows : List Cable) → seen_from v rows ≡ those (begins_at v) (both_ways rows)
unfolding seen_from
seen_both v [] = refl
seen_both v (c ∷ rows) = rw (append_assoc, seen_both v rows)

cabled_both : (rows : List Cable) (v p : ℕ) → cabled rows v p ≡ any (λ c. is_at v p c.near) (both_ways rows)
unfolding cabled
cabled_both [] v p = refl
cabled_both (c ∷ rows) v p = grind (arith, cabled_both rows v p)

-- ---- the cables seen from a switch

seen_from_lem : (rows : List Cable) (v : ℕ) (c : Cable) → (c ∈ seen_from v rows) ↔ Seen rows v c
seen_from_lem rows v c = rw seen_both (into, from)
  where
    into : c ∈ those (begins_at v) (both_ways rows) → Seen rows v c
    into at =
        let (there, t) = those_in (begins_at v) (both_ways rows) c at in
        record { row = both_ways_in rows c there; here = eqb-true c.near.switch v t }

    from : Seen rows v c → c ∈ those (begins_at v) (both_ways rows)
    from seen = in_those (begins_at v) (both_ways rows) c (in_both_ways rows c seen.row) (eq-eqb c.near.switch v seen.here)

-- a port is cabled where a cable is seen there
pub cabled_seen : (rows : List Cable) (v p : ℕ) → cabled rows v p ≡ true → (c : Cable) × Seen rows v c × (port_of c ≡ p)
cabled_seen rows v p t =
    let (c, at, here) = any_found (λ d. is_at v p d.near) (both_ways rows) (rw cabled_both at t) in
    let (switch, port) = both_true (eqb c.near.switch v) (eqb (port_of c) p) here in
    (c, record { row = both_ways_in rows c at; here = eqb-true c.near.switch v switch }, eqb-true (port_of c) p port)

pub seen_cabled : (rows : List Cable) (v p : ℕ) (c : Cable) → Seen rows v c → port_of c ≡ p → cabled rows v p ≡ true
seen_cabled rows v p c seen port =
    rw cabled_both (found_any (λ d. is_at v p d.near) (both_ways rows) c (in_both_ways rows c seen.row)
    (true_both (eq-eqb c.near.switch v seen.here) (eq-eqb (port_of c) p port)))

-- ---- positions in any list of cables

-- a cable of the order with this port, at this position
abbrev pub FoundAt : ℕ → List Cable → ℕ → Type 0
FoundAt p order i = (c : Cable) × (c ∈ order) × (port_of c ≡ p) × (cable_of i order ≡ c)

before_end_found : (p : ℕ) (order : List Cable) → position_of p order < length order → FoundAt p order (position_of p order)
unfolding position_of
before_end_found p [] h = absurd (omega arith)
before_end_found p (c ∷ cs) h = grind (arith, nat_tests, before_end_found p cs)

in_before_end : (p : ℕ) (order : List Cable) (c : Cable) → c ∈ order → port_of c ≡ p → position_of p order < length order
unfolding position_of
in_before_end p [] c at port = absurd at
in_before_end p (d ∷ ds) c at port = grind (arith, nat_tests, in_before_end p ds c)

pub position_found : (p : ℕ) (order : List Cable) → is_cabled p order ≡ true → FoundAt p order (position_of p order)
position_found p order t = before_end_found p order (ltb-true (position_of p order) (length order) t)

pub in_cabled : (p : ℕ) (order : List Cable) (c : Cable) → c ∈ order → port_of c ≡ p → is_cabled p order ≡ true
in_cabled p order c at port = lt-ltb (position_of p order) (length order) (in_before_end p order c at port)

-- where no port stands twice, a cable is found by its port
pub position_in : (order : List Cable) (c : Cable) → c ∈ order → Once (map port_of order)
    → cable_of (position_of (port_of c) order) order ≡ c
position_in order c at once =
    let (d, there, port, found) = position_found (port_of c) order (in_cabled (port_of c) order c at refl) in
    found ∙ once_same port_of order d c once there at port

-- ---- the port order of sound rows

module _ {n : ℕ} {rows : List Cable} (sound : Sound n rows) where
  pub seen_range : (v : ℕ) (c : Cable) → Seen rows v c → RowInRange n c
  seen_range v c seen = ⊎_elim (all_at (RowInRange n) rows c sound.ranges) turn seen.row
    where
      turn : turned c ∈ rows → RowInRange n c
      turn at =
          let r = all_at (RowInRange n) rows (turned c) sound.ranges at in
          record { near = r.far; far = r.near; apart = λ e. r.apart (sym e) }

  -- at one switch the port tells the socket, and no socket carries two cable ends
  seen_ports : (v : ℕ) → Once (map port_of (seen_from v rows))
  seen_ports v =
      once_finer socket_at port_of (seen_from v rows) same_socket
      (rw seen_both (once_those (begins_at v) socket_at (both_ways rows) (rw sockets_both at sound.once)))
    where
      same_socket : (c d : Cable) → c ∈ seen_from v rows → d ∈ seen_from v rows → port_of c ≡ port_of d → socket_at c ≡ socket_at d
      same_socket c d at there e =
          let switch : c.near.switch ≡ d.near.switch = ((seen_from_lem rows v c).0 at).here ∙ sym ((seen_from_lem rows v d).0 there).here in
          (λ i. record { switch = switch i; port = e i })

  sorted_order : (v : ℕ) → PortOrder rows v (sorted [] (seen_from v rows))
  sorted_order v = record {
    holds = λ c. Iff.trans (permuted_holds (sorted_permuted (seen_from v rows)) c) (seen_from_lem rows v c);
    rising = sorted_rising (seen_from v rows)
        (once_finer port_of key_of (seen_from v rows) (λ c d at there. ap (λ k. k.1)) (seen_ports v));
  }

  sorted_ports : (v : ℕ) → Once (map port_of (sorted [] (seen_from v rows)))
  sorted_ports v = permuted_once (Permᴰ.map port_of (sorted_permuted (seen_from v rows))) (seen_ports v)

  -- different ports from 1 to 48: the order has at most 48 cables, and the cut takes none
  uncut : (v : ℕ) → port_order rows v ≡ sorted [] (seen_from v rows)
  unfolding port_order
  uncut v = take_all 48 cables (rw length-map at (once_within 48 (map port_of cables) (sorted_ports v) in_range))
    where
      cables : List Cable
      cables = sorted [] (seen_from v rows)

      in_range : (p : ℕ) → p ∈ map port_of cables → Within 48 p
      in_range p at = let (c, there, e) = map_in port_of cables p at in rw e (seen_range v c (((sorted_order v).holds c).0 there)).near.1

  pub port_order_lem : (v : ℕ) → PortOrder rows v (port_order rows v)
  port_order_lem v = rw uncut (sorted_order v)

  pub ports_once : (v : ℕ) → Once (map port_of (port_order rows v))
  ports_once v = rw uncut (sorted_ports v)

  -- any list with the properties of the port order is the port order
  pub port_order_one : {v : ℕ} {xs : List Cable} → PortOrder rows v xs → xs ≡ port_order rows v
  port_order_one {v} {xs} order =
      rising_unique xs (port_order rows v) order.rising (port_order_lem v).rising
      (λ c. Iff.trans (order.holds c) (Iff.symm ((port_order_lem v).holds c)))

  pub cabled_order : (v p : ℕ) → is_cabled p (port_order rows v) ≡ cabled rows v p
  cabled_order v p = same_test (is_cabled p (port_order rows v)) (cabled rows v p)
      (λ t. let (c, at, port, found) = position_found p (port_order rows v) t in seen_cabled rows v p c (((port_order_lem v).holds c).0 at) port)
      (λ t. let (c, seen, port) = cabled_seen rows v p t in in_cabled p (port_order rows v) c (((port_order_lem v).holds c).1 seen) port)

  -- a cable of the order begins at the switch and is in range, whichever way its row is written
  pub ends_apart : (v : ℕ) (c : Cable) → c ∈ port_order rows v → RowInRange n c × (c.near.switch ≡ v)
  ends_apart v c at = let seen = ((port_order_lem v).holds c).0 at in (seen_range v c seen, seen.here)

  -- from the far end the same cable is seen, turned
  pub far_in : (v : ℕ) (c : Cable) → c ∈ port_order rows v → turned c ∈ port_order rows c.far.switch
  far_in v c at =
      ((port_order_lem c.far.switch).holds (turned c)).1
      (record { row = ⊎_elim inr inl (((port_order_lem v).holds c).0 at).row; here = refl })

  pub far_far : (v : ℕ) (c : Cable) → c ∈ port_order rows v
      → cable_of (position_of c.far.port (port_order rows c.far.switch)) (port_order rows c.far.switch) ≡ turned c
  far_far v c at = position_in (port_order rows c.far.switch) (turned c) (far_in v c at) (ports_once c.far.switch)

-- a fault at either end takes the cable out at both
pub live_both : (faults : List Socket) (c : Cable) → live faults (turned c) ≡ live faults c
unfolding live
live_both faults c =
    ap (λ (f : Socket → Bool). not (any f faults))
    (fun_ext λ f. either_swap (is_at f.switch f.port c.far) (is_at f.switch f.port c.near))
