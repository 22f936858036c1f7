-- The network of an accepted sheet is lawful: by its port a cable is found in the port order of either switch, so the questions of the
-- network are answered by the rows, and no two rows share a socket.
use Prim.Native.Nat.{ℕ}
use mathlib.Core.Path.{◌≡◌, refl, ap, sym, subst, ◌∙◌}
use mathlib.Core.List.{List, [], ◌∷◌, map}
use mathlib.Core.Logic.{inl}
use native.Mathlib.Omega.{arith}
use Rattle.sheet.specs.Lists.{◌∈◌}
use Rattle.sheet.specs.Cables.{turned, socket_of, rows_of}
use Rattle.sheet.specs.Faults.{live, faults_of}
use Rattle.sheet.specs.Cabling.{order_at, far_at, live_at}
use Rattle.sheet.specs.Sound.{Within, EndInRange, Sound, Seen, sockets}
use Rattle.sheet.specs.declared.cables.Cable.{Cable}
use Rattle.sheet.proofs.Lists.{in_map, map_in}
use Rattle.sheet.proofs.Cabling.{port_of, socket_at, both_ways, both_ways_in, in_both_ways, sockets_both, in_cabled, position_in}
use Rattle.sheet.proofs.Cabling.{port_order_lem, ports_once, ends_apart, far_in, live_both}
use Rattle.walk.specs.Network.{Dart, Cabled}
use Rattle.walk.specs.Condition3.{network_of}
use Rattle.walk.proofs.Running.{ends_of, Lawful}

module _ (s faults : List ℕ) {n : ℕ} (sound : Sound n (rows_of s)) where
  -- ---- a cable of the order, found by its port

  found_far : (v : ℕ) (c : Cable) → c ∈ order_at s v → far_at s v (port_of c) ≡ socket_of c.far
  found_far v c at = ap (λ d. socket_of d.far) (position_in (order_at s v) c at (ports_once sound v))

  found_live : (v : ℕ) (c : Cable) → c ∈ order_at s v → live_at s faults v (port_of c) ≡ live (faults_of faults) c
  found_live v c at = rw (in_cabled (port_of c) (order_at s v) c at refl, position_in (order_at s v) c at (ports_once sound v))

  -- a row stands in the order of either of its switches
  row_there : (c : Cable) → c ∈ rows_of s → c ∈ order_at s c.near.switch
  row_there c at = ((port_order_lem sound c.near.switch).holds c).1 (record { row = inl at; here = refl })

  row_turned : (c : Cable) → c ∈ rows_of s → turned c ∈ order_at s c.far.switch
  row_turned c at = far_in sound c.near.switch c (row_there c at)

  -- the far end of a cabled port is on the sheet
  pub far_range : (v p : ℕ) → p ∈ map port_of (order_at s v) → (c : Cable) × (far_at s v p ≡ socket_of c.far) × EndInRange n c.far
  far_range v p m =
      let (c, at, e) = map_in port_of (order_at s v) p m in
      (c, ap (far_at s v) e ∙ found_far v c at, (ends_apart sound v c at).0.far)

  pub port_range : (v p : ℕ) → p ∈ map port_of (order_at s v) → Within 48 p
  port_range v p m =
      let (c, at, e) = map_in port_of (order_at s v) p m in
      rw e (ends_apart sound v c at).0.near.1

  -- ---- the ends of the rows

  ends_sockets : (rows : List Cable) → ends_of (network_of s faults) rows ≡ sockets rows
  ends_sockets [] = refl
  ends_sockets (c ∷ rows) = ap (λ l. socket_of c.near ∷ socket_of c.far ∷ l) (ends_sockets rows)

  abbrev both : List Cable
  both = both_ways (rows_of s)

  end_both : (d : Dart) → d ∈ ends_of (network_of s faults) (rows_of s) → (c : Cable) × (c ∈ both) × (d ≡ socket_at c)
  end_both d m = map_in socket_at both d (subst (λ l. d ∈ l) (ends_sockets (rows_of s) ∙ sockets_both (rows_of s)) m)

  both_end : (c : Cable) → c ∈ both → socket_at c ∈ ends_of (network_of s faults) (rows_of s)
  both_end c at = subst (λ l. socket_at c ∈ l) (sym (ends_sockets (rows_of s) ∙ sockets_both (rows_of s))) (in_map socket_at both c at)

  pub sheet_lawful : Lawful (network_of s faults)
  sheet_lawful =
      record {
        port_not_0 = λ d m z. port_not_0 d m z;
        order_once = λ v. ports_once sound v;
        ends_once = rw (ends_sockets (rows_of s)) sound.once;
        end_cabled = λ d m. end_cabled d m;
        cabled_end = λ d m. cabled_end d m;
        far_one = λ c at. found_far c.near.switch c (row_there c at);
        far_other = λ c at. found_far c.far.switch (turned c) (row_turned c at);
        live_both = λ c at.
            found_live c.near.switch c (row_there c at)
            ∙ sym (live_both (faults_of faults) c)
            ∙ sym (found_live c.far.switch (turned c) (row_turned c at));
      }
    where
      port_not_0 : (d : Dart) → Cabled (network_of s faults) d → d.port ≡ 0 → ⊥
      port_not_0 d m z =
          let (c, at, e) = map_in port_of (order_at s d.switch) d.port m in
          let range = (ends_apart sound d.switch c at).0.near.1.0 in
          omega arith

      end_cabled : (d : Dart) → d ∈ ends_of (network_of s faults) (rows_of s) → Cabled (network_of s faults) d
      end_cabled d m =
          let (c, at, e) = end_both d m in
          let there = ((port_order_lem sound c.near.switch).holds c).1 (record { row = both_ways_in (rows_of s) c at; here = refl }) in
          rw e (in_map port_of (order_at s c.near.switch) c there)

      cabled_end : (d : Dart) → Cabled (network_of s faults) d → d ∈ ends_of (network_of s faults) (rows_of s)
      cabled_end d m =
          let (c, at, e) = map_in port_of (order_at s d.switch) d.port m in
          let seen : Seen (rows_of s) d.switch c = ((port_order_lem sound d.switch).holds c).0 at in
          let same : d ≡ socket_at c = (λ i. record { switch = sym seen.here i; port = e i }) in
          rw same (both_end c (in_both_ways (rows_of s) c seen.row))
