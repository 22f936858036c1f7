-- What the loop of a walk keeps: the packet of the definition in numbers and in the front bytes of the two buffers, and the bytes beyond
-- as they came. A step that forwards carries the packet on, and the trace has room for it; any other step ends the walk. What a turn of the
-- loop needs stands in the invariant, where the check reads it.
use Prim.Native.Nat.{ℕ, suc, ◌+◌, ◌*◌, ◌≤◌, ◌<◌}
use mathlib.Core.Path.{◌≡◌, refl, ap, sym, subst, ◌∙◌}
use mathlib.Core.List.{List, [], ◌∷◌, ◌++◌}
use mathlib.Core.Logic.{⊎_elim}
use native.Mathlib.Omega.{arith}
use native.Mathlib.Numerals.{add-one}
use lib.ListN.{length, take, drop, set, replicate, length-append, length-drop, take-append-drop}
use lib.Seq.{drop-append-add, drop-drop, sets-eq, take_at}
use Rattle.sheet.specs.Cables.{rows_of, switches_of}
use Rattle.sheet.specs.Cabling.{order_at}
use Rattle.sheet.specs.Sound.{Within, Sound}
use Rattle.switch.specs.Step.{Ready, Stepped, advanced}
use Rattle.switch.proofs.Advancing.{followed_by, longer_tag, advanced_keeps}
use Rattle.walk.specs.Network.{Dart}
use Rattle.walk.specs.Walk.{Packet, step_of, carried, sent, Way, paper, paper_of, trace_bytes, result_of, ended_with, Walks, arrives}
use Rattle.walk.specs.Condition3.{Premises}
use Rattle.walk.specs.declared.walk.Walked.{Walked}
use Rattle.walk.proofs.Checking.{premises_pass, lists_switches, lists_cables, lists_sound, lists_few}
use Rattle.walk.proofs.Following.{Follows, follows, port_on}
use Rattle.walk.proofs.Computing.{way_bound}
use Rattle.walk.proofs.Room.{trace_length}

-- ---- a trace with one hop more

trace_more : (trace : List Dart) (e : Dart) → trace_bytes (trace ++ (e ∷ [])) ≡ trace_bytes trace ++ (e.switch ∷ e.port ∷ [])
trace_more [] e = refl
trace_more (d ∷ trace) e = ap (λ l. d.switch ∷ d.port ∷ l) (trace_more trace e)

-- two bytes written behind what is written already
two_written : (front rest : List ℕ) (at a b : ℕ) → length front ≡ at → at + 2 ≤ length rest
    → set (set (front ++ drop at rest) at a) (at + 1) b ≡ (front ++ (a ∷ b ∷ [])) ++ drop (at + 2) rest
two_written front rest at a b size room =
    let fits : at + 2 ≤ length (front ++ drop at rest) = simp (length-append, length-drop) (omega arith) in
    let behind : drop (at + 2) (front ++ drop at rest) ≡ drop (at + 2) rest =
    rw (drop-drop 2 at rest) at (rw size at (drop-append-add front (drop at rest) 2)) in
    let written : set (set (front ++ drop at rest) at a) (suc at) b ≡ (front ++ (a ∷ b ∷ [])) ++ drop (at + 2) rest =
    rw (take_at front (drop at rest) at size, behind) at (sets-eq (a ∷ b ∷ []) (front ++ drop at rest) at fits) in
    rw add-one written

module _ (s faults tag₀ trace₀ : List ℕ) (source destination : ℕ) where
  pub record Carrying (tag trace : List ℕ) (at arrival hops : ℕ) : Type 0 where
    pub premises : Premises s faults tag₀ trace₀ source destination
    pub packet : Packet
    pub way : Way s faults destination source packet
    pub here : at ≡ packet.at
    pub came : arrival ≡ packet.arrival
    pub count : hops ≡ length packet.trace
    pub tag_is : tag ≡ packet.tag ++ drop (2 * switches_of s) tag₀
    pub trace_is : trace ≡ trace_bytes packet.trace ++ drop (2 * hops) trace₀

  -- what a hop by this port needs
  pub record HopRoom (trace : List ℕ) (port hops : ℕ) : Type 0 where
    pub port_small : port < 256
    pub hops_left : hops + 1 ≤ 2 * length (rows_of s)
    pub hops_small : hops < 1024
    pub bytes_left : 2 * hops + 1 < length trace

  -- and with what follows from it for the turn that begins
  pub record Turn (tag trace : List ℕ) (at arrival hops : ℕ) : Type 0 where
    pub carrying : Carrying tag trace at arrival hops
    pub ready : Ready tag at arrival
    pub switch_small : at < 256
    pub room : {x : Stepped} → x ≡ advanced (order_at s at) faults tag at arrival destination → x.paper.end ≡ 0
        → HopRoom trace x.paper.port hops

module _ {s faults tag₀ trace₀ : List ℕ} {source destination : ℕ} where
  pub carrying_starts : Premises s faults tag₀ trace₀ source destination
      → take (2 * switches_of s) tag₀ ≡ replicate (2 * switches_of s) 0
      → Carrying s faults tag₀ trace₀ source destination tag₀ trace₀ source 0 0
  carrying_starts p zeros =
      record {
        premises = p;
        packet = sent s faults destination source;
        way = Way.start;
        here = refl;
        came = refl;
        count = refl;
        tag_is = sym (take-append-drop (2 * switches_of s) tag₀) ∙ ap (λ l. l ++ drop (2 * switches_of s) tag₀) zeros;
        trace_is = refl;
      }

  module _ {tag trace : List ℕ} {at arrival hops : ℕ} (c : Carrying s faults tag₀ trace₀ source destination tag trace at arrival hops)
    where
      abbrev k : Packet
      k = c.packet

      sound : Sound (switches_of s) (rows_of s)
      sound = lists_sound s faults c.premises.lists

      on : Within (switches_of s) source
      on = rw (lists_switches s faults c.premises.lists) at c.premises.source_on

      so : Follows s faults destination source k
      so = follows s faults destination source sound on c.way

      few : (switches_of s ≤ 64) × (length (rows_of s) ≤ 512)
      few =
          rw (lists_switches s faults c.premises.lists, lists_cables s faults c.premises.lists) at
          (lists_few s faults c.premises.lists)

      hops_few : {k' : Packet} → Way s faults destination source k' → length k'.trace ≤ 2 * length (rows_of s)
      hops_few way = way_bound s faults destination source sound on way

      trace_room : 4 * length (rows_of s) ≤ length trace₀
      trace_room = rw (lists_cables s faults c.premises.lists) at c.premises.trace_room

      -- ---- at the head of the loop

      switch_small : at < 256
      switch_small = omega (arith, c.here, so.on.1, few.0)

      pub ready : Ready tag at arrival
      ready =
          record {
            cell = record { low = omega (arith, c.here, so.on.0); inside = inside };
            byte = ⊎_elim (λ z. omega (arith, c.came, z)) (λ port. omega (arith, c.came, port.1)) so.came;
          }
        where
          inside : 2 * at ≤ length tag
          inside = rw c.tag_is (simp length-append (omega (arith, c.here, so.on.1, so.long)))

      pub tag_size : length tag ≡ length tag₀
      tag_size =
          ap length c.tag_is
          ∙ simp (length-append, length-drop)
          (omega (arith, so.long, lists_switches s faults c.premises.lists, c.premises.tag_room))

      pub trace_size : length trace ≡ length trace₀
      trace_size =
          ap length c.trace_is
          ∙ simp (length-append, length-drop)
          (omega (arith, trace_length k.trace, c.count, trace_room, hops_few c.way))

      -- ---- after the step

      module _ {x : Stepped} (told : x ≡ advanced (order_at s at) faults tag at arrival destination) where
        abbrev beyond : List ℕ
        beyond = drop (2 * switches_of s) tag₀

        step_is : x ≡ followed_by beyond (step_of s faults destination k)
        step_is =
            told
            ∙ (λ i. advanced (order_at s (c.here i)) faults (c.tag_is i) (c.here i) (c.came i) destination)
            ∙ longer_tag (order_at s k.at) faults k.tag k.at k.arrival destination beyond so.on.0
            (omega (arith, so.on.1, so.long))

        paper_is : x.paper ≡ (step_of s faults destination k).paper
        paper_is = ap (λ y. y.paper) step_is

        -- any step that does not forward ends the walk
        pub walk_ends : 0 < x.paper.end → (w : Walked)
            → paper_of w ≡ paper x.paper.end at hops 0 → Walks s faults tag₀ trace₀ source destination (result_of w x.tag trace)
        walk_ends over w answer =
            subst (Walks s faults tag₀ trace₀ source destination) same
            (arrives (premises_pass s faults tag₀ trace₀ source destination c.premises) c.way end)
          where
            end : (step_of s faults destination k).paper.end ≡ 0 → ⊥
            end z = omega (arith, ap (λ y. y.end) paper_is, over, z)

            tag_same : x.tag ≡ k.tag ++ beyond
            tag_same =
                ap (λ y. y.tag) step_is
                ∙ ap (λ l. l ++ beyond) (advanced_keeps (order_at s k.at) faults k.tag k.at k.arrival destination end)

            trace_same : trace ≡ trace_bytes k.trace ++ drop (2 * length k.trace) trace₀
            trace_same = c.trace_is ∙ ap (λ n. trace_bytes k.trace ++ drop (2 * n) trace₀) c.count

            paper_same : paper_of w ≡ (ended_with s faults tag₀ trace₀ destination k).paper
            paper_same = answer ∙ (λ i. paper (paper_is i).end (c.here i) (c.count i) 0)

            same : ended_with s faults tag₀ trace₀ destination k ≡ result_of w x.tag trace
            same = sym (λ i. record { paper = paper_same i; tag = tag_same i; trace = trace_same i })

        module _ (on_way : x.paper.end ≡ 0) where
          forwarded : (step_of s faults destination k).paper.end ≡ 0
          forwarded = sym (ap (λ y. y.end) paper_is) ∙ on_way

          next : Way s faults destination source (carried s faults destination k)
          next = Way.hop c.way forwarded

          port_is : x.paper.port ≡ (step_of s faults destination k).paper.port
          port_is = ap (λ y. y.port) paper_is

          -- one hop more is still no more than twice the cables
          hops_left : hops + 1 ≤ 2 * length (rows_of s)
          hops_left = omega (arith, c.count, simp length-append at (hops_few next))

          hop_room : HopRoom s faults tag₀ trace₀ source destination trace x.paper.port hops
          hop_room =
              record {
                port_small = omega (arith, port_is, (port_on s faults destination source sound k so forwarded).1);
                hops_left = hops_left;
                hops_small = omega (arith, few.1, hops_left);
                bytes_left = omega (arith, trace_size, trace_room, hops_left);
              }

          pub carrying_on :
              Carrying s faults tag₀ trace₀ source destination x.tag (set (set trace (2 * hops) at) (2 * hops + 1) x.paper.port)
              x.far.switch x.far.port (hops + 1)
          carrying_on =
              record {
                premises = c.premises;
                packet = carried s faults destination k;
                way = next;
                here = ap (λ y. y.far.switch) step_is;
                came = ap (λ y. y.far.port) step_is;
                count = ap (λ n. n + 1) c.count ∙ sym (length-append k.trace (_ ∷ []));
                tag_is = ap (λ y. y.tag) step_is;
                trace_is = trace_is;
              }
            where
              trace_is : set (set trace (2 * hops) at) (2 * hops + 1) x.paper.port
                  ≡ trace_bytes (carried s faults destination k).trace ++ drop (2 * (hops + 1)) trace₀
              trace_is =
                  let twice : 2 * hops + 2 ≡ 2 * (hops + 1) = omega arith in
                  let written : length (trace_bytes k.trace) ≡ 2 * hops = omega (arith, trace_length k.trace, c.count) in
                  let fits : 2 * hops + 2 ≤ length trace₀ = omega (arith, hop_room.bytes_left, trace_size) in
                  ap (λ l. set (set l (2 * hops) at) (2 * hops + 1) x.paper.port) c.trace_is
                  ∙ two_written (trace_bytes k.trace) trace₀ (2 * hops) at x.paper.port written fits
                  ∙ (λ i. (trace_bytes k.trace ++ (c.here i ∷ port_is i ∷ [])) ++ drop (twice i) trace₀)
                  ∙ ap (λ l. l ++ drop (2 * (hops + 1)) trace₀)
                  (sym (trace_more k.trace (record { switch = k.at; port = (step_of s faults destination k).paper.port })))

  -- so each turn begins with what it needs
  pub turn : {tag trace : List ℕ} {at arrival hops : ℕ} → Carrying s faults tag₀ trace₀ source destination tag trace at arrival hops
      → Turn s faults tag₀ trace₀ source destination tag trace at arrival hops
  turn c = record { carrying = c; ready = ready c; switch_small = switch_small c; room = hop_room c }
