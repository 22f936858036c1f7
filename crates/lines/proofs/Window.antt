-- A window of three bytes shows the ask at its front as all the bytes do, since an ask has three bytes. So the asks may be read three
-- bytes at a time.
use Prim.Native.Nat.{ℕ, ◌+◌, ◌-◌, ◌≤◌, ◌<◌, min}
use native.Mathlib.Nat.{add-zero}
use mathlib.Core.Path.{◌≡◌, refl, sym, ap, ◌∙◌}
use mathlib.Core.List.{List}
use native.Mathlib.Omega.{arith}
use lib.ListN.{length, get_or, take, drop, length-take, length-drop}
use lib.Seq.{get_or-take, get_or-drop}
use Rattle.sheet.specs.Records.{form_of, record_at, ask}
use Rattle.sheet.specs.Standing.{form_at, Whole, OtherKind, Cut}
use Rattle.sheet.specs.declared.records.Found.{Found}
use Rattle.sheet.specs.declared.records.Found.TheVariants.{Record, WrongKind, CutShort, Ended}
use Rattle.sheet.proofs.Bytes.{whole_form}
use Rattle.sheet.proofs.Scan.{found_is, record_ended, record_kind, record_cut, record_whole}
use Rattle.lines.specs.Asks.{asked, ask_at}
use Rattle.lines.specs.declared.asks.Ask.{Ask}
use Rattle.lines.specs.declared.asks.Ask.TheVariants.{Asked, Broken}

-- a whole ask has three bytes
pub ask_fits : (s : List ℕ) (at next : ℕ) → record_at ask s at ≡ Record next → at + 2 < length s
unfolding form_of
ask_fits s at next e =
    let whole : Whole ask s at next = found_is ask s at e in
    omega (arith, (whole_form 3 whole).1)

-- an ask that was read from a position on
abbrev pub later : ℕ → Ask → Ask
later at (Asked source destination next) = Asked source destination (at + next)
later at Broken = Broken
later at Ask.Ended = Ask.Ended

module _ (s : List ℕ) (at : ℕ) where
  abbrev window : List ℕ
  window = take 3 (drop at s)

  size : length window ≡ min 3 (length s - at)
  size = length-take 3 (drop at s) ∙ ap (min 3) (length-drop at s)

  same_byte : (i : ℕ) → i < 3 → get_or window i 0 ≡ get_or s (at + i) 0
  same_byte i h = get_or-take 3 (drop at s) i 0 h ∙ get_or-drop at s i 0

  same_form : form_at window 0 ≡ form_at s at
  same_form = ap form_of (same_byte 0 (omega arith) ∙ ap (λ (k : ℕ). get_or s k 0) (add-zero at))

  pub window_asks : ask_at s at ≡ later at (ask_at window 0)
  unfolding form_of
  window_asks = by (record_at ask s at) refl
    where
      by : (found : Found) → record_at ask s at ≡ found → ask_at s at ≡ later at (ask_at window 0)
      by Ended e =
          let over : length s ≤ at = found_is ask s at e in
          rw (e, record_ended ask window 0 (omega (arith, size)))
      by WrongKind e =
          let other : OtherKind ask s at = found_is ask s at e in
          let there : OtherKind ask window 0 = record { inside = omega (arith, size); stands_not = rw same_form other.stands_not } in
          rw (e, record_kind ask window 0 there)
      by CutShort e =
          let short : Cut ask s at = found_is ask s at e in
          let there : Cut ask window 0 =
          record {
            inside = omega (arith, size);
            stands = rw same_form short.stands;
            short = rw same_form (omega (arith, size, short.short));
          } in
          rw (e, record_cut ask window 0 there)
      by (Record next) e =
          let whole : Whole ask s at next = found_is ask s at e in
          let ends : next ≡ at + 3 = omega (arith, (whole_form 3 whole).1) in
          let body : 3 ≡ 0 + 1 + (form_at s at).body = omega (arith, whole.next_is) in
          let there : Whole ask window 0 3 =
          record {
            inside = omega (arith, size);
            stands = rw same_form whole.stands;
            next_is = rw same_form body;
            fits = omega (arith, size);
          } in
          ap (asked s at) e
          ∙ (λ i. Asked (record { 0 = sym (same_byte 1 (omega arith)) i }) (record { 0 = sym (same_byte 2 (omega arith)) i }) (ends i))
          ∙ sym (ap (λ (f : Found). later at (asked window 0 f)) (record_whole ask window 0 there))
