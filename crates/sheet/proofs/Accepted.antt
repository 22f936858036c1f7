-- A sheet is accepted exactly if its bytes are what n and sound rows are written as. A chain of right records is, byte by byte, the front
-- and the rows read so far, and these are sound; the other way, the bytes of sound rows are such a chain.
use Prim.Native.Nat.{ℕ, ◌+◌, ◌-◌, ◌≤◌}
use native.Mathlib.Nat.{add_assoc, add-zero}
use mathlib.Core.Path.{◌≡◌, refl, sym, ◌∙◌, ap, subst}
use mathlib.Core.List.{List, [], ◌∷◌, ◌++◌, append-nil}
use mathlib.Core.Logic.{inl, inr}
use native.Mathlib.Omega.{arith}
use lib.ListN.{length, get_or, drop, length-append, length-drop, drop_of_length-le}
use lib.Seq.{get_or-drop, drop-drop, append_snoc}
use Rattle.sheet.specs.Lists.{◌∈◌}
use Rattle.sheet.specs.Records.{form_of, right, row}
use Rattle.sheet.specs.Cables.{Socket, socket_of, cable_at, switches_of, sheet_reading}
use Rattle.sheet.specs.Sound.{RowInRange, Sound, sockets}
use Rattle.sheet.specs.Rebuilt.{row_bytes, rows_bytes, sheet_bytes}
use Rattle.sheet.specs.Standing.{Whole}
use Rattle.sheet.specs.Accepted.{RowObeys, AcceptedSheet}
use Rattle.sheet.specs.Exactly.{Right, none, more, AllRight, FrontRight, RowsRight}
use Rattle.sheet.specs.declared.cables.Cable.{Cable}
use Rattle.sheet.proofs.Bytes.{whole_form, first_bytes, all_append, Apart, once_append}
use Rattle.sheet.proofs.Right.{right_few}
use Rattle.sheet.proofs.Rows.{row_listing}
use Rattle.sheet.proofs.Sheet.{sheet_tells, sheet_right}

-- rows that are put together of two
sockets_append : (xs ys : List Cable) → sockets (xs ++ ys) ≡ sockets xs ++ sockets ys
sockets_append [] ys = refl
sockets_append (c ∷ xs) ys = ap (λ (l : List Socket). socket_of c.near ∷ socket_of c.far ∷ l) (sockets_append xs ys)

rows_bytes_more : (before : List Cable) (c : Cable) (left : List ℕ)
    → rows_bytes (before ++ (c ∷ [])) ++ left ≡ rows_bytes before ++ (row_bytes c ++ left)
rows_bytes_more [] c left = refl
rows_bytes_more (b ∷ before) c left = ap (λ (l : List ℕ). row_bytes b ++ l) (rows_bytes_more before c left)

module _ (n : ℕ) (before : List Cable) (c : Cable) where
  -- one more row that obeys the rules leaves the rows sound
  sound_more : Sound n before → RowObeys n before c → Sound n (before ++ (c ∷ []))
  sound_more sound obeys =
      record {
        ranges = (all_append (RowInRange n) before (c ∷ [])).1 (sound.ranges, (obeys.range, tt));
        once = rw (sockets_append before (c ∷ [])) ((once_append (sockets before) (sockets (c ∷ []))).1 apart);
      }
    where
      differ : socket_of c.near ∈ (socket_of c.far ∷ []) → ⊥
      differ (inl same) = obeys.range.apart (λ i. (same i).switch)
      differ (inr h) = h

      free : (x : Socket) → x ∈ sockets before → x ∈ sockets (c ∷ []) → ⊥
      free x h (inl near) = obeys.near_free (rw near at h)
      free x h (inr (inl far)) = obeys.far_free (rw far at h)
      free x h (inr (inr k)) = k

      apart : Apart (sockets before) (sockets (c ∷ []))
      apart = record { first = sound.once; second = (differ, (λ h. h, tt)); apart = free }

  -- a row of sound rows obeys the rules after those before it
  sound_obeys : (after : List Cable) → Sound n (before ++ c ∷ after) → RowObeys n before c
  sound_obeys after sound =
      record {
        range = ((all_append (RowInRange n) before (c ∷ after)).0 sound.ranges).1.0;
        near_free = λ h. parts.apart (socket_of c.near) h (inl refl);
        far_free = λ h. parts.apart (socket_of c.far) h (inr (inl refl));
      }
    where
      parts : Apart (sockets before) (sockets (c ∷ after))
      parts = (once_append (sockets before) (sockets (c ∷ after))).0 (rw (sockets_append before (c ∷ after)) at sound.once)

module _ (s : List ℕ) (at : ℕ) where
  -- a record may be read from the bytes that are left
  cable_left : cable_at s at ≡ cable_at (drop at s) 0
  cable_left = simp (get_or-drop, add_assoc)

  kind_left : get_or s at 0 ≡ get_or (drop at s) 0 0
  kind_left = simp (get_or-drop, add-zero)

  -- a whole row is its seven bytes
  row_bytes_lem : {next : ℕ} → Whole row s at next → drop at s ≡ row_bytes (cable_at s at) ++ drop next s
  unfolding form_of
  row_bytes_lem {next} whole =
      let kind : get_or s at 0 ≡ 2 = (whole_form 1 whole).0 in
      let after : next ≡ at + 1 + 6 = (whole_form 1 whole).1 in
      let enough : 7 ≤ length (drop at s) = simp length-drop (omega arith) in
      first_bytes 7 (drop at s) enough ∙ simp (get_or-drop, drop-drop, add_assoc, add-zero, kind, after)

  -- and its seven bytes are a whole row
  row_whole : (c : Cable) (rest : List ℕ) → drop at s ≡ row_bytes c ++ rest → Whole row s at (at + 7)
  unfolding form_of
  row_whole c rest e =
      let long : length s - at ≡ 7 + length rest = sym (length-drop at s) ∙ ap length e ∙ length-append (row_bytes c) rest in
      let kind : get_or s at 0 ≡ 2 = kind_left ∙ ap (λ (left : List ℕ). get_or left 0 0) e in
      record { inside = omega arith; stands = rw kind; next_is = rw kind (omega arith); fits = omega arith }

module _ (s : List ℕ) where
  abbrev n : ℕ
  n = switches_of s

  abbrev RightTo : ℕ → List Cable → Type 0
  RightTo = Right row cable_at (RowObeys n) s 2

  right_sound : {at : ℕ} {rows : List Cable} → RightTo at rows → Sound n rows
  right_sound none = record { ranges = tt; once = tt }
  right_sound (more {at = at} {before = before} chain few whole obeys) = sound_more n before (cable_at s at) (right_sound chain) obeys

  right_bytes : {at : ℕ} {rows : List Cable} → FrontRight s → RightTo at rows → s ≡ sheet_bytes n rows ++ drop at s
  right_bytes first none =
      let kind : get_or s 0 0 ≡ 1 = (whole_form 0 first.whole).0 in
      first_bytes 2 s first.whole.fits ∙ ap (λ (k : ℕ). k ∷ n ∷ drop 2 s) kind
  right_bytes first (more {at = at} {next = next} {before = before} chain few whole obeys) =
      right_bytes first chain
      ∙ ap (λ (left : List ℕ). sheet_bytes n before ++ left) (row_bytes_lem s at whole)
      ∙ ap (λ (l : List ℕ). 1 ∷ n ∷ l) (sym (rows_bytes_more before (cable_at s at) (drop next s)))

  rows_accepted : {rows : List Cable} → RowsRight s rows → AcceptedSheet s rows
  rows_accepted {rows} h =
      record {
        bytes =
            right_bytes h.0 h.1.right
            ∙ ap (λ (left : List ℕ). sheet_bytes n rows ++ left) (drop_of_length-le s h.1.ended)
            ∙ append-nil (sheet_bytes n rows);
        count = h.0.count;
        few = right_few (row_listing n) s 2 h.1.right;
        sound = right_sound h.1.right;
      }

  pub accepted_is : {rows : List Cable} → sheet_reading s ≡ right rows → AcceptedSheet s rows
  accepted_is e = rows_accepted (sheet_tells s e)

module _ (s : List ℕ) (rows : List Cable) (sheet : AcceptedSheet s rows) where
  front_right : FrontRight s
  unfolding form_of
  front_right =
      let long : length s ≡ 2 + length (rows_bytes rows) = ap length sheet.bytes ∙ omega arith in
      let kind : get_or s 0 0 ≡ 1 = ap (λ (l : List ℕ). get_or l 0 0) sheet.bytes in
      record {
        whole = record { inside = omega arith; stands = rw kind; next_is = rw kind; fits = omega arith };
        count = sheet.count;
      }

  -- the rows after right ones are right, as far as the bytes go
  rows_right : (before after : List Cable) (at : ℕ) → before ++ after ≡ rows → RightTo s at before → drop at s ≡ rows_bytes after
      → AllRight row cable_at (RowObeys (switches_of s)) s 2 rows
  rows_right before [] at parts chain e =
      let left : length s - at ≡ 0 = sym (length-drop at s) ∙ ap length e in
      record { end = at; right = subst (RightTo s at) (sym (append-nil before) ∙ parts) chain; ended = omega arith }
  rows_right before (c ∷ after) at parts chain e =
      let seen : cable_at s at ≡ c = cable_left s at ∙ ap (λ (left : List ℕ). cable_at left 0) e in
      let obeys : RowObeys (switches_of s) before c = sound_obeys (switches_of s) before c after (rw parts sheet.sound) in
      let short : length before + length (c ∷ after) ≤ 512 = rw (← length-append before (c ∷ after), parts) sheet.few in
      let whole : Whole row s at (at + 7) = row_whole s at c (rows_bytes after) e in
      let longer : RightTo s (at + 7) (before ++ (cable_at s at ∷ [])) = more chain (omega arith) whole (rw seen obeys) in
      rows_right (before ++ (c ∷ [])) after (at + 7) (append_snoc before c after ∙ parts) (rw seen at longer)
      (sym (drop-drop 7 at s) ∙ ap (drop 7) e)

  pub accepted_of : sheet_reading s ≡ right rows
  accepted_of = sheet_right s (front_right, rows_right [] rows 2 refl none (ap (drop 2) sheet.bytes))
