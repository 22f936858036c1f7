-- A reader's bytes in a buffer: what was read before, and behind it what was read now.
use Rattle.std.proofs.Common.{◌≡◌, ℕ, ◌+◌, ◌≤◌, List, ◌++◌, length, take, None, Some, ap}
use Rattle.std.proofs.Common.{sym, subst, ◌∙◌, append_assoc, length-take-le, take_all, append-nil, ◌<◌, [], ◌∷◌, arith, IfSome}
use Rattle.std.specs.declared.option.Option.{Option}
use Rattle.std.specs.Io.KnownBytes.{Consumes, IsAtEnd}
use Rattle.std.proofs.lemmas.List.{take-append-le, take_at}
use Rattle.std.proofs.Math.Seq.{take-append-add}
use Rattle.lines.specs.Asks.{ask_at}
use Rattle.lines.specs.declared.asks.Ask.{Ask}
use Rattle.lines.proofs.Window.{window_asks, later}
use borrow.Rule.Slice.PartMut.{put_mid, post_of}

-- two reads, one after the other
consumes_both : (a b c : Option (List ℕ)) (xs ys : List ℕ) → Consumes a b xs → Consumes b c ys → Consumes a c (xs ++ ys)
consumes_both None b c xs ys p q = tt
consumes_both (Some s) None c xs ys p q = absurd p
consumes_both (Some s) (Some t) None xs ys p q = absurd q
consumes_both (Some s) (Some t) (Some u) xs ys p q = p ∙ ap (λ l. xs ++ l) q ∙ sym (append_assoc xs ys u)

-- a buffer whose front was full, and into which more was put behind it
front_grows : (xs ys : List ℕ) (size room more : ℕ) → size ≤ length xs → more ≤ length ys
    → take (size + more) (put_mid size room xs ys) ≡ take size xs ++ take more ys
front_grows xs ys size room more p q =
    let long : length (take size xs) ≡ size = length-take-le size xs p in
    rw long at (take-append-add (take size xs) (ys ++ post_of size room xs) more)
    ∙ ap (λ l. take size xs ++ l) (take-append-le more ys (post_of size room xs) q)

-- so the longer front holds what both reads gave
pub consumes_more : (a b c : Option (List ℕ)) (xs ys : List ℕ) (size room more : ℕ) → size ≤ length xs → more ≤ length ys
    → Consumes a b (take size xs) → Consumes b c (take more ys) → Consumes a c (take (size + more) (put_mid size room xs ys))
consumes_more a b c xs ys size room more p q before now =
    subst (Consumes a c) (sym (front_grows xs ys size room more p q)) (consumes_both a b c _ _ before now)

-- a window that is full, or has all that there is, is the front of it
window_is : (s t bytes : List ℕ) (size : ℕ) → length bytes ≤ size → s ≡ bytes ++ t → (length bytes < size → t ≡ []) → take size s ≡ bytes
window_is s [] bytes size few whole end = ap (take size) (whole ∙ append-nil bytes) ∙ take_all size bytes few
window_is s (x ∷ t) bytes size few whole end = ap (take size) whole ∙ grind (arith, take_at bytes (x ∷ t) size)

-- a place counted from the front is itself
from_front : (ask : Ask) → later 0 ask ≡ ask
from_front ask = grind arith

-- so the window shows the ask that stands first
pub ask_read : (a b : Option (List ℕ)) (bytes : List ℕ) → length bytes ≤ 3 → Consumes a b bytes → (length bytes < 3 → IsAtEnd b)
    → IfSome a (λ asks. ask_at bytes 0 ≡ ask_at asks 0)
ask_read None b bytes few read end = tt
ask_read (Some s) None bytes few read end = absurd read
ask_read (Some s) (Some t) bytes few read end =
    ap (λ w. ask_at w 0) (sym (window_is s t bytes 3 few read end)) ∙ sym (window_asks s 0 ∙ from_front (ask_at (take 3 s) 0))
