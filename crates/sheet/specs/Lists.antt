-- The words for lists that the definitions share.
use Rattle.std.specs.Prelude.{◌≡◌, List, [], ◌∷◌, ◌⊎◌, Bool, true, false}

infix 4 ◌∈◌
-- the first where the test passes, else the second
abbrev pub pick : {A : Type 0} → Bool → A → A → A
pick true a b = a
pick false a b = b

abbrev pub both : Bool → Bool → Bool
both a b = pick a b false

abbrev pub either : Bool → Bool → Bool
either a b = pick a true b

-- some element passes the test
abbrev pub any : {A : Type 0} → (A → Bool) → List A → Bool
any f [] = false
any f (x ∷ xs) = either (f x) (any f xs)

-- an element stands in a list
abbrev pub ◌∈◌ : {A : Type 0} → A → List A → Type 0
x ∈ [] = ⊥
x ∈ (y ∷ ys) = (x ≡ y) ⊎ (x ∈ ys)

-- no element stands in it twice
abbrev pub Once : {A : Type 0} → List A → Type 0
Once [] = Unit {0}
Once (x ∷ xs) = (x ∈ xs → ⊥) × Once xs

-- what holds of every element
abbrev pub All : {A : Type 0} → (A → Type 0) → List A → Type 0
All P [] = Unit {0}
All P (x ∷ xs) = P x × All P xs
