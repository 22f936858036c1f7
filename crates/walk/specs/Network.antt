-- Any network of switches and cables: what a chain of live cables reaches, and how many cables that are.
use Rattle.std.specs.Prelude.{◌≡◌, List, [], ◌∷◌, Bool, true, ◌⊎◌, ℕ, suc}
use Rattle.sheet.specs.Lists.{◌∈◌}
use Rattle.sheet.specs.Cables.{Socket}

-- one direction of a cable: the switch left and the port left by
abbrev pub Dart : Type 0
Dart = Socket

pub record Network (Row : Type 0) : Type 0 where
  pub rows : List Row
  pub one : Row → Dart
  pub other : Row → Dart
  pub order : ℕ → List ℕ
  pub live : Dart → Bool
  pub far : Dart → Dart

module _ {Row : Type 0} (N : Network Row) where
  abbrev pub Cabled : Dart → Type 0
  Cabled d = d.port ∈ N.order d.switch

  abbrev pub Live : Dart → Type 0
  Live d = Cabled d × (N.live d ≡ true)

  -- joined to the source by a chain of zero or more live cables
  pub data Reached (source : ℕ) : ℕ → Type 0 where
    here : Reached source source
    along : {v : ℕ} → Reached source v → (p : ℕ) → Live (record { switch = v; port = p })
        → Reached source (N.far (record { switch = v; port = p })).switch

  -- M: how many of the rows are live cables with a reached end
  pub data Counted (source : ℕ) : List Row → ℕ → Type 0 where
    nothing : Counted source [] 0
    counts : {r : Row} {rs : List Row} {m : ℕ} → N.live (N.one r) ≡ true
        → Reached source (N.one r).switch ⊎ Reached source (N.other r).switch → Counted source rs m → Counted source (r ∷ rs) (suc m)
    skipped : {r : Row} {rs : List Row} {m : ℕ}
        → (N.live (N.one r) ≡ true → Reached source (N.one r).switch ⊎ Reached source (N.other r).switch → ⊥)
        → Counted source rs m → Counted source (r ∷ rs) m

  -- each hop leads to the switch that makes the next one, from the source to v; the latest hop first
  abbrev pub Chain : ℕ → ℕ → List Dart → Type 0
  Chain source v [] = v ≡ source
  Chain source v (e ∷ way) = ((N.far e).switch ≡ v) × Chain source e.switch way
