-- The published choice always has an outcome. And what it does to the ports still to be tried, those after
-- the current one: it leaves by the first that is open and goes on behind it, or finds none and leaves by the parent.
use mathlib.Core.Path.{◌≡◌, refl, sym, ap, subst, ◌∙◌}
use mathlib.Core.List.{List, [], ◌∷◌, ◌++◌, append_assoc}
use mathlib.Core.Bool.{Bool, true, false}
use mathlib.Core.Logic.{◌⊎◌, inl, inr}
use Prim.Native.Nat.{ℕ}
use native.Mathlib.Decide.{ℕ_discrete}
use lib.Dec.{eqb}
use borrow.Author.Tests.{ne_eqb}
use Rattle.std.proofs.lemmas.Bool.Decides.{nat_tests}
use native.Mathlib.Omega.{arith}
use Rattle.sheet.specs.Lists.{◌∈◌, Once, All, pick}
use Rattle.switch.specs.Choice.{past, after, Outcome, leaves, stays, Shut, Chosen, onward, homeward, nowhere}
use Rattle.sheet.proofs.Lists.{all_at, in_append, in_right}
use Rattle.sheet.proofs.Bytes.{once_append}

-- ---- the ports after the current one

past_suffix : (c : ℕ) (ports : List ℕ) → (before : List ℕ) × (ports ≡ before ++ past c ports)
past_suffix c [] = ([], refl)
past_suffix c (x ∷ xs) = by (eqb x c) (past_suffix c xs)
  where
    by : (b : Bool) → (before : List ℕ) × (xs ≡ before ++ past c xs) → (before : List ℕ) × (x ∷ xs ≡ before ++ pick b xs (past c xs))
    by true deeper = (x ∷ [], refl)
    by false deeper = (x ∷ deeper.0, ap (λ l. x ∷ l) deeper.1)

after_suffix : (c : ℕ) (ports : List ℕ) → (before : List ℕ) × (ports ≡ before ++ after c ports)
after_suffix c ports = by (eqb c 0)
  where
    by : (b : Bool) → (before : List ℕ) × (ports ≡ before ++ pick b ports (past c ports))
    by true = ([], refl)
    by false = past_suffix c ports

pub after_in : (c : ℕ) (ports : List ℕ) (q : ℕ) → q ∈ after c ports → q ∈ ports
after_in c ports q m = let (before, e) = after_suffix c ports in rw e (in_right before (after c ports) q m)

pub after_none : (c : ℕ) (ports : List ℕ) → c ≡ 0 → after c ports ≡ ports
after_none c ports e = rw e refl

past_at : (before : List ℕ) (p : ℕ) (rest : List ℕ) → Once (before ++ (p ∷ rest)) → past p (before ++ (p ∷ rest)) ≡ rest
past_at [] p rest o = grind (arith, nat_tests)
past_at (x ∷ before) p rest o = grind (arith, nat_tests, in_right before (p ∷ rest) p (inl refl), past_at before p rest o.1)

module _ (ports : List ℕ) (live : ℕ → Bool) (parent current : ℕ) where
  -- the choice passes this port over
  abbrev Barred : ℕ → Type 0
  Barred q = Shut ports live parent current q

  -- ---- an outcome; that it is one only is a law of the switch, `chosen_one`

  -- the first port that is not passed over
  record First (xs : List ℕ) : Type 0 where
    port : ℕ
    passed : List ℕ
    rest : List ℕ
    split : xs ≡ passed ++ (port ∷ rest)
    shut : All Barred passed
    alive : live port ≡ true
    other : port ≡ parent → ⊥

  scan : (xs : List ℕ) → All Barred xs ⊎ First xs
  scan [] = inl tt
  scan (x ∷ xs) = by (live x) refl (ℕ_discrete x parent) (scan xs)
    where
      past_shut : Barred x → All Barred xs ⊎ First xs → All Barred (x ∷ xs) ⊎ First (x ∷ xs)
      past_shut c (inl all) = inl (c, all)
      past_shut c (inr f) =
          inr (record {
            port = f.port;
            passed = x ∷ f.passed;
            rest = f.rest;
            split = ap (λ l. x ∷ l) f.split;
            shut = (c, f.shut);
            alive = f.alive;
            other = f.other;
          })

      by : (b : Bool) → live x ≡ b → Dec (x ≡ parent) → All Barred xs ⊎ First xs → All Barred (x ∷ xs) ⊎ First (x ∷ xs)
      by false dead d deeper = past_shut (inl dead) deeper
      by true alive (yes e) deeper = past_shut (inr e) deeper
      by true alive (no n) deeper =
          inr (record { port = x; passed = []; rest = xs; split = refl; shut = tt; alive = alive; other = n })

  pub choice : (o : Outcome) × Chosen ports live parent current o
  choice = by (scan (after current ports)) (ℕ_discrete parent 0)
    where
      by : All Barred (after current ports) ⊎ First (after current ports) → Dec (parent ≡ 0)
          → (o : Outcome) × Chosen ports live parent current o
      by (inr f) d = (leaves f.port f.port, onward f.passed f.rest f.split f.shut f.alive f.other)
      by (inl all) (yes e) = (stays, nowhere all e)
      by (inl all) (no n) = (leaves parent current, homeward all n)

  -- ---- what a choice does to the ports still to be tried

  pub record Onward (p c : ℕ) : Type 0 where
    pub tried : c ≡ p
    pub alive : live p ≡ true
    pub other : p ≡ parent → ⊥
    pub waiting : p ∈ after current ports
    pub done : p ∈ after c ports → ⊥
    pub kept : (q : ℕ) → q ∈ after c ports → q ∈ after current ports
    pub passed : (q : ℕ) → q ∈ after current ports → Barred q ⊎ (q ≡ p) ⊎ (q ∈ after c ports)

  pub record Homeward (p c : ℕ) : Type 0 where
    pub back : p ≡ parent
    pub same : c ≡ current
    pub has : parent ≡ 0 → ⊥
    pub shut : All Barred (after current ports)

  module _ (once : Once ports) (cabled : (q : ℕ) → q ∈ ports → q ≡ 0 → ⊥) where
    goes_onward : (p : ℕ) (passed rest : List ℕ) → after current ports ≡ passed ++ (p ∷ rest) → All Barred passed → live p ≡ true
        → (p ≡ parent → ⊥) → Onward p p
    goes_onward p passed rest e shut alive other =
        record {
          tried = refl;
          alive = alive;
          other = other;
          waiting = waiting;
          done = λ m. once_rest.0 (rw next at m);
          kept = λ q m. rw e (in_right passed (p ∷ rest) q (inr (rw next at m)));
          passed = λ q m. by q ((in_append q passed (p ∷ rest)).0 (rw e at m));
        }
      where
        waiting : p ∈ after current ports
        waiting = rw e (in_right passed (p ∷ rest) p (inl refl))

        before : List ℕ
        before = (after_suffix current ports).0

        whole : ports ≡ (before ++ passed) ++ (p ∷ rest)
        whole = (after_suffix current ports).1 ∙ ap (λ l. before ++ l) e ∙ sym (append_assoc before passed (p ∷ rest))

        once_rest : Once (p ∷ rest)
        once_rest = ((once_append (before ++ passed) (p ∷ rest)).0 (subst Once whole once)).second

        next : after p ports ≡ rest
        next = rw (ne_eqb p 0 (cabled p (after_in current ports p waiting)))
            (ap (past p) whole ∙ past_at (before ++ passed) p rest (subst Once whole once))

        by : (q : ℕ) → (q ∈ passed) ⊎ (q ∈ (p ∷ rest)) → Barred q ⊎ (q ≡ p) ⊎ (q ∈ after p ports)
        by q m = grind (arith, next, all_at Barred passed q shut)

    pub leaving : {p c : ℕ} → Chosen ports live parent current (leaves p c) → Onward p c ⊎ Homeward p c
    leaving (onward {p} passed rest e shut alive other) = inl (goes_onward p passed rest e shut alive other)
    leaving (homeward shut has) = inr (record { back = refl; same = refl; has = has; shut = shut })
