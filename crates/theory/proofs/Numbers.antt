-- What a test or a map does over the numbers from i on, m of them.
use mathlib.Core.Bool.{Bool, ◌||◌, false, true}
use mathlib.Core.List.{List, [], ◌∷◌, map}
use mathlib.Core.Path.{◌∙◌, ◌≡◌, ap, ap₂, refl, subst, subst⁻¹, sym}
use lib.Dec.{T}
use lib.ListN.{get_or, length}
use native.Mathlib.Decide.{ℕ_discrete}
use native.Mathlib.Nat.{add-suc, add-zero, le_of_suc-le-suc, not-suc-le-zero, suc-add}
use native.Mathlib.Omega.{arith}
use Prim.Native.Nat.{◌+◌, ◌<◌, ◌≤◌, suc, zero, ℕ}
use Rattle.theory.proofs.Lists.{or_left, or_right}
use Rattle.theory.specs.Lists.{All, any, numbers_from}

pub numbers-length : {A : Type 0} (f : ℕ → A) (i m : ℕ) → length (map f (numbers_from i m)) ≡ m
numbers-length f i zero = refl
numbers-length f i (suc m) = ap suc (numbers-length f (suc i) m)

pub numbers-at : {A : Type 0} (f : ℕ → A) (u : A) (i m j : ℕ) → j < m → get_or (map f (numbers_from i m)) j u ≡ f (i + j)
numbers-at f u i zero j h = absurd (not-suc-le-zero h)
numbers-at f u i (suc m) zero h = ap f (sym (add-zero i))
numbers-at f u i (suc m) (suc j) h = numbers-at f u (suc i) m j (le_of_suc-le-suc h) ∙ ap f (suc-add i j ∙ sym (add-suc i j))

pub numbers-all : (P : ℕ → Type 0) (i m : ℕ) → ((j : ℕ) → i ≤ j → j < i + m → P j) → All P (numbers_from i m)
numbers-all P i zero p = tt
numbers-all P i (suc m) p = (p i (omega arith) (omega arith), numbers-all P (suc i) m (λ j h k. p j (omega arith) (omega arith)))

pub map_same : {A : Type 0} (f g : ℕ → A) (i m : ℕ) → ((j : ℕ) → i ≤ j → j < i + m → f j ≡ g j) → map f (numbers_from i m) ≡ map g (numbers_from i m)
map_same f g i zero e = refl
map_same f g i (suc m) e = ap₂ ◌∷◌ (e i (omega arith) (omega arith)) (map_same f g (suc i) m (λ j h k. e j (omega arith) (omega arith)))

pub any_same : (p q : ℕ → Bool) (i m : ℕ) → ((j : ℕ) → i ≤ j → j < i + m → p j ≡ q j) → any p (numbers_from i m) ≡ any q (numbers_from i m)
any_same p q i zero e = refl
any_same p q i (suc m) e = ap₂ ◌||◌ (e i (omega arith) (omega arith)) (any_same p q (suc i) m (λ j h k. e j (omega arith) (omega arith)))

pub any-map : {A : Type 0} (p : A → Bool) (f : ℕ → A) (is : List ℕ) → any p (map f is) ≡ any (λ i. p (f i)) is
any-map p f [] = refl
any-map p f (i ∷ is) = ap (λ (b : Bool). p (f i) || b) (any-map p f is)

-- what holds of each that a function gives
pub map_each : (P : ℕ → Type 0) (f : ℕ → ℕ) (i m : ℕ) → All P (map f (numbers_from i m)) → (j : ℕ) → i ≤ j → j < i + m → P (f j)
map_each P f i zero a j h k = absurd (omega arith)
map_each P f i (suc m) a j h k = go (ℕ_discrete i j) (λ l. map_each P f (suc i) m a.1 j l (omega arith))
  where
    go : Dec (i ≡ j) → (suc i ≤ j → P (f j)) → P (f j)
    go (yes e) later = subst (λ (k : ℕ). P (f k)) e a.0
    go (no e) later = later (omega arith)

-- one of the first m numbers passes
pub record Some (p : ℕ → Bool) (m : ℕ) : Type 0 where
  pub which : ℕ
  pub below : which < m
  pub passes : T (p which)

pub any_some : (p : ℕ → Bool) (i m : ℕ) → T (any p (numbers_from i m)) → Some p (i + m)
any_some p i zero t = absurd t
any_some p i (suc m) t = go (p i) refl t (any_some p (suc i) m)
  where
    go : (b : Bool) → p i ≡ b → T (b || any p (numbers_from (suc i) m)) → (T (any p (numbers_from (suc i) m)) → Some p (suc i + m)) → Some p (i + suc m)
    go true e t later = record { which = i; below = omega arith; passes = subst⁻¹ T e tt }
    go false e t later =
        let r = later t in
        record { which = r.which; below = omega (arith, r.below); passes = r.passes }

-- one that passes is found
pub some-any : (p : ℕ → Bool) (i m j : ℕ) → i ≤ j → j < i + m → T (p j) → T (any p (numbers_from i m))
some-any p i zero j h k t = absurd (omega arith)
some-any p i (suc m) j h k t = go (ℕ_discrete i j) (λ l. some-any p (suc i) m j l (omega arith) t)
  where
    go : Dec (i ≡ j) → (suc i ≤ j → T (any p (numbers_from (suc i) m))) → T (p i || any p (numbers_from (suc i) m))
    go (yes e) later = or_left (p i) _ (subst⁻¹ (λ (k : ℕ). T (p k)) e t)
    go (no e) later = or_right (p i) _ (later (omega arith))
