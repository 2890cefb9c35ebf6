-- What holds at each of the five levels, tried by computation.
use mathlib.Core.Bool.{Bool, ◌&&◌, ◌||◌, false, not, true}
use mathlib.Core.List.{List, [], ◌∷◌}
use mathlib.Core.Path.{◌≡◌}
use lib.Dec.{T, lit≤}
use lib.ListN.{length}
use native.Mathlib.Omega.{arith}
use Prim.Native.Nat.{suc, zero, ℕ}
use Rattle.theory.proofs.Lists.{and_both, and_parts}
use Rattle.theory.specs.Level.{IsLevel}
use Rattle.theory.specs.Lists.{All}

-- a test passes at every level
abbrev pub at_levels : (ℕ → Bool) → Bool
at_levels p = p 0 && (p 1 && (p 2 && (p 3 && p 4)))

pub at_level : (p : ℕ → Bool) → T (at_levels p) → (l : ℕ) → IsLevel l → T (p l)
at_level p t zero h = (and_parts (p 0) _ t).0
at_level p t (suc zero) h = (and_parts (p 1) _ (and_parts (p 0) _ t).1).0
at_level p t (suc (suc zero)) h = (and_parts (p 2) _ (and_parts (p 1) _ (and_parts (p 0) _ t).1).1).0
at_level p t (suc (suc (suc zero))) h = (and_parts (p 3) _ (and_parts (p 2) _ (and_parts (p 1) _ (and_parts (p 0) _ t).1).1).1).0
at_level p t (suc (suc (suc (suc zero)))) h = (and_parts (p 3) _ (and_parts (p 2) _ (and_parts (p 1) _ (and_parts (p 0) _ t).1).1).1).1
at_level p t (suc (suc (suc (suc (suc l))))) h = absurd (omega arith)

pub levels-at : (p : ℕ → Bool) → ((l : ℕ) → IsLevel l → T (p l)) → T (at_levels p)
levels-at p t =
    and_both (p 0) _ (t 0 (lit≤ tt))
    (and_both (p 1) _ (t 1 (lit≤ tt)) (and_both (p 2) _ (t 2 (lit≤ tt)) (and_both (p 3) (p 4) (t 3 (lit≤ tt)) (t 4 (lit≤ tt)))))

pub at-levels : (p : ℕ → ℕ → Bool) → T (at_levels λ l. at_levels λ m. p l m) → (l m : ℕ) → IsLevel l → IsLevel m → T (p l m)
at-levels p t l m h i = at_level (p l) (at_level (λ l. at_levels λ m. p l m) t l h) m i

-- at every list of n levels
abbrev pub at_lists : ℕ → (List ℕ → Bool) → Bool
at_lists zero p = p []
at_lists (suc n) p = at_levels λ l. at_lists n λ ls. p (l ∷ ls)

pub at-list : (n : ℕ) (p : List ℕ → Bool) → T (at_lists n p) → (ls : List ℕ) → All IsLevel ls → length ls ≡ n → T (p ls)
at-list zero p t [] a e = t
at-list zero p t (l ∷ ls) a e = absurd (omega arith)
at-list (suc n) p t [] a e = absurd (omega arith)
at-list (suc n) p t (l ∷ ls) a e = at-list n (λ ls. p (l ∷ ls)) (at_level (λ l. at_lists n λ ls. p (l ∷ ls)) t l a.0) ls a.1 (omega arith)

-- a test that need pass only where another does
infixr 40 ◌implies◌
abbrev pub ◌implies◌ : Bool → Bool → Bool
a implies b = not a || b

pub modus : (a b : Bool) → T (a implies b) → T a → T b
modus true b t x = t
modus false b t x = absurd x
