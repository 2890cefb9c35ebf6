-- Where an expression that keeps the limits ends says whether the bytes are one expression.
use mathlib.Core.Bool.{Bool, cond, false, true}
use mathlib.Core.List.{List}
use mathlib.Core.Path.{◌∙◌, ◌≡◌, ap, refl, sym}
use Prim.Native.Nat.{ℕ}
use native.Mathlib.Omega.{arith}
use lib.Dec.{eqb, leb}
use lib.ListN.{length}
use Rattle.limits.specs.Limits.{max_nesting}
use Rattle.tokens.specs.Expr.{Expr, Found, ends_at, expr_at, found, none, whole_of}
use Rattle.tokens.specs.Fold.{Algebra}
use Rattle.tokens.specs.Limit.{nesting}
use Rattle.tokens.proofs.Nesting.{nested, within}
use Rattle.tokens.proofs.Places.{never}
use Rattle.skimming.specs.Kept.{KeptWorth}

-- what is found within a nesting is found
unbounded : (n : ℕ) (x : Found) (t : Expr) (e : ℕ) → within n x ≡ found t e → x ≡ found t e
unbounded n (found u k) t e h = go (leb (nesting u) n) h
  where
    go : (b : Bool) → cond b (found u k) none ≡ found t e → found u k ≡ found t e
    go true q = q
    go false q = absurd (let z : ◌≡◌ {A = ℕ} 0 1 = cc in omega arith)
unbounded n none t e h = h

pub whole-ends : (s : List ℕ) (t : Expr) (e : ℕ) → expr_at max_nesting s 0 ≡ found t e → whole_of s ≡ eqb e (length s)
unfolding whole_of
whole-ends s t e h = ap (ends_at (length s)) (unbounded max_nesting (expr_at (length s) s 0) t e (sym (nested max_nesting s 0) ∙ h))

module _ {E R A : Type 0} (G : Algebra E R A) (o : E) where
  pub kept_whole : (s : List ℕ) (kept : Bool) (v : R) (x : ℕ) → KeptWorth G o (expr_at max_nesting s 0) kept v x → kept ≡ true → whole_of s ≡ eqb x (length s)
  unfolding KeptWorth
  kept_whole s kept v x h k = go (expr_at max_nesting s 0) refl h
    where
      go : (f : Found) → expr_at max_nesting s 0 ≡ f → KeptWorth G o f kept v x → whole_of s ≡ eqb x (length s)
      go (found t e) q (a, b) = whole-ends s t e q ∙ ap (λ (y : ℕ). eqb y (length s)) (sym (b k).1)
      go none q a = never (sym a ∙ k)
