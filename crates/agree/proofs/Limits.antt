-- The limits of an expression by position are the rules'.
-- Assumes nothing.
use mathlib.Core.Path.{◌≡◌, refl, ap, ap₂, ◌∙◌}
use mathlib.Core.Bool.{Bool, true, false, cond, not, ◌&&◌, ◌||◌}
use mathlib.Core.List.{List}
use mathlib.Core.Option.{some}
use Prim.Native.Nat.{ℕ, suc, ◌+◌, ◌≤◌}
use native.Mathlib.Omega.{arith}
use lib.Dec.{leb, ltb}
use lib.ListN.{length}
use borrow.Author.Tests.{le-leb, lt-leb, ltb-true, ltb-false}
use Rattle.std.specs.Prelude.{None, Some}
use Rattle.limits.specs.Limits.{max_arity, max_nesting}
use Rattle.theory.specs.Tree.{node, ⟨⟩, ◌▹◌}
use Rattle.theory.specs.Level.{binds_in}
use Rattle.rules.specs.Expression.{token_binder, Expression, expression, nesting, somewhere, somewheres, over_count, over_limit}
use Rattle.tokens.specs.Token.{written_of}
use Rattle.tokens.specs.Expr.{Expr, Exprs, expr_at}
use Rattle.tokens.specs.Limit.{counts_kept, counts_kepts, kept_of}
use Rattle.tokens.specs.declared.Token.{Token as PlacedToken}
use Rattle.tokens.specs.declared.Token.TheVariants.{Parameter, Bound, Name, InstanceOperator, BuiltIn, Literal}
use Rattle.fields.specs.Substitution.{part}
use Rattle.agree.specs.Limits.{limit_of}
use Rattle.agree.specs.Trees.{as_token, as_tree, as_trees}
use Rattle.agree.proofs.Expressions.{expression-in-file, too-deep-in-file}

at_most : (a b : ℕ) → leb a b ≡ not (ltb b a)
at_most a b = go (ltb b a) refl
  where
    go : (t : Bool) → ltb b a ≡ t → leb a b ≡ not t
    go true e = lt-leb a b (ltb-true b a e)
    go false e = le-leb a b (ltb-false b a e)

count_kept : (t : PlacedToken) → leb (written_of t) max_arity ≡ not (over_count (as_token t))
count_kept (Parameter i) = refl
count_kept (Bound j) = refl
count_kept (Name n k) = at_most k max_arity
count_kept (InstanceOperator i n k) = at_most k max_arity
count_kept (BuiltIn c) = refl
count_kept (Literal v) = refl

neither : (a b : Bool) → (not a && not b) ≡ not (a || b)
neither true b = refl
neither false b = refl

mutual
  -- no written argument count passes its limit, wherever variables are bound
  pub counts-kept : (t : Expr) (k : ℕ) → counts_kept t ≡ not (somewhere (λ k t m. over_count t) k (as_tree t))
  counts-kept (node h ts) k =
      ap₂ (λ (a b : Bool). a && b) (count_kept h.token) (all-counts-kept ts k (binds_in (token_binder (as_token h.token))))
      ∙ neither (over_count (as_token h.token)) (somewheres (λ k t m. over_count t) k (binds_in (token_binder (as_token h.token))) (as_trees ts))

  all-counts-kept : (ts : Exprs) (k : ℕ) (s : ℕ → ℕ) → counts_kepts ts ≡ not (somewheres (λ k t m. over_count t) k s (as_trees ts))
  all-counts-kept ⟨⟩ k s = refl
  all-counts-kept (t ▹ ts) k s =
      ap₂ (λ (a b : Bool). a && b) (counts-kept t (s 0 + k)) (all-counts-kept ts k (λ i. s (suc i)))
      ∙ neither (somewhere (λ k t m. over_count t) (s 0 + k) (as_tree t)) (somewheres (λ k t m. over_count t) k (λ i. s (suc i)) (as_trees ts))

turned : (b : Bool) (e : ℕ) → cond (not b) (Some e) None ≡ cond b None (Some e)
turned true e = refl
turned false e = refl

-- The limits of the expression that stands at a part of the file are kept, and it ends with the part, exactly if the rules find no limit passed.
pub limits-agree : (s : List ℕ) (at l : ℕ) (e : Expression) → at + l ≤ length s → expression.read (part s at l) ≡ some e
    → kept_of (expr_at max_nesting s at) ≡ limit_of e (at + l)
limits-agree s at l e h q = go (ltb max_nesting (nesting e)) refl
  where
    go : (b : Bool) → ltb max_nesting (nesting e) ≡ b
        → kept_of (expr_at max_nesting s at) ≡ cond (b || somewhere (λ k t m. over_count t) 0 e) None (Some (at + l))
    go true d = rw (too-deep-in-file s at l e h q max_nesting (ltb-true max_nesting (nesting e) d))
    go false d =
        let a = expression-in-file s at l e h q max_nesting (ltb-false max_nesting (nesting e) d) in
        ap kept_of a.1 ∙ ap (λ (b : Bool). cond b (Some (at + l)) None) (counts-kept a.0 0 ∙ ap (λ (x : Expression). not (somewhere (λ k t m. over_count t) 0 x)) a.2)
        ∙ turned (somewhere (λ k t m. over_count t) 0 e) (at + l)

-- both ways round
module _ (e : Expression) (end : ℕ) where
  pub kept-within : (x : ℕ) → limit_of e end ≡ Some x → (over_limit e ≡ false) × (nesting e ≤ max_nesting) × (x ≡ end)
  kept-within x q = go (over_limit e) refl q
    where
      shallow : (a b : Bool) → ltb max_nesting (nesting e) ≡ a → (a || b) ≡ false → nesting e ≤ max_nesting
      shallow true b d h = absurd (let z : ◌≡◌ {A = ℕ} 0 1 = cc in omega arith)
      shallow false b d h = ltb-false max_nesting (nesting e) d

      go : (b : Bool) → over_limit e ≡ b → cond b None (Some end) ≡ Some x → (over_limit e ≡ false) × (nesting e ≤ max_nesting) × (x ≡ end)
      go true d h = absurd (let z : ◌≡◌ {A = ℕ} 0 1 = cc in omega arith)
      go false d h = (d, shallow (ltb max_nesting (nesting e)) (somewhere (λ k t m. over_count t) 0 e) refl d, cc)

  pub passed_over : limit_of e end ≡ None → over_limit e ≡ true
  passed_over q = go (over_limit e) refl q
    where
      go : (b : Bool) → over_limit e ≡ b → cond b None (Some end) ≡ None → over_limit e ≡ true
      go true d h = d
      go false d h = absurd (let z : ◌≡◌ {A = ℕ} 0 1 = cc in omega arith)
