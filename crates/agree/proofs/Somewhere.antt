-- The rules' `somewhere` is a fold, for any test; so a walk works it out, alone or with others.
-- Assumes nothing.
use mathlib.Core.Path.{◌≡◌, refl, sym, ap, ap₂, ◌∙◌}
use mathlib.Core.Bool.{Bool, false, ◌||◌}
use mathlib.Core.List.{List}
use mathlib.Core.Option.{some}
use Prim.Native.Nat.{ℕ, zero, suc, ◌+◌, ◌≤◌}
use native.Mathlib.Nat.{zero-add}
use native.Mathlib.Omega.{arith}
use lib.ListN.{length}
use Rattle.theory.specs.Tree.{Trees, node, ⟨⟩, ◌▹◌}
use Rattle.theory.specs.Level.{binds_in}
use Rattle.rules.specs.Expression.{Token, token_arity, token_binder, Expression, expression, Laid, LaidAll, nesting, somewhere, somewheres}
use Rattle.laws.proofs.Expressions.{expression-back}
use Rattle.tokens.specs.Token.{arguments_of}
use Rattle.tokens.specs.Expr.{Expr, found, expr_at}
use Rattle.tokens.specs.Fold.{fold, Worth}
use Rattle.tokens.specs.declared.Token.{Token as PlacedToken}
use Rattle.tokens.proofs.Writing.{Bytes}
use Rattle.fields.specs.Substitution.{part}
use Rattle.agree.specs.Trees.{as_token, as_tree}
use Rattle.agree.specs.Folds.{Folding, within, fold_of, folds_of, walk, AgreesAt, testing, searching}
use Rattle.agree.proofs.Tokens.{good-at}
use Rattle.agree.proofs.Folds.{inner-scope, walk-tree, fold-image}
use Rattle.agree.proofs.Walks.{Between, fold-in-file, worth-in-file}

-- so many variables more
within_more : (n k : ℕ) → within n (λ j. j + 1) k ≡ n + k
within_more zero k = sym (zero-add k)
within_more (suc n) k = let i = within_more n k in omega arith

module _ (p : ℕ → Token → ℕ → Bool) where
  mutual
    pub somewhere-folds : (k : ℕ) (e : Expression) → Laid e → somewhere p k e ≡ fold_of (testing p) k e
    somewhere-folds k (node t es) (c, l) =
        ap₂ (λ (m : ℕ) (b : Bool). p k t m || b) c
        (somewheres-fold k (binds_in (token_binder t)) (λ i. within (binds_in (token_binder t) i) (λ j. j + 1) k) es l (λ i. within_more (binds_in (token_binder t) i) k))

    somewheres-fold : (k : ℕ) (s ρ : ℕ → ℕ) (es : Trees Token) → LaidAll es → ((i : ℕ) → ρ i ≡ s i + k) → somewheres p k s es ≡ folds_of (testing p) ρ es
    somewheres-fold k s ρ ⟨⟩ l h = refl
    somewheres-fold k s ρ (e ▹ es) (l, ls) h =
        ap₂ (λ (a b : Bool). a || b) (ap (λ (j : ℕ). somewhere p j e) (sym (h 0)) ∙ somewhere-folds (ρ 0) e l)
        (somewheres-fold k (λ i. s (suc i)) (λ i. ρ (suc i)) es ls (λ i. h (suc i)))

  -- The rules' `somewhere` is a fold over the tree by position.
  pub somewhere-fold : (t : Expr) → Laid (as_tree t) → (k : ℕ) → fold (walk (testing p)) k t ≡ somewhere p k (as_tree t)
  somewhere-fold t l k = walk-tree (testing p) t l k ∙ sym (somewhere-folds k (as_tree t) l)

  -- as one of the results of a larger fold
  pub somewhere-image : {R A : Type 0} (H : Folding ℕ R A) (r : R → Bool) (b : A → Bool)
      → ((k : ℕ) (t : Token) (a : A) → r (H.token k t a) ≡ (p k t (token_arity t) || b a)) → b H.start ≡ false
      → ((x : R) (a : A) → b (H.push x a) ≡ (r x || b a)) → ((t : Token) (k : ℕ) → H.bind t k ≡ k + 1)
      → (k : ℕ) (e : Expression) → Laid e → r (fold_of H k e) ≡ somewhere p k e
  somewhere-image H r b token start push bind k e l = fold-image H (testing p) r b token start push bind k e ∙ sym (somewhere-folds k e l)

-- A walk at a part of the file, with any test that is the rules' at the tokens that stand there.
module _ (s : List ℕ) (bytes : Bytes s) (at l : ℕ) (x : Expression) (room : at + l ≤ length s) (q : expression.read (part s at l) ≡ some x)
    (n : ℕ) (deep : nesting x ≤ n) (p : ℕ → Token → ℕ → Bool) (u : ℕ → ℕ → PlacedToken → Bool)
    (same : Between s (λ i t. (k : ℕ) → u k i t ≡ p k (as_token t) (arguments_of t)) at (at + l)) where
  agrees : Between s (AgreesAt (searching u) (testing p)) at (at + l)
  agrees i a b t h =
      let arity : token_arity (as_token t) ≡ arguments_of t = (good-at s i bytes t h).1 in
      (λ k r. ap (λ (c : Bool). c || r) (same i a b t h k ∙ ap (p k (as_token t)) (sym arity)), inner-scope t (λ j. j + 1))

  laid : Laid x
  laid = (expression-back (part s at l) x q).0.0

  pub somewhere-found : (k : ℕ) → (t : Expr) × (expr_at n s at ≡ found t (at + l)) × (fold (searching u) k t ≡ somewhere p k x)
  somewhere-found k =
      let a = fold-in-file s at l x room q n deep (searching u) (testing p) refl (λ r a. refl) agrees k in
      (a.0, a.1, a.3 ∙ sym (somewhere-folds p k x laid))

  pub somewhere-worth : (k : ℕ) (v : Bool) (end : ℕ) → Worth (searching u) k (expr_at n s at) v end → (v ≡ somewhere p k x) × (end ≡ at + l)
  somewhere-worth k v end w =
      let a = worth-in-file s at l x room q n deep (searching u) (testing p) refl (λ r a. refl) agrees k v end w in
      (a.0 ∙ sym (somewhere-folds p k x laid), a.1)
