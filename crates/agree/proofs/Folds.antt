-- A fold over a tree by position is a fold over the rules' expression: that the last argument is the one in scope is the same as the table's
-- binders, argument by argument, because a row binds a variable only in its last argument.
-- Assumes nothing.
use mathlib.Core.Path.{◌≡◌, refl, sym, ap, ap₂, ◌∙◌, subst}
use mathlib.Core.Bool.{cond}
use Prim.Native.Nat.{ℕ, zero, suc}
use native.Mathlib.Omega.{arith}
use lib.Dec.{eqb}
use Rattle.theory.specs.Tree.{Trees, node, ⟨⟩, ◌▹◌, count}
use Rattle.theory.specs.Level.{Binder, plain, in_body, set_then_body, code_binder, binds_in}
use Rattle.rules.specs.Expression.{Token, parameter, bound_variable, operator, instance_operator, built_in, numeral, token_arity, token_binder, Expression, Laid, LaidAll}
use Rattle.rows.specs.Rows.{binder_number, binder_of}
use Rattle.tokens.specs.Expr.{Expr, Exprs}
use Rattle.tokens.specs.Fold.{Algebra, under, fold, folds}
use Rattle.tokens.specs.declared.Token.{Token as PlacedToken}
use Rattle.tokens.specs.declared.Token.TheVariants.{Parameter, Bound, Name, InstanceOperator, BuiltIn, Literal}
use Rattle.agree.specs.Trees.{as_token, as_tree, as_trees, AllTokens, AllTokensOf}
use Rattle.agree.specs.Folds.{Folding, within, fold_of, folds_of, in_scope, inner_of, walk, AgreesAt}
use Rattle.agree.proofs.Codes.{BindsLast, binds-last}

-- what a token binds, by the table's column
pub inner-scope : {E : Type 0} (t : PlacedToken) (f : E → E) (e : E) → inner_of t f e ≡ in_scope (token_binder (as_token t)) f e
unfolding binder_of
inner-scope (Parameter i) f e = refl
inner-scope (Bound j) f e = refl
inner-scope (Name n k) f e = refl
inner-scope (InstanceOperator i n k) f e = refl
inner-scope {E} (BuiltIn c) f e = go (code_binder c)
  where
    go : (b : Binder) → cond (eqb (binder_number b) 0) e (f e) ≡ in_scope b f e
    go plain = refl
    go (in_body l) = refl
    go (set_then_body l) = refl
inner-scope (Literal v) f e = refl

-- a token binds a variable only in its last argument
last-only : (t : Token) (k : ℕ) → k ≡ token_arity t → BindsLast (token_binder t) k
last-only (parameter i) k e = tt
last-only (bound_variable j) k e = tt
last-only (operator n m) k e = tt
last-only (instance_operator i f m) k e = tt
last-only (built_in c) k e = binds-last c k e
last-only (numeral v) k e = tt

module _ {E : Type 0} where
  -- each argument, by its place in the list, is in the environment that it has by its number
  abbrev Scopes : Exprs → E → E → (ℕ → E) → Type 0
  Scopes ⟨⟩ outer last ρ = Unit {0}
  Scopes (t ▹ ts) outer last ρ = (under ts outer last ≡ ρ 0) × Scopes ts outer last (λ i. ρ (suc i))

  same-under : (ts : Exprs) (e : E) → under ts e e ≡ e
  same-under ⟨⟩ e = refl
  same-under (t ▹ ts) e = refl

  all-outer : (ts : Exprs) (e : E) → Scopes ts e e (λ i. e)
  all-outer ⟨⟩ e = tt
  all-outer (t ▹ ts) e = (same-under ts e, all-outer ts e)

  scopes : (b : Binder) (f : E → E) (e : E) (ts : Exprs) → BindsLast b (count (as_trees ts)) → Scopes ts e (in_scope b f e) (λ i. within (binds_in b i) f e)
  scopes plain f e ts h = all-outer ts e
  scopes (in_body l) f e ⟨⟩ h = tt
  scopes (in_body l) f e (t ▹ ⟨⟩) h = (refl, tt)
  scopes (in_body l) f e (t ▹ u ▹ ts) h = absurd (omega arith)
  scopes (set_then_body l) f e ⟨⟩ h = tt
  scopes (set_then_body l) f e (t ▹ ⟨⟩) h = absurd (omega arith)
  scopes (set_then_body l) f e (t ▹ u ▹ ⟨⟩) h = (refl, (refl, tt))
  scopes (set_then_body l) f e (t ▹ u ▹ v ▹ ts) h = absurd (omega arith)

module _ {E R A : Type 0} (G : Algebra E R A) (H : Folding E R A) (start : G.start ≡ H.start) (push : (r : R) (a : A) → G.push r a ≡ H.push r a) where
  mutual
    -- The fold of a tree by position is the fold of the rules' expression, where the two agree at its tokens.
    pub fold-tree : (t : Expr) → Laid (as_tree t) → AllTokens (AgreesAt G H) t → (e : E) → fold G e t ≡ fold_of H e (as_tree t)
    fold-tree (node h ts) (c, l) ((p, q), s) e =
        let t = as_token h.token in
        let ρ : ℕ → E = λ i. within (binds_in (token_binder t) i) (H.bind t) e in
        let k : Scopes ts e (G.inner h.token e) ρ =
        subst (λ (x : E). Scopes ts e x ρ) (sym (q e)) (scopes (token_binder t) (H.bind t) e ts (last-only t (count (as_trees ts)) c)) in
        p e (folds G e (G.inner h.token e) ts) ∙ ap (H.token e t) (folds-trees ts l s e (G.inner h.token e) ρ k)

    folds-trees : (ts : Exprs) → LaidAll (as_trees ts) → AllTokensOf (AgreesAt G H) ts → (outer last : E) (ρ : ℕ → E) → Scopes ts outer last ρ
        → folds G outer last ts ≡ folds_of H ρ (as_trees ts)
    folds-trees ⟨⟩ l s outer last ρ k = start
    folds-trees (t ▹ ts) (l, ls) (s, ss) outer last ρ (k, ks) =
        push (fold G (under ts outer last) t) (folds G outer last ts)
        ∙ ap₂ H.push (fold-tree t l s (under ts outer last) ∙ ap (λ (e : E). fold_of H e (as_tree t)) k) (folds-trees ts ls ss outer last (λ i. ρ (suc i)) ks)

mutual
  -- what holds of every token anywhere holds of those of a tree
  pub all-tokens : (P : ℕ → PlacedToken → Type 0) → ((at : ℕ) (t : PlacedToken) → P at t) → (t : Expr) → AllTokens P t
  all-tokens P h (node x ts) = (h x.at x.token, all-tokens-of P h ts)

  all-tokens-of : (P : ℕ → PlacedToken → Type 0) → ((at : ℕ) (t : PlacedToken) → P at t) → (ts : Exprs) → AllTokensOf P ts
  all-tokens-of P h ⟨⟩ = tt
  all-tokens-of P h (t ▹ ts) = (all-tokens P h t, all-tokens-of P h ts)

-- A walk that does not look at positions.
pub walk-tree : {E R A : Type 0} (H : Folding E R A) (t : Expr) → Laid (as_tree t) → (e : E) → fold (walk H) e t ≡ fold_of H e (as_tree t)
walk-tree H t l e =
    fold-tree (walk H) H refl (λ r a. refl) t l (all-tokens (AgreesAt (walk H) H) (λ at t. (λ e a. refl, inner-scope t (H.bind (as_token t)))) t) e

-- A fold's image is a fold, if the image of each step is a step: so that one walk works out several folds.
module _ {E R A S B : Type 0} (H : Folding E R A) (K : Folding E S B) (r : R → S) (b : A → B)
    (token : (e : E) (t : Token) (a : A) → r (H.token e t a) ≡ K.token e t (b a)) (start : b H.start ≡ K.start)
    (push : (x : R) (a : A) → b (H.push x a) ≡ K.push (r x) (b a)) (bind : (t : Token) (e : E) → H.bind t e ≡ K.bind t e) where
  same-within : (n : ℕ) (t : Token) (e : E) → within n (H.bind t) e ≡ within n (K.bind t) e
  same-within zero t e = refl
  same-within (suc n) t e = bind t (within n (H.bind t) e) ∙ ap (K.bind t) (same-within n t e)

  mutual
    pub fold-image : (e : E) (x : Expression) → r (fold_of H e x) ≡ fold_of K e x
    fold-image e (node t es) =
        token e t (folds_of H (λ i. within (binds_in (token_binder t) i) (H.bind t) e) es)
        ∙ ap (K.token e t)
        (folds-image (λ i. within (binds_in (token_binder t) i) (H.bind t) e) (λ i. within (binds_in (token_binder t) i) (K.bind t) e) es (λ i. same-within (binds_in (token_binder t) i) t e))

    folds-image : (ρ σ : ℕ → E) (es : Trees Token) → ((i : ℕ) → ρ i ≡ σ i) → b (folds_of H ρ es) ≡ folds_of K σ es
    folds-image ρ σ ⟨⟩ h = start
    folds-image ρ σ (x ▹ es) h =
        push (fold_of H (ρ 0) x) (folds_of H (λ i. ρ (suc i)) es)
        ∙ ap₂ K.push (fold-image (ρ 0) x ∙ ap (λ (e : E). fold_of K e x) (h 0)) (folds-image (λ i. ρ (suc i)) (λ i. σ (suc i)) es (λ i. h (suc i)))
