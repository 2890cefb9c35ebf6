-- Folds over the rules' expressions, with an environment for each argument; and the walks over trees by position that are such folds.
-- Definitions only.
use Rattle.std.specs.Prelude.{◌≡◌, Bool, false, cond, ◌||◌, ℕ, zero, suc, ◌+◌, eqb}
use Rattle.theory.specs.Tree.{Trees, node, ⟨⟩, ◌▹◌}
use Rattle.theory.specs.Level.{Binder, plain, in_body, set_then_body, binds_in}
use Rattle.rules.specs.Expression.{Token, Expression, token_arity, token_binder}
use Rattle.rows.specs.Rows.{binder_of}
use Rattle.tokens.specs.Fold.{Algebra}
use Rattle.tokens.specs.declared.Token.{Token as PlacedToken}
use Rattle.tokens.specs.declared.Token.TheVariants.{Parameter, Bound, Name, InstanceOperator, BuiltIn, Literal}
use Rattle.agree.specs.Trees.{as_token}

-- what a token is worth in an environment, over what its arguments are worth; what an argument list is worth, from its first; and an
-- environment with the variable that a token binds
pub record Folding (E R A : Type 0) : Type 0 where
  pub token : E → Token → A → R
  pub start : A
  pub push : R → A → A
  pub bind : Token → E → E

-- so many variables more
abbrev pub within : {E : Type 0} → ℕ → (E → E) → E → E
within zero f e = e
within (suc n) f e = f (within n f e)

module _ {E R A : Type 0} where
  abbrev mutual
    -- argument i of a token stands under as many variables more as the token binds there
    pub fold_of : Folding E R A → E → Expression → R
    fold_of H e (node t es) = H.token e t (folds_of H (λ i. within (binds_in (token_binder t) i) (H.bind t) e) es)

    -- argument i in the environment ρ i
    pub folds_of : Folding E R A → (ℕ → E) → Trees Token → A
    folds_of H ρ ⟨⟩ = H.start
    folds_of H ρ (e ▹ es) = H.push (fold_of H (ρ 0) e) (folds_of H (λ i. ρ (suc i)) es)

-- the environment of the argument that a binder's variable is bound in
abbrev pub in_scope : {E : Type 0} → Binder → (E → E) → E → E
in_scope plain f e = e
in_scope (in_body l) f e = f e
in_scope (set_then_body l) f e = f e

-- the same by the table's column: 0 where a token binds nothing
abbrev pub binds_of : PlacedToken → ℕ
binds_of (Parameter i) = 0
binds_of (Bound j) = 0
binds_of (Name n k) = 0
binds_of (InstanceOperator i f k) = 0
binds_of (BuiltIn c) = binder_of c
binds_of (Literal v) = 0

abbrev pub inner_of : {E : Type 0} → PlacedToken → (E → E) → E → E
inner_of t f e = cond (eqb (binds_of t) 0) e (f e)

-- a fold over trees by position that does not look at positions
abbrev pub walk : {E R A : Type 0} → Folding E R A → Algebra E R A
walk H = record {
  token = λ e at t a. H.token e (as_token t) a;
  start = H.start;
  push = H.push;
  inner = λ t e. inner_of t (H.bind (as_token t)) e;
}

-- a walk and a fold agree at a token that stands at a position
abbrev pub AgreesAt : {E R A : Type 0} → Algebra E R A → Folding E R A → ℕ → PlacedToken → Type 0
AgreesAt {E} {R} {A} G H at t =
    ((e : E) (a : A) → G.token e at t a ≡ H.token e (as_token t) a) × ((e : E) → G.inner t e ≡ in_scope (token_binder (as_token t)) (H.bind (as_token t)) e)

-- Whether a test passes somewhere. The test is one of the number of bound variables known there, the token, and the number of its arguments.
abbrev pub testing : (ℕ → Token → ℕ → Bool) → Folding ℕ Bool Bool
testing p = record {
  token = λ k t a. p k t (token_arity t) || a;
  start = false;
  push = λ r a. r || a;
  bind = λ t k. k + 1;
}

-- the same as a walk, the test being one of the number of bound variables known there, the position, and the token
abbrev pub searching : (ℕ → ℕ → PlacedToken → Bool) → Algebra ℕ Bool Bool
searching u = record {
  token = λ k at t a. u k at t || a;
  start = false;
  push = λ r a. r || a;
  inner = λ t k. inner_of t (λ j. j + 1) k;
}
