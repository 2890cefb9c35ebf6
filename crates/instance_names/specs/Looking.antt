-- Looking at the expressions of the substitutions, one after another: each walk's answers, and the table that each leaves to the next.
use Rattle.std.specs.Prelude.{Bool, false, ◌||◌, List, [], ◌∷◌, ◌≡◌, ℕ, ◌+◌}
use Rattle.limits.specs.Limits.{max_nesting}
use Rattle.tokens.specs.Expr.{expr_at}
use Rattle.tokens.specs.Token.{number_at}
use Rattle.context.specs.Entries.{context_codes}
use Rattle.resolve.specs.Walk.{Looks}
use Rattle.instance_names.specs.Sites.{arity_there}
use Rattle.instance_names.specs.declared.Site.{Site}
use Rattle.store.specs.declared.Facts.{Facts}

-- one, "over the instance's parameters and then k more"
unfoldable pub LooksOne : List ℕ → List ℕ → List Facts → List ℕ → List ℕ → Site → ℕ → List ℕ → List ℕ → Bool → Bool → ℕ → Type 0
LooksOne file names facts contexts heads x at refs refs' u w y =
    Looks names facts (context_codes contexts heads x.modules) (x.params + arity_there names facts contexts heads x (number_at file at)) 0
    (expr_at max_nesting file (at + 4)) refs refs' u w y

-- what one leaves, and then the others
pub record LooksThen (One : List ℕ → Bool → Bool → ℕ → Type 0) (Rest : List ℕ → Bool → Bool → Type 0) (u w : Bool) : Type 0 where
  pub between : List ℕ
  pub y : ℕ
  pub u₁ : Bool
  pub w₁ : Bool
  pub u₂ : Bool
  pub w₂ : Bool
  pub one : One between u₁ w₁ y
  pub rest : Rest between u₂ w₂
  pub unknown : u ≡ (u₁ || u₂)
  pub miscounted : w ≡ (w₁ || w₂)

unfoldable pub LooksEach : List ℕ → List ℕ → List Facts → List ℕ → List ℕ → Site → List ℕ → List ℕ → List ℕ → Bool → Bool → Type 0
LooksEach file names facts contexts heads x [] refs refs' u w = (refs' ≡ refs) × (u ≡ false) × (w ≡ false)
LooksEach file names facts contexts heads x (at ∷ ats) refs refs' u w =
    LooksThen (λ between u₁ w₁ y. LooksOne file names facts contexts heads x at refs between u₁ w₁ y)
    (λ between u₂ w₂. LooksEach file names facts contexts heads x ats between refs' u₂ w₂) u w
