-- What a walk says of an expression that keeps the limits. Definitions only.
use Rattle.std.specs.Prelude.{Bool, false, true, ◌≡◌, ℕ}
use Rattle.tokens.specs.Expr.{Found, Founds, found, founds, none, nones}
use Rattle.tokens.specs.Fold.{Algebra, fold, folds}
use Rattle.tokens.specs.Limit.{counts_kept, counts_kepts}

-- Whether what is found keeps the limits; and if it does, v is what it is worth and x the position after it.
module _ {E R A : Type 0} where
  unfoldable pub KeptWorth : Algebra E R A → E → Found → Bool → R → ℕ → Type 0
  KeptWorth G e (found t n) kept v x = (kept ≡ counts_kept t) × (kept ≡ true → (v ≡ fold G e t) × (x ≡ n))
  KeptWorth G e none kept v x = kept ≡ false

  unfoldable pub KeptWorths : Algebra E R A → E → E → Founds → Bool → A → ℕ → Type 0
  KeptWorths G outer last (founds ts n) kept a x = (kept ≡ counts_kepts ts) × (kept ≡ true → (a ≡ folds G outer last ts) × (x ≡ n))
  KeptWorths G outer last nones kept a x = kept ≡ false
