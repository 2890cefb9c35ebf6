-- The limits of an expression by the rules, as reading by position gives them. Definitions only.
use Rattle.std.specs.Prelude.{cond, ℕ, Option, None, Some}
use Rattle.rules.specs.Expression.{Expression, over_limit}

-- what the rules make of the limits of an expression, with the position after it
abbrev pub limit_of : Expression → ℕ → Option ℕ
limit_of e end = cond (over_limit e) None (Some end)
