-- The substitution written for a name, by position.
use Rattle.std.specs.Prelude.{cond, List, ℕ, zero, suc, ◌+◌, eqb, ltb, length}
use Rattle.tokens.specs.Token.{number_at}
use Rattle.fields.specs.Substitution.{next_substitution}
use Rattle.std.specs.Prelude.{Option as Answer, Some, None}

-- the first of so many from a position on
unfoldable pub written_at : ℕ → List ℕ → ℕ → ℕ → Answer ℕ
written_at zero s at x = None
written_at (suc k) s at x =
    let r = written_at k s (next_substitution s at) x in
    cond (ltb (length s) at) None (cond (eqb (number_at s at) x) (Some (at + 4)) r)
