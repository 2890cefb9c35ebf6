-- How far the bound indices of a term reach: 01, "A moved bound index may there pass two bytes".
use Rattle.std.specs.Prelude.{max, suc, ℕ}
use Rattle.theory.specs.Term.{Head, Term, Terms, bound, builtin, declared, defined, leaf, param}
use Rattle.theory.specs.Tree.{◌▹◌, node, ⟨⟩}

-- one past the index of a bound variable, 0 for any other head
abbrev pub head_reach : Head → ℕ
head_reach (param i) = 0
head_reach (bound j) = suc j
head_reach (declared k x) = 0
head_reach (defined g) = 0
head_reach (builtin c) = 0
head_reach (leaf n) = 0

-- one past the largest bound index that a term holds, 0 if it holds none
abbrev mutual
  pub reach : Term → ℕ
  reach (node h ts) = max (head_reach h) (reaches ts)

  pub reaches : Terms → ℕ
  reaches ⟨⟩ = 0
  reaches (t ▹ ts) = max (reach t) (reaches ts)
