-- The meanings of terms that stand in one scope.
use mathlib.Core.List.{List}
use Rattle.theory.specs.Level.{binds_in, plain}
use Rattle.theory.specs.Term.{Reading, Terms, evals}

module _ {A : Type 0} where
  abbrev pub values : Reading A → List A → List A → Terms → List A
  values M ρ β ts = evals M ρ β M.unknown (binds_in plain) ts
