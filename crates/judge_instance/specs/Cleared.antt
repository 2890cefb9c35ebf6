-- What is used of an INSTANCE field's first seven causes, none of which holds: it keeps the limits, its names are known, its arguments rightly counted.
use Rattle.std.specs.Prelude.{false, List, ◌≡◌, ℕ}
use Rattle.rules.specs.Field.{Substitution}
use Rattle.rules.specs.Instance.{source}
use Rattle.rules.specs.Judge.{instance_miscounted, instance_over_limit, instance_unknown}
use Rattle.rules.specs.State.{State}

pub record Cleared (s : State) (p m : ℕ) (ss : List Substitution) : Type 0 where
  pub limited : instance_over_limit s p (source s m) ss ≡ false
  pub known : instance_unknown s p (source s m) ss ≡ false
  pub counted : instance_miscounted s (source s m) ss ≡ false
