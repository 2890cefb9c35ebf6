-- `substitutes::enter_next`: the form of one of its kind and name, or its own.
use Rattle.entering.proofs.Substituting.{substituted-turn}
use Rattle.entering.proofs.Copied.{substituted-copy}
use Rattle.entering.proofs.substitutes.enter_next.Goals as goal

pub returns-then-i-d : goal.returns-then-i-d
returns-then-i-d c = search substituted-copy

pub returns : goal.returns
returns c = search substituted-turn
