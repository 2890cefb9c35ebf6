use Rattle.strings.proofs.Filling.{argument-none, argument-put}
use Rattle.strings.proofs.put_argument.Goals as goal

pub returns-then-j-lt-PARAMS : goal.returns-then-j-lt-PARAMS
returns-then-j-lt-PARAMS c = search argument-put

pub returns-else-j-lt-PARAMS : goal.returns-else-j-lt-PARAMS
returns-else-j-lt-PARAMS c = search argument-none
