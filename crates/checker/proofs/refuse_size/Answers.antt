use Rattle.checker.proofs.Answers.{check-wrong-size}
use Rattle.checker.proofs.refuse_size.Goals as goal

pub returns : goal.returns
returns c = search check-wrong-size
