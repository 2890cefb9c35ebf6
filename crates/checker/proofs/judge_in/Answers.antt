use Rattle.checker.proofs.Answers.{settled-few}
use borrow.Author.Rules.{rules}
use Rattle.checker.proofs.judge_in.Goals as goal

pub settle-requires : goal.settle-requires
settle-requires c = (search settled-few, search rules)
