use Rattle.checker.proofs.Answers.{empty-wrong, some_size}
use Rattle.checker.proofs.wrong_size.Goals as goal

pub returns-then-file-eq0 : goal.returns-then-file-eq0
returns-then-file-eq0 c = search empty-wrong

pub returns : goal.returns
returns c = search some_size
