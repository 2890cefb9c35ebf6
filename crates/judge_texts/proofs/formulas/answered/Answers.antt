use Rattle.judge_plain.proofs.Answers.{answer-refused, answer-taken}
use Rattle.judge_plain.proofs.Found.{err-some}
use Rattle.judge_texts.proofs.formulas.answered.Goals as goal

pub returns-in-Err : goal.returns-in-Err
returns-in-Err c = rw c.in-Err.is (search (answer-refused, c.number.ensures, err-some _ c.number.ensures))

pub returns : goal.returns
returns c = rw c.in_default.is (search answer-taken)
