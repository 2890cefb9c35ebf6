use Rattle.judge_texts.proofs.Answers.{text-lawful, text-miscounted, text-unknown, text-wrong}
use Rattle.judge_texts.proofs.text_cause.Goals as goal

pub returns-then-t : goal.returns-then-t
returns-then-t c = search text-unknown

pub returns-then-t-2 : goal.returns-then-t-2
returns-then-t-2 c = search text-miscounted

pub returns-then-t-eq4 : goal.returns-then-t-eq4
returns-then-t-eq4 c = search text-wrong

pub returns : goal.returns
returns c = search text-lawful
