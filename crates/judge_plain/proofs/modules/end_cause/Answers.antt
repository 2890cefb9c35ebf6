use Rattle.judge_plain.proofs.Answers.{end-early, end-lawful}
use Rattle.judge_plain.proofs.modules.end_cause.Goals as goal

pub returns-then-out_of_order : goal.returns-then-out_of_order
returns-then-out_of_order c = search end-early

pub returns : goal.returns
returns c = search end-lawful
