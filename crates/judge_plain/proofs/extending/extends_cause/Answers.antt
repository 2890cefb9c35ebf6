use Rattle.judge_plain.proofs.Extensions.{cause-early, cause-missing, cause-none}
use Rattle.judge_plain.proofs.extending.extends_cause.Goals as goal

pub returns-then-out_of_order : goal.returns-then-out_of_order
returns-then-out_of_order c = search cause-early

pub returns-then-has_missing_name : goal.returns-then-has_missing_name
returns-then-has_missing_name c = search cause-missing

pub returns : goal.returns
returns c = search cause-none
