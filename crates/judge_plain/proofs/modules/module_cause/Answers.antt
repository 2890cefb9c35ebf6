use Rattle.judge_plain.proofs.Answers.{module-early, module-free, module-over, module-used}
use Rattle.judge_plain.proofs.modules.module_cause.Goals as goal

pub returns-then-out_of_order : goal.returns-then-out_of_order
returns-then-out_of_order c = search module-early

pub returns-then-modules-ge-MODULES : goal.returns-then-modules-ge-MODULES
returns-then-modules-ge-MODULES c = search module-over

pub returns-then-find_module-modules : goal.returns-then-find_module-modules
returns-then-find_module-modules c = search module-used

pub returns : goal.returns
returns c = search module-free
