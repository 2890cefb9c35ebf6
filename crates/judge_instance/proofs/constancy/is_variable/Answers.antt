use Rattle.judge_instance.proofs.ConstancyCases.{variable-code, variable-other}
use Rattle.judge_instance.proofs.constancy.is_variable.Goals as goal

pub returns-then-is_declared : goal.returns-then-is_declared
returns-then-is_declared c = search variable-code

pub returns-else-is_declared : goal.returns-else-is_declared
returns-else-is_declared c = search variable-other
