use Rattle.judge_instance.proofs.ConstancyCases.{constant-even, constant-not}
use Rattle.judge_instance.proofs.constancy.is_constant.Goals as goal

pub returns-else-not-variable_among : goal.returns-else-not-variable_among
returns-else-not-variable_among c = search constant-not

pub returns-then-not-variable_among : goal.returns-then-not-variable_among
returns-then-not-variable_among c = search constant-even
