use Rattle.judge_instance.proofs.ConstancyCases.{uneven-form, uneven-other}
use Rattle.judge_instance.proofs.constancy.is_uneven.Goals as goal

pub returns-then-d-lt-DEFINITIONS : goal.returns-then-d-lt-DEFINITIONS
returns-then-d-lt-DEFINITIONS c = search uneven-form

pub returns-else-d-lt-DEFINITIONS : goal.returns-else-d-lt-DEFINITIONS
returns-else-d-lt-DEFINITIONS c = search uneven-other
