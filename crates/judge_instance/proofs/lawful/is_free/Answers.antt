use Rattle.judge_instance.proofs.LevelCases.{free_other, free-zero}
use Rattle.judge_instance.proofs.lawful.is_free.Goals as goal

pub returns-then-kind-eq0 : goal.returns-then-kind-eq0
returns-then-kind-eq0 c = search free-zero

pub returns-else-kind-eq0 : goal.returns-else-kind-eq0
returns-else-kind-eq0 c = search free_other
