use borrow.Author.Rules.{rules}
use Rattle.judge_instance.specs.Levels.{is_mixed}
use Rattle.judge_instance.proofs.lawful.is_mixed.Goals as goal

pub returns-then-seen : goal.returns-then-seen
unfolding is_mixed
returns-then-seen c = search rules

pub returns-else-seen : goal.returns-else-seen
unfolding is_mixed
returns-else-seen c = search rules
