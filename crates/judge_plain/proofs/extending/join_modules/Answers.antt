use Rattle.judge_plain.proofs.Extensions.{cleared}
use borrow.Author.Rules.{rules}
use Rattle.judge_plain.proofs.extending.join_modules.Goals as goal

pub join_named-requires : goal.join_named-requires
join_named-requires c = (cleared _ _ _ _ _ (search rules) (cc) (cc), search rules)
