-- `walk::judge_short`: no tables.
use Rattle.tables.proofs.Filling.{none-serve}
use borrow.Author.Rules.{rules}
use Rattle.asking.proofs.walk.judge_short.Goals as goal

pub judge_with-requires : goal.judge_with-requires
judge_with-requires c = search (rules, none-serve)
