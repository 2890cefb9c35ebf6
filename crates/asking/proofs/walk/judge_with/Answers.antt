-- `walk::judge_with`: the walk from nesting 32 on, under no label, with no variable bound.
use Rattle.asking.proofs.Walking.{judged-whole, roomy-start}
use borrow.Author.Rules.{rules}
use Rattle.asking.proofs.walk.judge_with.Goals as goal

pub walk_args-requires : goal.walk_args-requires
walk_args-requires c = search (rules, roomy-start)

pub returns : goal.returns
returns c = judged-whole _ _ _ _ _ _ _ c.walk_args.ensures
