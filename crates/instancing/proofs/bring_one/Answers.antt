use Rattle.instancing.proofs.Brings.{bring-both, row-head}
use borrow.Author.Rules.{rules}
use Rattle.instancing.proofs.bring_one.Goals as goal

pub push_as-requires : goal.push_as-requires
push_as-requires c = search (rules, row-head)

pub returns : goal.returns
returns c = search (rules, bring-both)
