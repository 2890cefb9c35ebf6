-- `names::identity`: the first i numbers stand.
use Rattle.levels.proofs.Numbered.{numbered-start, numbered-turn, numbered-length, numbered-inside, numbered-whole}
use borrow.Author.Rules.{rules}
use Rattle.levels.proofs.names.identity.Goals as goal

pub loop-i-init : goal.loop-i-init
loop-i-init c = search numbered-start

pub bounds-numbers-i : goal.bounds-numbers-i
bounds-numbers-i c = search (rules, numbered-inside)

pub loop-i-preserved : goal.loop-i-preserved
loop-i-preserved c = search numbered-turn

pub shape_of-numbers : goal.shape_of-numbers
shape_of-numbers c = search numbered-length

pub returns : goal.returns
returns c = search numbered-whole
