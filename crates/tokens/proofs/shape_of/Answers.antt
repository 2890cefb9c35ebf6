use Rattle.tokens.proofs.Shaping.{tag-0, tag-1, tag-2, tag-3, tag-4, tag-5, tag-other}
use Rattle.tokens.proofs.shape_of.Goals as goal

pub returns-in-0 : goal.returns-in-0
returns-in-0 c = search tag-0

pub returns-in-1 : goal.returns-in-1
returns-in-1 c = search tag-1

pub returns-in-2 : goal.returns-in-2
returns-in-2 c = search tag-2

pub returns-in-3 : goal.returns-in-3
returns-in-3 c = search tag-3

pub returns-in-4 : goal.returns-in-4
returns-in-4 c = search tag-4

pub returns-in-5 : goal.returns-in-5
returns-in-5 c = search tag-5

pub returns-in_default : goal.returns-in_default
returns-in_default c = search tag-other
