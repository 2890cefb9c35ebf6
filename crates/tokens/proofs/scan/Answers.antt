use Rattle.tokens.proofs.Shaping.{shape-within, shape-fits, shape-less}
use Rattle.tokens.proofs.Scanning.{start, turn, unknown, cut, overdue, ended}
use borrow.Author.Rules.{rules}
use Rattle.tokens.proofs.scan.Goals as goal

pub loop-due-init : goal.loop-due-init
loop-due-init c = (search rules, start _)

pub returns-then-s-at : goal.returns-then-s-at
returns-then-s-at c = search overdue

pub returns-then-s-at-2 : goal.returns-then-s-at-2
returns-then-s-at-2 c = search cut

pub overflow_add-at : goal.overflow_add-at
overflow_add-at c = search shape-fits

pub loop-due-smaller : goal.loop-due-smaller
loop-due-smaller c = search shape-less

pub loop-due-preserved : goal.loop-due-preserved
loop-due-preserved c = (search shape-within, search turn)

pub returns-in_default : goal.returns-in_default
returns-in_default c = search unknown

pub returns : goal.returns
returns c = search ended
