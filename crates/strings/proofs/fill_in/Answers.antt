use Rattle.strings.proofs.Laying.{left-start}
use Rattle.strings.proofs.Filling.{filled-end, filled-no, filled-turn}
use borrow.Author.Rules.{rules}
use Rattle.strings.proofs.fill_in.Goals as goal

pub loop-i-init : goal.loop-i-init
loop-i-init c = (search rules, search rules, search rules, search (rules, left-start))

pub loop-i-preserved : goal.loop-i-preserved
loop-i-preserved c = (search rules, search rules, search rules, search (filled-turn, c.in_ok-q.was))

pub returns : goal.returns
returns c = search filled-end

pub returns-in_err-q : goal.returns-in_err-q
returns-in_err-q c = search (filled-no, c.in_err-q.was)
