use borrow.Author.Rules.{rules}
use Rattle.replacing.proofs.Rounding.{rounds-end, rounds-on, rounds-slow, rounds-start}
use Rattle.replacing.proofs.Replacement.rounds.Goals as goal

pub loop-turns-init : goal.loop-turns-init
loop-turns-init c = (search rounds-start, search rules, search rules, search rules)

pub returns-in-Break : goal.returns-in-Break
returns-in-Break c = search rounds-end

pub loop-turns-preserved : goal.loop-turns-preserved
loop-turns-preserved c = (search rounds-on, search rules, search rules, search rules)

pub returns : goal.returns
returns c = search rounds-slow
