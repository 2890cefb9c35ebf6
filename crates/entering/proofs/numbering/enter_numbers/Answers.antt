-- `numbering::enter_numbers`: the names from i on have their numbers.
use Rattle.entering.proofs.Entering.{entering-start, entering-turn, entering-whole}
use borrow.Author.Rules.{rules}
use Rattle.entering.proofs.numbering.enter_numbers.Goals as goal

pub loop-i-init : goal.loop-i-init
loop-i-init c = search entering-start

pub loop-i-preserved : goal.loop-i-preserved
loop-i-preserved c = search entering-turn

pub returns : goal.returns
returns c = search (rules, entering-whole)
