use Rattle.checker.proofs.Answers.{cleared-in, few-in, filled_in}
use borrow.Author.Rules.{rules}
use Rattle.checker.proofs.settle.Goals as goal

pub fill_cards-requires : goal.fill_cards-requires
fill_cards-requires c = (search few-in, search rules)

pub returns-in-Ok : goal.returns-in-Ok
returns-in-Ok c = search filled_in

pub returns-in-Err : goal.returns-in-Err
returns-in-Err c = search cleared-in
