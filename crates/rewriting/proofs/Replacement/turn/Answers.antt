use Rattle.rewriting.proofs.Cases.{clear-inside, clear-order, turned, turned-over}
use borrow.Author.Rules.{rules}
use Rattle.rewriting.proofs.Replacement.turn.Goals as goal

pub carry-w-requires : goal.carry-w-requires
carry-w-requires c = (search (clear-order, c.in_ok-at.was), search (clear-inside, c.in_ok-at.was))

pub returns : goal.returns
returns c = (search (turned, c.in_ok-at.was), search rules)

pub returns-in_err-at : goal.returns-in_err-at
returns-in_err-at c = (search (turned-over, c.in_err-at.was), search rules)
