use borrow.Author.Rules.{rules}
use Rattle.rewriting.proofs.Bounding.{bounds-long}
use Rattle.rewriting.proofs.Cases.{call-filled, call-unfilled}
use Rattle.rewriting.proofs.Replacement.fill_call.Goals as goal

pub fill_in-requires : goal.fill_in-requires
fill_in-requires c = search (rules, bounds-long)

pub returns : goal.returns
returns c = search (rules, call-filled, c.in_ok-len.was)

pub returns-in_err-len : goal.returns-in_err-len
returns-in_err-len c = search (rules, call-unfilled, c.in_err-len.was)
