-- `query::expand_string`: 18 if a string did not fit, else what is left without brackets.
use Rattle.expanding.proofs.Answering.{string-long, string-whole}
use borrow.Author.Rules.{rules}
use Rattle.expanding.proofs.query.expand_string.Goals as goal

pub returns-in_default : goal.returns-in_default
returns-in_default c = search (rules, string-long)

pub returns : goal.returns
returns c = search (rules, string-whole)
