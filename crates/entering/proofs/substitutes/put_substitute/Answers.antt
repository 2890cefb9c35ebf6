-- `substitutes::put_substitute`: one form stored.
use Rattle.entering.proofs.Substituting.{placed}
use borrow.Author.Rules.{rules}
use Rattle.entering.proofs.substitutes.put_substitute.Goals as goal

pub returns : goal.returns
returns c = search (rules, placed)
