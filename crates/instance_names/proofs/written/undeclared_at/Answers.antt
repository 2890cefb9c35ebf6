use Rattle.instance_names.proofs.Turns.{undeclared-open}
use borrow.Author.Rules.{rules}
use Rattle.instance_names.proofs.written.undeclared_at.Goals as goal

pub returns : goal.returns
returns c = search (rules, undeclared-open)
