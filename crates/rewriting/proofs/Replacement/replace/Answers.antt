use Rattle.rewriting.proofs.Cases.{call-over, call-replaced}
use borrow.Author.Rules.{rules}
use Rattle.rewriting.proofs.Replacement.replace.Goals as goal

pub returns : goal.returns
returns c = (search (call-replaced, c.in_ok-f.was), search rules)

pub returns-in_err-f : goal.returns-in_err-f
returns-in_err-f c = (search (call-over, c.in_err-f.was), search rules)
