-- `alike::first_alike`.
use Rattle.templates.proofs.Firsts.{alike-found, alike-itself}
use borrow.Author.Rules.{rules}
use Rattle.templates.proofs.alike.first_alike.Goals as goal

pub returns-then-are_alike : goal.returns-then-are_alike
returns-then-are_alike c = search (rules, alike-found)

pub returns : goal.returns
returns c = search (rules, alike-itself)
