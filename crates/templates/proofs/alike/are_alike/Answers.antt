-- `alike::are_alike`.
use Rattle.templates.proofs.Firsts.{alike-named, alike-unnamed}
use borrow.Author.Rules.{rules}
use Rattle.templates.proofs.alike.are_alike.Goals as goal

pub returns-then-name_at : goal.returns-then-name_at
returns-then-name_at c = search (rules, alike-named)

pub returns : goal.returns
returns c = search (rules, alike-unnamed)
