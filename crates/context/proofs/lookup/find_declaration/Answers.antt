use borrow.Author.Rules.{rules}
use Rattle.context.specs.Lookup.{declared_named, declares_name}
use Rattle.context.proofs.lookup.find_declaration.Goals as goal

pub returns : goal.returns
unfolding declared_named
returns c = c.find_where.ensures (declares_name c.args.store.now.names c.args.store.now.facts c.args.name) (λ o r h p. search rules)
