use borrow.Author.Rules.{rules}
use lib.Dec.{eqb}
use lib.ListN.{get_or}
use Rattle.context.specs.Lookup.{code_named}
use Rattle.context.proofs.lists.find_code.Goals as goal

pub returns : goal.returns
unfolding code_named
returns c = c.find_where.ensures (λ o. eqb c.args.name (get_or c.args.store.now.names o 0)) (λ o r h p. search rules)
