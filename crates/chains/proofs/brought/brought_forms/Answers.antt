-- `brought::brought_forms`: the first i definitions have their forms.
use Rattle.chains.proofs.Bringing.{brings-start, brings-turn, brings-whole}
use borrow.Author.Rules.{rules}
use Rattle.chains.proofs.brought.brought_forms.Goals as goal

pub loop-i-init : goal.loop-i-init
loop-i-init c = search (rules, brings-start)

pub loop-i-preserved : goal.loop-i-preserved
loop-i-preserved c = search (rules, brings-turn)

pub returns : goal.returns
returns c = search (rules, brings-whole)
