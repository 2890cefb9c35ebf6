-- `substitutes::enter_substitutes`: the first d declarations have their forms.
use Rattle.entering.proofs.Substituting.{substituted-start, substituted-whole}
use Rattle.entering.proofs.Copied.{substituted-now, substituted-next}
use borrow.Author.Rules.{rules}
use Rattle.entering.proofs.substitutes.enter_substitutes.Goals as goal

pub loop-d-init : goal.loop-d-init
loop-d-init c = search substituted-start

pub enter_next-requires : goal.enter_next-requires
enter_next-requires c = (search rules, search rules, search rules, search substituted-now)

pub loop-d-preserved : goal.loop-d-preserved
loop-d-preserved c = search substituted-next

pub returns : goal.returns
returns c = search substituted-whole
