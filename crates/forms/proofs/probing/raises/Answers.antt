use Rattle.forms.proofs.Probes.{raises-never, raises-if}
use borrow.Author.Rules.{rules}
use Rattle.forms.proofs.probing.raises.Goals as goal

pub returns-then-verdict : goal.returns-then-verdict
returns-then-verdict c = search (rules, raises-never)

pub returns : goal.returns
returns c = search (rules, raises-if)
