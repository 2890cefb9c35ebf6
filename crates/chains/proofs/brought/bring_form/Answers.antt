-- `brought::bring_form`.
use Rattle.chains.proofs.Bringing.{form-stored}
use borrow.Author.Rules.{rules}
use Rattle.chains.proofs.brought.bring_form.Goals as goal

pub returns : goal.returns
returns c = form-stored _ _ _ _ _ _ _ _ (search rules) (search rules) (search rules)
