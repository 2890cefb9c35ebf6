-- `sharing::copy_form`: one form read and stored.
use Rattle.entering.proofs.Copied.{again}
use borrow.Author.Rules.{rules}
use Rattle.entering.proofs.sharing.copy_form.Goals as goal

pub returns : goal.returns
returns c = search (rules, again)
