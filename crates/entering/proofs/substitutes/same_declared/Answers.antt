-- `substitutes::same_declared`: the declaration of that name, if it has the kind.
use Rattle.entering.proofs.Substituting.{same-found, same_none}
use Rattle.entering.proofs.substitutes.same_declared.Goals as goal

pub returns-in_err-find_declaration : goal.returns-in_err-find_declaration
returns-in_err-find_declaration c = search (same_none, c.in_err-find_declaration.was)

pub returns : goal.returns
returns c = search (same-found, c.in_ok-find_declaration.was)
