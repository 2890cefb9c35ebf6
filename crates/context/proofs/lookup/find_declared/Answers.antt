use Rattle.context.proofs.Answers.{as-declared, no-declared}
use Rattle.context.proofs.lookup.find_declared.Goals as goal

pub returns-in_err-find_declaration : goal.returns-in_err-find_declaration
returns-in_err-find_declaration c = search (no-declared, c.in_err-find_declaration.was)

pub returns : goal.returns
returns c = search (as-declared, c.in_ok-find_declaration.was)
