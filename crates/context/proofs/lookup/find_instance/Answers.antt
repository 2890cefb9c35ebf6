use Rattle.context.proofs.Answers.{as-brought, no-brought}
use Rattle.context.proofs.lookup.find_instance.Goals as goal

pub returns-in_err-find_entry : goal.returns-in_err-find_entry
returns-in_err-find_entry c = search (no-brought, c.in_err-find_entry.was)

pub returns : goal.returns
returns c = search (as-brought, c.in_ok-find_entry.was)
