use Rattle.spelling.proofs.Heading.{lead-none, lead-put}
use borrow.Author.Rules.{rules}
use Rattle.spelling.proofs.heads.lead.Goals as goal

pub returns-then-is_written : goal.returns-then-is_written
returns-then-is_written c = search (rules, lead-put)

pub returns-else-is_written : goal.returns-else-is_written
returns-else-is_written c = search (rules, lead-none)
