use Rattle.lines.proofs.Spelling.{two-put}
use borrow.Author.Rules.{rules}
use Rattle.lines.proofs.digits.put_hex.Goals as goal

pub returns : goal.returns
returns c = search (rules, two-put)
