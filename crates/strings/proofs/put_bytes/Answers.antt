use Rattle.strings.proofs.Laying.{sets-copied}
use borrow.Author.Rules.{rules}
use Rattle.strings.proofs.put_bytes.Goals as goal

pub returns : goal.returns
returns c = search (rules, sets-copied)
