-- `write_refusal`: the word and two numbers.
use Rattle.lines.proofs.Lines.{refusal-put}
use borrow.Author.Rules.{rules}
use Rattle.lines.proofs.listing.write_refusal.Goals as goal

pub returns : goal.returns
returns c = refusal-put c.args.cause c.args.place _ _ _ _ _ _ _ (search rules) c.put_refused-next.ensures c.put_number-last.ensures c.put_number.ensures
