-- `put_number`: digits, and a byte.
use Rattle.lines.proofs.Writing.{number_put}
use Rattle.lines.proofs.numbers.put_number.Goals as goal

pub returns : goal.returns
returns c = number_put _ _ _ _ c.args.n c.args.after _ _ c.put_digits-next.ensures c.put_byte.ensures
