-- `output::put_out`: nothing is written before the length is known.
use borrow.Author.Rules.{rules}
use Rattle.expanding.proofs.Written.{out-long, out-short, out_written}
use Rattle.expanding.proofs.output.put_out.Goals as goal

pub returns-then-n-gt-EXPANSION_BYTES : goal.returns-then-n-gt-EXPANSION_BYTES
returns-then-n-gt-EXPANSION_BYTES c = search (rules, out-long, out-short)

pub returns-then-out-n : goal.returns-then-out-n
returns-then-out-n c = search (rules, out-long, out-short)

pub returns : goal.returns
returns c = search (rules, out_written)
