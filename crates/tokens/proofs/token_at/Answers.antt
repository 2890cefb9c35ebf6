use Rattle.tokens.proofs.Places.{out}
use Rattle.tokens.proofs.Tags.{all-there, cut-short}
use Rattle.tokens.proofs.token_at.Goals as goal

pub returns-then-s-at : goal.returns-then-s-at
returns-then-s-at c = search out

pub returns-in_err-t : goal.returns-in_err-t
returns-in_err-t c = search (cut-short, c.in_err-t.was)

pub returns : goal.returns
returns c = search (all-there, c.in_ok-t.was)
