use Rattle.strings.proofs.Filling.{one-put, one-short}
use Rattle.strings.proofs.put_one.Goals as goal

pub returns-then-out-q : goal.returns-then-out-q
returns-then-out-q c = search one-short

pub returns : goal.returns
returns c = search one-put
