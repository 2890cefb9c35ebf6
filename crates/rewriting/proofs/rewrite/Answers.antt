use Rattle.rewriting.proofs.Cases.{rewrite-done}
use Rattle.rewriting.proofs.rewrite.Goals as goal

pub returns : goal.returns
returns c = search rewrite-done
