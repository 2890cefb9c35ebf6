use Rattle.tokens.proofs.Shaping.{instance-there, instance-zero}
use borrow.Author.Rules.{rules}
use Rattle.tokens.proofs.instance_shape.Goals as goal
use Rattle.tokens.proofs.instance_shape.Goals.{then-inst-ne0, else-inst-ne0}

pub returns : goal.returns
returns c = elim c.if-inst-ne0.branch [ then-inst-ne0 w ↦ search instance-there | else-inst-ne0 w ↦ search (rules, instance-zero) ]
