-- the last argument first: those from i on are in the form
use borrow.Author.Rules.{rules}
use Rattle.forms.proofs.Highest.{joined-start, joined-turn, joined_end}
use Rattle.forms.proofs.declared_form.Goals as goal

pub loop-i-init : goal.loop-i-init
loop-i-init c = joined-start _

pub loop-i-preserved : goal.loop-i-preserved
loop-i-preserved c = search (rules, joined-turn)

pub returns : goal.returns
returns c = joined_end _ _ _ c.loop-i.invariant c.loop-i-test.false
