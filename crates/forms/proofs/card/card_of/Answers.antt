use borrow.Author.Rules.{rules}
use Rattle.forms.proofs.Finding.{found-start, found_turn, found-byte, found-end}
use Rattle.forms.proofs.card.card_of.Goals as goal

pub loop-i-init : goal.loop-i-init
loop-i-init c = found-start _ _

pub loop-i-preserved : goal.loop-i-preserved
loop-i-preserved c = search (rules, found_turn)

pub overflow_cast-result-2 : goal.overflow_cast-result-2
overflow_cast-result-2 c = search (rules, found-byte)

pub returns : goal.returns
returns c = found-end _ _ _ _ _ _ c.loop-i.invariant c.requires _ c.loop-i-test.false (c.level_at_zero.ensures c.args.n)
