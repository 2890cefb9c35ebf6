use mathlib.Core.Path.{◌∙◌, sym}
use Rattle.checker.proofs.Turns.{asks, settled-cut, settled_end, turned}
use Rattle.checker.proofs.judging.judge_next.Goals as goal

pub returns-then-is_end : goal.returns-then-is_end
returns-then-is_end c = search settled_end

pub returns-then-is_cut : goal.returns-then-is_cut
returns-then-is_cut c = search settled-cut

pub judge_field-j-requires : goal.judge_field-j-requires
judge_field-j-requires c = asks _ _ c.requires.1 c.requires.2 c.requires.0 c.read-step.result c.read-step.ensures
    (sym c.is_end.ensures ∙ c.if-is_end.false) (sym c.is_cut.ensures ∙ c.if-is_cut.false)

pub returns : goal.returns
returns c = search turned
