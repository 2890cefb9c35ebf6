-- `query::expand_read`: a cause, or the expansion.
use Rattle.expanding.proofs.Reading.{read-over, read-passed, read-refused, read_short, read_whole}
use borrow.Author.Rules.{rules}
use Rattle.expanding.proofs.query.expand_read.Goals as goal

pub returns-in_default : goal.returns-in_default
returns-in_default c = read-passed _ _ _ _ _ (λ i. (c.type_inv.expr i).fits) _ _ _ _ c.in_default.is c.limit_cause.ensures _

pub returns-then-cause-ne0 : goal.returns-then-cause-ne0
returns-then-cause-ne0 c = read-refused _ _ _ _ _ (λ i. (c.type_inv.expr i).fits) _ _ (search rules) _ _ _ c.read_cause-cause.ensures (search rules) _

pub returns-then-len-a : goal.returns-then-len-a
returns-then-len-a c = read_whole _ _ _ _ _ (λ i. (c.type_inv.expr i).fits) _ _ (search rules) _ _ _ c.read_cause-cause.ensures (search rules) _ (search rules) _ _ _ c.expand_string.ensures

pub returns-else-len-a : goal.returns-else-len-a
returns-else-len-a c = read-over _ _ _ _ _ (λ i. (c.type_inv.expr i).fits) _ _ c.in-Some.is _ _ _ c.read_cause-cause.ensures (search rules) _ c.in-Some-len.is (search rules) _

pub returns-in_default-len : goal.returns-in_default-len
returns-in_default-len c = read_short _ _ _ _ _ (λ i. (c.type_inv.expr i).fits) _ _ (search rules) _ _ _ c.read_cause-cause.ensures (search rules) (search rules) _
