use Rattle.fields.proofs.Payloads.{name-end, name-next, name-zero}
use Rattle.fields.proofs.payload.all_named.Goals as goal

pub returns-then-number_at-eq0 : goal.returns-then-number_at-eq0
returns-then-number_at-eq0 c = search name-zero

pub loop-i-preserved : goal.loop-i-preserved
loop-i-preserved c = search name-next

pub returns : goal.returns
returns c = search name-end
