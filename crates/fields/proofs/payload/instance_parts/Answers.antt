use Rattle.fields.proofs.Payloads.{instance-on, instance-short, instance-zero}
use Rattle.fields.proofs.payload.instance_parts.Goals as goal

pub returns-then-p-lt6 : goal.returns-then-p-lt6
returns-then-p-lt6 c = search (instance-short, instance-zero, instance-on)

pub returns-then-m-eq0 : goal.returns-then-m-eq0
returns-then-m-eq0 c = search (instance-short, instance-zero, instance-on)

pub returns : goal.returns
returns c = search (instance-short, instance-zero, instance-on)
