use Rattle.fields.proofs.Payloads.{instance-cut, instance-head, instance-there}
use Rattle.fields.proofs.payload.instance_rest.Goals as goal

pub returns-then-substitutions_fit : goal.returns-then-substitutions_fit
returns-then-substitutions_fit c = search (instance-head, instance-cut, instance-there)

pub returns-else-substitutions_fit : goal.returns-else-substitutions_fit
returns-else-substitutions_fit c = search (instance-head, instance-cut, instance-there)

pub returns-else-lawful_head : goal.returns-else-lawful_head
returns-else-lawful_head c = search (instance-head, instance-cut, instance-there)
