use Rattle.checker.proofs.Rounds.{begins, goes_on, less, settled}
use Rattle.checker.proofs.judging.judge_fields.Goals as goal

pub fields-init : goal.fields-init
fields-init c = search begins

pub returns-in-Break : goal.returns-in-Break
returns-in-Break c = search settled

pub fields-smaller : goal.fields-smaller
fields-smaller c = search less

pub fields-preserved : goal.fields-preserved
fields-preserved c = search goes_on
