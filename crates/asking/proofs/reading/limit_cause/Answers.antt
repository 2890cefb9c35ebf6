-- `reading::limit_cause`: whether the bytes are one expression.
use Rattle.asking.proofs.Causes.{limit-bytes, limit-whole}
use Rattle.asking.proofs.reading.limit_cause.Goals as goal

pub returns-then-whole : goal.returns-then-whole
returns-then-whole c = search limit-whole

pub returns-else-whole : goal.returns-else-whole
returns-else-whole c = search limit-bytes
