use Rattle.judge_plain.proofs.Extensions.{joined_once, joined-twice}
use Rattle.judge_plain.proofs.extending.joined_field.Goals as goal

pub returns-then-has_repeated_name : goal.returns-then-has_repeated_name
returns-then-has_repeated_name c = search joined-twice

pub returns : goal.returns
returns c = search joined_once
