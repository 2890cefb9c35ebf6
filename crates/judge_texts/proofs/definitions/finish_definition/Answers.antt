use mathlib.Core.Path.{◌∙◌}
use Rattle.judge_plain.proofs.Found.{err-some}
use Rattle.judge_texts.proofs.Answers.{finish-added, finish-wrong}
use Rattle.judge_texts.proofs.definitions.finish_definition.Goals as goal

pub returns-in-Err : goal.returns-in-Err
returns-in-Err c = search (finish-wrong, c.number.ensures ∙ c.in-Err.ensures, err-some _ c.number.ensures)

pub returns : goal.returns
returns c = search (finish-added, c.in_default.ensures)
