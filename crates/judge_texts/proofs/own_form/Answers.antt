use Rattle.judge_texts.proofs.Answers.{own-numbers}
use Rattle.judge_texts.proofs.own_form.Goals as goal

pub returns : goal.returns
returns c = search own-numbers
