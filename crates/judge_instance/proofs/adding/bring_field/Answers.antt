use Rattle.judge_instance.proofs.FieldJudged.{brought-done, more, still-few}
use borrow.Author.Rules.{rules}
use Rattle.judge_instance.proofs.adding.bring_field.Goals as goal

pub forms_between-requires : goal.forms_between-requires
forms_between-requires c = (search rules, search more, search still-few)

pub returns : goal.returns
returns c = search brought-done
