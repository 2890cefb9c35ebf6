use mathlib.Core.Path.{refl}
use Rattle.judge_plain.proofs.Found.{err-some, refused-by}
use Rattle.judge_instance.proofs.FieldJudged.{asks-names, bringable, judging-lawful, judging-names}
use Rattle.judge_instance.proofs.instance_field.Goals as goal

pub instance_cause-requires : goal.instance_cause-requires
instance_cause-requires c = search asks-names

pub returns-in-Err : goal.returns-in-Err
returns-in-Err c = judging-names _ _ _ _ _ _ _ _ _ _ _ _ _ c.in-Err.ensures _ (err-some _ refl) (refused-by c.refused.ensures c.number.ensures)

pub lawful_field-requires : goal.lawful_field-requires
lawful_field-requires c = bringable _ _ _ _ _ _ _ _ _ _ _ c.requires _ _ c.in_default.ensures refl _
    c.find_module-q.ensures

pub returns : goal.returns
returns c =
    judging-lawful _ _ _ _ _ _ _ _ _ _ _ _ _ c.in_default.ensures refl _ c.find_module-q.ensures _ _ _ c.lawful_field.ensures
