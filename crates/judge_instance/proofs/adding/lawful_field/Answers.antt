use mathlib.Core.Path.{refl}
use Rattle.judge_plain.proofs.Found.{err-some, refused-by}
use mathlib.Core.Path.{refl}
use Rattle.judge_instance.proofs.FieldJudged.{lawful-brought, lawful-not}
use Rattle.judge_instance.proofs.adding.lawful_field.Goals as goal

pub returns-in-Err : goal.returns-in-Err
returns-in-Err c = lawful-not _ _ _ _ _ _ _ _ _ _ _ _ _ c.in-Err.ensures _ (err-some _ refl) (refused-by c.refused.ensures c.number.ensures) refl

pub returns : goal.returns
returns c = lawful-brought _ _ _ _ _ _ _ _ _ _ _ _ _ c.in_default.ensures _ _ _ refl c.bring_field.ensures refl
