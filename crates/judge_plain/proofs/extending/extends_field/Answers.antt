use mathlib.Core.Path.{◌∙◌, refl}
use borrow.Author.Rules.{rules}
use Rattle.judge_plain.proofs.Extensions.{extends-refused, extends-taken, startable}
use Rattle.judge_plain.proofs.Found.{err-some}
use Rattle.judge_plain.proofs.extending.extends_field.Goals as goal

pub returns-in-Err : goal.returns-in-Err
returns-in-Err c =
    extends-refused _ _ _ _ _ _ _ c.requires.1 (c.number.ensures ∙ c.in-Err.ensures) _ (err-some _ c.number.ensures)
    c.refused.ensures

pub extend_open-requires : goal.extend_open-requires
extend_open-requires c =
    (startable _ _ _ _ _ c.requires.0 c.in_default.ensures refl, search rules, search rules, search rules, search rules)

pub returns : goal.returns
returns c =
    extends-taken _ _ _ _ _ _ _ c.requires.1 c.in_default.ensures _ _ refl c.extend_open.ensures.0
    c.extend_open.ensures.1 c.requires.3
