use mathlib.Core.Path.{◌∙◌, sym}
use Rattle.judge_plain.proofs.Found.{err-some}
use Rattle.judge_texts.proofs.DefinitionLaws.{definition-judging, stopped-judging}
use borrow.Author.Rules.{rules}
use Rattle.judge_texts.proofs.definitions.definition_field.Goals as goal

pub returns-in-Err : goal.returns-in-Err
returns-in-Err c = search (stopped-judging, c.number.ensures ∙ c.in-Err.ensures, err-some _ c.number.ensures)

pub define_text-requires : goal.define_text-requires
define_text-requires c = (search rules, search rules, sym c.in_default.ensures)

pub returns : goal.returns
returns c = search definition-judging
