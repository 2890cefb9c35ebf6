use Rattle.judge_texts.proofs.Answers.{define-few, define-walked}
use borrow.Author.Rules.{rules}
use Rattle.judge_texts.proofs.definitions.define_text.Goals as goal

pub finish_definition-requires : goal.finish_definition-requires
finish_definition-requires c = (search rules, search define-few, search rules)

pub returns : goal.returns
returns c = search define-walked
