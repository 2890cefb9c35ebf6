use Rattle.judge_texts.proofs.Answers.{judged-counts, room-context, room-order}
use borrow.Author.Rules.{rules}
use Rattle.judge_texts.proofs.definitions.add_text.Goals as goal

pub add_definition-counts-requires : goal.add_definition-counts-requires
add_definition-counts-requires c = (search rules, search rules, search rules, search room-context, search room-order)

pub returns : goal.returns
returns c = (search judged-counts, search rules, search rules)
