use Rattle.streaming.proofs.HereCases.{row_fits, word_fits, word_small}
use borrow.Author.Rules.{rules}
use Rattle.streaming.proofs.here.last_place.Goals as goal

pub overflow_mul-result : goal.overflow_mul-result
overflow_mul-result c = search (rules, row_fits)

pub overflow_add-result : goal.overflow_add-result
overflow_add-result c = search (rules, word_fits)

pub returns : goal.returns
returns c = search (rules, word_small)
