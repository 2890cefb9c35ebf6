use Rattle.streaming.proofs.HereCases.{enters, word-inside, word-inside-after}
use borrow.Author.Rules.{rules}
use Rattle.streaming.proofs.here.enter_call.Goals as goal

pub put_word-requires : goal.put_word-requires
put_word-requires c = (search (rules, word-inside), search rules)

pub put_word-requires-2 : goal.put_word-requires-2
put_word-requires-2 c = (search (rules, word-inside-after), search rules)

pub returns : goal.returns
returns c = search enters
