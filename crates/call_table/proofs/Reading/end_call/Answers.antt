use borrow.Author.Rules.{rules}
use Rattle.call_table.proofs.Ending.{putting-end, putting-failed, putting-on, putting-start}
use Rattle.call_table.proofs.Noting.{sized_same}
use Rattle.call_table.proofs.Reading.end_call.Goals as goal

pub loop-i-init : goal.loop-i-init
loop-i-init c = search (rules, putting-start)

pub put_end-requires : goal.put_end-requires
put_end-requires c = (search (rules, sized_same), search rules, search rules, search rules)

pub returns-in_default : goal.returns-in_default
returns-in_default c = search (rules, putting-failed)

pub loop-i-preserved : goal.loop-i-preserved
loop-i-preserved c = search (rules, putting-on)

pub returns : goal.returns
returns c = search (rules, putting-end)
