use borrow.Author.Rules.{rules}
use Rattle.call_table.proofs.Ending.{ending-end, ending-failed, ending-on, ending-start}
use Rattle.call_table.proofs.Noting.{sized_same}
use Rattle.call_table.proofs.end_calls.Goals as goal

pub loop-r-init : goal.loop-r-init
loop-r-init c = search (rules, ending-start)

pub end_call-requires : goal.end_call-requires
end_call-requires c = (search (rules, sized_same), search rules, search rules)

pub returns-then-not-end_call : goal.returns-then-not-end_call
returns-then-not-end_call c = search (rules, ending-failed)

pub loop-r-preserved : goal.loop-r-preserved
loop-r-preserved c = search (rules, ending-on)

pub returns : goal.returns
returns c = search (rules, ending-end)
