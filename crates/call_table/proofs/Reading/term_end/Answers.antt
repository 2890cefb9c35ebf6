use Rattle.call_table.proofs.Passing.{not_done, walking-done, walking-failed, walking-less, walking_on, walking-over, walking_start}
use borrow.Author.Rules.{rules}
use Rattle.call_table.proofs.Reading.term_end.Goals as goal

pub loop-w-init : goal.loop-w-init
loop-w-init c = search (rules, walking_start)

pub pass-requires : goal.pass-requires
pass-requires c = (search rules, search rules, search rules, search (rules, not_done))

pub returns-in_err-w : goal.returns-in_err-w
returns-in_err-w c = search (rules, walking-failed)

pub loop-w-smaller : goal.loop-w-smaller
loop-w-smaller c = search (rules, walking-less, c.in_ok-w.was)

pub loop-w-preserved : goal.loop-w-preserved
loop-w-preserved c = search (rules, walking_on, c.in_ok-w.was)

pub returns-then-done : goal.returns-then-done
returns-then-done c = search (rules, walking-done)

pub returns-after-loop-w : goal.returns-after-loop-w
returns-after-loop-w c = search (rules, walking-over)
