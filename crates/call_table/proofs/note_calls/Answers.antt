use Rattle.call_table.proofs.Noting.{noting-all, noting-end, noting-few, noting-on, noting-start, sized_same}
use borrow.Author.Rules.{rules}
use Rattle.call_table.proofs.note_calls.Goals as goal

pub loop-i-init : goal.loop-i-init
loop-i-init c = (search rules, search (rules, noting-start))

pub note-rank-requires : goal.note-rank-requires
note-rank-requires c = (search rules, search (rules, noting-few), search (rules, sized_same))

pub loop-i-preserved : goal.loop-i-preserved
loop-i-preserved c = (search rules, search (rules, noting-on))

pub returns : goal.returns
returns c = (search (rules, noting-end), search (rules, noting-all))
