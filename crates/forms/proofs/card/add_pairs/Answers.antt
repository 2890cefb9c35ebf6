use Rattle.forms.proofs.Finding.{pair-room, pair-start, pair_turn, pair_end}
use borrow.Author.Rules.{rules}
use Rattle.forms.proofs.card.add_pairs.Goals as goal

pub loop-i-init : goal.loop-i-init
loop-i-init c = search (rules, pair-start)

pub with_bit-pairs-requires : goal.with_bit-pairs-requires
with_bit-pairs-requires c = search (rules, pair-room)

pub loop-i-preserved : goal.loop-i-preserved
loop-i-preserved c = search (rules, pair_turn)

pub returns : goal.returns
returns c = search (rules, pair_end)
