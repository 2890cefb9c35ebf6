-- `strings::own_string`.
use Rattle.callees.proofs.Rowing.{row-between}
use Rattle.callees.proofs.Telling.{own-string}
use Rattle.callees.proofs.strings.own_string.Goals as goal

pub returns : goal.returns
returns c = own-string _ _ _ _ _ _ _ _ _ _ _ _ _ _ _ _ c.at_most-cur.ensures c.at_most-outer.ensures c.text_of-at.ensures
    (row-between c.args.chain.now.numbers c.args.k) c.text_string.ensures
