-- `strings::standin_string`.
use Rattle.callees.proofs.Rowing.{row-between}
use Rattle.callees.proofs.Telling.{standin-string}
use Rattle.callees.proofs.strings.standin_string.Goals as goal

pub returns : goal.returns
returns c = standin-string _ _ _ _ _ _ _ _ _ _ _ _ _ _ _ _ c.at_most-cur.ensures c.at_most-outer.ensures
    (row-between c.args.chain.now.numbers c.args.l) c.link_string.ensures
