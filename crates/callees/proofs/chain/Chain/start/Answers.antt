-- `Chain::start`.
use Rattle.chains.proofs.Copies.{itselves}
use Rattle.callees.proofs.Going.{chain-started}
use Rattle.callees.proofs.chain.Chain.start.Goals as goal

pub returns : goal.returns
returns c = chain-started _ _ _ _ c.args.self.now.currents c.args.self.now.outers c.put_row.ensures
    (itselves _ c.identity.ensures) c.args.self.now.sized.currents_size c.args.self.now.sized.outers_size
