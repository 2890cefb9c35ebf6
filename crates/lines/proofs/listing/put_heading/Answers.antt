-- `put_heading`: the bytes and the number.
use Rattle.lines.proofs.Lines.{heading-put}
use Rattle.lines.proofs.listing.put_heading.Goals as goal

pub returns : goal.returns
returns c = heading-put c.args.n _ _ _ _ _ _ _ _ _ c.put_byte-o.ensures c.put_byte-k.ensures c.put_byte-next.ensures c.put_number.ensures
