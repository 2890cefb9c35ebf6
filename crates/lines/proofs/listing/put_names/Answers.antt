-- `put_names`: three numbers.
use Rattle.lines.proofs.Lines.{names-put}
use Rattle.lines.proofs.listing.put_names.Goals as goal

pub returns : goal.returns
returns c = names-put c.args.store.now.names c.args.store.now.facts c.args.g _ _ _ _ _ _ _ _ _ _ c.via_at-via.ensures c.name_at-name.ensures c.put_number-next.ensures c.put_number-more.ensures c.put_number.ensures
