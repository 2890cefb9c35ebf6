-- `put_line`: its parts.
use Rattle.lines.proofs.Lines.{line-put}
use Rattle.lines.proofs.listing.put_line.Goals as goal

pub returns : goal.returns
returns c = line-put c.args.store.now.names c.args.store.now.facts c.args.words.now c.args.g _ _ _ _ _ _ _ _ _ _ _ _ c.params_at-k.ensures.0 c.form_at-f.ensures c.put_names-named.ensures c.put_number-counted.ensures c.put_card-shown.ensures c.put_byte.ensures
