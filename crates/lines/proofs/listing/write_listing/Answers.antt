-- `write_listing`: the heading and the lines.
use Rattle.lines.proofs.Lines.{listing-put}
use borrow.Author.Rules.{rules}
use Rattle.lines.proofs.listing.write_listing.Goals as goal

pub returns : goal.returns
returns c = listing-put c.args.store.now.names c.args.store.now.facts c.args.words.now c.args.n _ _ _ _ _ (search rules) c.put_heading-at.ensures c.put_lines.ensures
