-- `put_lines`: line after line.
use Rattle.lines.proofs.Lines.{lined-done, lined-length, lined-start, lined-turn}
use borrow.Author.Rules.{rules}
use Rattle.lines.proofs.listing.put_lines.Goals as goal

pub loop-g-init : goal.loop-g-init
loop-g-init c = lined-start _ _ _ _ _ _

pub put_line-next-requires : goal.put_line-next-requires
put_line-next-requires c = search (rules, lined-length c.loop-g.invariant)

pub loop-g-preserved : goal.loop-g-preserved
loop-g-preserved c = search (rules, lined-turn)

pub shape_of-out : goal.shape_of-out
shape_of-out c = search (rules, lined-length)

pub returns : goal.returns
returns c = lined-done c.loop-g.invariant (search rules) (search rules) (search rules)
