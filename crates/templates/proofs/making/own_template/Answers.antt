-- `making::own_template`.
use native.Mathlib.Omega.{arith}
use Rattle.templates.proofs.Taking.{own-taken, own-taken-no}
use borrow.Author.Rules.{rules}
use Rattle.templates.proofs.making.own_template.Goals as goal

pub take_all-requires : goal.take_all-requires
take_all-requires c = (omega (arith, c.requires.0), omega (arith, c.requires.1), omega (arith, c.requires.2), search (rules, c.requires.2))

pub returns-then-tlen-work : goal.returns-then-tlen-work
returns-then-tlen-work c = own-taken _ _ _ _ _ _ _ _ (omega (arith, c.requires.3)) _ _ _ _ (omega (arith, c.requires.2)) (search rules)
    c.own_string-tlen.ensures _ _ (search rules)
    c.take_all.ensures

pub returns : goal.returns
returns c = own-taken-no _ _ _ _ _ _ _ _ (omega (arith, c.requires.3)) _ _ _ _ (omega (arith, c.requires.2)) (search rules)
    c.own_string-tlen.ensures (search rules)
