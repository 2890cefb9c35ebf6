-- `making::take_out`.
use mathlib.Core.Path.{refl}
use native.Mathlib.Omega.{arith}
use Rattle.templates.proofs.Taking.{taken_out}
use borrow.Author.Rules.{rules}
use Rattle.templates.proofs.making.take_out.Goals as goal

pub returns : goal.returns
returns c = taken_out _ _ _ _ _ _ _ _ _ _ _ _ _ _ _ _ _ _ (omega (arith, c.requires.4)) refl refl c.standin_string-tlen.ensures (omega (arith, c.requires.0)) (search rules)
    c.rewrite.ensures
