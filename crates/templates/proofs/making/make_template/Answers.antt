-- `making::make_template`.
use native.Mathlib.Omega.{arith}
use Rattle.templates.proofs.Template.{template-made}
use Rattle.templates.proofs.making.make_template.Goals as goal

pub own_template-requires : goal.own_template-requires
own_template-requires c = (omega (arith, c.requires.0), omega (arith, c.requires.4), omega (arith, c.requires.5), omega (arith, c.prepare-k.ensures.few))

pub returns : goal.returns
returns c = template-made _ _ _ _ _ _ _ _ _ _ _ _ _ _ c.prepare-k.ensures
    c.own_template.ensures
