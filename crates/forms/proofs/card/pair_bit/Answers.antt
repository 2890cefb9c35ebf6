use Rattle.forms.proofs.Finding.{product-low}
use native.Mathlib.Omega.{arith}
use Rattle.forms.proofs.card.pair_bit.Goals as goal

pub overflow_mul-result : goal.overflow_mul-result
overflow_mul-result c = omega (arith, product-low c.args.j c.requires.1)

pub overflow_add-result : goal.overflow_add-result
overflow_add-result c = omega (arith, product-low c.args.j c.requires.1)

pub overflow_cast-result : goal.overflow_cast-result
overflow_cast-result c = omega (arith, product-low c.args.j c.requires.1)

pub returns : goal.returns
returns c = omega (arith, product-low c.args.j c.requires.1)
