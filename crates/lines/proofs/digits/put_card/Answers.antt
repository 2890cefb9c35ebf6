use native.Mathlib.Omega.{arith}
use Rattle.lines.proofs.Spelling.{spelt-start, spelt-turn, spelt-length, spelt-room, spelt-done}
use borrow.Author.Rules.{rules}
use Rattle.lines.proofs.digits.put_card.Goals as goal

pub loop-k-init : goal.loop-k-init
loop-k-init c = spelt-start _ _ _ _

pub put_hex-next-requires : goal.put_hex-next-requires
put_hex-next-requires c = omega (arith, spelt-length c.loop-k.invariant, spelt-room c.loop-k.invariant (search rules))

pub loop-k-preserved : goal.loop-k-preserved
loop-k-preserved c = search (rules, spelt-turn)

pub shape_of-out : goal.shape_of-out
shape_of-out c = search (rules, spelt-length)

pub returns : goal.returns
returns c = spelt-done c.loop-k.invariant c.requires.0 c.loop-k-test.false
