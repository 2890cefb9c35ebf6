use Prim.Native.Nat.{◌-◌}
use native.Mathlib.Omega.{arith}
use Rattle.streaming.proofs.HereCases.{index-own, index-past}
use borrow.Author.Rules.{rules}
use Rattle.streaming.proofs.here.shifted_index.Goals as goal

pub overflow_cast-before : goal.overflow_cast-before
overflow_cast-before c = omega (arith, c.shared_slice_known-then-i-d-1.given (c.args.d - 1 - c.args.j))

pub returns-then-i-d : goal.returns-then-i-d
returns-then-i-d c = search (rules, index-own)

pub returns : goal.returns
returns c = search (rules, index-past)
