use mathlib.Core.Path.{refl}
use native.Mathlib.Omega.{arith}
use Prim.Native.Nat.{◌≤◌}
use Rattle.context.proofs.Search.{place_end, place-hit, place-next}
use Rattle.context.proofs.lists.place_of.Goals as goal

pub loop-i-init : goal.loop-i-init
loop-i-init c = refl

pub returns-then-x-head_at : goal.returns-then-x-head_at
returns-then-x-head_at c = search place-hit

pub loop-i-preserved : goal.loop-i-preserved
loop-i-preserved c = search place-next

pub returns : goal.returns
returns c = let h : c.loop-i.i ≤ c.args.end = omega arith in search place_end
