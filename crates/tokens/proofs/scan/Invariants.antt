use mathlib.Core.Path.{◌≡◌}
use Prim.Native.Nat.{◌-◌, ◌≤◌}
use lib.ListN.{length}
use Rattle.tokens.specs.Expr.{whole_of}
use Rattle.tokens.proofs.Scanning.{whole_from}
use Rattle.tokens.proofs.scan.Given as goal

abbrev pub invariant-loop-due : goal.invariant-loop-due
invariant-loop-due l = (l.at ≤ length l.s) × (whole_of l.s ≡ whole_from l.s l.at l.due)

abbrev pub decreases-loop-due : goal.decreases-loop-due
decreases-loop-due l = length l.s - l.at
