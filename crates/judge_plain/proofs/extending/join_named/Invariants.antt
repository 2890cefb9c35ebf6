use Prim.Native.Nat.{◌+◌, ◌-◌, ◌*◌}
use lib.ListN.{length}
use mathlib.Core.Path.{◌≡◌}
use Rattle.agree.specs.Parts.{names_at}
use Rattle.judge_plain.proofs.Joins.{Joining}
use Rattle.judge_plain.proofs.extending.join_named.Given as goal

abbrev pub invariant-loop-i : goal.invariant-loop-i
invariant-loop-i l = Joining l.initial.store l.store l.marks l.tally l.c (names_at l.file l.list.at l.list.count) (names_at l.file (l.list.at + 2 * l.i) (l.list.count - l.i)) × (length l.marks ≡ length l.initial.marks) × (length l.tally ≡ length l.initial.tally)
