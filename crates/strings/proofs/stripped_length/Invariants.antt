use Prim.Native.Nat.{◌+◌, ◌-◌, ◌≤◌, min}
use mathlib.Core.Path.{◌≡◌}
use lib.ListN.{length}
use Rattle.symbols.specs.Symbol.{strip}
use Rattle.strings.specs.Read.{string_at}
use Rattle.strings.proofs.stripped_length.Given as goal

abbrev pub invariant-loop-i : goal.invariant-loop-i
invariant-loop-i l = (l.end ≡ min l.n (length l.s)) × (l.i ≤ l.end + 3) × (l.q ≤ l.i) × (l.q + length (strip (string_at l.s l.i l.n)) ≡ length (strip (string_at l.s 0 l.n)))

abbrev pub decreases-loop-i : goal.decreases-loop-i
decreases-loop-i l = l.end - l.i
