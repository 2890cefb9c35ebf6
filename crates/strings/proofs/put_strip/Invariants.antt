use Prim.Native.Nat.{◌+◌, ◌-◌, ◌≤◌, min}
use mathlib.Core.Path.{◌≡◌}
use lib.ListN.{length}
use lib.Seq.{sets}
use Rattle.symbols.specs.Symbol.{strip}
use Rattle.strings.specs.Read.{string_at}
use Rattle.strings.proofs.put_strip.Given as goal

abbrev pub invariant-loop-i : goal.invariant-loop-i
invariant-loop-i l = (l.end ≡ min l.n (length l.s)) × (l.i ≤ l.end + 3) × (length l.out ≡ length l.initial.out) × (l.q + length (strip (string_at l.s l.i l.n)) ≡ length (strip (string_at l.s 0 l.n))) × (sets l.out l.q (strip (string_at l.s l.i l.n)) ≡ sets l.initial.out 0 (strip (string_at l.s 0 l.n)))

abbrev pub decreases-loop-i : goal.decreases-loop-i
decreases-loop-i l = l.end - l.i
