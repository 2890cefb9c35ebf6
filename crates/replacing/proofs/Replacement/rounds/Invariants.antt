use mathlib.Core.Path.{◌≡◌}
use lib.ListN.{length}
use Rattle.replacing.specs.Round.{Rounding}
use Rattle.replacing.proofs.Replacement.rounds.Given as goal

abbrev pub invariant-loop-turns : goal.invariant-loop-turns
invariant-loop-turns l =
    Rounding l.initial.a l.len l.self.n l.self.template.now l.self.tlen l.self.shapes.now l.a l.size × (length l.table ≡ length l.initial.table) × (length l.env ≡ length l.initial.env) × (length l.filled ≡ length l.initial.filled)
