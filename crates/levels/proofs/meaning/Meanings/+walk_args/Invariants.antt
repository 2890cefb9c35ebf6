use Prim.Native.Nat.{◌+◌, ◌*◌}
use Rattle.levels.proofs.Walking.{Going, inherit}
use Rattle.levels.specs.Meant.{meant}
use Rattle.levels.proofs.meaning.Meanings.+walk_args.Given as goal

abbrev pub decreases-walk_args : goal.decreases-walk_args
decreases-walk_args l = l.nesting

abbrev pub invariant-loop-k : goal.invariant-loop-k
invariant-loop-k l =
    Going (meant l.self) l.s l.at l.count l.nesting (inherit l.initial.around l.initial.within l.initial.label l.initial.labels) l.before l.form l.pos l.k l.nest l.around l.within l.label l.labels

abbrev pub decreases-loop-k : goal.decreases-loop-k
decreases-loop-k l =
    l.nest * 256 + l.k
