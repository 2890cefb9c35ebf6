use Prim.Native.Nat.{◌+◌, ◌-◌, ◌*◌, suc}
use Rattle.limits.specs.Limits.{max_arity}
use Rattle.context.specs.Parts.{part}
use Rattle.asking.proofs.Walking.{Going}
use Rattle.asking.proofs.walk.+walk_args.Given as goal

abbrev pub decreases-walk_args : goal.decreases-walk_args
decreases-walk_args l = l.g.nest

abbrev pub invariant-loop-k : goal.invariant-loop-k
invariant-loop-k l =
    Going l.store.names l.store.facts (part l.store.contexts l.p.from (l.p.end - l.p.from)) l.words l.p.params l.s l.fn.g.at l.fn.g.count l.fn.g.nest (record { around = l.initial.around; within = l.initial.within; label = l.initial.label; labels = l.initial.labels }) l.fn.g.form l.a l.form l.k l.nest l.around l.within l.label l.labels

abbrev pub decreases-loop-k : goal.decreases-loop-k
decreases-loop-k l =
    l.nest * suc max_arity + l.k
