use Prim.Native.Nat.{◌+◌, ◌-◌, ◌*◌, suc}
use Rattle.limits.specs.Limits.{max_arity}
use Rattle.context.specs.Parts.{part}
use Rattle.skimming.proofs.Walking.{Going}
use Rattle.skimming.proofs.+skim_args.Given as goal

abbrev pub decreases-skim_args : goal.decreases-skim_args
decreases-skim_args l = l.g.nest

abbrev pub invariant-loop-k : goal.invariant-loop-k
invariant-loop-k l =
    Going l.store.names l.store.facts (part l.store.contexts l.p.from (l.p.end - l.p.from)) l.p.params l.s l.fn.g.at l.fn.g.count l.fn.g.nest l.fn.g.around l.fn.g.within l.a l.k l.nest l.outer l.last

abbrev pub decreases-loop-k : goal.decreases-loop-k
decreases-loop-k l =
    l.nest * suc max_arity + l.k
