use Rattle.chains.proofs.Along.{Along}
use Rattle.chains.proofs.world.walk_chain.Given as goal

abbrev pub invariant-loop-numbers : goal.invariant-loop-numbers
invariant-loop-numbers l =
    Along l.file l.refs l.initial.inner l.store l.store.declared l.n l.d l.numbers l.inner l.outer l.cur

abbrev pub decreases-loop-numbers : goal.decreases-loop-numbers
decreases-loop-numbers l = l.cur
