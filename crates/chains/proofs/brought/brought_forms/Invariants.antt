use Rattle.chains.proofs.Bringing.{Brings}
use Rattle.chains.proofs.brought.brought_forms.Given as goal

abbrev pub invariant-loop-i : goal.invariant-loop-i
invariant-loop-i l =
    Brings l.file l.refs l.store l.store.declared l.n l.first l.count l.initial.words l.words l.i
