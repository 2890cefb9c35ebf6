use Rattle.context.specs.Entries.{context_codes}
use Rattle.entering.specs.Substitutes.{Substituted, around}
use Rattle.entering.proofs.substitutes.enter_substitutes.Given as goal

abbrev pub invariant-loop-d : goal.invariant-loop-d
invariant-loop-d l =
    Substituted (around l.s l.refs l.numbers l.words l.store.names l.store.facts l.store.contexts l.store.heads) l.site
    (context_codes l.store.contexts l.store.heads l.q) l.store.declared l.d l.initial.next l.next
