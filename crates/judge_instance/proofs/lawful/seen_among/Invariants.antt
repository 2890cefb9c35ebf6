use Prim.Native.Nat.{◌-◌, ◌*◌}
use Rattle.limits.specs.Sizes.{context_length}
use Rattle.context.specs.Parts.{part}
use Rattle.context.specs.Entries.{context_codes}
use Rattle.entering.specs.Substitutes.{around}
use Rattle.judge_instance.proofs.LevelCases.{SeenLeft}
use Rattle.judge_instance.proofs.lawful.seen_among.Given as goal

abbrev pub invariant-loop-i : goal.invariant-loop-i
invariant-loop-i l =
    SeenLeft (around l.s l.refs l.numbers l.words l.store.names l.store.facts l.store.contexts l.store.heads) l.w.site
    (context_codes l.store.contexts l.store.heads l.w.q) l.w.constant l.seen (part l.store.contexts l.i (l.end - l.i))
    (part l.store.contexts (l.w.q * context_length) (l.end - l.w.q * context_length))
