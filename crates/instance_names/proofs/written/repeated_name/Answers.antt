use mathlib.Core.Path.{refl}
use Rattle.instance_names.proofs.Turns.{repeated-end, repeated-hit, repeated-next, repeated-past}
use borrow.Author.Rules.{rules}
use Rattle.instance_names.proofs.written.repeated_name.Goals as goal

pub loop-left-init : goal.loop-left-init
loop-left-init c = refl

pub returns-then-file-at : goal.returns-then-file-at
returns-then-file-at c = search (rules, repeated-past)

pub returns-then-is_written : goal.returns-then-is_written
returns-then-is_written c = search (rules, repeated-hit)

pub loop-left-preserved : goal.loop-left-preserved
loop-left-preserved c = search (rules, repeated-next)

pub returns : goal.returns
returns c = search (rules, repeated-end)
