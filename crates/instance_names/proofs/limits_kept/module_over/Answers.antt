use Rattle.instance_names.proofs.Turns.{module-absent, module-defined, module-many}
use borrow.Author.Rules.{rules}
use Rattle.instance_names.proofs.limits_kept.module_over.Goals as goal

pub returns-then-x : goal.returns-then-x
returns-then-x c = search (rules, module-absent)

pub returns-then-definitions-n-gt-DEFINITIONS : goal.returns-then-definitions-n-gt-DEFINITIONS
returns-then-definitions-n-gt-DEFINITIONS c = search (rules, module-many)

pub returns : goal.returns
returns c = search (rules, module-defined)
