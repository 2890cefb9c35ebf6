-- `implied::implied_ref`: a case for each kind of operator.
use Rattle.entering.specs.Implied.{implied_ref}
use Rattle.entering.proofs.Implying.{ref-constant, ref-variable, ref-defined, ref-unknown}
use borrow.Author.Rules.{rules}
use Rattle.entering.proofs.implied.implied_ref.Goals as goal

pub returns-in-Some-Constant : goal.returns-in-Some-Constant
unfolding implied_ref
returns-in-Some-Constant c = search (rules, ref-constant)

pub returns-in-Some-Variable : goal.returns-in-Some-Variable
unfolding implied_ref
returns-in-Some-Variable c = search (rules, ref-variable)

pub returns-in-Some-Defined : goal.returns-in-Some-Defined
unfolding implied_ref
returns-in-Some-Defined c = search ref-defined

pub returns-in-None : goal.returns-in-None
unfolding implied_ref
returns-in-None c = search (rules, ref-unknown)
