use Rattle.tokens.proofs.Places.{fits}
use Rattle.levels.proofs.Walking.{steps-token, steps-nothing}
use borrow.Author.Rules.{rules}
use Rattle.levels.proofs.meaning.Meanings.any_step.Goals as goal

pub overflow_add-next : goal.overflow_add-next
overflow_add-next c = search fits

pub returns : goal.returns
returns c = search (rules, steps-token)

pub returns-in_default : goal.returns-in_default
returns-in_default c = search (rules, steps-nothing)
