use Rattle.fields.proofs.Substituting.{in-fits, in-room, substitution-bad, substitution-end, substitution-next}
use borrow.Author.Rules.{rules}
use Rattle.fields.proofs.substitutions.substitutions_fit.Goals as goal

pub overflow_add-at : goal.overflow_add-at
overflow_add-at c = search in-fits

pub loop-i-preserved : goal.loop-i-preserved
loop-i-preserved c = (search in-room, search substitution-next)

pub returns : goal.returns
returns c = search substitution-end

pub returns-then-not-substitution_fits : goal.returns-then-not-substitution_fits
returns-then-not-substitution_fits c = search (substitution-bad, rules)
