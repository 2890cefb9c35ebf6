use Rattle.fields.proofs.Substituting.{substitution-there}
use Rattle.fields.proofs.substitutions.substitution_at.Goals as goal

pub returns : goal.returns
returns c = search substitution-there
