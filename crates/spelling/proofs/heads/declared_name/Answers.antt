use Rattle.spelling.proofs.Heading.{name-there}
use Rattle.spelling.proofs.heads.declared_name.Goals as goal

pub returns : goal.returns
returns c = search name-there
