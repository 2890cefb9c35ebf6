-- `replacing::replace`: the words copied are the forms.
use Rattle.entering.proofs.Copying.{replaced}
use Rattle.entering.proofs.replacing.replace.Goals as goal

pub returns : goal.returns
returns c = search replaced
