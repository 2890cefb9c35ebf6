use Rattle.strings.proofs.Cases.{bit-par}
use Rattle.strings.proofs.parameter_bit.Goals as goal

pub returns-in-Par : goal.returns-in-Par
returns-in-Par c = search bit-par
