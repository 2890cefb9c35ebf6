use Rattle.strings.proofs.Cases.{called-no, called-yes}
use Rattle.strings.proofs.definition_number.Goals as goal

pub returns-then-n-lt-DEFINITIONS : goal.returns-then-n-lt-DEFINITIONS
returns-then-n-lt-DEFINITIONS c = search called-yes

pub returns-else-n-lt-DEFINITIONS : goal.returns-else-n-lt-DEFINITIONS
returns-else-n-lt-DEFINITIONS c = search called-no
