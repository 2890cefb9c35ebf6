use Rattle.resolve.proofs.Looking.{numbered, not-numbered}
use Rattle.resolve.proofs.lookup.of_declaration.Goals as goal

pub returns-then-d-lt-DECLARATIONS : goal.returns-then-d-lt-DECLARATIONS
returns-then-d-lt-DECLARATIONS c = search numbered

pub returns-else-d-lt-DECLARATIONS : goal.returns-else-d-lt-DECLARATIONS
returns-else-d-lt-DECLARATIONS c = search not-numbered
