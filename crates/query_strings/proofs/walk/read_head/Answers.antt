use mathlib.Core.Path.{refl}
use Rattle.query_strings.proofs.Reading.{head-put}
use Rattle.query_strings.proofs.walk.read_head.Goals as goal

pub returns : goal.returns
returns c = head-put _ _ _ _ _ _ _ _ _ _ _ _ _ _ _ c.look-l.ensures c.number_of-r.ensures refl refl c.head-rest.ensures
