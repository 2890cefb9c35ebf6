-- `sharing::same_kind_lem`: the names are one and the kinds decide, or the names differ.
use Rattle.entering.proofs.Copied.{kinds-told, names-differ}
use Rattle.entering.proofs.sharing.same_kind.Goals as goal

pub returns-then-name_at : goal.returns-then-name_at
returns-then-name_at c = search kinds-told

pub returns : goal.returns
returns c = search names-differ
