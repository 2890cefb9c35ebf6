use Rattle.instance_names.proofs.Turns.{clash-named, clash-unnamed}
use borrow.Author.Rules.{rules}
use Rattle.instance_names.proofs.clashes.clashes.Goals as goal

pub returns-then-name-eq0 : goal.returns-then-name-eq0
returns-then-name-eq0 c = search (rules, clash-unnamed)

pub returns : goal.returns
returns c = search (rules, clash-named)
