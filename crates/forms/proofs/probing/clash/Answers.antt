use Rattle.forms.proofs.Probes.{clash-first, clash-second, clash-both, pair-low}
use borrow.Author.Rules.{rules}
use Rattle.forms.proofs.probing.clash.Goals as goal

pub returns-then-verdict : goal.returns-then-verdict
returns-then-verdict c = search (rules, clash-first)

pub returns-then-verdict-2 : goal.returns-then-verdict-2
returns-then-verdict-2 c = search (rules, clash-second)

pub verdict-requires-3 : goal.verdict-requires-3
verdict-requires-3 c = search (rules, pair-low)

pub returns : goal.returns
returns c = search (rules, clash-both)
