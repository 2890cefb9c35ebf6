use Rattle.replacing.proofs.Rounding.{noted-lost, noted-ran}
use Rattle.replacing.proofs.Running.{sized_same}
use borrow.Author.Rules.{rules}
use Rattle.replacing.proofs.Replacement.replace_noted.Goals as goal

pub run-requires : goal.run-requires
run-requires c = search (rules, sized_same)

pub returns-then-not-end_calls : goal.returns-then-not-end_calls
returns-then-not-end_calls c = search noted-lost

pub returns : goal.returns
returns c = search (rules, noted-ran)
