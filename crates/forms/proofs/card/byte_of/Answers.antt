use Rattle.forms.proofs.Laying.{mask-byte-at, pair-byte-at, last-byte-at}
use borrow.Author.Rules.{rules}
use Rattle.forms.proofs.card.byte_of.Goals as goal

pub returns-then-k-lt11 : goal.returns-then-k-lt11
returns-then-k-lt11 c = mask-byte-at c.args.card (search rules) c.args.k (search rules) (search rules)

pub returns-then-k-lt15 : goal.returns-then-k-lt15
returns-then-k-lt15 c = search (rules, pair-byte-at)

pub returns : goal.returns
returns c = search (rules, last-byte-at)
