use Rattle.strings.proofs.Cases.{call-above, call_below, call-here, call-near}
use borrow.Author.Rules.{rules}
use Rattle.strings.proofs.call_sign.Goals as goal

pub returns-then-tag-lt6 : goal.returns-then-tag-lt6
returns-then-tag-lt6 c = (search call_below, search rules, search rules)

pub returns-then-tag-le10 : goal.returns-then-tag-le10
returns-then-tag-le10 c = (search call-here, search call-near, search rules)

pub returns-else-tag-le10 : goal.returns-else-tag-le10
returns-else-tag-le10 c = (search call-above, search rules, search rules)
