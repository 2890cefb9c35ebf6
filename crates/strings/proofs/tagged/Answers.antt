use Rattle.strings.proofs.Cases.{narrow, tag-begin, tag-code, tag-name, tag-number, tag-other, tag-par, tag-var}
use borrow.Author.Rules.{rules}
use Rattle.strings.proofs.tagged.Goals as goal

pub returns-in-0 : goal.returns-in-0
returns-in-0 c = (search tag-par, search rules, search rules)

pub returns-in-1 : goal.returns-in-1
returns-in-1 c = (search tag-var, search rules, search narrow)

pub returns-in-2 : goal.returns-in-2
returns-in-2 c = (search tag-name, search rules, search rules)

pub returns-in-4 : goal.returns-in-4
returns-in-4 c = (search tag-code, search rules, search rules)

pub returns-in-5 : goal.returns-in-5
returns-in-5 c = (search tag-number, search rules, search rules)

pub returns-in-11 : goal.returns-in-11
returns-in-11 c = (search tag-begin, search rules, search rules)

pub returns-in_default : goal.returns-in_default
returns-in_default c = (search tag-other, search rules, search rules)
