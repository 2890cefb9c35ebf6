use Rattle.instance_names.proofs.Turns.{stands-not, stands-unwritten}
use borrow.Author.Rules.{rules}
use Rattle.instance_names.proofs.implied.stands_for_itself.Goals as goal

pub returns-then-is_declared : goal.returns-then-is_declared
returns-then-is_declared c = search (rules, stands-unwritten)

pub returns-else-is_declared : goal.returns-else-is_declared
returns-else-is_declared c = search (rules, stands-not)
