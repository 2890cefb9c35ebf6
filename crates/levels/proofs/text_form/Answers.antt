use Rattle.levels.proofs.Walking.{fits-start, text-shown}
use borrow.Author.Rules.{rules}
use Rattle.levels.proofs.text_form.Goals as goal

pub walk_args-requires : goal.walk_args-requires
walk_args-requires c = search (rules, fits-start)

pub returns : goal.returns
returns c = text-shown _ _ _ _ _ c.walk_args.ensures
