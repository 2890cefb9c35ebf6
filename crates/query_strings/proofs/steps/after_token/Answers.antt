-- `steps::after_token`: a token that stands in the bytes ends in them.
use mathlib.Core.Path.{refl}
use Rattle.tokens.proofs.Places.{fits}
use borrow.Author.Rules.{rules}
use Rattle.query_strings.proofs.steps.after_token.Goals as goal

pub overflow_add-result : goal.overflow_add-result
overflow_add-result c = fits _ _ _ _ _ refl c.requires c.width.ensures (search rules)
