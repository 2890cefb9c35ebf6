use mathlib.Core.Path.{refl}
use native.Mathlib.Omega.{arith}
use Rattle.queries.proofs.SameCards.{same_differs, same_end, same_next}
use borrow.Author.Rules.{rules}
use Rattle.queries.proofs.replies.same_cards.Goals as goal

pub loop-i-init : goal.loop-i-init
loop-i-init c = (omega arith, refl)

pub returns-then-cards-a : goal.returns-then-cards-a
returns-then-cards-a c = search same_differs

pub loop-i-preserved : goal.loop-i-preserved
loop-i-preserved c = (search rules, search same_next)

pub returns : goal.returns
returns c = search same_end
