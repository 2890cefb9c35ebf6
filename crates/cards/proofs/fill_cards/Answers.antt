use mathlib.Core.Path.{refl}
use Rattle.cards.proofs.Cards.{card-turn, cards-done}
use borrow.Author.Rules.{rules}
use Rattle.cards.proofs.fill_cards.Goals as goal

pub loop-g-init : goal.loop-g-init
loop-g-init c = (refl, search rules, refl)

pub loop-g-preserved : goal.loop-g-preserved
loop-g-preserved c = (search (rules, card-turn), search rules, search rules)

pub returns : goal.returns
returns c = search (rules, cards-done)
