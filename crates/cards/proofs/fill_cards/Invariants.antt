use mathlib.Core.Path.{◌≡◌}
use Prim.Native.Nat.{◌≤◌}
use lib.ListN.{length}
use Rattle.rules.specs.Run.{overwrite}
use Rattle.cards.specs.Cards.{cards_of}
use Rattle.cards.proofs.fill_cards.Given as goal

abbrev pub invariant-loop-g : goal.invariant-loop-g
invariant-loop-g l = (l.cards ≡ overwrite (cards_of l.store.facts l.words l.g) l.initial.cards) × (l.g ≤ l.n) × (length l.cards ≡ length l.initial.cards)
