use mathlib.Core.Path.{◌≡◌}
use Prim.Native.Nat.{◌-◌, ◌*◌, ◌≤◌}
use Rattle.limits.specs.Limits.{card_bytes}
use Rattle.queries.specs.Replies.{same_from}
use Rattle.queries.proofs.replies.same_cards.Given as goal

abbrev pub invariant-loop-i : goal.invariant-loop-i
invariant-loop-i l = (l.i ≤ card_bytes) × (same_from l.cards (card_bytes * l.a) (card_bytes * l.b) l.i (card_bytes - l.i) ≡ same_from l.cards (card_bytes * l.a) (card_bytes * l.b) 0 card_bytes)
