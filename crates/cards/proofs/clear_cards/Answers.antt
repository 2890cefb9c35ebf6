use Prim.Native.Nat.{ℕ, ◌<◌}
use mathlib.Core.Path.{◌∙◌, ◌≡◌}
use lib.ListN.{get_or}
use lib.Seq.{length-take-le}
use Rattle.std.proofs.lemmas.List.{places}
use Rattle.limits.specs.Limits.{card_memory_bytes}
use Rattle.cards.proofs.Cards.{cleared}
use borrow.Author.Rules.{rules}
use Rattle.cards.proofs.clear_cards.Goals as goal

pub returns : goal.returns
returns c =
    let long = c.fill.ensures.len ∙ length-take-le card_memory_bytes c.args.cards.now c.requires in
    let zeros : (k : ℕ) → k < card_memory_bytes → get_or c.fill.new.self k 0 ≡ 0 = search (rules, places) in
    cleared card_memory_bytes c.fill.new.self c.args.cards.now long zeros
