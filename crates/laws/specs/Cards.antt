-- Cards as bytes of the lent memory, and what they are cards of.
use Rattle.std.specs.Prelude.{List, drop, get_or, take, ◌*◌, ℕ}
use Rattle.limits.specs.Limits.{card_bytes}
use Rattle.rules.specs.Run.{card}
use Rattle.rules.specs.State.{State, params_of}
use Rattle.theory.specs.Card.{read_card}
use Rattle.theory.specs.Expand.{params_from}
use Rattle.theory.specs.Term.{Term, defined}
use Rattle.theory.specs.Tree.{node}

-- The name of definition g at its own parameters: what is expanded for its card.
abbrev pub name_at_params : State → ℕ → Term
name_at_params s g = node (defined g) (params_from 0 (params_of s g))

-- the card of definition g in memory: "16 bytes at 16 times the definition's number"
abbrev pub card_part : List ℕ → ℕ → List ℕ
card_part memory g = take card_bytes (drop (card_bytes * g) memory)

-- "what its card says at the levels of its arguments", read off its bytes
abbrev pub card_in : List ℕ → ℕ → List ℕ → ℕ
card_in memory g ρ = read_card (card_part memory g) ρ

-- Byte e of the card that the rules give definition g.
abbrev pub card_byte : State → ℕ → ℕ → ℕ
card_byte s g e = get_or (card s g) e 0
