-- A card of an accepted state is the card of its definition's expanded body; so, read at levels, it says what the level is there.
use mathlib.Core.List.{List}
use mathlib.Core.Path.{◌∙◌, ◌≡◌, ap, subst⁻¹, sym}
use lib.ListN.{length}
use Prim.Native.Nat.{◌<◌, ℕ}
use Rattle.laws.proofs.Invariant.{Good}
use Rattle.laws.proofs.Memory.{card-in-memory, few-params}
use Rattle.laws.proofs.Replacing.{card-template, expansion-of-name}
use Rattle.laws.proofs.Within.{Within}
use Rattle.laws.specs.Cards.{card_in, name_at_params}
use Rattle.rules.specs.Run.{card, memory_after, result}
use Rattle.rules.specs.State.{State, card_level, expansion_of, params_of}
use Rattle.theory.proofs.Cards.{card-same}
use Rattle.theory.proofs.ExactCards.{exact-cards}
use Rattle.theory.specs.Card.{read_card}
use Rattle.theory.specs.ExactCards.{card_for, levels_at}
use Rattle.theory.specs.Level.{IsLevel}
use Rattle.theory.specs.Lists.{All}
use Rattle.theory.specs.Term.{level, long_way}

module _ (s : State) (good : Good s) (g : ℕ) (there : g < length s.definitions) where
  pub card-level : (ρ : List ℕ) → length ρ ≡ params_of s g → All IsLevel ρ → card_level s g ρ ≡ level long_way ρ (expansion_of s (name_at_params s g))
  card-level ρ n a = card-template s good g ρ there n a ∙ ap (level long_way ρ) (sym (expansion-of-name s good g there))

  pub card-body : card s g ≡ card_for (params_of s g) (expansion_of s (name_at_params s g))
  card-body = card-same (params_of s g) (card_level s g) (levels_at (expansion_of s (name_at_params s g))) card-level

  -- its bytes are bytes
  pub card-low : Within s → All (λ b. b < 256) (card s g)
  card-low within =
      subst⁻¹ (All (λ b. b < 256)) card-body (exact-cards.sixteen (params_of s g) (few-params s within g there) (expansion_of s (name_at_params s g))).1

  module _ (within : Within s) (ρ : List ℕ) (n : length ρ ≡ params_of s g) (a : All IsLevel ρ) where
    pub card-holds : read_card (card s g) ρ ≡ card_level s g ρ
    card-holds =
        ap (λ (c : List ℕ). read_card c ρ) card-body ∙ exact-cards.exact (params_of s g) (few-params s within g there) (expansion_of s (name_at_params s g)) ρ (n, a)
        ∙ sym (card-level ρ n a)

    -- "what its card says at the levels of its arguments", read off its bytes in memory
    pub card-says : (memory : List ℕ) → card_in (memory_after (result s) memory) g ρ ≡ card_level s g ρ
    card-says memory = ap (λ (c : List ℕ). read_card c ρ) (card-in-memory s within memory g there) ∙ card-holds
