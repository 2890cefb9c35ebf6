-- SHORT CARDS ARE EXACT (paper 02, L7), of expanded terms. Theorem `exact-cards` (proofs/ExactCards). It needs that a 2 and a 3 make 4: else [](p ∧ q) would be 3 at (2, 3), where 2
-- is not taken for p.
use Rattle.std.specs.Prelude.{not, List, [], ◌∷◌, ◌↔◌, ◌≡◌, T, eqb, length, replicate, set, ◌<◌, ◌≤◌, ℕ}
use Rattle.limits.specs.Limits.{card_bytes, max_arity}
use Rattle.theory.specs.Card.{card_of, clashes, mask_of, read_card, weighs}
use Rattle.theory.specs.Level.{IsLevel, incorrect}
use Rattle.theory.specs.Lists.{All, any}
use Rattle.theory.specs.Term.{Term, level, long_way}

-- "any vector": a level for each of n parameters
abbrev pub Vector : ℕ → List ℕ → Type 0
Vector n v = (length v ≡ n) × All IsLevel v

-- the level of an expanded term, as a function of its parameters' levels
abbrev pub levels_at : Term → List ℕ → ℕ
levels_at t v = level long_way v t

-- the card of an expanded term over n parameters
abbrev pub card_for : ℕ → Term → List ℕ
card_for n t = card_of n (levels_at t)

-- THE LAW, for any parameter count that the limit allows
pub record ExactCards : Type 0 where
  -- "A card becomes 16 bytes", each of them a byte
  pub sixteen : (n : ℕ) → n ≤ max_arity → (t : Term) → (length (card_for n t) ≡ card_bytes) × All (λ b. b < 256) (card_for n t)
  -- "The level at any vector is 4 if .. else the highest .. Prove this exact for every expanded body":
  pub exact : (n : ℕ) → n ≤ max_arity → (t : Term) (v : List ℕ) → Vector n v → read_card (card_for n t) v ≡ level long_way v t
  -- "and that equal cards mean equal levels at every vector"; and equal levels, equal cards.
  pub equal_cards : (n m : ℕ) → n ≤ max_arity → m ≤ max_arity → (t u : Term)
      → (card_for n t ≡ card_for m u) ↔ ((n ≡ m) × ((v : List ℕ) → Vector n v → level long_way v t ≡ level long_way v u))
  -- A mask takes 0 to 4; or 0 to 3; or not 3, not 2, neither of them; or nothing,
  pub masks : (n i : ℕ) → i < n → (t : Term) → T (any (eqb (mask_of n (levels_at t) i)) (31 ∷ 15 ∷ 7 ∷ 11 ∷ 3 ∷ 0 ∷ []))
  -- which is where the level is 4 with all at 0; elsewhere a parameter is taken at 4 just where it counts nowhere.
  pub empty_mask : (n i : ℕ) → i < n → (t : Term) → (mask_of n (levels_at t) i ≡ 0) ↔ (level long_way (replicate n 0) t ≡ incorrect)
  pub full_mask : (n i : ℕ) → i < n → (t : Term)
      → (mask_of n (levels_at t) i ≡ 31) ↔ (¬ (level long_way (replicate n 0) t ≡ incorrect) × ((v : List ℕ) → Vector n v → level long_way v t ≡ level long_way (set v i 0) t))
  -- Where the level with all at 0 is 2 or more, no parameter weighs and no two clash.
  pub none_weigh : (n : ℕ) (t : Term) → 2 ≤ level long_way (replicate n 0) t
      → ((i : ℕ) → i < n → T (not (weighs n (levels_at t) i))) × ((i j : ℕ) → i < j → j < n → T (not (clashes n (levels_at t) i j)))
