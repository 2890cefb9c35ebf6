-- SHORT CARDS ARE EXACT, paper 02, L7, as one record; theorem `short-cards` (proofs/ShortCards). It speaks of the bytes that a check leaves in the lent memory; every query
-- leaves the same (`Demand2.query_cards`).
--
-- "The level at any vector is 4 if a level is not taken or a set pair holds a 2 and a 3; else the highest of byte 1 and the weighted levels. Prove this exact for every
-- expanded body, and that equal cards mean equal levels at every vector."
use Rattle.std.specs.Prelude.{List, ◌↔◌, ◌≡◌, length, ◌<◌, ◌≤◌, ℕ}
use Rattle.demands.specs.Archive.{check_leaves, check_tells, state_of}
use Rattle.demands.specs.LongWay.{InFull}
use Rattle.laws.specs.Cards.{card_in, card_part, name_at_params}
use Rattle.laws.specs.Lawful.{EachObeys, adds}
use Rattle.limits.specs.Limits.{card_bytes, max_arity}
use Rattle.rules.specs.Field.{Field, FieldFits}
use Rattle.rules.specs.Run.{card, result}
use Rattle.rules.specs.State.{card_level, params_of, start}
use Rattle.theory.specs.Card.{read_card}
use Rattle.theory.specs.ExactCards.{Vector, card_for}
use Rattle.theory.specs.Lists.{All}
use Rattle.theory.specs.Term.{Term, level, long_way}

-- A definition of an accepted file: the file, the memory lent, what a check of it tells, and the definition's number.
pub record Carded : Type 0 where
  pub file : List ℕ
  pub lent : List ℕ
  pub count : ℕ
  pub accepted : check_tells file lent ≡ result count
  pub number : ℕ
  pub there : number < count

-- its parameter count, and its card: 16 bytes in the memory that the check leaves
abbrev pub count_of : Carded → ℕ
count_of d = params_of (state_of d.file) d.number

abbrev pub bytes_of : Carded → List ℕ
bytes_of d = card_part (check_leaves d.file d.lent) d.number

-- u is its body, "expanded": replaced in full as demand 3 has it, "a brought one taken as its instance brings it"
abbrev pub Body : Carded → Term → Type 0
Body d u = InFull (state_of d.file) (name_at_params (state_of d.file) d.number) u

-- SHORT CARDS
pub record ShortCards : Type 0 where
  -- every definition has an expanded body, over eight parameters at most,
  pub has_body : (d : Carded) → (count_of d ≤ max_arity) × ((u : Term) × Body d u)
  -- and a card of 16 bytes, each of them a byte,
  pub sixteen : (d : Carded) → (length (bytes_of d) ≡ card_bytes) × All (λ b. b < 256) (bytes_of d)
  -- which is, byte for byte, the one that L7 words for the levels of that body;
  pub by_probing : (d : Carded) (u : Term) → Body d u → bytes_of d ≡ card_for (count_of d) u
  -- "Prove this exact for every expanded body":
  pub exact : (d : Carded) (u : Term) → Body d u → (v : List ℕ) → Vector (count_of d) v → card_in (check_leaves d.file d.lent) d.number v ≡ level long_way v u
  -- "equal cards mean equal levels at every vector", and the other way round: of definitions of one file or of two
  pub equal_cards : (d e : Carded) (t u : Term) → Body d t → Body e u
      → (bytes_of d ≡ bytes_of e) ↔ ((count_of d ≡ count_of e) × ((v : List ℕ) → Vector (count_of d) v → level long_way v t ≡ level long_way v u))
  -- "A defined name or I!F has what its card says": so it is already where fields are judged (causes 12, 13, 14 and 21), after whatever fields obey. `card_level` is what the rules go by there.
  pub judged_by_cards : (before : List Field) → All FieldFits before → EachObeys start before → (g : ℕ) → g < length (adds start before).definitions
      → (v : List ℕ) → Vector (params_of (adds start before) g) v → card_level (adds start before) g v ≡ read_card (card (adds start before) g) v
