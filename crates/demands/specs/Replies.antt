-- What each operation replies, and why it refuses, by the rules: words of the three demands. What the fields of a file that obeys add is `state_of file`.
use Rattle.std.specs.Prelude.{Bool, false, true, List, ◌⊎◌, ◌≡◌, drop, length, take, ◌<◌, ◌≤◌, ℕ}
use Rattle.demands.specs.Archive.{Enough, alike_leaves, body_leaves, check_leaves, expand_leaves, level_leaves, state_of}
use Rattle.laws.specs.Bodies.{Body}
use Rattle.laws.specs.Cards.{card_in, card_part}
use Rattle.laws.specs.Lawful.{Obeys}
use Rattle.laws.specs.Queries.{BelongsIn, term_in}
use Rattle.laws.specs.Refused.{FileRefused}
use Rattle.limits.specs.Limits.{expansion_bytes}
use Rattle.rules.specs.Query.{expansion_bytes_of}
use Rattle.rules.specs.State.{State, definition_at, params_of}
use Rattle.theory.specs.Level.{IsLevel}
use Rattle.theory.specs.Lists.{All}
use Rattle.theory.specs.Term.{Term, by_cards, level}

-- an expression that "belongs to demand 3", in a file: the bytes, over n parameters, at the end of module m
abbrev pub Belongs : (file : List ℕ) (m n : ℕ) (bytes : List ℕ) → Type 0
Belongs file m n bytes = BelongsIn (state_of file) m n bytes

-- the expression with its names found
abbrev pub term_of : (file : List ℕ) (m n : ℕ) (bytes : List ℕ) → Belongs file m n bytes → Term
term_of file m n bytes b = term_in (state_of file) m n bytes b

-- "a level from 0 to 4 being given for each"
abbrev pub Levels : List ℕ → Type 0
Levels ls = All IsLevel ls

-- REFUSALS. "The file's causes come first"; then, of a file that obeys, the query's own: `Own s fields c p` says which, where s is what its fields add and `fields` how
-- many they are ("then 17, then the expression's, then 18": laws/specs/Queries).
pub data QueryRefused (file lent : List ℕ) (Own : State → ℕ → ℕ → ℕ → Type 0) (c p : ℕ) : Type 0 where
  by_file : FileRefused file lent c p → QueryRefused file lent Own c p
  by_query : Enough lent → (o : Obeys file) → Own (state_of file) (length o.fields) c p → QueryRefused file lent Own c p

-- CHECK. "A check replies with the number of definitions."
pub record CheckReplied (file lent : List ℕ) (k : ℕ) : Type 0 where
  pub room : Enough lent
  pub obeys : Obeys file
  pub counted : k ≡ length (state_of file).definitions

-- LEVEL. "The cards give an expression its level": l is the level of the expression, with the levels given for its parameters, a defined name having "what its card
-- says at the levels of its arguments". The cards are the bytes that a check leaves (`Demand2.every_card_byte`); this query leaves the same (`Demand2.query_cards`).
pub record LevelReplied (file lent : List ℕ) (m : ℕ) (levels bytes : List ℕ) (l : ℕ) : Type 0 where
  pub room : Enough lent
  pub obeys : Obeys file
  pub belongs : Belongs file m (length levels) bytes
  pub given : Levels levels
  pub by-cards : l ≡ level (by_cards (card_in (check_leaves file lent))) levels (term_of file m (length levels) bytes belongs)

-- ALIKE. "Two definitions are alike when parameter counts and cards agree." Byte 0 of a card is the count, so equal cards have equal counts.
abbrev pub Alike : (file left : List ℕ) (g h : ℕ) → Type 0
Alike file left g h = (params_of (state_of file) g ≡ params_of (state_of file) h) × (card_part left g ≡ card_part left h)

pub record AlikeReplied (file lent : List ℕ) (g h : ℕ) (b : Bool) : Type 0 where
  pub room : Enough lent
  pub obeys : Obeys file
  pub first_there : g < length (state_of file).definitions
  pub second_there : h < length (state_of file).definitions
  pub says : ((b ≡ true) × Alike file (check_leaves file lent) g h) ⊎ ((b ≡ false) × ¬ Alike file (check_leaves file lent) g h)

-- BODY. "The body of a definition, handed back as the part of the file that holds it; for a brought one, the original": start and length of the part.
pub record BodyReplied (file lent : List ℕ) (g : ℕ) (part : ℕ × ℕ) : Type 0 where
  pub room : Enough lent
  pub obeys : Obeys file
  pub there : g < length (state_of file).definitions
  pub part_is : part ≡ ((definition_at (state_of file) g).body_start, (definition_at (state_of file) g).body_length)
  pub holds_the_body : Body file (state_of file) g

-- EXPANSION. "Its expansion, ill-levelled or not, with its length": l is the length of the true expansion's bytes.
pub record ExpansionReplied (file lent : List ℕ) (m n : ℕ) (bytes output : List ℕ) (l : ℕ) : Type 0 where
  pub room : Enough lent
  pub obeys : Obeys file
  pub belongs : Belongs file m n bytes
  pub length_true : l ≡ length (expansion_bytes_of (state_of file) (term_of file m n bytes belongs))
  pub in_limit : l ≤ expansion_bytes
  pub in_output : l ≤ length output

-- What an expansion that replies l has done to the output: its first l bytes are the true expansion's, "only its length" is written.
pub record ExpansionWritten (file : List ℕ) (m n : ℕ) (bytes output after : List ℕ) (l : ℕ) : Type 0 where
  pub belongs : Belongs file m n bytes
  pub bytes_true : take l after ≡ expansion_bytes_of (state_of file) (term_of file m n bytes belongs)
  pub rest_stays : drop l after ≡ drop l output

-- "Each call checks the file afresh and fills the lent card memory": every query leaves the bytes that a check leaves.
pub record QueryCards (file lent : List ℕ) : Type 0 where
  pub level_cards : (m : ℕ) (levels bytes : List ℕ) → level_leaves file lent m levels bytes ≡ check_leaves file lent
  pub alike_cards : (g h : ℕ) → alike_leaves file lent g h ≡ check_leaves file lent
  pub body_cards : (g : ℕ) → body_leaves file lent g ≡ check_leaves file lent
  pub expansion_cards : (m n : ℕ) (bytes output : List ℕ) → expand_leaves file lent m n bytes output ≡ check_leaves file lent
