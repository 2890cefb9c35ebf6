-- DEMAND 1, as one record; theorem `demand-1` (proofs/Demand1).
--
-- "The program as a whole takes every file and every query, stops, and gives either its full result or one numbered refusal. What is then left in lent memory is
-- fixed for each."
--
-- That it takes all and stops: the contracts of the archive have no premise, and a proved function ends (native stack apart: docs/PROOF, what is assumed). So every
-- field speaks of every file, every memory and output lent, and every query. Files, expressions and levels are lent for reading only.
use Rattle.std.specs.Prelude.{cond, List, [], ◌++◌, ◌∷◌, ◌≡◌, eqb, ltb, get_or, length, ◌%◌, ◌*◌, ◌/◌, ℕ}
use Rattle.demands.specs.Archive.{Enough, alike_leaves, alike_tells, body_leaves, body_tells, check_leaves, check_tells, expand_leaves, expand_tells, expand_writes, level_leaves, level_tells, state_of}
use Rattle.demands.specs.Replies.{AlikeReplied, BodyReplied, CheckReplied, ExpansionReplied, ExpansionWritten, LevelReplied}
use Rattle.laws.specs.Cards.{card_byte}
use Rattle.laws.specs.Lawful.{Obeys}
use Rattle.laws.specs.Queries.{AlikeRefused, BodyRefused, ExpansionRefused, LevelRefused, expression_numbers}
use Rattle.laws.specs.Refused.{FileRefused, OneOf, file_numbers}
use Rattle.limits.specs.Limits.{card_bytes, card_memory_bytes}
use Rattle.rules.specs.Run.{Outcome, refusal, result}
use Rattle.rules.specs.State.{State}

-- ONE REPLY: "its full result or one numbered refusal". "Each call checks the file afresh": what a check of the file tells, lent the same memory, comes first. With each
-- refusal stand its number, one of those that the operation has, and its cause and place: of the file (laws/specs/Refused), or the query's own (laws/specs/Queries; `Own s
-- fields c p`, where s is what the fields add and `fields` how many they are).
pub data OneReply {A : Type 0} (file lent : List ℕ) (Full : A → Type 0) (numbers : List ℕ) (Own : State → ℕ → ℕ → ℕ → Type 0) (reply : Outcome A) : Type 0 where
  full_result : (k : ℕ) → check_tells file lent ≡ result k → (a : A) → reply ≡ result a → Full a → OneReply file lent Full numbers Own reply
  refused_by_file : (c p : ℕ) → check_tells file lent ≡ refusal c p → reply ≡ refusal c p → OneOf file_numbers c → FileRefused file lent c p
      → OneReply file lent Full numbers Own reply
  refused_by_query : (k : ℕ) → check_tells file lent ≡ result k → (c p : ℕ) → reply ≡ refusal c p → OneOf numbers c → Enough lent → (o : Obeys file)
      → Own (state_of file) (length o.fields) c p → OneReply file lent Full numbers Own reply

-- THE CARD MEMORY after a call, byte by byte, by what a check of the file tells. Accepted with k definitions: "16 bytes at 16 times the definition's
-- number"; "Acceptance changes no byte past the last card". Refused: 1 leaves all as it was; "refusals 2 to 16 of the file, and any
-- cause of the file added later" zero 4,096 bytes ("zeroed to there"); "bytes beyond stay". "A query's own refusals, like its replies, leave an accepted file's cards filled."
abbrev pub byte_left : List ℕ → List ℕ → Outcome ℕ → ℕ → ℕ
byte_left file lent (result k) i = cond (ltb i (card_bytes * k)) (card_byte (state_of file) (i / card_bytes) (i % card_bytes)) (get_or lent i 0)
byte_left file lent (refusal c p) i = cond (eqb c 1) (get_or lent i 0) (cond (ltb i card_memory_bytes) 0 (get_or lent i 0))

pub record MemoryLeft (file lent left : List ℕ) : Type 0 where
  pub same_length : length left ≡ length lent
  pub each_byte : (i : ℕ) → get_or left i 0 ≡ byte_left file lent (check_tells file lent) i

-- THE OUTPUT after an expansion that told `reply`: "Output is written only by an expansion, only its length."
pub record OutputLeft (file : List ℕ) (m n : ℕ) (bytes output after : List ℕ) (reply : Outcome ℕ) : Type 0 where
  pub same_length : length after ≡ length output
  pub refused : (c p : ℕ) → reply ≡ refusal c p → after ≡ output
  pub replied : (l : ℕ) → reply ≡ result l → ExpansionWritten file m n bytes output after l

-- DEMAND 1
pub record Demand1 : Type 0 where
  -- a check: the number of definitions, or a refusal of the file
  pub check : (file lent : List ℕ) → OneReply file lent (CheckReplied file lent) [] (λ s fields c p. ⊥) (check_tells file lent)
  pub level : (file lent : List ℕ) (m : ℕ) (levels bytes : List ℕ)
      → OneReply file lent (LevelReplied file lent m levels bytes) (expression_numbers ++ (17 ∷ [])) (LevelRefused m levels bytes) (level_tells file lent m levels bytes)
  pub alike : (file lent : List ℕ) (g h : ℕ) → OneReply file lent (AlikeReplied file lent g h) (17 ∷ []) (AlikeRefused g h) (alike_tells file lent g h)
  pub body : (file lent : List ℕ) (g : ℕ) → OneReply file lent (BodyReplied file lent g) (17 ∷ []) (BodyRefused g) (body_tells file lent g)
  pub expansion : (file lent : List ℕ) (m n : ℕ) (bytes output : List ℕ)
      → OneReply file lent (ExpansionReplied file lent m n bytes output) (expression_numbers ++ (17 ∷ 18 ∷ [])) (ExpansionRefused m n bytes (length output))
      (expand_tells file lent m n bytes output)
  -- the card memory after each
  pub check_memory : (file lent : List ℕ) → MemoryLeft file lent (check_leaves file lent)
  pub level_memory : (file lent : List ℕ) (m : ℕ) (levels bytes : List ℕ) → MemoryLeft file lent (level_leaves file lent m levels bytes)
  pub alike_memory : (file lent : List ℕ) (g h : ℕ) → MemoryLeft file lent (alike_leaves file lent g h)
  pub body_memory : (file lent : List ℕ) (g : ℕ) → MemoryLeft file lent (body_leaves file lent g)
  pub expansion_memory : (file lent : List ℕ) (m n : ℕ) (bytes output : List ℕ) → MemoryLeft file lent (expand_leaves file lent m n bytes output)
  -- the output after an expansion; no other operation is lent one
  pub expansion_output : (file lent : List ℕ) (m n : ℕ) (bytes output : List ℕ)
      → OutputLeft file m n bytes output (expand_writes file lent m n bytes output) (expand_tells file lent m n bytes output)
