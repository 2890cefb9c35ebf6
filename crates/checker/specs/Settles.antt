-- What the fields of a file lead to, by the reply and the store that shows it.
use Rattle.std.specs.Prelude.{Result, Ok, Err, Bool, ◌||◌, List, ◌≡◌, ℕ, ◌≤◌, ltb, drop, length, replicate}
use Rattle.limits.specs.Limits.{card_memory_bytes, file_bytes, max_definitions}
use Rattle.rules.specs.Bytes.{is_empty}
use Rattle.rules.specs.Field.{Field}
use Rattle.rules.specs.Run.{judge_file, overwrite, refusal, result}
use Rattle.rules.specs.State.{State}
use Rattle.laws.proofs.Running.{run}
use Rattle.worlds.specs.Rows.{Row}
use Rattle.fields.specs.Cursor.{place_of}
use Rattle.fields.specs.declared.Cursor.{Cursor}
use Rattle.store.specs.declared.Store.{Store}
use Rattle.store.specs.declared.Facts.{Facts}
use Rattle.context.specs.declared.Counts.{Counts}
use Rattle.judge_plain.specs.declared.Phase.TheVariants.{Outside}
use Rattle.judge_plain.specs.declared.Phase.{Phase}
use Rattle.standing.specs.Standing.{Standing}
use Rattle.cards.specs.Cards.{cards_of}
use Rattle.refusals.specs.declared.Refusal.{Refusal}

-- the fields lead to a state, which the store and the counts show
pub record Reaches (file : List ℕ) (v : Store) (c : Counts) (refs words : List ℕ) : Type 0 where
  pub fields : List Field
  pub state : State
  pub rows : List Row
  pub stands : Standing file fields state rows v c Outside refs words
  pub accepted : judge_file file ≡ result state

-- by how the file is settled: what was counted, or the refusal
abbrev pub Settles : List ℕ → Store → List ℕ → List ℕ → Result Counts Refusal → Type 0
Settles file v refs words (Ok c) = Reaches file v c refs words
Settles file v refs words (Err r) = judge_file file ≡ refusal r.cause r.place

-- the lent memory before and after a file of lawful size was judged
abbrev pub Leaves : List Facts → List ℕ → Result Counts Refusal → List ℕ → List ℕ → Type 0
Leaves facts words (Ok c) before after = after ≡ overwrite (cards_of facts words c.definitions) before
Leaves facts words (Err r) before after = after ≡ overwrite (replicate card_memory_bytes 0) before

-- A file of lawful size judged: what its fields lead to, and the lent memory before and after.
pub record Concludes (file : List ℕ) (v : Store) (refs words : List ℕ) (r : Result Counts Refusal) (before after : List ℕ) : Type 0 where
  pub settles : Settles file v refs words r
  pub leaves : Leaves v.facts words r before after

-- Before each field: something stands, the cursor is at the next field, and the file is judged as what is left of it.
pub data Midway (file : List ℕ) (at : Cursor) (v : Store) (c : Counts) (p : Phase) (refs words : List ℕ) : Type 0 where
  midway : (fs : List Field) (s : State) (rs : List Row) → Standing file fs s rs v c p refs words → place_of at ≡ s.bytes → at.number ≡ s.fields
      → judge_file file ≡ run (drop s.bytes file) s → Midway file at v c p refs words

abbrev pub Few : Result Counts Refusal → Type 0
Few (Ok c) = c.definitions ≤ max_definitions
Few (Err r) = Unit {0}

-- "file empty or over its limit"
abbrev pub wrong_size : List ℕ → Bool
wrong_size file = is_empty file || ltb file_bytes (length file)
