-- What stands before each field.
use Rattle.std.specs.Prelude.{List, [], ◌∷◌, ◌++◌, ◌≡◌, ℕ, ◌+◌, ◌*◌, ◌≤◌, ◌<◌, get_or, length}
use Rattle.limits.specs.Limits.{file_bytes, max_arity, max_declarations, max_definitions, max_modules}
use Rattle.limits.specs.Sizes.{code_count, context_length, max_fields, shortest_field_bytes, shortest_payload_bytes}
use Rattle.theory.specs.Lists.{numbers_from}
use Rattle.theory.specs.Term.{kind_arity}
use Rattle.rules.specs.Add.{add}
use Rattle.rules.specs.Field.{Field, FieldFits, write_field}
use Rattle.agree.specs.Parts.{Tells}
use Rattle.fields.specs.declared.Parts.{Parts}
use Rattle.fields.specs.declared.Parts.TheVariants.{Module, Extends, Constant, Variable, Definition, Instance, EndModule, Assume, Theorem, Cut, EndOfFile}
use Rattle.tokens.proofs.Writing.{Bytes}
use Rattle.rules.specs.Judge.{judge}
use Rattle.rules.specs.State.{State}
use Rattle.laws.proofs.Invariant.{Good}
use Rattle.laws.proofs.Origins.{Origins}
use Rattle.laws.proofs.Paths.{Paths}
use Rattle.laws.proofs.Within.{Within}
use Rattle.laws.specs.LawfulInstances.{LevelCorrect}
use Rattle.worlds.specs.Rows.{Row, rows_after}
use Rattle.worlds.proofs.Declared.{AllCovered}
use Rattle.worlds.proofs.Depth.{Depths}
use Rattle.worlds.proofs.Invariant.{Worlds}
use Rattle.texts.specs.Text.{Declarations, no_declaration}
use Rattle.context.specs.Holds.{Holds}
use Rattle.store.specs.Store.{context_slot, kind_at, order_slot}
use Rattle.store.specs.declared.Store.{Store}
use Rattle.context.specs.declared.Counts.{Counts}
use Rattle.levels.specs.Tables.{scene_of, table_words}
use Rattle.text_levels.proofs.OwnWorld.{Shows}
use Rattle.resolve.proofs.Numbers.{Declares, declarations_of}
use Rattle.entering.proofs.Outset.{kind_number}
use Rattle.judge_plain.proofs.Premises.{Fresh}
use Rattle.judge_plain.specs.Judges.{cause_number, phase_of}
use Rattle.judge_plain.specs.declared.Judged.{Judged}
use Rattle.judge_plain.specs.declared.Phase.{Phase}
use Rattle.standing.specs.Chained.{Chained}

-- in a text of the module that is open each definition is itself
abbrev pub itselves : List ℕ
itselves = numbers_from 0 max_definitions

-- `declared` holds the code of each declaration, by its number
pub record DeclaredCodes (v : Store) (decls : Declarations) (declared : List ℕ) : Type 0 where
  pub named : (d : ℕ) → d < length decls → get_or v.names (get_or declared d 0) 0 ≡ (get_or decls d no_declaration).1
  pub kind : (d : ℕ) → d < length decls → kind_at v.facts (get_or declared d 0) ≡ kind_number (get_or decls d no_declaration).0
  pub code : (d : ℕ) → d < length decls → (max_definitions ≤ get_or declared d 0) × (get_or declared d 0 < code_count)
  pub few : (d : ℕ) → d < length decls → kind_arity (get_or decls d no_declaration).0 ≤ max_arity

-- The fields fs were read, each lawful; they lead to the state s, whose definitions have the worlds rs. The store v and the counts c show s;
-- `refs` notes what the names of the texts read mean; `words` holds the form of each definition and declaration.
pub record Standing (file : List ℕ) (fs : List Field) (s : State) (rs : List Row) (v : Store) (c : Counts) (p : Phase) (refs words : List ℕ) : Type 0 where
  pub holds : Holds v c s
  pub phase : phase_of p ≡ s.phase
  pub declares : Declares v.facts c fs
  pub codes : DeclaredCodes v (declarations_of fs) v.declared
  pub early : (d : ℕ) → d < length (declarations_of fs) → get_or v.declared d 0 < max_definitions + c.fields
  pub forms : Shows (scene_of itselves words) (declarations_of fs) s
  pub chained : Chained v c file refs (declarations_of fs) s rs s.bytes
  pub refs_size : length refs ≡ file_bytes
  pub words_size : length words ≡ table_words
  pub inside : s.bytes ≤ length file
  pub apart : shortest_field_bytes * length fs ≤ s.bytes + shortest_payload_bytes * length s.ended
  pub origins : Origins fs s
  pub good : Good s
  -- no definition is 4 with parameters at 0: lawful instances stay lawful (paper 02, L6)
  pub level_correct : LevelCorrect s
  pub within : Within s
  pub fresh : Fresh s
  pub paths : Paths s
  pub worlds : Worlds s rs
  pub covered : AllCovered s rs
  pub depths : Depths s rs

-- A field judged: the answer is the rules' first cause, and if there is none, all stands with the field read.
pub record Advances (file : List ℕ) (fs : List Field) (s : State) (rs : List Row) (f : Field) (r : Judged) (v' : Store) (refs' words' : List ℕ) : Type 0 where
  pub cause : r.cause ≡ cause_number (judge s f)
  pub stands : r.cause ≡ 0 → Standing file (fs ++ (f ∷ [])) (add s f) (rows_after s rs f) v' r.counts r.phase refs' words'

-- What the code asks before a field: room for what the field may add.
pub record Roomy (v : Store) (c : Counts) : Type 0 where
  pub modules : c.modules ≤ max_modules
  pub fields : c.fields < max_fields
  pub declarations : c.declarations ≤ max_declarations
  pub definitions : c.definitions ≤ max_definitions
  pub context_room : (n : ℕ) → c.definitions + n ≤ max_definitions → get_or v.heads (context_slot c.modules) 0 + n < context_length
  pub order_room : (n : ℕ) → c.definitions + n ≤ max_definitions → get_or v.heads (order_slot c.modules) 0 + n ≤ max_definitions

-- the names of an EXTENDS field fill it to its end
abbrev pub Filled : ℕ → Parts → Type 0
Filled end (Module n) = Unit {0}
Filled end (Extends at k) = at + 2 * k ≡ end
Filled end (Constant n k) = Unit {0}
Filled end (Variable n) = Unit {0}
Filled end (Definition n k at l) = Unit {0}
Filled end (Instance n p m k at) = Unit {0}
Filled end EndModule = Unit {0}
Filled end (Assume at l) = Unit {0}
Filled end (Theorem at l) = Unit {0}
Filled end Cut = Unit {0}
Filled end EndOfFile = Unit {0}

-- A field stands next: x are its parts, f is what the rules read.
pub record AtField (file : List ℕ) (s : State) (x : Parts) (f : Field) : Type 0 where
  pub end : ℕ
  pub tells : Tells file end x f
  pub filled : Filled end x
  pub ends : end ≡ s.bytes + length (write_field f)
  pub inside : end ≤ length file
  pub fits : FieldFits f
  pub bytes : Bytes file
  pub short : length file ≤ file_bytes

-- What each judging function promises: whatever stands before, the field is judged as the rules judge it, and if it is lawful all stands
-- after it.
pub record Judging (file : List ℕ) (x : Parts) (v v' : Store) (c : Counts) (p : Phase) (r : Judged) (refs refs' words words' : List ℕ) : Type 0 where
  pub advances : (fs : List Field) (s : State) (rs : List Row) (f : Field) → Standing file fs s rs v c p refs words → AtField file s x f
      → Advances file fs s rs f r v' refs' words'

-- and what it may ask: that something stands, and a field next
pub data Underway (file : List ℕ) (v : Store) (c : Counts) (p : Phase) (refs words : List ℕ) (x : Parts) : Type 0 where
  underway : (fs : List Field) (s : State) (rs : List Row) (f : Field) → Standing file fs s rs v c p refs words → AtField file s x f
      → Underway file v c p refs words x
