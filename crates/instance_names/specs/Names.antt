-- What `instance_cause` promises: the first of the causes 4, 5, 7, 8, 9, 10, 11 of an INSTANCE field; and if none holds, what is written for
-- each name is what the rules find, its names noted.
use Rattle.std.specs.Prelude.{List, ◌≡◌, ℕ, ◌+◌, ◌<◌, get_or, length, take}
use Rattle.std.proofs.Math.Option.{Option, none, some}
use Rattle.rules.specs.Expression.{Expression}
use Rattle.rules.specs.Field.{Field, Substitution, instance, write_field}
use Rattle.rules.specs.Instance.{substitution_for}
use Rattle.rules.specs.Judge.{causes, first_cause}
use Rattle.rules.specs.State.{State, here, resolve}
use Rattle.worlds.specs.Rows.{Row}
use Rattle.texts.specs.Text.{Declarations}
use Rattle.fields.specs.declared.Parts.TheVariants.{Instance}
use Rattle.context.specs.Parts.{part, place_of}
use Rattle.store.specs.declared.Store.{Store}
use Rattle.context.specs.declared.Counts.{Counts}
use Rattle.resolve.proofs.Numbers.{declarations_of}
use Rattle.entering.specs.Written.{written_at}
use Rattle.std.specs.Prelude.{Option as Answer, Some, None}
use Rattle.judge_plain.specs.Judges.{cause_number}
use Rattle.judge_plain.specs.declared.Phase.{Phase}
use Rattle.standing.specs.Shown.{TextShown}
use Rattle.standing.specs.Standing.{AtField, Standing}

-- what is written for a name, by position, is what the rules find: a text that shows the resolved expression
abbrev pub Agrees : List ℕ → List ℕ → Declarations → ℕ → State → Answer ℕ → Option Expression → Type 0
Agrees file refs decls end s (Some a) (some e) = TextShown file refs decls end a (resolve s (here s) e)
Agrees file refs decls end s (Some a) none = ⊥
Agrees file refs decls end s None (some e) = ⊥
Agrees file refs decls end s None none = Unit {0}

pub record NamesRight (file : List ℕ) (fs : List Field) (s : State) (v : Store) (c : Counts) (n p m k at : ℕ) (ss : List Substitution) (r : ℕ) (refs refs' : List ℕ) : Type 0 where
  pub cause : r ≡ cause_number (first_cause (take 7 (causes s (instance n p m ss))))
  pub noted : (i : ℕ) → i < s.bytes → get_or refs' i 0 ≡ get_or refs i 0
  pub size : length refs' ≡ length refs
  pub found : r ≡ 0 → place_of m (part v.heads 0 c.modules) < c.modules
  pub written : r ≡ 0 → (x : ℕ)
      → Agrees file refs' (declarations_of fs) (s.bytes + length (write_field (instance n p m ss))) s (written_at k file at x) (substitution_for ss x)

-- whatever stands before the field
pub record NamesJudged (file : List ℕ) (v : Store) (c : Counts) (phase : Phase) (words : List ℕ) (n p m k at r : ℕ) (refs refs' : List ℕ) : Type 0 where
  pub right : (fs : List Field) (s : State) (rs : List Row) (ss : List Substitution) → Standing file fs s rs v c phase refs words
      → AtField file s (Instance n p m k at) (instance n p m ss) → NamesRight file fs s v c n p m k at ss r refs refs'
