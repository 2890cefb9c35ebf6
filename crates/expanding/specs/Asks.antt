-- What the expansion query answers, by the store of a checked file.
use Rattle.std.specs.Prelude.{Option, Result, cond, List, [], ◌≡◌, ℕ, ◌+◌, ◌≤◌, ◌<◌, eqb, length}
use Rattle.store.specs.declared.Store.{Store}
use Rattle.limits.specs.Limits.{file_bytes, max_arity, max_definitions, max_nesting}
use Rattle.theory.specs.Expand.{arities_of}
use Rattle.theory.specs.Term.{WellFormed}
use Rattle.rules.specs.Expression.{expression}
use Rattle.rules.specs.Field.{Field}
use Rattle.rules.specs.Query.{expansion_bytes_of, expansion_reply, read_in, unless_longer}
use Rattle.rules.specs.Run.{and_then}
use Rattle.rules.specs.State.{State, templates_of}
use Rattle.tokens.specs.Expr.{Expr, expr_at, found}
use Rattle.context.specs.Holds.{module_no}
use Rattle.context.specs.Entries.{codes_of}
use Rattle.context.specs.declared.Counts.{Counts}
use Rattle.judge_plain.specs.declared.Phase.{Phase}
use Rattle.resolve.proofs.Numbers.{declarations_of}
use Rattle.standing.specs.Standing.{Standing, itselves}
use Rattle.unfolding.specs.InWorld.{term_in}
use Rattle.spelling.specs.Strings.{LooksBelow, by_context}
use Rattle.spelling.specs.Written.{place_of}
use Rattle.worlds.specs.Rows.{Row}
use Rattle.templates.specs.Shaped.{DefinitionsShaped}
use Rattle.templates.specs.Taking.{work_bytes}
use Rattle.asking.specs.Asks.{name_cause}
use Rattle.query_strings.specs.Read.{QueryRead}
use Rattle.query_strings.specs.declared.Queried.{Queried}
use Rattle.expanding.specs.Reports.{Reports}
use Rattle.refusals.specs.declared.Refusal.{Refusal}

-- the cause of an expression that keeps the limits, by what was read of it; 0 if none holds
unfoldable pub read_cause : List ℕ → Queried → ℕ
read_cause expr q = cond (eqb q.looked.next (length expr)) (name_cause q.looked.unknown q.looked.miscounted) 3

-- The reply to an expression without causes, in module m.
pub record RepliesTo (file refs : List ℕ) (v : Store) (c : Counts) (m : ℕ) (expr : List ℕ) (r : Result ℕ Refusal) (before after : List ℕ) : Type 0 where
  pub reply : (fs : List Field) (s : State) (rs : List Row) (p : Phase) (words : List ℕ)
      → Standing file fs s rs v c p refs words → (t : Expr) (e : ℕ) → expr_at max_nesting expr 0 ≡ found t e
      → LooksBelow (max_definitions + length (declarations_of fs)) (by_context v.names v.facts (codes_of v m)) t → (n : ℕ) → n ≤ max_arity
      → WellFormed (arities_of (templates_of s)) n 0 (term_in (by_context v.names v.facts (codes_of v m)) (declarations_of fs) (place_of 0 0 itselves) t)
      → Reports (unless_longer (expansion_bytes_of s (term_in (by_context v.names v.facts (codes_of v m)) (declarations_of fs) (place_of 0 0 itselves) t)) (length before))
      r before after

-- The reply in module m is the rules', if the store shows a state in which it is ended.
pub record RepliesIn (file refs : List ℕ) (v : Store) (c : Counts) (m n : ℕ) (expr : List ℕ) (r : Result ℕ Refusal) (before after : List ℕ) : Type 0 where
  pub reply : (fs : List Field) (s : State) (rs : List Row) (p : Phase) (words : List ℕ)
      → Standing file fs s rs v c p refs words → m < c.modules
      → Reports (and_then (read_in s (module_no s m) [] n (expression.read expr)) (λ t. unless_longer (expansion_bytes_of s t) (length before))) r before after

-- The same of an expression that was read, its string in a, where the shapes are those of the definitions.
pub record ReadReplies (file refs : List ℕ) (v : Store) (c : Counts) (expr : List ℕ) (q : Option Queried) (shapes a : List ℕ) (r : Result ℕ Refusal) (before after : List ℕ) : Type 0 where
  pub reply : (m n : ℕ) → length file ≤ file_bytes → n ≤ max_arity
      → DefinitionsShaped file refs v v.declared c.declarations c.definitions shapes
      → QueryRead expr v.names v.facts (codes_of v m) v.declared shapes n a work_bytes q
      → RepliesIn file refs v c m n expr r before after

-- The reply is the rules', if the store and the counts show a state that some fields lead to.
pub record RepliesOf (file refs : List ℕ) (v : Store) (c : Counts) (m n : ℕ) (expr : List ℕ) (r : Result ℕ Refusal) (before after : List ℕ) : Type 0 where
  pub reply : (fs : List Field) (s : State) (rs : List Row) (p : Phase) (words : List ℕ)
      → Standing file fs s rs v c p refs words
      → Reports (expansion_reply m n expr (length before) s) r before after
