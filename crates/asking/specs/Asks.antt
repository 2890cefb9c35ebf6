-- What the level query answers, and the causes of its expression by position.
use Rattle.std.specs.Prelude.{Option, None, Some, Result, Ok, Bool, cond, List, ◌≡◌, ℕ, ◌<◌, eqb, leb, ltb, length}
use Rattle.store.specs.declared.Store.{Store}
use Rattle.store.specs.declared.Facts.{Facts}
use Rattle.limits.specs.Limits.{level_count, max_arity}
use Rattle.theory.specs.Lists.{any}
use Rattle.rules.specs.Expression.{expression}
use Rattle.rules.specs.Field.{Field}
use Rattle.rules.specs.Query.{level_reply, read_in}
use Rattle.rules.specs.Run.{and_then, result}
use Rattle.rules.specs.State.{State, level_of}
use Rattle.tokens.specs.Expr.{Found, whole_of}
use Rattle.forms.specs.Forms.{level_at}
use Rattle.context.specs.Holds.{module_no}
use Rattle.context.specs.declared.Counts.{Counts}
use Rattle.resolve.specs.Walk.{Looks}
use Rattle.worlds.specs.Rows.{Row}
use Rattle.judge_plain.specs.declared.Phase.{Phase}
use Rattle.standing.specs.Standing.{Standing}
use Rattle.asking.specs.declared.Walked.{Walked}
use Rattle.refusals.specs.declared.Refusal.{Refusal}
use Rattle.refusals.specs.Outcomes.{outcome_of, refused}

-- the cause where a limit is passed: 5 of bytes that are one expression
unfoldable pub limit_cause : List ℕ → ℕ
limit_cause expr = cond (whole_of expr) 5 3

-- causes 3 and 5 as far as the levels given tell them; 0 if they do not
unfoldable pub levels_cause : List ℕ → List ℕ → ℕ
levels_cause levels expr = cond (any (λ l. leb level_count l) levels) 3 (cond (ltb max_arity (length levels)) (limit_cause expr) 0)

-- causes 9 and 10 of a walk's answers
unfoldable pub name_cause : Bool → Bool → ℕ
name_cause u w = cond u 9 (cond w 10 0)

-- r is the cause that a walk of n parameters over what is found answers
pub record NamesAsked (names : List ℕ) (facts : List Facts) (cs : List ℕ) (n : ℕ) (x : Found) (r : ℕ) : Type 0 where
  pub table : List ℕ
  pub noted : List ℕ
  pub unknown : Bool
  pub miscounted : Bool
  pub next : ℕ
  pub looks : Looks names facts cs n 0 x table noted unknown miscounted next
  pub cause : r ≡ name_cause unknown miscounted

-- the reply by what a walk that keeps the limits found, at the levels given
unfoldable pub kept_reply : List ℕ → Walked → ℕ → Result ℕ Refusal
kept_reply levels w fields =
    cond w.looked.unknown (refused 9 fields) (cond w.looked.miscounted (refused 10 fields) (Ok (level_at w.form levels)))

-- and where it passes a limit
unfoldable pub reply_of : List ℕ → List ℕ → Option Walked → ℕ → Result ℕ Refusal
reply_of levels expr None fields = refused (limit_cause expr) fields
reply_of levels expr (Some w) fields = cond (eqb w.looked.next (length expr)) (kept_reply levels w fields) (refused 3 fields)

-- The reply in module m is the rules', if the store shows a state in which it is ended, and that many fields are read.
pub record AsksIn (v : Store) (words : List ℕ) (m fields : ℕ) (levels expr : List ℕ) (r : Result ℕ Refusal) : Type 0 where
  pub reply : (file : List ℕ) (fs : List Field) (s : State) (rs : List Row) (c : Counts) (p : Phase) (refs : List ℕ)
      → Standing file fs s rs v c p refs words → m < c.modules → fields ≡ c.fields
      → outcome_of r ≡ and_then (read_in s (module_no s m) levels (length levels) (expression.read expr)) (λ t. result (level_of s levels t))

-- The reply is the rules', if the store and the counts show a state that some fields lead to.
pub record Asks (v : Store) (words : List ℕ) (c : Counts) (m : ℕ) (levels expr : List ℕ) (r : Result ℕ Refusal) : Type 0 where
  pub reply : (file : List ℕ) (fs : List Field) (s : State) (rs : List Row) (p : Phase) (refs : List ℕ)
      → Standing file fs s rs v c p refs words
      → outcome_of r ≡ level_reply m levels expr s
