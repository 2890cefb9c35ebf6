-- What one walk over a query's expression says and writes. Definitions only.
use Rattle.std.specs.Prelude.{false, true, List, Option, None, Some, ℕ}
use Rattle.limits.specs.Limits.{max_nesting}
use Rattle.tokens.specs.Expr.{expr_at}
use Rattle.skimming.specs.Skims.{Skimmed, Skims}
use Rattle.spelling.specs.Strings.{QueryString}
use Rattle.query_strings.specs.declared.Queried.{Queried}
use Rattle.store.specs.declared.Facts.{Facts}

-- The string of the expression that the bytes begin with stands in the memory, of a length; or there was no room for it.
abbrev pub QueryLength : (expr names : List ℕ) → List Facts → (cs declared shapes out : List ℕ) → (room : ℕ) → Option ℕ → Type 0
QueryLength expr names facts cs declared shapes out room None = (len : ℕ) → QueryString expr names facts cs declared shapes out room false len
QueryLength expr names facts cs declared shapes out room (Some len) = QueryString expr names facts cs declared shapes out room true len

-- Of an expression that keeps the limits: causes 9 and 10 where p parameters are known, and the position after it; and its string.
pub record QueryKept (expr names : List ℕ) (facts : List Facts) (cs declared shapes : List ℕ) (p : ℕ) (out : List ℕ) (room : ℕ) (r : Queried) : Type 0 where
  pub skims : Skims names facts cs p 0 (expr_at max_nesting expr 0) true r.looked
  pub string : QueryLength expr names facts cs declared shapes out room r.len

-- the same of any; none where a limit is passed
abbrev pub QueryRead : (expr names : List ℕ) → List Facts → (cs declared shapes : List ℕ) → (p : ℕ) → (out : List ℕ) → (room : ℕ) → Option Queried → Type 0
QueryRead expr names facts cs declared shapes p out room None = Skimmed names facts cs p 0 (expr_at max_nesting expr 0) None
QueryRead expr names facts cs declared shapes p out room (Some r) = QueryKept expr names facts cs declared shapes p out room r
