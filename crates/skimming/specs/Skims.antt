-- What a walk that looks for no level says. Definitions only.
use Rattle.std.specs.Prelude.{Bool, false, true, ◌||◌, List, Option, None, Some, ◌≡◌, ℕ, ◌+◌, ◌-◌, ◌≤◌}
use Rattle.limits.specs.Limits.{max_arity}
use Rattle.tokens.specs.Expr.{Found, Founds, expr_at, several}
use Rattle.tokens.specs.declared.Token.{Token}
use Rattle.agree.specs.Folds.{searching}
use Rattle.resolve.specs.Walk.{miscounted_in, unknown_in}
use Rattle.resolve.specs.declared.Looked.{Looked}
use Rattle.skimming.specs.Kept.{KeptWorth, KeptWorths}
use Rattle.skimming.specs.declared.Step.{Step}
use Rattle.store.specs.declared.Facts.{Facts}

-- Whether an expression keeps the limits; if it does, causes 9 and 10 where p parameters and `bound` bound variables are known, and the position
-- after it. The names are looked up in the context of the codes cs.
pub record Skims (names : List ℕ) (facts : List Facts) (cs : List ℕ) (p bound : ℕ) (x : Found) (kept : Bool) (l : Looked) : Type 0 where
  pub unknown : KeptWorth (searching (unknown_in names facts cs p)) bound x kept l.unknown l.next
  pub miscounted : KeptWorth (searching (miscounted_in names facts cs)) bound x kept l.miscounted l.next

-- the same of an argument list, in the last of which `last` variables are bound
pub record SkimsAll (names : List ℕ) (facts : List Facts) (cs : List ℕ) (p outer last : ℕ) (x : Founds) (kept : Bool) (l : Looked) : Type 0 where
  pub unknown : KeptWorths (searching (unknown_in names facts cs p)) outer last x kept l.unknown l.next
  pub miscounted : KeptWorths (searching (miscounted_in names facts cs)) outer last x kept l.miscounted l.next

-- What a walk answers: none where a limit is passed.
abbrev pub Skimmed : List ℕ → List Facts → List ℕ → (p bound : ℕ) → Found → Option Looked → Type 0
Skimmed names facts cs p bound x None = (l : Looked) → Skims names facts cs p bound x false l
Skimmed names facts cs p bound x (Some l) = Skims names facts cs p bound x true l

-- and of an argument list
abbrev pub AllSkimmed : List ℕ → List Facts → List ℕ → (p outer last : ℕ) → Founds → Option Looked → Type 0
AllSkimmed names facts cs p outer last x None = (l : Looked) → SkimsAll names facts cs p outer last x false l
AllSkimmed names facts cs p outer last x (Some l) = SkimsAll names facts cs p outer last x true l

-- what a says and then l, the position being l's
abbrev pub joined : Looked → Looked → Looked
joined a l = record { next = l.next; unknown = a.unknown || l.unknown; miscounted = a.miscounted || l.miscounted }

-- What is known after a token, from what is known before it.
pub record Heads (names : List ℕ) (facts : List Facts) (cs : List ℕ) (p bound : ℕ) (t : Token) (a r : Looked) : Type 0 where
  pub next : r.next ≡ a.next
  pub unknown : r.unknown ≡ (unknown_in names facts cs p bound 0 t || a.unknown)
  pub miscounted : r.miscounted ≡ (miscounted_in names facts cs bound 0 t || a.miscounted)

-- The answer of a token that has no arguments; u is whether it is unknown.
pub record Leaf (bound x : ℕ) (u : Bool) (a : Looked) (r : Step) : Type 0 where
  pub count : r.count ≡ 0
  pub inner : r.inner ≡ bound
  pub next : r.looked.next ≡ x
  pub unknown : r.looked.unknown ≡ (a.unknown || u)
  pub miscounted : r.looked.miscounted ≡ (a.miscounted || false)

-- A step over the token at the position that a has reached: what its arguments say, after what it says itself, is what the expression says.
pub record Passed (names : List ℕ) (facts : List Facts) (cs : List ℕ) (p bound : ℕ) (s : List ℕ) (a : Looked) (r : Step) : Type 0 where
  pub few : r.count ≤ max_arity
  pub low : r.inner ≤ bound + 1
  pub own : Looked
  pub unknown : r.looked.unknown ≡ (a.unknown || own.unknown)
  pub miscounted : r.looked.miscounted ≡ (a.miscounted || own.miscounted)
  pub over : (n : ℕ) → (n ≡ 0 → ⊥) → (kept : Bool) (l : Looked)
      → SkimsAll names facts cs p bound r.inner (several (expr_at (n - 1) s) r.looked.next r.count) kept l
      → Skims names facts cs p bound (expr_at n s a.next) kept (joined own l)

-- such a step, or none, where no expression keeps the limits
abbrev pub Steps : List ℕ → List Facts → List ℕ → (p bound : ℕ) → List ℕ → Looked → Option Step → Type 0
Steps names facts cs p bound s a None = (n : ℕ) → Skimmed names facts cs p bound (expr_at n s a.next) None
Steps names facts cs p bound s a (Some r) = Passed names facts cs p bound s a r
