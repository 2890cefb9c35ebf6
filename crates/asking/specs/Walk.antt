-- What the walk over a query's expression finds. Each name is looked up where it stands, in a context given by its codes; no instance is around
-- the expression. Definitions only.
use Rattle.std.specs.Prelude.{true, List, map, ◌≡◌, ℕ, ◌+◌, ◌<◌, leb, get_or, length, Option, None, Some}
use Rattle.limits.specs.Limits.{max_nesting}
use Rattle.theory.specs.Lists.{numbers_from}
use Rattle.rows.specs.Rows.{arity_of, no_code}
use Rattle.tokens.specs.Expr.{Founds, expr_at}
use Rattle.tokens.specs.Token.{token_at}
use Rattle.tokens.specs.declared.Token.{Token}
use Rattle.tokens.specs.declared.Token.TheVariants.{BuiltIn, Parameter}
use Rattle.texts.specs.Noted.{is_name}
use Rattle.resolve.specs.Look.{look_in}
use Rattle.resolve.specs.Walk.{inside, number_in, number_of, word_count}
use Rattle.std.specs.Prelude.{Option as Answer}
use Rattle.resolve.specs.declared.Look.{Look}
use Rattle.resolve.specs.declared.Looked.{Looked}
use Rattle.levels.specs.Tables.{Names, names_of}
use Rattle.levels.specs.Walk as levels
use Rattle.levels.specs.declared.Under.{Under as LevelUnder}
use Rattle.levels.specs.declared.steps.Step.{Step as LevelStep}
use Rattle.standing.specs.Standing.{itselves}
use Rattle.skimming.specs.Skims as causes
use Rattle.skimming.specs.declared.Step.{Step as CauseStep}
use Rattle.asking.specs.declared.Walked.{Walked}
use Rattle.asking.specs.declared.steps.Scope.{Scope}
use Rattle.asking.specs.declared.steps.Step.{Step}
use Rattle.asking.specs.declared.walk.Under.{Under}
use Rattle.store.specs.declared.Facts.{Facts}

-- the number of what a token means; 0 where none stands
abbrev pub number_there : List ℕ → List Facts → List ℕ → Option Token → ℕ
number_there names facts cs (Some t) = number_in names facts cs t
number_there names facts cs None = 0

-- the table that would stand beside the bytes s: the number of what each of their tokens means, where it stands
unfoldable pub numbers_in : List ℕ → List Facts → List ℕ → List ℕ → List ℕ
numbers_in names facts cs s = map (λ i. number_there names facts cs (token_at s i)) (numbers_from 0 (length s))

abbrev pub names_in : List ℕ → List Facts → List ℕ → List ℕ → List ℕ → Names
names_in names facts cs words s = names_of (numbers_in names facts cs s) itselves words 0

-- what a step says of causes 9 and 10, and of the level
abbrev pub causes_of : Step → CauseStep
causes_of r = record { count = r.count; inner = r.inner.bound; looked = r.looked }

abbrev pub level_of : Step → LevelStep
level_of r = record { count = r.count; inner = r.inner.bits; labels = r.labels; form = r.form; next = r.looked.next }

-- the two put side by side
pub record Beside (t : LevelStep) (bound : ℕ) (a : Looked) (r : Step) : Type 0 where
  pub causes : causes_of r ≡ record { count = t.count; inner = bound; looked = a }
  pub level : level_of r ≡ record { count = t.count; inner = t.inner; labels = t.labels; form = t.form; next = a.next }

-- a name of k arguments that means what `look` says, wherever it stands
pub record NamedBy (words : List ℕ) (look : Answer Look) (k bits l f x : ℕ) (r : LevelStep) : Type 0 where
  pub anywhere : (refs : List ℕ) (at : ℕ) → get_or refs at 0 ≡ number_of look → levels.Named (names_of refs itselves words 0) k at bits l f x r

-- a token that means what `look` says, if it is a name
pub record Told (words : List ℕ) (look : Answer Look) (t : Token) (bits l f x : ℕ) (r : Option LevelStep) : Type 0 where
  pub anywhere : (refs : List ℕ) (at : ℕ) → (is_name t ≡ true → get_or refs at 0 ≡ number_of look)
      → levels.Tokened (names_of refs itselves words 0) t at bits l f x r

-- a step over the token t: what is known after it from what a knows before, x being the position after it, and its level
pub record Known (names : List ℕ) (facts : List Facts) (cs words : List ℕ) (p : ℕ) (t : Token) (e : Scope) (l f : ℕ) (a : Looked) (x : ℕ) (r : Step) : Type 0 where
  pub heads : causes.Heads names facts cs p e.bound t (record { next = x; unknown = a.unknown; miscounted = a.miscounted }) r.looked
  pub bound : r.inner.bound ≡ inside t e.bound
  pub told : Told words (look_in names facts cs t) t e.bits l f x (Some (level_of r))

-- such a step, or none, if it is no token
abbrev pub Over : List ℕ → List Facts → (cs words : List ℕ) → (p : ℕ) → Token → Scope → (l f : ℕ) → Looked → (x : ℕ) → Option Step → Type 0
Over names facts cs words p t e l f a x None = levels.Lost t
Over names facts cs words p t e l f a x (Some r) = Known names facts cs words p t e l f a x r

-- a parameter, p being known
pub record ParameterAt (p i : ℕ) (e : Scope) (l f : ℕ) (a : Looked) (x : ℕ) (r : Step) : Type 0 where
  pub causes : causes.Leaf e.bound x (leb p i) a (causes_of r)
  pub level : levels.Plain 0 (Parameter i) e.bits l f x (level_of r)

-- a built-in, whose code exists
pub record Coded (code : ℕ) (e : Scope) (l f : ℕ) (a : Looked) (x : ℕ) (r : Step) : Type 0 where
  pub there : arity_of code ≡ no_code → ⊥
  pub count : r.count ≡ arity_of code
  pub bound : r.inner.bound ≡ inside (BuiltIn code) e.bound
  pub known : (r.looked.next ≡ x) × (r.looked.unknown ≡ a.unknown) × (r.looked.miscounted ≡ a.miscounted)
  pub level : levels.Built code e.bits l f x (Some (level_of r))

-- or none, whose code does not
abbrev pub CodeAt : (code : ℕ) → Scope → (l f : ℕ) → Looked → (x : ℕ) → Option Step → Type 0
CodeAt code e l f a x None = arity_of code ≡ no_code
CodeAt code e l f a x (Some r) = Coded code e l f a x r

-- A step over the token at the position that a has reached, under label l, in a scope e: what skimming says of it, and what it adds to the form.
pub record Passed (names : List ℕ) (facts : List Facts) (cs words : List ℕ) (p : ℕ) (s : List ℕ) (e : Scope) (l form : ℕ) (a : Looked) (r : Step) : Type 0 where
  pub causes : causes.Passed names facts cs p e.bound s a (causes_of r)
  pub level : levels.Passed (names_in names facts cs words s) s a.next e.bits l form (level_of r)

-- such a step, or none, where no expression keeps the limits
abbrev pub Steps : List ℕ → List Facts → (cs words : List ℕ) → (p : ℕ) → (s : List ℕ) → Scope → (l form : ℕ) → Looked → Option Step → Type 0
Steps names facts cs words p s e l form a None = causes.Steps names facts cs p e.bound s a None
Steps names facts cs words p s e l form a (Some r) = Passed names facts cs words p s e l form a r

-- what arguments inherit, as far as their level depends on it
abbrev pub under_of : Under → LevelUnder
under_of u = record { around = u.around.bits; within = u.within.bits; label = u.label; labels = u.labels }

-- What the walk answers of an argument list that keeps the limits: causes 9 and 10, as skimming has it, where p parameters are known; and the form,
-- to which each argument's level is added.
pub record AllAnswered (names : List ℕ) (facts : List Facts) (cs words : List ℕ) (p : ℕ) (s : List ℕ) (u : Under) (form : ℕ) (x : Founds) (w : Walked) : Type 0 where
  pub causes : causes.SkimsAll names facts cs p u.around.bound u.within.bound x true w.looked
  pub level : levels.AddsAll (names_in names facts cs words s) (under_of u) form x w.form w.looked.next

-- and of any; none where a limit is passed
abbrev pub AllJudged : List ℕ → List Facts → (cs words : List ℕ) → (p : ℕ) → (s : List ℕ) → Under → (form : ℕ) → Founds → Option Walked → Type 0
AllJudged names facts cs words p s u form x None = causes.AllSkimmed names facts cs p u.around.bound u.within.bound x None
AllJudged names facts cs words p s u form x (Some w) = AllAnswered names facts cs words p s u form x w

-- and of the expression that the bytes s begin with
pub record Answered (names : List ℕ) (facts : List Facts) (cs words : List ℕ) (p : ℕ) (s : List ℕ) (w : Walked) : Type 0 where
  pub causes : causes.Skims names facts cs p 0 (expr_at max_nesting s 0) true w.looked
  pub level : levels.TextForm (names_in names facts cs words s) s 0 w.form

abbrev pub Judged : List ℕ → List Facts → (cs words : List ℕ) → (p : ℕ) → (s : List ℕ) → Option Walked → Type 0
Judged names facts cs words p s None = causes.Skimmed names facts cs p 0 (expr_at max_nesting s 0) None
Judged names facts cs words p s (Some w) = Answered names facts cs words p s w

-- room for as many bound variables more as there is nesting left
pub record Roomy (nest : ℕ) (u : Under) : Type 0 where
  pub bits : levels.Fits nest (under_of u)
  pub around : u.around.bound + nest < word_count
  pub within : u.within.bound + nest < word_count
