-- What a walk answers and notes, by position. Definitions only.
use Rattle.std.specs.Prelude.{◌≡◌, Bool, false, cond, not, List, ℕ, ◌+◌, eqb, leb, length, set}
use Rattle.tokens.specs.Expr.{Found, found, none, Founds, founds, nones}
use Rattle.tokens.specs.Fold.{Worth, Worths}
use Rattle.tokens.specs.declared.Token.{Token}
use Rattle.tokens.specs.declared.Token.TheVariants.{Parameter, Bound, Name, InstanceOperator, BuiltIn, Literal}
use Rattle.texts.specs.Noted.{is_name, noted, noteds}
use Rattle.agree.specs.Folds.{inner_of, searching}
use Rattle.resolve.specs.Look.{look_in}
use Rattle.std.specs.Prelude.{Option as Answer, Some, None, is_none}
use Rattle.resolve.specs.declared.Look.{Look}
use Rattle.store.specs.declared.Facts.{Facts}

-- as many numbers as 16 bits give, a bound variable's index being one
abbrev pub word_count : ℕ
word_count = 65536

-- the number that is noted
abbrev pub number_of : Answer Look → ℕ
number_of (Some l) = l.number
number_of None = 0

-- k arguments are written
abbrev pub wrong_count : ℕ → Answer Look → Bool
wrong_count k (Some l) = not (eqb k l.arity)
wrong_count k None = false

-- cause 9 at a token: p parameters and k bound variables are known, and l is what it means
abbrev pub unknown_at : ℕ → ℕ → Token → Answer Look → Bool
unknown_at p k (Parameter i) l = leb p i
unknown_at p k (Bound j) l = leb k j
unknown_at p k (Name n a) l = is_none l
unknown_at p k (InstanceOperator i f a) l = is_none l
unknown_at p k (BuiltIn c) l = false
unknown_at p k (Literal v) l = false

-- cause 10 at a token
abbrev pub miscounted_at : Token → Answer Look → Bool
miscounted_at (Parameter i) l = false
miscounted_at (Bound j) l = false
miscounted_at (Name n a) l = wrong_count a l
miscounted_at (InstanceOperator i f a) l = wrong_count a l
miscounted_at (BuiltIn c) l = false
miscounted_at (Literal v) l = false

-- the table with a token noted
abbrev pub note_of : ℕ → Token → Answer Look → List ℕ → List ℕ
note_of at t l refs = cond (is_name t) (set refs at (number_of l)) refs

-- the bound variables known in the last argument of a token, where k are known around it
abbrev pub inside : Token → ℕ → ℕ
inside t k = inner_of t (λ j. j + 1) k

-- Of a token that may be none; none is no name, means nothing, has nothing noted of it and binds nothing.
abbrev pub is_name_of : Answer Token → Bool
is_name_of (Some t) = is_name t
is_name_of None = false

abbrev pub look_of : List ℕ → List Facts → List ℕ → Answer Token → Answer Look
look_of names facts cs (Some t) = look_in names facts cs t
look_of names facts cs None = None

abbrev pub noted_of : ℕ → Answer Token → Answer Look → List ℕ → List ℕ
noted_of at (Some t) l refs = note_of at t l refs
noted_of at None l refs = refs

abbrev pub inside_of : Answer Token → ℕ → ℕ
inside_of (Some t) k = inside t k
inside_of None k = k

-- what is looked up in a context given by its codes
abbrev pub unknown_in : List ℕ → List Facts → List ℕ → ℕ → ℕ → ℕ → Token → Bool
unknown_in names facts cs p k at t = unknown_at p k t (look_in names facts cs t)

abbrev pub miscounted_in : List ℕ → List Facts → List ℕ → ℕ → ℕ → Token → Bool
miscounted_in names facts cs k at t = miscounted_at t (look_in names facts cs t)

abbrev pub number_in : List ℕ → List Facts → List ℕ → Token → ℕ
number_in names facts cs t = number_of (look_in names facts cs t)

-- what is noted: where an expression is found, the number of each of its names; else the table keeps its length
unfoldable pub Notes : List ℕ → List Facts → List ℕ → Found → List ℕ → List ℕ → Type 0
Notes names facts cs (found t e) refs refs' = refs' ≡ noted (number_in names facts cs) t refs
Notes names facts cs none refs refs' = length refs' ≡ length refs

unfoldable pub NotesAll : List ℕ → List Facts → List ℕ → Founds → List ℕ → List ℕ → Type 0
NotesAll names facts cs (founds ts e) refs refs' = refs' ≡ noteds (number_in names facts cs) ts refs
NotesAll names facts cs nones refs refs' = length refs' ≡ length refs

-- A walk's answers u and c, the position x after the expression, and the table that it leaves: where an expression is found, u is whether some
-- token is unknown, c whether some argument count is wrong.
unfoldable pub Looks : List ℕ → List Facts → List ℕ → ℕ → ℕ → Found → List ℕ → List ℕ → Bool → Bool → ℕ → Type 0
Looks names facts cs p k f refs refs' u c x =
    Worth (searching (unknown_in names facts cs p)) k f u x × Worth (searching (miscounted_in names facts cs)) k f c x × Notes names facts cs f refs refs'

unfoldable pub LooksAll : List ℕ → List Facts → List ℕ → ℕ → ℕ → ℕ → Founds → List ℕ → List ℕ → Bool → Bool → ℕ → Type 0
LooksAll names facts cs p outer last f refs refs' u c x =
    Worths (searching (unknown_in names facts cs p)) outer last f u x × Worths (searching (miscounted_in names facts cs)) outer last f c x
    × NotesAll names facts cs f refs refs'
