-- Parts of the string of a task, and the calls in them. Definitions only.
use Rattle.std.specs.Prelude.{true, List, [], ◌++◌, ◌∷◌, ◌≡◌, ℕ, suc, ◌+◌, ◌<◌, get_or, length}
use Rattle.theory.specs.Expand.{nothing}
use Rattle.theory.specs.Level.{binds_in, plain}
use Rattle.theory.specs.Term.{Everys, Term, Terms, WellFormed}
use Rattle.theory.specs.Tree.{count, nth}
use Rattle.symbols.specs.Pieces.{ShapedHead}
use Rattle.symbols.specs.Spell.{alone_shape, masked, max_params, spell}
use Rattle.symbols.specs.Symbol.{Symbol, call, size}
use Rattle.strings.specs.Read.{string_at}
use Rattle.unfolding.specs.Right.{Calling}
use Rattle.unfolding.specs.Sense.{Right}
use Rattle.rewriting.specs.Ends.{bit_at, last_from}
use Rattle.rewriting.specs.Filling.{arguments_of}
use Rattle.rewriting.specs.Rewritten.{Task}
use Rattle.shifting.specs.Shift.{Closes}

-- The string cs from p to e is the end of the string of a term; `depth` brackets are open before it, and it closes them.
pub record Part (x : Task) (a : List ℕ) (p e depth : ℕ) (cs : List Symbol) : Type 0 where
  pub whole : Term
  pub level : ℕ
  pub formed : WellFormed x.sense.arity x.params level whole
  pub calling : Calling (Right x.sense) level whole
  pub before : List Symbol
  pub spelt : spell x.sense.shape whole ≡ before ++ cs
  pub start : List Symbol
  pub later : List Symbol
  pub there : string_at a 0 (length a) ≡ start ++ (cs ++ later)
  pub place : p ≡ size start
  pub end : e ≡ p + size cs
  pub closes : Closes depth cs

-- A part that comes after a call in another part, which begins with that call: so much of the string is between.
pub record Later (x : Task) (a : List ℕ) (n : ℕ) (start : List Symbol) (p e depth : ℕ) (cs : List Symbol) : Type 0 where
  pub part : Part x a p e depth cs
  pub between : List Symbol
  pub starts : part.start ≡ start ++ (call n ∷ between)

-- The part that begins at p begins with a call of n: its arguments `us`, and the rest of the part, ks.
pub record CallHere (x : Task) (a shapes : List ℕ) (n : ℕ) (start : List Symbol) (p e depth : ℕ) (more : List Symbol) : Type 0 where
  pub us : Terms
  pub ks : List Symbol
  pub rest : more ≡ masked x.sense.shape (get_or shapes n 0) us ++ ks
  pub number : count us ≡ x.arity
  pub small : get_or shapes n 0 < alone_shape
  pub level : ℕ
  pub shaped : Everys (ShapedHead x.sense.shape) level (binds_in plain) us
  -- the arguments that occur, as the code finds them
  pub given : (i : ℕ) → i < max_params → bit_at i (get_or shapes n 0) ≡ true
      → get_or (arguments_of a shapes (get_or shapes n 0) (p + 2)) i [] ≡ spell x.sense.shape (nth nothing us i)
  pub argument : (i : ℕ) → i < max_params → bit_at i (get_or shapes n 0) ≡ true
      → Later x a n start (last_from a shapes i (get_or shapes n 0) (p + 2)) (last_from a shapes (suc i) (get_or shapes n 0) (p + 2)) 0 (spell x.sense.shape (nth nothing us i))
  pub after : Later x a n start (last_from a shapes max_params (get_or shapes n 0) (p + 2)) e depth ks
