-- What the walk over a text writes: the string of the term that the text is, by the tables.
use Rattle.std.specs.Prelude.{Bool, ◌&&◌, cond, false, List, [], ◌++◌, ◌∷◌, map, ◌≡◌, ℕ, eqb, ltb, get_or}
use Rattle.rows.specs.Rows.{arity_of}
use Rattle.theory.specs.Level.{binds_in, code_binder}
use Rattle.theory.specs.Expand.{params_from}
use Rattle.theory.specs.Lists.{numbers_from}
use Rattle.theory.specs.Term.{Terms, variable}
use Rattle.theory.specs.Tree.{count, join}
use Rattle.tokens.specs.Expr.{Found, Founds, found, founds, none, nones}
use Rattle.tokens.specs.Token.{arguments_of}
use Rattle.tokens.specs.declared.Token.{Token}
use Rattle.texts.specs.Text.{Declarations}
use Rattle.symbols.specs.Symbol.{Symbol, bytes_of, code, par}
use Rattle.symbols.specs.Spell.{bracketed, shape_limit, spell, spells}
use Rattle.unfolding.specs.InWorld.{Setting, called, named_in, term_in, terms_in, token_in}
use Rattle.spelling.specs.Put.{Put}
use Rattle.spelling.specs.Parts.{is_written, parts}

-- a shape of the table; a number that is too high is none
unfoldable pub shape_in : List ℕ → ℕ → ℕ
shape_in shapes n = cond (ltb (get_or shapes n 0) shape_limit) (get_or shapes n 0) 0

-- every declaration that two bytes can number, by its code; a string does not show their kinds
unfoldable pub declarations_in : List ℕ → List ℕ → Declarations
declarations_in names declared = map (λ (d : ℕ). (variable, get_or names (get_or declared d 0) 0)) (numbers_from 0 65536)

abbrev pub place_of : ℕ → ℕ → List ℕ → Setting
place_of level outer numbers = record { level = level; outer = outer; numbers = numbers }

module _ (look : ℕ → Token → ℕ) (σ : ℕ → ℕ) (decls : Declarations) (P : Setting) where
  -- the string of what is found is put, and x is the position after it
  unfoldable pub Wrote : Found → List ℕ → ℕ → List ℕ → ℕ → ℕ → Type 0
  Wrote (found t e) out q out' q' x = Put out q (bytes_of (spell σ (term_in look decls P t))) out' q' × (x ≡ e)
  Wrote none out q out' q' x = Unit {0}

  -- the same of what is found as the first of k arguments
  unfoldable pub ArgumentWrote : Found → ℕ → Bool → ℕ → Bool → List ℕ → ℕ → List ℕ → ℕ → ℕ → Type 0
  ArgumentWrote (found t e) k all m binds out q out' q' x =
      Put out q (bytes_of (cond (is_written all m) (bracketed (cond (binds && eqb k 1) 1 0) (spell σ (term_in look decls P t))) [])) out' q' × (x ≡ e)
  ArgumentWrote none k all m binds out q out' q' x = Unit {0}

  -- the parts of what is found, k expressions
  unfoldable pub AllWrote : Founds → ℕ → Bool → ℕ → Bool → List ℕ → ℕ → List ℕ → ℕ → ℕ → Type 0
  AllWrote (founds ts e) k all m binds out q out' q' x =
      Put out q (bytes_of (parts σ all m binds (terms_in look decls P ts))) out' q' × (x ≡ e) × (count ts ≡ k)
  AllWrote nones k all m binds out q out' q' x = Unit {0}

-- parameter i is put, if it is written
unfoldable pub Lead : Bool → ℕ → ℕ → List ℕ → ℕ → List ℕ → ℕ → Type 0
Lead all m i out q out' q' = Put out q (bytes_of (cond (is_written all m) (par i ∷ []) [])) out' q'

-- The parameters from i on are put, p of them, among the arguments of a call; what is left to be written of the others.
pub record Led (i p : ℕ) (all : Bool) (m : ℕ) (out : List ℕ) (q : ℕ) (out' : List ℕ) (all' : Bool) (m' : ℕ) (binds' : Bool) (q' : ℕ) : Type 0 where
  pub put : (σ : ℕ → ℕ) → Put out q (bytes_of (parts σ all m false (params_from i p))) out' q'
  pub rest : (σ : ℕ → ℕ) (ts : Terms) → parts σ all m false (join (params_from i p) ts) ≡ parts σ all m false (params_from i p) ++ parts σ all' m' binds' ts
  pub plain : binds' ≡ false

-- A call of n over the first `outer` parameters and then its arguments: its first symbols are put.
pub record Called (σ : ℕ → ℕ) (outer n : ℕ) (out : List ℕ) (q : ℕ) (out' : List ℕ) (all : Bool) (m : ℕ) (binds : Bool) (q' : ℕ) : Type 0 where
  pub first : List Symbol
  pub put : Put out q (bytes_of first) out' q'
  pub rest : (ts : Terms) → spell σ (called outer n ts) ≡ first ++ parts σ all m binds ts
  pub plain : binds ≡ false

-- The first symbols of a name that was resolved to r, over k arguments, are put; and what is left to be written.
pub record Named (σ : ℕ → ℕ) (decls : Declarations) (P : Setting) (r k : ℕ) (out : List ℕ) (q : ℕ) (out' : List ℕ) (all : Bool) (m : ℕ) (binds : Bool) (q' : ℕ) : Type 0 where
  pub first : List Symbol
  pub put : Put out q (bytes_of first) out' q'
  pub rest : (ts : Terms) → count ts ≡ k → spell σ (named_in decls P r ts) ≡ first ++ parts σ all m binds ts
  pub plain : binds ≡ false

-- the same of a built-in
pub record BuiltInPut (c : ℕ) (out : List ℕ) (q : ℕ) (out' : List ℕ) (all : Bool) (m : ℕ) (binds : Bool) (q' : ℕ) : Type 0 where
  pub put : Put out q (bytes_of (code c ∷ [])) out' q'
  pub rest : (σ : ℕ → ℕ) (ts : Terms) → count ts ≡ arity_of c → spells σ (binds_in (code_binder c)) ts ≡ parts σ all m binds ts

-- the same of a token, r being what it was resolved to if it is a name
pub record Headed (σ : ℕ → ℕ) (decls : Declarations) (P : Setting) (t : Token) (r : ℕ) (out : List ℕ) (q : ℕ) (out' : List ℕ) (all : Bool) (m : ℕ) (binds : Bool) (q' : ℕ) : Type 0 where
  pub first : List Symbol
  pub put : Put out q (bytes_of first) out' q'
  pub rest : (at : ℕ) (ts : Terms) → count ts ≡ arguments_of t → spell σ (token_in (λ a u. r) decls P at t ts) ≡ first ++ parts σ all m binds ts
