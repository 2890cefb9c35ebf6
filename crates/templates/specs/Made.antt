-- The template of a definition: the string of its text in which no stand-in is left.
use Rattle.std.specs.Prelude.{None, Option, Some, false, true, List, [], ◌≡◌, ℕ, ◌≤◌, ◌<◌, eqb, leb, length, replicate}
use Rattle.symbols.specs.Spell.{spell}
use Rattle.symbols.specs.Symbol.{Spelt, calls}
use Rattle.theory.proofs.Size.{sizes}
use Rattle.theory.specs.Lists.{any}
use Rattle.theory.specs.Term.{Term, eval, with_defined}
use Rattle.rules.specs.State.{State, params_of}
use Rattle.store.specs.declared.Store.{Store}
use Rattle.strings.specs.Read.{far}
use Rattle.unfolding.specs.CalleeTerm.{sense_of}
use Rattle.unfolding.specs.Meaning.{meaning_of}
use Rattle.unfolding.specs.Sense.{Callee, Stands}
use Rattle.unfolding.proofs.AllRight.{RightBelow}
use Rattle.spelling.specs.Strings.{ShapesFit, shapes_of}
use Rattle.templates.specs.Taking.{work_bytes}
use Rattle.templates.specs.Told.{Told}

-- The string in the memory is that of a term that definition d stands for, and that calls none but those below d.
pub record TemplateTerm (s : State) (d : ℕ) (σ : ℕ → ℕ) (work : List ℕ) (len : ℕ) : Type 0 where
  pub term : Term
  pub callee : Callee (sense_of s σ) d (params_of s d) term
  pub low : any (calls (λ i. leb d i)) (spell σ term) ≡ false
  pub fresh : any (calls (eqb d)) (spell σ term) ≡ false
  pub near : far (spell σ term) ≡ false
  pub spelt : Spelt work 0 (spell σ term) len

-- Every expansion that holds a call of d is longer than 65,535 bytes.
abbrev pub TooLong : State → ℕ → (ℕ → ℕ) → Type 0
TooLong s d σ =
    (p : ℕ) (t : Term) → Stands (sense_of s σ) p t → any (calls (eqb d)) (spell σ t) ≡ true → 65535 < eval (with_defined sizes (meaning_of sizes s)) (replicate p 2) [] t

pub record MadeOf (s : State) (d : ℕ) (σ : ℕ → ℕ) (work : List ℕ) (r : Option ℕ) : Type 0 where
  pub yes : (len : ℕ) → r ≡ Some len → TemplateTerm s d σ work len
  pub no : r ≡ None → TooLong s d σ

pub record TemplateMade (file refs : List ℕ) (v : Store) (declared : List ℕ) (n d : ℕ) (shapes work : List ℕ) (r : Option ℕ) : Type 0 where
  pub long : length work ≡ work_bytes
  pub within : (len : ℕ) → r ≡ Some len → len ≤ work_bytes
  pub made : (x : Told file refs v declared n) → d < x.counts.definitions → ShapesFit shapes → RightBelow x.state (shapes_of shapes) x.counts.definitions
      → MadeOf x.state d (shapes_of shapes) work r
