-- Where an expansion stands: the string in the memory is that of a term that means the same as the one to be expanded.
use Rattle.std.specs.Prelude.{None, Option, Result, Some, false, true, List, [], ◌≡◌, ℕ, suc, ◌≤◌, ◌<◌, length, replicate}
use Rattle.symbols.specs.Spell.{spell}
use Rattle.symbols.specs.Symbol.{Spelt, calls}
use Rattle.theory.proofs.Size.{sizes}
use Rattle.theory.specs.Lists.{any}
use Rattle.theory.specs.Expand.{arities_of}
use Rattle.theory.specs.Term.{Term, WellFormed, eval, with_defined}
use Rattle.rules.specs.Query.{expansion_bytes_of, unless_longer}
use Rattle.rules.specs.State.{State, templates_of}
use Rattle.store.specs.declared.Store.{Store}
use Rattle.strings.specs.Read.{highest_call}
use Rattle.unfolding.specs.CalleeTerm.{sense_of}
use Rattle.unfolding.specs.Meaning.{meaning_of}
use Rattle.unfolding.specs.Sense.{Same, Stands}
use Rattle.unfolding.proofs.AllRight.{RightBelow}
use Rattle.spelling.specs.Strings.{ShapesFit, shapes_of}
use Rattle.templates.specs.Told.{Told}
use Rattle.expanding.specs.Reports.{Reports}
use Rattle.refusals.specs.declared.Refusal.{Refusal}

pub record Held (s : State) (σ : ℕ → ℕ) (p : ℕ) (t : Term) (a : List ℕ) (len : ℕ) : Type 0 where
  pub term : Term
  pub same : Same (sense_of s σ) t term
  pub stands : Stands (sense_of s σ) p term
  pub spelt : Spelt a 0 (spell σ term) len

-- "expansion longer than .. 65,535 bytes"
abbrev pub Long : State → ℕ → Term → Type 0
Long s p t = 65535 < eval (with_defined sizes (meaning_of sizes s)) (replicate p 2) [] t

-- what is then called is below d
pub record Lower (s : State) (σ : ℕ → ℕ) (p : ℕ) (t : Term) (d : ℕ) (a : List ℕ) (len : ℕ) : Type 0 where
  pub held : Held s σ p t a len
  pub below : highest_call (spell σ held.term) ≤ d

pub record Replaces (s : State) (σ : ℕ → ℕ) (p : ℕ) (t : Term) (d : ℕ) (a : List ℕ) (r : Option ℕ) : Type 0 where
  pub yes : (q : ℕ) → r ≡ Some q → Lower s σ p t d a q
  pub no : r ≡ None → Long s p t

-- The calls of definition d, the highest that is called, have been replaced.
pub record CallsReplaced (file refs : List ℕ) (v : Store) (declared : List ℕ) (n : ℕ) (shapes : List ℕ) (d : ℕ) (before : List ℕ) (len : ℕ) (after : List ℕ) (r : Option ℕ) : Type 0 where
  pub within : (q : ℕ) → r ≡ Some q → q ≤ length before
  pub replaced : (x : Told file refs v declared n) → ShapesFit shapes → RightBelow x.state (shapes_of shapes) x.counts.definitions → (p : ℕ) (t : Term)
      → (h : Held x.state (shapes_of shapes) p t before len) → highest_call (spell (shapes_of shapes) h.term) ≡ suc d
      → Replaces x.state (shapes_of shapes) p t d after r

-- no call is left
pub record Whole (s : State) (σ : ℕ → ℕ) (p : ℕ) (t : Term) (a : List ℕ) (len : ℕ) : Type 0 where
  pub held : Held s σ p t a len
  pub clear : any (calls (λ n. true)) (spell σ held.term) ≡ false

pub record Ends (s : State) (σ : ℕ → ℕ) (p : ℕ) (t : Term) (a : List ℕ) (r : Option ℕ) : Type 0 where
  pub yes : (q : ℕ) → r ≡ Some q → Whole s σ p t a q
  pub no : r ≡ None → Long s p t

-- All calls have been replaced.
pub record Expands (file refs : List ℕ) (v : Store) (declared : List ℕ) (n : ℕ) (shapes before : List ℕ) (len : ℕ) (after : List ℕ) (r : Option ℕ) : Type 0 where
  pub within : (q : ℕ) → r ≡ Some q → q ≤ length before
  pub expanded : (x : Told file refs v declared n) → ShapesFit shapes → RightBelow x.state (shapes_of shapes) x.counts.definitions → (p : ℕ) (t : Term)
      → Held x.state (shapes_of shapes) p t before len → Ends x.state (shapes_of shapes) p t after r

-- The reply to a term whose string stands in the memory.
pub record StringReplies (file refs : List ℕ) (v : Store) (declared : List ℕ) (n : ℕ) (shapes a : List ℕ) (len : ℕ) (r : Result ℕ Refusal) (before after : List ℕ) : Type 0 where
  pub reply : (x : Told file refs v declared n) → ShapesFit shapes → RightBelow x.state (shapes_of shapes) x.counts.definitions → (p : ℕ) (t : Term)
      → WellFormed (arities_of (templates_of x.state)) p 0 t → Held x.state (shapes_of shapes) p t a len
      → Reports (unless_longer (expansion_bytes_of x.state t) (length before)) r before after
