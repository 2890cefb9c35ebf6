-- The body of a definition, the original of a brought one, and the part of the file that holds it.
use Rattle.std.specs.Prelude.{List, ◌++◌, ◌∷◌, ◌≡◌, drop, length, take, ◌<◌, suc, zero, ℕ}
use Rattle.std.proofs.Math.Option.{some}
use Rattle.laws.specs.Lawful.{Spells, adds}
use Rattle.rules.specs.Add.{own_one}
use Rattle.rules.specs.Expression.{Expression, expression}
use Rattle.rules.specs.Field.{Field, definition}
use Rattle.rules.specs.State.{State, definition_at, start}
use Rattle.theory.specs.Expand.{brought}
use Rattle.theory.specs.Term.{Kind, Term}

-- An instance brought definition g from definition h: its body is that of h.
pub record BroughtFrom (s : State) (g h : ℕ) : Type 0 where
  pub params : ℕ
  pub substitutes : Kind → ℕ → Term
  pub meaning : (definition_at s g).meaning ≡ brought params substitutes h
  pub earlier : h < g
  pub one_start : (definition_at s g).body_start ≡ (definition_at s h).body_start
  pub one_length : (definition_at s g).body_length ≡ (definition_at s h).body_length

-- The original of definition g is o: itself, or that of the definition which an instance brought it from; k instances in all.
abbrev pub From : State → ℕ → ℕ → ℕ → Type 0
From s zero g o = g ≡ o
From s (suc k) g o = (h : ℕ) × BroughtFrom s g h × From s k h o

-- The field of definition g: its original o is what the field `definition name params body` added, after the fields before it.
pub record Original (fs : List Field) (s : State) (g : ℕ) : Type 0 where
  pub instances : ℕ
  pub original : ℕ
  pub from : From s instances g original
  pub before : List Field
  pub name : ℕ
  pub params : ℕ
  pub body : Expression
  pub behind : List Field
  pub fields : before ++ (definition name params body ∷ behind) ≡ fs
  pub number : length (adds start before).definitions ≡ original
  pub added : definition_at s original ≡ own_one (adds start before) name params body

-- What is handed back for definition g: the part of the file that holds the body of its original's field.
pub record Body (file : List ℕ) (s : State) (g : ℕ) : Type 0 where
  pub fields : List Field
  pub laid_out : Spells fields file
  pub origin : Original fields s g
  pub part : take (definition_at s g).body_length (drop (definition_at s g).body_start file) ≡ expression.write origin.body
  pub reads : expression.read (take (definition_at s g).body_length (drop (definition_at s g).body_start file)) ≡ some origin.body
