-- When a file "obeys the arity, name, instance and level rules, the layout and the limits".
use Rattle.std.specs.Prelude.{Bool, ◌&&◌, false, List, [], ◌∷◌, ◌≡◌, eqb, length, ◌≤◌, ℕ}
use Rattle.limits.specs.Limits.{file_bytes}
use Rattle.rules.specs.Add.{add}
use Rattle.rules.specs.Bytes.{write_all}
use Rattle.rules.specs.Field.{Field, FieldFits, field}
use Rattle.rules.specs.Judge.{Cause, causes}
use Rattle.rules.specs.State.{State, outside, start}
use Rattle.theory.specs.Lists.{All, any}

-- what the fields fs add after what led to s
abbrev pub adds : State → List Field → State
adds s [] = s
adds s (f ∷ fs) = adds (add s f) fs

-- the cause of number c is among some, and holds
abbrev pub holds : ℕ → List Cause → Bool
holds c cs = any (λ (x : Cause). x.1 && eqb c x.0) cs

-- cause c, of the table "When the checker says no" or 21 (paper 02, L5), does not hold of field f, which is read after the fields that led to s
abbrev pub Free : State → Field → ℕ → Type 0
Free s f c = holds c (causes s f) ≡ false

-- A field that obeys the rules: no cause holds. Each is named by the rule that it is of.
pub record FieldObeys (s : State) (f : Field) : Type 0 where
  -- "field outside its order"
  pub order : Free s f 4
  -- "a limit passed"
  pub limits : Free s f 5
  -- "module name used before", "module named is not ended earlier", "name already in the context", "name, parameter or bound index unknown"
  pub names : Free s f 6 × Free s f 7 × Free s f 8 × Free s f 9
  -- "argument count wrong, a substitute by itself included"
  pub arity : Free s f 10
  -- "level 4 in a body (parameters at 0), substitute or formula", "ASSUME not level 0"
  pub levels : Free s f 12 × Free s f 13
  -- "substituted name not declared there, or twice", "substitute's level not lawful", "an instance of a constant module whose substitutes, implicit ones
  -- included, hold both a 2 and a 3", "the module instanced has a named instance, its own or extended"
  pub instances : Free s f 11 × Free s f 14 × Free s f 21 × Free s f 16

-- each field, in its turn, after what the fields before it have added
abbrev pub EachObeys : State → List Field → Type 0
EachObeys s [] = Unit {0}
EachObeys s (f ∷ fs) = FieldObeys s f × EachObeys (add s f) fs

-- The bytes of the file are those of the fields, each as the layout has it: nothing is cut short, nothing is left over (3).
abbrev pub Spells : List Field → List ℕ → Type 0
Spells fs file = All FieldFits fs × (write_all field fs ≡ file)

-- A FILE THAT OBEYS
pub record Obeys (file : List ℕ) : Type 0 where
  -- not "empty or over its limit" (2)
  pub some_bytes : ¬ (file ≡ [])
  pub not_over : length file ≤ file_bytes
  -- the layout
  pub fields : List Field
  pub laid_out : Spells fields file
  -- the rules
  pub each_obeys : EachObeys start fields
  -- not "file ends inside a module" (4)
  pub ends_outside : (adds start fields).phase ≡ outside
