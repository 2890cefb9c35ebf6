-- "A module and all it reaches": what a module's fields are in a row of fields, what they add, and which modules it names.
use Rattle.std.specs.Prelude.{List, [], ◌++◌, ◌∷◌, ◌⊎◌, ◌≡◌, T, ℕ}
use Rattle.laws.specs.Lawful.{adds}
use Rattle.rules.specs.Add.{add}
use Rattle.rules.specs.Field.{Field, assume, begin_module, declare_constant, declare_variable, definition, end_module, extends, instance, theorem}
use Rattle.rules.specs.State.{State, module_named, start}
use Rattle.theory.specs.Lists.{All, is_some}

-- the modules that a field names: those of an EXTENDS, that of an INSTANCE
abbrev pub names_of : Field → List ℕ
names_of (begin_module n) = []
names_of (extends m ms) = m ∷ ms
names_of (declare_constant n k) = []
names_of (declare_variable n) = []
names_of (definition n p e) = []
names_of (instance n p m ss) = m ∷ []
names_of end_module = []
names_of (assume e) = []
names_of (theorem e) = []

-- a field that neither begins nor ends a module
abbrev pub InnerField : Field → Type 0
InnerField (begin_module n) = ⊥
InnerField (extends m ms) = Unit {0}
InnerField (declare_constant n k) = Unit {0}
InnerField (declare_variable n) = Unit {0}
InnerField (definition n p e) = Unit {0}
InnerField (instance n p m ss) = Unit {0}
InnerField end_module = ⊥
InnerField (assume e) = Unit {0}
InnerField (theorem e) = Unit {0}

-- The row of fields has module m with this body: its fields between its own field and its end.
pub record HasModule (fs : List Field) (m : ℕ) (body : List Field) : Type 0 where
  pub before : List Field
  pub behind : List Field
  pub split : fs ≡ before ++ (begin_module m ∷ (body ++ (end_module ∷ behind)))
  pub within : All InnerField body

module _ {fs : List Field} {m : ℕ} {body : List Field} (h : HasModule fs m body) where
  -- what the fields before it add; then its own field; then its body, up to its end
  abbrev pub state_before : State
  state_before = adds start h.before

  abbrev pub state_open : State
  state_open = add state_before (begin_module m)

  abbrev pub state_body : State
  state_body = adds state_open body

-- the module of that name has ended
abbrev pub Ended : State → ℕ → Type 0
Ended u m = T (is_some (module_named u m))

-- x stands in the list
abbrev pub Among : {A : Type 0} → A → List A → Type 0
Among x [] = ⊥
Among x (y ∷ ys) = (x ≡ y) ⊎ Among x ys

-- some field of the body names module n
abbrev pub Names : List Field → ℕ → Type 0
Names body n = (f : Field) × Among f body × Among n (names_of f)

-- module m reaches itself, and each module that one which it reaches names
pub data Reaches (fs : List Field) (m : ℕ) : ℕ → Type 0 where
  reach_self : Reaches fs m m
  reach_named : {k n : ℕ} {body : List Field} → Reaches fs m k → HasModule fs k body → Names body n → Reaches fs m n

-- "equal fields for a module and all it reaches": each module that m reaches in the one row stands with the same fields in the other
abbrev pub SameFields : List Field → List Field → ℕ → Type 0
SameFields fs₁ fs₂ m = (k : ℕ) (body : List Field) → Reaches fs₁ m k → HasModule fs₁ k body → HasModule fs₂ k body
