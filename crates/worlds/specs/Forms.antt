-- Summaries that are data (level forms, linear forms of lengths): the form of a text in its world, by one walk of the text.
use Rattle.std.specs.Prelude.{List, [], ◌++◌, ◌∷◌, ◌≡◌, ℕ, zero, suc, ◌+◌}
use Rattle.theory.specs.Term.{Kind, Reading, Term, eval, kind_arity}
use Rattle.worlds.specs.World.{DeclaredBy, World, number_in, params_in, with_names}

-- A kind of forms: how terms are read as forms, defined names left out; the form with other forms put in for its parameters; and the form
-- that is parameter i.
pub record Forms (B : Type 0) : Type 0 where
  pub reading : Reading B
  pub put : B → List B → B
  pub unit : ℕ → B

module _ {B : Type 0} (L : Forms B) where
  -- the parameters from i on, n of them
  abbrev pub units : ℕ → ℕ → List B
  units i zero = []
  units i (suc n) = L.unit i ∷ units (suc i) n

  -- a declared name is its substitute's form, the instances' parameters and then its arguments put in
  abbrev pub declared_form : List (Kind → ℕ → B) → List B → Kind → ℕ → List B → B
  declared_form [] pre k x fs = L.reading.on_declared k x fs
  declared_form (S ∷ Ss) pre k x fs = L.put (S k x) (pre ++ fs)

  abbrev pub form_reading : (ℕ → B) → World → List (Kind → ℕ → B) → List B → Reading B
  form_reading F w Ss pre = with_names L.reading (declared_form Ss pre) (λ g fs. L.put (F (number_in w g)) (pre ++ fs))

  -- the form of a text over n parameters in a world, by the forms of definitions and of the substitutes along the chain
  abbrev pub form_in : (ℕ → B) → World → List (Kind → ℕ → B) → ℕ → Term → B
  form_in F w Ss n t = eval (form_reading F w Ss (units 0 (params_in w))) (units (params_in w) n) [] t

  -- each substitute's form, for a name that the module instanced declares, is the form of its text in the world of its instance's own field
  abbrev pub RightForms : (ℕ → B) → World → List (Kind → ℕ → B) → Type 0
  RightForms F [] [] = Unit {0}
  RightForms F [] (S ∷ Ss) = ⊥
  RightForms F (l ∷ w) [] = ⊥
  RightForms F (l ∷ w) (S ∷ Ss) =
      ((k : Kind) (x : ℕ) → DeclaredBy l k x → S k x ≡ form_in F w Ss (l.params + kind_arity k) (l.substitutes k x)) × RightForms F w Ss
