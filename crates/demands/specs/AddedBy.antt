-- Which field of the file a definition comes from, and what that field says of it.
use Rattle.std.specs.Prelude.{List, [], ◌++◌, ◌∷◌, ◌≡◌, get_or, length, ◌+◌, ◌<◌, ℕ}
use Rattle.laws.specs.Lawful.{adds}
use Rattle.rules.specs.Add.{own_one}
use Rattle.rules.specs.Field.{Field, assume, begin_module, declare_constant, declare_variable, definition, end_module, extends, instance, theorem}
use Rattle.rules.specs.Instance.{brought_all, source}
use Rattle.rules.specs.State.{Added, State, definition_at, no_definition}

-- The definitions that a field adds after what the fields before it have added: its own, with the body written; or those that the instance brings, each with
-- what the instance puts for the declared names and the number of the original.
abbrev pub added : State → Field → List Added
added s (begin_module n) = []
added s (extends m ms) = []
added s (declare_constant n k) = []
added s (declare_variable n) = []
added s (definition n p e) = own_one s n p e ∷ []
added s (instance n p m ss) = brought_all s n p (source s m) ss
added s end_module = []
added s (assume e) = []
added s (theorem e) = []

-- Definition g of the state that the fields fs lead to from s is the i-th that one of them adds.
pub record AddedBy (s : State) (fs : List Field) (g : ℕ) : Type 0 where
  pub before : List Field
  pub here : Field
  pub behind : List Field
  pub i : ℕ
  pub fields : before ++ (here ∷ behind) ≡ fs
  pub number : length (adds s before).definitions + i ≡ g
  pub there : i < length (added (adds s before) here)
  pub is : definition_at (adds s fs) g ≡ get_or (added (adds s before) here) i no_definition
