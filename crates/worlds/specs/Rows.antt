-- The world of each definition that the fields of a file add, and its original text.
use Rattle.std.specs.Prelude.{List, [], ◌++◌, ◌∷◌, map, ℕ, get_or, length}
use Rattle.rules.specs.Add.{add}
use Rattle.rules.specs.Field.{Field, Substitution, assume, begin_module, declare_constant, declare_variable, definition, end_module, extends, instance, theorem}
use Rattle.rules.specs.Instance.{kind_in, source, substitute}
use Rattle.rules.specs.State.{State, definition_at}
use Rattle.theory.specs.Expand.{Definition, brought, nothing, own}
use Rattle.theory.specs.Term.{Term}
use Rattle.worlds.specs.World.{Link, World}

-- the world of a definition, and the number of the own definition whose text it is
pub record Row : Type 0 where
  pub world : World
  pub source : ℕ

abbrev pub no_row : Row
no_row = record { world = []; source = 0 }

-- an INSTANCE field as a link
abbrev pub link_of : State → ℕ → ℕ → List Substitution → Link
link_of s p m ss =
    record {
      params = p;
      kinds = kind_in (source s m);
      substitutes = substitute s p (source s m) ss;
      names = (source s m).definitions;
      first = length s.definitions;
    }

-- what an instance brings from a definition: one link more, at the outer end
abbrev pub brought_row : Link → Row → Row
brought_row l r = record { world = r.world ++ (l ∷ []); source = r.source }

abbrev pub brought_rows : State → List Row → ℕ → ℕ → List Substitution → List Row
brought_rows s rs p m ss = map (λ g. brought_row (link_of s p m ss) (get_or rs g no_row)) (source s m).definitions

-- the rows of the definitions that a field adds
abbrev pub new_rows : State → List Row → Field → List Row
new_rows s rs (begin_module n) = []
new_rows s rs (extends m ms) = []
new_rows s rs (declare_constant n k) = []
new_rows s rs (declare_variable n) = []
new_rows s rs (definition n p e) = record { world = []; source = length s.definitions } ∷ []
new_rows s rs (instance n p m ss) = brought_rows s rs p m ss
new_rows s rs end_module = []
new_rows s rs (assume e) = []
new_rows s rs (theorem e) = []

abbrev pub rows_after : State → List Row → Field → List Row
rows_after s rs f = rs ++ new_rows s rs f

-- after a row of fields
abbrev pub rows_of : State → List Row → List Field → List Row
rows_of s rs [] = rs
rows_of s rs (f ∷ fs) = rows_of (add s f) (rows_after s rs f) fs

-- The world of a definition, the number of its original, and that text with its own parameters.
abbrev pub world_of : List Row → ℕ → World
world_of rs D = (get_or rs D no_row).world

abbrev pub source_of : List Row → ℕ → ℕ
source_of rs D = (get_or rs D no_row).source

abbrev pub body_of : Definition → Term
body_of (own n t) = t
body_of (brought p σ g) = nothing

abbrev pub own_params : Definition → ℕ
own_params (own n t) = n
own_params (brought p σ g) = 0

abbrev pub original : State → List Row → ℕ → Definition
original s rs D = (definition_at s (source_of rs D)).meaning

abbrev pub text_of : State → List Row → ℕ → Term
text_of s rs D = body_of (original s rs D)
