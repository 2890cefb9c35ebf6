-- The tables of a world show it: what the table of forms gives for each name is what the name means in the world, at all levels of the
-- instances' parameters and of the name's arguments.
use Rattle.std.specs.Prelude.{◌≡◌, Bool, true, false, List, ◌++◌, ℕ, ◌-◌, ltb, get_or, length}
use Rattle.limits.specs.Limits.{max_definitions}
use Rattle.theory.specs.Level.{IsLevel}
use Rattle.theory.specs.Lists.{All}
use Rattle.theory.specs.Tree.{◌▹◌, node, ⟨⟩}
use Rattle.theory.specs.Term.{kind_arity, long_way}
use Rattle.texts.specs.Text.{Declarations, no_declaration}
use Rattle.tokens.specs.Expr.{Expr, Exprs}
use Rattle.tokens.specs.declared.Token.{Token}
use Rattle.tokens.specs.declared.Token.TheVariants.{Parameter, Bound, Name, InstanceOperator, BuiltIn, Literal}
use Rattle.levels.specs.Tables.{scene_of}
use Rattle.worlds.specs.World.{World, number_in, params_in}
use Rattle.worlds.specs.Tables.{Table, declared_by}

-- N are the declarations, by number, of the module that the text of the world stands in, F the definitions that it may name; G is what
-- definitions mean
pub record Shows (G : ℕ → List ℕ → ℕ) (decls : Declarations) (N F : ℕ → Type 0) (w : World) (Ss : List (Table ℕ)) (numbers words : List ℕ) : Type 0 where
  pub defined : (g : ℕ) → F g → (us : List ℕ) → All IsLevel us → (scene_of numbers words).definitions g us ≡ G (number_in w g) us
  pub declared : (d : ℕ) → N d → (pre us : List ℕ) → length pre ≡ params_in w → length us ≡ kind_arity (get_or decls d no_declaration).0 → All IsLevel pre → All IsLevel us
      → (scene_of numbers words).declarations d (pre ++ us) ≡ declared_by long_way Ss pre (get_or decls d no_declaration).0 (get_or decls d no_declaration).1 us

-- the number that a name was resolved to is that of a declaration in N, or of a definition in F
abbrev pub OneOf : Bool → (ℕ → Type 0) → (ℕ → Type 0) → ℕ → Type 0
OneOf true N F r = F r
OneOf false N F r = N (r - max_definitions)

abbrev pub Resolved : (ℕ → Type 0) → (ℕ → Type 0) → ℕ → Type 0
Resolved N F r = OneOf (ltb r max_definitions) N F r

abbrev pub TokenNames : (ℕ → Type 0) → (ℕ → Type 0) → List ℕ → ℕ → Token → Type 0
TokenNames N F refs at (Parameter i) = Unit {0}
TokenNames N F refs at (Bound j) = Unit {0}
TokenNames N F refs at (Name x k) = Resolved N F (get_or refs at 0)
TokenNames N F refs at (InstanceOperator i x k) = Resolved N F (get_or refs at 0)
TokenNames N F refs at (BuiltIn c) = Unit {0}
TokenNames N F refs at (Literal x) = Unit {0}

-- so of every name of a text
abbrev mutual
  pub TextNames : (ℕ → Type 0) → (ℕ → Type 0) → List ℕ → Expr → Type 0
  TextNames N F refs (node h ts) = TokenNames N F refs h.at h.token × TextsName N F refs ts

  pub TextsName : (ℕ → Type 0) → (ℕ → Type 0) → List ℕ → Exprs → Type 0
  TextsName N F refs ⟨⟩ = Unit {0}
  TextsName N F refs (t ▹ ts) = TextNames N F refs t × TextsName N F refs ts
