-- Each substitute summed up once for each world, as a function of the instances' parameters and its own arguments.
use Rattle.std.specs.Prelude.{List, [], ◌++◌, ◌∷◌, ◌≡◌, ℕ, ◌+◌, length}
use Rattle.theory.specs.Lists.{All}
use Rattle.theory.specs.Term.{Kind, Reading, kind_arity}
use Rattle.worlds.specs.World.{DeclaredBy, World, eval_at, params_in, read_defined, with_names}

-- A table: the summary of each substitute of an instance. A world has one for each of its instances.
abbrev pub Table : Type 0 → Type 0
Table A = Kind → ℕ → List A → A

module _ {A : Type 0} where
  -- a declared name is the summary of its substitute at the instances' parameters and then its arguments
  abbrev pub declared_by : Reading A → List (Table A) → List A → Table A
  declared_by M [] pre k x vs = M.on_declared k x vs
  declared_by M (S ∷ Ss) pre k x vs = S k x (pre ++ vs)

  abbrev pub by_tables : Reading A → (ℕ → List A → A) → World → List (Table A) → List A → Reading A
  by_tables M G w Ss pre = with_names M (declared_by M Ss pre) (read_defined G w pre)

  -- the tables are right: each summary of a name that the module instanced declares is the meaning of its substitute, by the tables of the
  -- worlds outside
  abbrev pub Right : Reading A → (A → Type 0) → (ℕ → List A → A) → World → List (Table A) → Type 0
  Right M Good G [] [] = Unit {0}
  Right M Good G [] (S ∷ Ss) = ⊥
  Right M Good G (l ∷ w) [] = ⊥
  Right M Good G (l ∷ w) (S ∷ Ss) =
      ((k : Kind) (x : ℕ) → DeclaredBy l k x → (us : List A) → length us ≡ params_in (l ∷ w) + kind_arity k → All Good us
      → S k x us ≡ eval_at (by_tables M G w Ss) (params_in w) (l.substitutes k x) us)
      × Right M Good G w Ss
