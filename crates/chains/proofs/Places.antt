-- What the texts and substitutes along a chain name, by the module that they stand in.
use mathlib.Core.List.{List, [], ◌++◌, ◌∷◌}
use mathlib.Core.Path.{◌≡◌, subst, sym}
use lib.ListN.{length}
use native.Mathlib.Omega.{arith}
use Prim.Native.Nat.{◌+◌, ◌<◌, ℕ}
use Rattle.theory.proofs.Summary.{AllFormed}
use Rattle.theory.specs.Expand.{Definition, Template, brought, own, templates}
use Rattle.theory.specs.Term.{Kind}
use Rattle.worlds.proofs.InWorld.{Comes, LinkOk}
use Rattle.worlds.proofs.Ordered.{ordered-before}
use Rattle.worlds.proofs.Runs.{Disjoint, InRun, Run, whole_run}
use Rattle.worlds.proofs.Settled.{Settled, settled}
use Rattle.worlds.proofs.Uses.{definition_in, uses-only-more}
use Rattle.worlds.specs.World.{Declared, DeclaredBy, In, Link, Names, SubstitutesDeclared, UsesOnly, World, brings, number_in, params_in, place}

-- a definition of the module that the text of the world stands in; all, where no instance brought it
abbrev pub InModule : World → ℕ → Type 0
InModule [] h = Unit {0}
InModule (l ∷ w) h = In h l.names

pub comes-link : (ds : List Definition) (bs : List Run) (v : World) (l : Link) (w : World) (g D : ℕ) → Comes ds bs (v ++ (l ∷ w)) g D → LinkOk ds bs l
comes-link ds bs [] l w g D c = c.0
comes-link ds bs (k ∷ v) l w g D c = comes-link ds bs v l w (brings k g) D c.2

pub declared-link : (N : Kind → ℕ → Type 0) (v : World) (l : Link) (w : World) → SubstitutesDeclared N (v ++ (l ∷ w))
    → (k : Kind) (x : ℕ) → DeclaredBy l k x → Names (Declared N w) (l.substitutes k x)
declared-link N [] l w h = h.0
declared-link N (k ∷ v) l w h = declared-link N v l w h.1

pub params-append : (v w : World) → params_in (v ++ w) ≡ params_in w + params_in v
params-append [] w = omega arith
params-append (k ∷ v) w = omega (arith, params-append v w)

settled-uses : (ts : List Template) (D : ℕ) (d : Definition) → Settled ts D d → UsesOnly (λ h. h < D) d
settled-uses ts D (own n t) s = s.uses
settled-uses ts D (brought p σ g) s = s.uses

module _ (ds : List Definition) (lawful : AllFormed [] ds) (bs : List Run) (disjoint : Disjoint bs) where
  -- what an instance brought stands, with one of it, in the module that its field stands in
  pub brought-in : (l : Link) (w : World) (g D : ℕ) → LinkOk ds bs l → In g l.names → Comes ds bs w (brings l g) D → (h : ℕ) → In h l.names → InModule w (brings l h)
  brought-in l [] g D o i c h j = tt
  brought-in l (l' ∷ w) g D o i c h j =
      let r : Run = (l.first, length l.names) in
      let a : InRun r (brings l g) = (omega arith, omega arith) in
      let b : InRun r (brings l h) = (omega arith, omega arith) in
      whole_run bs disjoint l'.names c.0.whole r o.run (brings l g) (brings l h) a c.1 b

  -- and so, in the world, is a definition of the file
  pub number-there : (w : World) (g D : ℕ) → Comes ds bs w g D → (h : ℕ) → InModule w h → h < length ds → number_in w h < length ds
  number-there [] g D c h i k = k
  number-there (l ∷ w) g D c h i k =
      number-there w (brings l g) D c.2 (brings l h) (brought-in l w g D c.0 c.1 c.2 h i) (omega (arith, c.0.room))

  -- The text of g, or the substitutes of the instance that brought it, name definitions of the module that they stand in.
  pub uses-module : (w : World) (g D : ℕ) → Comes ds bs w g D → D < length ds → UsesOnly (λ h. (h < length ds) × InModule w h) (definition_in ds g)
  uses-module [] g D e l =
      subst (λ (i : ℕ). UsesOnly (λ h. (h < length ds) × Unit {0}) (definition_in ds i)) (sym e)
      (uses-only-more (λ h. h < D) (λ h. (h < length ds) × Unit {0}) (λ h k. (omega arith, tt)) (definition_in ds D)
      (settled-uses (templates ds) D (definition_in ds D) (settled ds lawful D l)))
  uses-module (k ∷ w) g D c l =
      uses-only-more (λ h. place h k.names < place g k.names) (λ h. (h < length ds) × In h k.names)
      (λ h i. let j : In h k.names = omega (arith, c.1) in (c.0.known h j, j)) (definition_in ds g)
      (ordered-before ds [] k.names c.0.ordered g c.1 (omega arith))
