-- One start for each world: the definition that a name is in a world is the world's start and the name's place in the module instanced.
use mathlib.Core.List.{List, [], ◌++◌, ◌∷◌}
use mathlib.Core.Path.{◌∙◌, ◌≡◌, ap, refl, sym}
use lib.ListN.{length}
use native.Mathlib.Omega.{arith}
use Prim.Native.Nat.{◌+◌, ◌-◌, ◌≤◌, ℕ}
use Rattle.rules.specs.State.{start}
use Rattle.theory.specs.Expand.{Definition}
use Rattle.worlds.proofs.InWorld.{Comes}
use Rattle.worlds.proofs.Runs.{Disjoint, Has, InRun, Run, contiguous, whole_run}
use Rattle.worlds.specs.World.{In, Link, Relative, World, brings, number_in, params_in, place, start_in}

-- an instance put at the outer end of a chain
pub number-outer : (w : World) (l : Link) (g : ℕ) → number_in (w ++ (l ∷ [])) g ≡ brings l (number_in w g)
number-outer [] l g = refl
number-outer (k ∷ w) l g = number-outer w l (brings k g)

pub params-outer : (w : World) (l : Link) → params_in (w ++ (l ∷ [])) ≡ l.params + params_in w
params-outer [] l = omega arith
params-outer (k ∷ w) l = omega (arith, params-outer w l)

-- the start of the longer chain: where the shorter one's start comes to stand
pub start-outer : (k : Link) (w : World) (l : Link) → start_in (k ∷ (w ++ (l ∷ []))) ≡ l.first + place (start_in (k ∷ w)) l.names
start-outer k w l = number-outer w l k.first

module _ (ds : List Definition) (bs : List Run) (disjoint : Disjoint bs) where
  -- numbers of one run keep their distance
  segment : (w : World) (r : Run) → Has r bs → (a b D : ℕ) → InRun r a → InRun r b → Comes ds bs w b D → a ≤ b → number_in w b ≡ number_in w a + (b - a)
  segment [] r h a b D u v c l = omega arith
  segment (k ∷ w) r h a b D u v c l =
      let i = whole_run bs disjoint k.names c.0.whole r h b a v c.1 u in
      let p = contiguous bs disjoint k.names c.0.whole r h a u i in
      let q = contiguous bs disjoint k.names c.0.whole r h b v c.1 in
      let s = segment w (k.first, length k.names) c.0.run (brings k a) (brings k b) D (omega arith, omega arith) (omega arith, omega arith) c.2 (omega (arith, u.0, v.0)) in
      let d : brings k b - brings k a ≡ b - a = omega (arith, u.0, v.0) in
      s ∙ ap (λ (m : ℕ). number_in w (brings k a) + m) d

  -- Place arithmetic: in a world that brought something, each name is the start and its place.
  pub start-place : (l : Link) (w : World) (g D : ℕ) → Comes ds bs (l ∷ w) g D → D ≡ start_in (l ∷ w) + place g l.names
  start-place l w g D c =
      let i = c.1 in
      let s = segment w (l.first, length l.names) c.0.run l.first (brings l g) D (omega arith, omega arith) (omega arith, omega arith) c.2 (omega arith) in
      comes-number w (brings l g) D c.2 ∙ s ∙ ap (λ (m : ℕ). number_in w l.first + m) (omega arith)
    where
      comes-number : (w : World) (g D : ℕ) → Comes ds bs w g D → D ≡ number_in w g
      comes-number [] g D e = sym e
      comes-number (k ∷ w) g D c = comes-number w (brings k g) D c.2

  -- what comes with one number of a run comes with all of it
  comes-run : (w : World) (r : Run) → Has r bs → (a b D : ℕ) → InRun r a → InRun r b → Comes ds bs w b D → Comes ds bs w a (number_in w a)
  comes-run [] r h a b D u v c = refl
  comes-run (k ∷ w) r h a b D u v c =
      let i = whole_run bs disjoint k.names c.0.whole r h b a v c.1 u in
      (c.0, i, comes-run w (k.first, length k.names) c.0.run (brings k a) (brings k b) D (omega arith, omega arith) (omega arith, omega (arith, c.1)) c.2)

  pub comes-name : (l : Link) (w : World) (g D : ℕ) → Comes ds bs (l ∷ w) g D → (h : ℕ) → In h l.names → Comes ds bs (l ∷ w) h (number_in (l ∷ w) h)
  comes-name l w g D c h i =
      let j = c.1 in
      (c.0, i, comes-run w (l.first, length l.names) c.0.run (brings l h) (brings l g) D (omega arith, omega arith) (omega arith, omega arith) c.2)

  -- The number of every name of the module instanced, from any one definition of the world: one addition, however long the chain.
  pub name-number : (l : Link) (w : World) (g D : ℕ) → Comes ds bs (l ∷ w) g D → (h : ℕ) → In h l.names → number_in (l ∷ w) h ≡ start_in (l ∷ w) + place h l.names
  name-number l w g D c h i = start-place l w h (number_in (l ∷ w) h) (comes-name l w g D c h i)

-- The same from D itself, with no start kept, at every world along its chain: D's number, less the place of its own source, and the name's
-- place.
pub relative : (ds : List Definition) (bs : List Run) → Disjoint bs → (w : World) (g D : ℕ) → Comes ds bs w g D → Relative w g D
relative ds bs disjoint [] g D c = c
relative ds bs disjoint (l ∷ w) g D c =
    let start = start-place ds bs disjoint l w g D c in
    ((λ h i. omega (arith, name-number ds bs disjoint l w g D c h i)), sym start, relative ds bs disjoint w (brings l g) D c.2)
