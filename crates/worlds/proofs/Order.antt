-- In which order summaries are worked out: the substitutes of a world use only definitions below the world's start, and the definitions of a
-- world are the numbers from its start on, as many as the module instanced has.
use borrow.Author.Tests.{ltb-true}
use mathlib.Core.List.{List, [], ◌∷◌}
use mathlib.Core.Path.{◌≡◌}
use lib.Dec.{ltb}
use lib.ListN.{get_or, length}
use native.Mathlib.Omega.{arith}
use Prim.Native.Nat.{◌+◌, ◌<◌, ◌≤◌, ℕ}
use Rattle.laws.proofs.Sound.{SoundFrom, all-formed}
use Rattle.rules.specs.State.{State, meanings}
use Rattle.theory.proofs.Summary.{AllFormed}
use Rattle.theory.specs.Expand.{Definition, arities_of, body_in, templates}
use Rattle.theory.specs.Term.{Kind, kind_arity}
use Rattle.worlds.proofs.File.{is-text}
use Rattle.worlds.proofs.Fit.{arities_in, number-known}
use Rattle.worlds.proofs.InWorld.{Comes, arities_below, fit, insides_of}
use Rattle.worlds.proofs.Invariant.{Worlds}
use Rattle.worlds.proofs.Places.{in-at, place_here}
use Rattle.worlds.proofs.Runs.{Disjoint, Run}
use Rattle.worlds.proofs.Starts.{comes-name, name-number, start-place}
use Rattle.worlds.proofs.Uses.{restricted-some, uses-all}
use Rattle.worlds.specs.Rows.{Row, world_of}
use Rattle.worlds.specs.World.{BeforeStarts, Link, Uses, World, brings, number_in, params_in, place, start_in}

module _ (ds : List Definition) (lawful : AllFormed [] ds) (bs : List Run) (disjoint : Disjoint bs) where
  -- the definitions of a world
  pub region : (l : Link) (w : World) (g D : ℕ) → Comes ds bs (l ∷ w) g D → (start_in (l ∷ w) ≤ D) × (D < start_in (l ∷ w) + length l.names)
  region l w g D c =
      let e = start-place ds bs disjoint l w g D c in
      let i = c.1 in
      (omega arith, omega arith)

  -- Every number that a substitute of the world uses is below the world's start.
  pub substitutes-before : (l : Link) (w : World) (g D : ℕ) → Comes ds bs (l ∷ w) g D → D < length ds
      → (c : Kind) (x : ℕ) → Uses (λ h. number_in w h < start_in (l ∷ w)) (l.substitutes c x)
  substitutes-before l w g D comes there c x =
      let ar = arities_of (templates ds) in
      let f = get_or l.names 0 0 in
      let S = number_in (l ∷ w) f in
      let k : 0 < length l.names = omega (arith, comes.1) in
      let i = in-at l.names 0 0 k in
      let first = comes-name ds bs disjoint l w g D comes f i in
      let e = name-number ds bs disjoint l w g D comes f i in
      let z : place f l.names ≡ 0 = first-place l.names k in
      let r = region l w g D comes in
      let s : S ≡ start_in (l ∷ w) = omega arith in
      let t : S < length ds = omega (arith, r.0) in
      let ok = fit ds lawful bs disjoint (l ∷ w) f S first t in
      uses-all (λ h. number_in w h < start_in (l ∷ w)) (arities_in (arities_below ar S) (insides_of ar w (brings l f) S)) (l.params + kind_arity c) (l.substitutes c x)
      (λ h m q.
      let n = number-known ar (body_in (templates ds)) (arities_below ar S) w (insides_of ar w (brings l f) S) ok.1 h m q in
      let b = ltb-true (number_in w h) S (restricted-some (λ j. ltb j S) ar (number_in w h) (params_in w + m) n).0 in
      omega arith) (ok.0.formed c x)
    where
      first-place : (xs : List ℕ) → 0 < length xs → place (get_or xs 0 0) xs ≡ 0
      first-place [] k = absurd (omega arith)
      first-place (y ∷ ys) k = place_here y ys

-- so for every world along a chain
pub before-starts : (ds : List Definition) → AllFormed [] ds → (bs : List Run) → Disjoint bs → (w : World) (g D : ℕ) → Comes ds bs w g D → D < length ds → BeforeStarts w
before-starts ds lawful bs disjoint [] g D c l = tt
before-starts ds lawful bs disjoint (k ∷ w) g D c l =
    (substitutes-before ds lawful bs disjoint k w g D c l, before-starts ds lawful bs disjoint w (brings k g) D c.2 l)

pub world-before : (s : State) (rs : List Row) → Worlds s rs → SoundFrom [] s.definitions → (D : ℕ) → D < length s.definitions → BeforeStarts (world_of rs D)
world-before s rs w sound D l =
    let x = is-text s rs w sound D l in
    before-starts (meanings s) (all-formed [] s.definitions sound) w.runs w.book.disjoint (world_of rs D) x.source D x.comes x.there
