-- Chains of instances whose parts fit together, so that what a world says of names agrees with the templates of the definitions brought.
use mathlib.Core.List.{List, [], ◌∷◌}
use mathlib.Core.Option.{Option, some}
use mathlib.Core.Path.{◌∙◌, ◌≡◌, ap, refl}
use native.Mathlib.Omega.{arith}
use Prim.Native.Nat.{◌+◌, ℕ}
use Rattle.rules.specs.State.{inside}
use Rattle.theory.specs.Expand.{expand, instantiate}
use Rattle.theory.specs.Term.{Arities, Kind, Term, WellFormed, kind_arity}
use Rattle.worlds.specs.World.{Link, World, brings, number_in, params_in}

-- an expanded text with every instance of the chain carried out, the innermost first; bodies g is the template of definition g
abbrev pub instanced : (ℕ → Term) → World → Term → Term
instanced bodies [] u = u
instanced bodies (l ∷ w) u = instanced bodies w (instantiate (λ k x. expand bodies (l.substitutes k x)) l.params u)

-- the definitions that a text may name, with their parameter counts: in each module of the chain, the innermost first, and at last where it
-- is brought to
abbrev pub arities_in : Arities → List Arities → Arities
arities_in base [] = base
arities_in base (i ∷ is) = i

-- An instance fits: its substitutes are well formed where its field stands (outer); each definition of the module that it instances (inside)
-- is known, and so is the one brought from it where the field stands, whose template is its source's with every declared name substituted.
pub record FitLink (ar : Arities) (bodies : ℕ → Term) (outer inside : Arities) (l : Link) : Type 0 where
  pub formed : (c : Kind) (x : ℕ) → WellFormed outer (l.params + kind_arity c) 0 (l.substitutes c x)
  pub known : (g m : ℕ) → inside g ≡ some m → ar g ≡ some m
  pub onward : (g m : ℕ) → inside g ≡ some m → outer (brings l g) ≡ some (l.params + m)
  pub copied : (g m : ℕ) → inside g ≡ some m → bodies (brings l g) ≡ instantiate (λ k x. expand bodies (l.substitutes k x)) l.params (bodies g)

abbrev pub Fit : Arities → (ℕ → Term) → Arities → World → List Arities → Type 0
Fit ar bodies base [] [] = (g m : ℕ) → base g ≡ some m → ar g ≡ some m
Fit ar bodies base [] (i ∷ is) = ⊥
Fit ar bodies base (l ∷ w) [] = ⊥
Fit ar bodies base (l ∷ w) (i ∷ is) = FitLink ar bodies (arities_in base is) i l × Fit ar bodies base w is

module _ (ar : Arities) (bodies : ℕ → Term) (base : Arities) where
  -- what a defined name is in a world that fits is in base, with the instances' parameters before its own,
  pub number-known : (w : World) (is : List Arities) → Fit ar bodies base w is → (g m : ℕ) → arities_in base is g ≡ some m → base (number_in w g) ≡ some (params_in w + m)
  number-known [] [] f g m e = e ∙ ap {B = Option ℕ} some (omega arith)
  number-known [] (i ∷ is) f g m e = absurd f
  number-known (l ∷ w) [] f g m e = absurd f
  number-known (l ∷ w) (i ∷ is) f g m e =
      number-known w is f.1 (brings l g) (l.params + m) (f.0.onward g m e) ∙ ap {B = Option ℕ} some (omega arith)

  -- and its template is the source's with every instance of the chain carried out
  pub number-copied : (w : World) (is : List Arities) → Fit ar bodies base w is → (g m : ℕ) → arities_in base is g ≡ some m → bodies (number_in w g) ≡ instanced bodies w (bodies g)
  number-copied [] [] f g m e = refl
  number-copied [] (i ∷ is) f g m e = absurd f
  number-copied (l ∷ w) [] f g m e = absurd f
  number-copied (l ∷ w) (i ∷ is) f g m e =
      number-copied w is f.1 (brings l g) (l.params + m) (f.0.onward g m e) ∙ ap (instanced bodies w) (f.0.copied g m e)

  -- what a text in such a world may name is known
  pub names-known : (w : World) (is : List Arities) → Fit ar bodies base w is → (g m : ℕ) → arities_in base is g ≡ some m → ar g ≡ some m
  names-known [] [] f g m e = f g m e
  names-known [] (i ∷ is) f g m e = absurd f
  names-known (l ∷ w) [] f g m e = absurd f
  names-known (l ∷ w) (i ∷ is) f g m e = f.0.known g m e
