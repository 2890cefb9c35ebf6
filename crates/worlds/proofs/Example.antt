-- Two instances, one in the other, by computation: definitions 6 and 7 are the texts of 0 and 1 in their world.
use mathlib.Core.Bool.{cond}
use mathlib.Core.List.{List, [], ◌∷◌, map}
use mathlib.Core.Option.{Option, some}
use mathlib.Core.Path.{◌≡◌, refl}
use lib.Dec.{eqb}
use Prim.Native.Nat.{ℕ}
use Rattle.theory.specs.Expand.{Definition, body_in, brought, cards, own, templates}
use Rattle.theory.specs.Level.{row}
use Rattle.theory.specs.Term.{Kind, Term, builtin, constant, declared, defined, level, long_way, param, variable}
use Rattle.theory.specs.Tree.{◌▹◌, node, ⟨⟩}
use Rattle.worlds.specs.World.{Link, World, meaning_in, number_in, start_in}

-- A has a constant K(_) and a variable u; F(p) == K(p), G == F(u): definitions 0 and 1.
abbrev text_f : Term
text_f = node (declared (constant 1) 5) (node (param 0) ⟨⟩ ▹ ⟨⟩)

abbrev text_g : Term
text_g = node (defined 0) (node (declared variable 6) ⟨⟩ ▹ ⟨⟩)

abbrev kinds_a : ℕ → Option Kind
kinds_a x = some (cond (eqb x 5) (constant 1) variable)

-- B has a variable v, H(q, a) == [q]_a, definition 2, and J(q) == INSTANCE A WITH K(a) <- H(q, a), u <- v, which brings 3 and 4.
abbrev text_h : Term
text_h = node (builtin 115) (node (param 0) ⟨⟩ ▹ node (param 1) ⟨⟩ ▹ ⟨⟩)

abbrev σ : Kind → ℕ → Term
σ (constant n) x = node (defined 2) (node (param 0) ⟨⟩ ▹ node (param 1) ⟨⟩ ▹ ⟨⟩)
σ variable x = node (declared variable 7) ⟨⟩

-- C has a variable w and INSTANCE B WITH v <- w, which brings 5, 6 and 7.
abbrev τ : Kind → ℕ → Term
τ k x = node (declared variable 8) ⟨⟩

abbrev definitions : List Definition
definitions = own 1 text_f ∷ own 0 text_g ∷ own 2 text_h ∷ brought 1 σ 0 ∷ brought 1 σ 1 ∷ brought 0 τ 2 ∷ brought 0 τ 3 ∷ brought 0 τ 4 ∷ []

abbrev inner : Link
inner = record { params = 1; kinds = kinds_a; substitutes = σ; names = 0 ∷ 1 ∷ []; first = 3 }

abbrev outer : Link
outer = record { params = 0; kinds = λ x. some variable; substitutes = τ; names = 2 ∷ 3 ∷ 4 ∷ []; first = 5 }

abbrev world : World
world = inner ∷ outer ∷ []

its-numbers : (number_in world 0 ∷ number_in world 1 ∷ start_in world ∷ []) ≡ 6 ∷ 7 ∷ 6 ∷ []
its-numbers = refl

abbrev in_its_world : Term → List ℕ → ℕ
in_its_world t ls = meaning_in long_way (cards definitions) world t ls

abbrev by_template : ℕ → List ℕ → ℕ
by_template D ls = level long_way ls (body_in (templates definitions) D)

-- G is [q]_w there: 2 where q is at most 2, and else 4
levels-G : map (λ q. in_its_world text_g (q ∷ [])) (0 ∷ 1 ∷ 2 ∷ 3 ∷ 4 ∷ []) ≡ 2 ∷ 2 ∷ 2 ∷ 4 ∷ 4 ∷ []
unfolding row
levels-G = refl

template-G : map (λ q. by_template 7 (q ∷ [])) (0 ∷ 1 ∷ 2 ∷ 3 ∷ 4 ∷ []) ≡ 2 ∷ 2 ∷ 2 ∷ 4 ∷ 4 ∷ []
unfolding row
template-G = refl

-- F is [q]_p: with q at 2, 2 where p is at most 1
levels-F : map (λ p. in_its_world text_f (2 ∷ p ∷ [])) (0 ∷ 1 ∷ 2 ∷ 3 ∷ 4 ∷ []) ≡ 2 ∷ 2 ∷ 4 ∷ 4 ∷ 4 ∷ []
unfolding row
levels-F = refl

template-F : map (λ p. by_template 6 (2 ∷ p ∷ [])) (0 ∷ 1 ∷ 2 ∷ 3 ∷ 4 ∷ []) ≡ 2 ∷ 2 ∷ 4 ∷ 4 ∷ 4 ∷ []
unfolding row
template-F = refl

-- The order of work: in the world of 6 and 7 the inner substitute names definition 2, which is 5 there, one that the outer instance itself
-- brought. So not all substitutes of an instance's worlds can be worked out before its definitions.
uses-its-own : (start_in (outer ∷ []) ∷ number_in (outer ∷ []) 2 ∷ start_in world ∷ []) ≡ 5 ∷ 5 ∷ 6 ∷ []
uses-its-own = refl
