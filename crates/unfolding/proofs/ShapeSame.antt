-- The shape of a string is told by what its term means: two strings whose terms mean the same have one shape.
use mathlib.Core.Bool.{Bool, ◌||◌, cond, false, true}
use mathlib.Core.List.{List, [], ◌∷◌}
use mathlib.Core.Logic.{◌⊎◌, inl, inr}
use mathlib.Core.Path.{◌∙◌, ◌≡◌, ap, ap₂, refl, sym}
use borrow.Author.Tests.{eq-eqb, eqb-false, eqb-true, ltb-false, ltb-true}
use lib.Dec.{eqb, ltb}
use lib.ListN.{get_or}
use native.Mathlib.Omega.{arith}
use Prim.Native.Nat.{◌*◌, ◌+◌, ◌<◌, ◌≤◌, suc, zero, ℕ}
use Rattle.symbols.specs.Spell.{alone_shape, max_params, occurring, shape_limit, shape_of, spell}
use Rattle.symbols.specs.Symbol.{Symbol, begin, call, code, end, name, number, par, sees, var}
use Rattle.symbols.specs.Weight.{weight}
use Rattle.theory.proofs.Lists.{never}
use Rattle.theory.proofs.Size.{sizes}
use Rattle.theory.specs.Term.{Term, eval, with_defined}
use Rattle.worlds.proofs.Uses.{uses-more}
use Rattle.unfolding.proofs.Alone.{alone}
use Rattle.unfolding.proofs.Blind.{eval-blind}
use Rattle.unfolding.proofs.Heavy.{weight-below}
use Rattle.unfolding.proofs.Occur.{occurring-few, par_sum, sum_below}
use Rattle.unfolding.proofs.Shapes.{Compound, Single, Solid, solid-cases, spell-solid, unseen}
use Rattle.unfolding.specs.Right.{BitsRight, Calling, ShapeRight, SizeRight}
use Rattle.unfolding.specs.Sense.{BlindRight, Right, Same, Sense, Stands}

-- a list that is 0 but at one place
abbrev spike : ℕ → ℕ → List ℕ
spike N zero = N ∷ []
spike N (suc i) = 0 ∷ spike N i

spike-there : (N i : ℕ) → get_or (spike N i) i 0 ≡ N
spike-there N zero = refl
spike-there N (suc i) = spike-there N i

spike-else : (N i j : ℕ) → (i ≡ j → ⊥) → get_or (spike N i) j 0 ≡ 0
spike-else N zero zero f = absurd (f refl)
spike-else N zero (suc j) f = refl
spike-else N (suc i) zero f = refl
spike-else N (suc i) (suc j) f = spike-else N i j (λ (q : i ≡ j). f (ap suc q))

-- a parameter that occurs adds its weight
seen-sum : (f : ℕ → ℕ) (i : ℕ) (gs : List Symbol) → sees i gs ≡ true → f i ≤ par_sum f gs
seen-sum f i [] e = never (sym e)
seen-sum f i (par j ∷ gs) e = go (eqb i j) refl e (seen-sum f i gs)
  where
    go : (b : Bool) → eqb i j ≡ b → (b || sees i gs) ≡ true → (sees i gs ≡ true → f i ≤ par_sum f gs) → f i ≤ f j + par_sum f gs
    go true q h rest =
        let z : f i ≡ f j = ap f (eqb-true i j q) in
        omega arith
    go false q h rest = omega (arith, rest h)
seen-sum f i (var j ∷ gs) e = omega (arith, seen-sum f i gs e)
seen-sum f i (name x k ∷ gs) e = omega (arith, seen-sum f i gs e)
seen-sum f i (code c ∷ gs) e = omega (arith, seen-sum f i gs e)
seen-sum f i (number v ∷ gs) e = omega (arith, seen-sum f i gs e)
seen-sum f i (call n ∷ gs) e = omega (arith, seen-sum f i gs e)
seen-sum f i (begin ∷ gs) e = omega (arith, seen-sum f i gs e)
seen-sum f i (end ∷ gs) e = omega (arith, seen-sum f i gs e)

occurring-same : (n i : ℕ) (gs hs : List Symbol) → ((j : ℕ) → sees j gs ≡ sees j hs) → occurring n i gs ≡ occurring n i hs
occurring-same zero i gs hs e = refl
occurring-same (suc n) i gs hs e = ap₂ (λ (b : Bool) (x : ℕ). cond b 1 0 + 2 * x) (e i) (occurring-same n (suc i) gs hs e)

module _ (g : Sense) (p : ℕ) where
  abbrev σ : ℕ → ℕ
  σ = g.shape

  -- how long a term is, its parameters being so long
  abbrev long : List ℕ → Term → ℕ
  long ls t = eval (with_defined sizes g.as_sizes) ls [] t

  module _ (t : Term) (stands : Stands g p t) where
    of : (P : ℕ → Type 0) → ((x : ℕ) → Right g x → P x) → Calling P 0 t
    of P f = uses-more (Right g) P f t stands.calls

    pub solid : Solid (spell g.shape t)
    solid = spell-solid σ g.arity p t 0 stands.formed (of (BitsRight σ g.arity) (λ x r. r.0.1))

    pub alone-below : (i : ℕ) → spell g.shape t ≡ par i ∷ [] → i < p
    alone-below i q = go (ltb i p) refl
      where
        go : (b : Bool) → ltb i p ≡ b → i < p
        go true e = ltb-true i p e
        go false e =
            let z : sees i (par i ∷ []) ≡ false = sym (ap (sees i) q) ∙ unseen σ g.arity p i (ltb-false i p e) t 0 stands.formed in
            never (sym (ap (λ (b : Bool). b || false) (eq-eqb i i refl)) ∙ z)

    -- a shape takes seven bits
    pub shape-low : p ≤ max_params → shape_of (spell g.shape t) < shape_limit
    shape-low few = go (solid-cases (spell σ t) solid)
      where
        go : Single (spell σ t) ⊎ Compound (spell σ t) → shape_of (spell σ t) < shape_limit
        go (inl (i, q)) =
            let s : shape_of (spell σ t) ≡ alone_shape + i = ap shape_of q in
            omega (arith, alone-below i q)
        go (inr c) = omega (arith, c.shape, occurring-few max_params 0 (spell σ t))

    pub alone-long : (i : ℕ) → spell g.shape t ≡ par i ∷ [] → (ls : List ℕ) → eval (with_defined sizes g.as_sizes) ls [] t ≡ get_or ls i 0
    alone-long i q ls =
        alone sizes σ g.arity g.as_sizes p t 0 i ls [] stands.formed (of (ShapeRight sizes σ g.arity g.as_sizes) (λ x r. r.1.0)) q

    sum-long : (ls : List ℕ) → weight (λ i. get_or ls i 0) (spell σ t) ≤ long ls t
    sum-long ls = weight-below σ g.arity g.as_sizes p ls t 0 stands.formed (of (SizeRight σ g.arity g.as_sizes) (λ x r. r.1))

    pub heavy-long : (ls : List ℕ) → Compound (spell g.shape t) → 2 ≤ eval (with_defined sizes g.as_sizes) ls [] t
    heavy-long ls c = omega (arith, sum-long ls, c.heavy (λ j. get_or ls j 0))

    -- a parameter that occurs is counted
    pub seen-long : (i : ℕ) (ls : List ℕ) → sees i (spell g.shape t) ≡ true → get_or ls i 0 ≤ eval (with_defined sizes g.as_sizes) ls [] t
    seen-long i ls e = omega (arith, seen-sum (λ (j : ℕ). get_or ls j 0) i (spell σ t) e, sum_below (λ (j : ℕ). get_or ls j 0) (spell σ t), sum-long ls)

    -- and nothing else is
    pub blind-long : (ls ms : List ℕ) → ((j : ℕ) → sees j (spell g.shape t) ≡ true → get_or ls j 0 ≡ get_or ms j 0)
        → eval (with_defined sizes g.as_sizes) ls [] t ≡ eval (with_defined sizes g.as_sizes) ms [] t
    blind-long ls ms e =
        eval-blind sizes σ g.arity g.as_sizes p ls ms t 0 [] stands.formed
        (of (λ x. ShapeRight sizes σ g.arity g.as_sizes x × BlindRight σ g.arity g.as_sizes x) (λ x r. (r.1.0, r.3))) e

    unseen-long : (i N : ℕ) → sees i (spell σ t) ≡ false → long (spike N i) t ≡ long [] t
    unseen-long i N e =
        blind-long (spike N i) [] (λ j q. spike-else N i j (λ (z : i ≡ j). never (sym q ∙ ap (λ (y : ℕ). sees y (spell σ t)) (sym z) ∙ e)))

  module _ (t u : Term) (a : Stands g p t) (b : Stands g p u) (same : (ls : List ℕ) → long ls t ≡ long ls u) where
    seen-both : (i : ℕ) → sees i (spell σ t) ≡ true → sees i (spell σ u) ≡ true
    seen-both i e = go (sees i (spell σ u)) refl
      where
        go : (x : Bool) → sees i (spell σ u) ≡ x → x ≡ true
        go true q = refl
        go false q =
            absurd (omega (arith, seen-long t a i (spike (suc (long [] u)) i) e, spike-there (suc (long [] u)) i, same (spike (suc (long [] u)) i), unseen-long u b i (suc (long [] u)) q))

    alone-not : (i : ℕ) → spell σ t ≡ par i ∷ [] → Compound (spell σ u) → ⊥
    alone-not i q c = omega (arith, alone-long t a i q [], same [], heavy-long u b [] c)

    alone-both : (i j : ℕ) → spell σ t ≡ par i ∷ [] → spell σ u ≡ par j ∷ [] → i ≡ j
    alone-both i j q r = go (eqb i j) refl
      where
        go : (x : Bool) → eqb i j ≡ x → i ≡ j
        go true e = eqb-true i j e
        go false e =
            let d : get_or (spike 1 i) j 0 ≡ 0 = spike-else 1 i j (eqb-false i j e) in
            absurd (omega (arith, alone-long t a i q (spike 1 i), same (spike 1 i), alone-long u b j r (spike 1 i), spike-there 1 i, d))

  seen_same : (x y : Bool) → (x ≡ true → y ≡ true) → (y ≡ true → x ≡ true) → x ≡ y
  seen_same true y f h = sym (f refl)
  seen_same false true f h = h refl
  seen_same false false f h = refl

  pub shape_same : (t u : Term) → Stands g p t → Stands g p u → Same g t u → shape_of (spell g.shape t) ≡ shape_of (spell g.shape u)
  shape_same t u a b same = go (solid-cases (spell σ t) (solid t a)) (solid-cases (spell σ u) (solid u b))
    where
      there : (ls : List ℕ) → long ls t ≡ long ls u
      there ls = same.as_sizes ls []

      back : (ls : List ℕ) → long ls u ≡ long ls t
      back ls = sym (there ls)

      go : Single (spell σ t) ⊎ Compound (spell σ t) → Single (spell σ u) ⊎ Compound (spell σ u) → shape_of (spell σ t) ≡ shape_of (spell σ u)
      go (inl (i, q)) (inl (j, r)) = ap shape_of (q ∙ ap (λ (x : ℕ). par x ∷ []) (alone-both t u a b there i j q r) ∙ sym r)
      go (inl (i, q)) (inr c) = absurd (alone-not t u a b there i q c)
      go (inr c) (inl (j, r)) = absurd (alone-not u t b a back j r c)
      go (inr c) (inr d) =
          c.shape
          ∙ occurring-same max_params 0 (spell σ t) (spell σ u)
          (λ i. seen_same (sees i (spell σ t)) (sees i (spell σ u)) (seen-both t u a b there i) (seen-both u t b a back i))
          ∙ sym d.shape
