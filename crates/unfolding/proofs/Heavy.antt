-- The weight of a string is no more than the length of what its term expands to.
use mathlib.Core.Bool.{Bool, cond, false, true}
use mathlib.Core.List.{List, [], ◌++◌, ◌∷◌}
use mathlib.Core.Option.{some}
use mathlib.Core.Path.{◌∙◌, ◌≡◌, ap, refl, subst, sym}
use borrow.Author.Tests.{ltb-true}
use lib.Dec.{eqb, ltb}
use lib.ListN.{get_or, get_or-replicate, length, replicate, replicate-append-replicate}
use native.Mathlib.Nat.{zero-add}
use native.Mathlib.Omega.{arith}
use Prim.Native.Nat.{◌%◌, ◌+◌, ◌-◌, ◌/◌, ◌^◌, ◌≤◌, suc, zero, ℕ}
use Rattle.symbols.proofs.Sizes.{weight-append}
use Rattle.symbols.specs.Spell.{alone_shape, bracketed, call_head, mask_of, masked, spell, spells}
use Rattle.symbols.specs.Symbol.{Symbol, call, end}
use Rattle.symbols.specs.Weight.{weight}
use Rattle.theory.proofs.ExpandFirst.{length-evals}
use Rattle.theory.proofs.Fusion.{no-scope}
use Rattle.theory.proofs.Size.{sizes, sum}
use Rattle.theory.specs.Level.{binds_in, code_binder, plain}
use Rattle.theory.specs.Term.{Arities, Everys, Fits, Reading, Term, Terms, WellFormed, bound, builtin, declared, defined, eval, evals, leaf, literal, param, with_defined}
use Rattle.theory.proofs.Values.{values}
use Rattle.theory.specs.Tree.{◌▹◌, count, node, ⟨⟩}
use Rattle.unfolding.proofs.Masks.{alone-index, mask-alone, mask_below, picked-one}
use Rattle.unfolding.specs.Right.{Calling, SizeRight, picked}
use Rattle.worlds.specs.World.{AnyName, HeadMentions}

weight-bracketed : (f : ℕ → ℕ) (m : ℕ) (gs : List Symbol) → weight f (bracketed m gs) ≡ weight f gs
weight-bracketed f zero gs = refl
weight-bracketed f (suc m) gs = omega (arith, weight-append f gs (end ∷ []))

weight-picked : (f : ℕ → ℕ) (b : Bool) (gs hs : List Symbol) (x y : ℕ) → weight f gs ≤ x → weight f hs ≤ y → weight f (cond b gs [] ++ hs) ≤ cond b x 0 + y
weight-picked f true gs hs x y a b = omega (arith, weight-append f gs hs)
weight-picked f false gs hs x y a b = omega arith

module _ (σ : ℕ → ℕ) (ar : Arities) (S : ℕ → List ℕ → ℕ) (p : ℕ) (ls : List ℕ) where
  abbrev N : Reading ℕ
  N = with_defined sizes S

  abbrev at : ℕ → ℕ
  at i = get_or ls i 0

  call_below : (n : ℕ) (ts : Terms) (k : ℕ) → SizeRight σ ar S n → ar n ≡ some (count ts)
      → ((m : ℕ) → weight at (masked σ m ts) ≤ picked m (values N ls (replicate k 3) ts))
      → weight at (call_head (σ n) n ++ masked σ (mask_of (σ n)) ts) ≤ S n (values N ls (replicate k 3) ts)
  call_below n ts k r w below = go (ltb (σ n) alone_shape) refl
    where
      vs : List ℕ
      vs = values N ls (replicate k 3) ts

      many : ar n ≡ some (length vs)
      many = w ∙ ap some (sym (length-evals N ls (replicate k 3) 0 (binds_in plain) ts))

      go : (b : Bool) → ltb (σ n) alone_shape ≡ b → weight at (cond b (call n ∷ []) [] ++ masked σ (mask_of (σ n)) ts) ≤ S n vs
      go true q =
          let m : weight at (masked σ (mask_of (σ n)) ts) ≤ picked (σ n) vs = subst (λ (x : ℕ). weight at (masked σ x ts) ≤ picked (σ n) vs) (sym (mask_below (σ n) q)) (below (σ n)) in
          omega (arith, r.1 (ltb-true (σ n) alone_shape q) vs many)
      go false q =
          let j : ℕ = σ n - alone_shape in
          let m : weight at (masked σ (mask_of (σ n)) ts) ≤ picked (2 ^ j) vs = subst (λ (x : ℕ). weight at (masked σ x ts) ≤ picked (2 ^ j) vs) (sym (mask-alone (σ n) q)) (below (2 ^ j)) in
          let s : S n vs ≡ get_or vs j 0 = r.0.0 j (alone-index (σ n) q) vs many in
          let o : picked (2 ^ j) vs ≡ get_or vs j 0 = picked-one j vs in
          omega arith

  mutual
    pub weight-below : (t : Term) (k : ℕ) → WellFormed ar p k t → Calling (SizeRight σ ar S) k t → weight at (spell σ t) ≤ eval N ls (replicate k 3) t
    weight-below (node (param i) ts) k w u = omega arith
    weight-below (node (bound j) ts) k w u = omega (arith, get_or-replicate {A = ℕ} k j 3 0 w.0.0)
    weight-below (node (declared c x) ts) k w u = omega (arith, spells-below ts k (binds_in plain) w.1 u.1, ap sum (no-scope N ls (replicate k 3) 3 0 ts))
    weight-below (node (defined n) ts) k w u = call_below n ts k u.0 w.0 (λ m. masked_below ts k m w.1 u.1)
    weight-below (node (builtin c) ts) k w u = omega (arith, spells-below ts k (binds_in (code_binder c)) w.1 u.1)
    weight-below (node (leaf (literal v)) ts) k w u = omega arith

    spells-below : (ts : Terms) (k : ℕ) (s : ℕ → ℕ) → Everys (Fits ar p) k s ts → Everys (HeadMentions AnyName (SizeRight σ ar S)) k s ts
        → weight at (spells σ s ts) ≤ sum (evals N ls (replicate k 3) 3 s ts)
    spells-below ⟨⟩ k s w u = omega arith
    spells-below (t ▹ ts) k s w u =
        rw (weight-append, weight-bracketed, replicate-append-replicate)
        (omega (arith, weight-below t (s 0 + k) w.0 u.0, spells-below ts k (λ i. s (suc i)) w.1 u.1))

    masked_below : (ts : Terms) (k m : ℕ) → Everys (Fits ar p) k (binds_in plain) ts → Everys (HeadMentions AnyName (SizeRight σ ar S)) k (binds_in plain) ts
        → weight at (masked σ m ts) ≤ picked m (values N ls (replicate k 3) ts)
    masked_below ⟨⟩ k m w u = omega arith
    masked_below (t ▹ ts) k m w u =
        weight-picked at (eqb (m % 2) 1) (spell σ t) (masked σ (m / 2) ts) (eval N ls (replicate k 3) t) (picked (m / 2) (values N ls (replicate k 3) ts))
        (subst (λ (x : ℕ). weight at (spell σ t) ≤ eval N ls (replicate x 3) t) (zero-add k) (weight-below t (0 + k) w.0 u.0))
        (masked_below ts k (m / 2) w.1 u.1)
