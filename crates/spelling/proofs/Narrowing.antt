-- A well-formed term's string has parameters and calls that bytes can hold.
use mathlib.Core.Bool.{Bool, cond, false, true}
use mathlib.Core.List.{List, [], ◌∷◌}
use mathlib.Core.Option.{some}
use mathlib.Core.Path.{◌≡◌}
use Prim.Native.Nat.{ℕ, zero, suc, ◌+◌, ◌/◌, ◌%◌, ◌<◌, ◌≤◌}
use native.Mathlib.Omega.{arith}
use lib.Dec.{eqb, ltb}
use Rattle.theory.proofs.Lists.{append-all}
use Rattle.theory.specs.Level.{binds_in, code_binder, plain}
use Rattle.theory.specs.Term.{Arities, Everys, Fits, Term, Terms, WellFormed, bound, builtin, declared, defined, leaf, literal, param}
use Rattle.theory.specs.Tree.{◌▹◌, count, node, ⟨⟩}
use Rattle.symbols.specs.Symbol.{Symbol, call, end}
use Rattle.symbols.specs.Spell.{alone_shape, bracketed, call_head, mask_of, masked, spell, spells}
use Rattle.spelling.specs.Strings.{Narrow, narrow}

narrow-bracketed : (n : ℕ) (gs : List Symbol) → Narrow gs → Narrow (bracketed n gs)
narrow-bracketed zero gs a = a
narrow-bracketed (suc n) gs a = (tt, append-all narrow gs (end ∷ []) a (tt, tt))

narrow-cond : (b : Bool) (gs : List Symbol) → Narrow gs → Narrow (cond b gs [])
narrow-cond true gs a = a
narrow-cond false gs a = tt

module _ (σ : ℕ → ℕ) (ar : Arities) (n : ℕ) (known : (g k : ℕ) → ar g ≡ some k → g < 1280) (few : n ≤ 256) where
  mutual
    pub narrow-formed : (t : Term) (k : ℕ) → WellFormed ar n k t → Narrow (spell σ t)
    narrow-formed (node (param i) ts) k w = (omega arith, tt)
    narrow-formed (node (bound j) ts) k w = (tt, tt)
    narrow-formed (node (declared d x) ts) k w = (tt, narrow-spells ts k (binds_in plain) (binds_in plain) w.1)
    narrow-formed (node (defined g) ts) k w =
        append-all narrow (call_head (σ g) g) (masked σ (mask_of (σ g)) ts) (narrow-cond (ltb (σ g) alone_shape) (call g ∷ []) (known g (count ts) w.0, tt))
        (narrow-masked ts k (binds_in plain) (mask_of (σ g)) w.1)
    narrow-formed (node (builtin c) ts) k w = (tt, narrow-spells ts k (binds_in (code_binder c)) (binds_in (code_binder c)) w.1)
    narrow-formed (node (leaf (literal v)) ts) k w = (tt, tt)

    narrow-spells : (ts : Terms) (k : ℕ) (c s : ℕ → ℕ) → Everys (Fits ar n) k c ts → Narrow (spells σ s ts)
    narrow-spells ⟨⟩ k c s w = tt
    narrow-spells (t ▹ ts) k c s w =
        append-all narrow (bracketed (s 0) (spell σ t)) (spells σ (λ i. s (suc i)) ts) (narrow-bracketed (s 0) (spell σ t) (narrow-formed t (c 0 + k) w.0))
        (narrow-spells ts k (λ i. c (suc i)) (λ i. s (suc i)) w.1)

    narrow-masked : (ts : Terms) (k : ℕ) (c : ℕ → ℕ) (m : ℕ) → Everys (Fits ar n) k c ts → Narrow (masked σ m ts)
    narrow-masked ⟨⟩ k c m w = tt
    narrow-masked (t ▹ ts) k c m w =
        append-all narrow (cond (eqb (m % 2) 1) (spell σ t) []) (masked σ (m / 2) ts) (narrow-cond (eqb (m % 2) 1) (spell σ t) (narrow-formed t (c 0 + k) w.0))
        (narrow-masked ts k (λ i. c (suc i)) (m / 2) w.1)
