-- Two readings of levels that differ in their declared names only: a relation of levels that names and codes keep is kept by terms.
use mathlib.Core.List.{List, [], ◌++◌}
use lib.Dec.{lit≤}
use lib.ListN.{length, replicate}
use Prim.Native.Nat.{◌+◌, suc, ℕ}
use Rattle.theory.proofs.ExpandFirst.{evals-good, length-evals}
use Rattle.theory.proofs.Levels.{bound-level, leaf-level, levels-kept}
use Rattle.theory.proofs.Lists.{append-all, each_append, each_at, each_same, replicate-all}
use Rattle.theory.specs.Level.{IsLevel, binds_in, bound_level, builtin_level}
use Rattle.theory.specs.Lists.{All, Each}
use Rattle.theory.specs.Term.{Every, Everys, Head, Kind, Reading, Term, Terms, binder, bound, builtin, declared, declared_level, defined, eval, evals, leaf, leaf_level, level, long_way, param, with_declared}
use Rattle.theory.specs.Tree.{◌▹◌, count, node, ⟨⟩}

-- R l m: so the levels of the one reading, which has D for declared names, stand to those of `long_way`. P: what is known of every head.
module _ (R : ℕ → ℕ → Type 0) (same : (l : ℕ) → IsLevel l → R l l)
    (codes : (c : ℕ) (ls ms : List ℕ) → All IsLevel ms → Each R ls ms → R (builtin_level c ls) (builtin_level c ms))
    (P : ℕ → Head → ℕ → Type 0) (D : Kind → ℕ → List ℕ → ℕ)
    (names : (k : ℕ) (d : Kind) (x : ℕ) (ls ms : List ℕ) → P k (declared d x) (length ls) → All IsLevel ms → Each R ls ms → R (D d x ls) (declared_level d x ms))
    (v w : List ℕ) (given : All IsLevel w) (each : Each R v w) where
  abbrev read : Reading ℕ
  read = with_declared long_way D

  at_head : (k : ℕ) (β β' : List ℕ) (h : Head) (ts : Terms) → All IsLevel β' → P k h (count ts) → Each R β β'
      → ((x : ℕ) → IsLevel x → Each R (evals read v β x (binds_in (binder h)) ts) (evals long_way w β' x (binds_in (binder h)) ts))
      → R (eval read v β (node h ts)) (eval long_way w β' (node h ts))
  at_head k β β' (param i) ts b p r below = each_at R v w i 4 each (same 4 (lit≤ tt))
  at_head k β β' (bound j) ts b p r below = each_at R β β' j 4 r (same 4 (lit≤ tt))
  at_head k β β' (declared d x) ts b p r below =
      let s = binds_in (binder (declared d x)) in
      names k d x (evals read v β 4 s ts) (evals long_way w β' 4 s ts) (rw length-evals p) (evals-good long_way IsLevel levels-kept w given ts β' 4 s b (lit≤ tt)) (below 4 (lit≤ tt))
  at_head k β β' (defined g) ts b p r below = same 4 (lit≤ tt)
  at_head k β β' (builtin c) ts b p r below =
      let x = bound_level c in
      let s = binds_in (binder (builtin c)) in
      codes c (evals read v β x s ts) (evals long_way w β' x s ts) (evals-good long_way IsLevel levels-kept w given ts β' x s b (bound-level c)) (below x (bound-level c))
  at_head k β β' (leaf l) ts b p r below = same (leaf_level l) (leaf-level l)

  mutual
    at-term : (t : Term) (k : ℕ) (β β' : List ℕ) → All IsLevel β' → Every P k t → Each R β β' → R (eval read v β t) (eval long_way w β' t)
    at-term (node h ts) k β β' b p r = at_head k β β' h ts b p.0 r (λ x i. at-terms ts k β β' x (binds_in (binder h)) i b p.1 r)

    at-terms : (ts : Terms) (k : ℕ) (β β' : List ℕ) (x : ℕ) (s : ℕ → ℕ) → IsLevel x → All IsLevel β' → Everys P k s ts → Each R β β'
        → Each R (evals read v β x s ts) (evals long_way w β' x s ts)
    at-terms ⟨⟩ k β β' x s i b p r = tt
    at-terms (t ▹ ts) k β β' x s i b p r =
        let new = replicate (s 0) x in (
          at-term t (s 0 + k) (new ++ β) (new ++ β') (append-all IsLevel new β' (replicate-all IsLevel (s 0) x i) b) p.0
              (each_append R new new β β' (each_same R new (replicate-all (λ l. R l l) (s 0) x (same x i))) r),
          at-terms ts k β β' x (λ i. s (suc i)) i b p.1 r,
        )

  pub related : (t : Term) → Every P 0 t → R (level read v t) (level long_way w t)
  related t p = at-term t 0 [] [] tt p tt
