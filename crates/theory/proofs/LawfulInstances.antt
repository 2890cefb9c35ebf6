-- Lawful instances stay lawful (specs/LawfulInstances).
use mathlib.Core.Bool.{Bool, cond, false, true}
use mathlib.Core.List.{List, [], ◌++◌, ◌∷◌}
use mathlib.Core.Path.{◌≡◌, refl, subst}
use lib.Dec.{lit≤}
use lib.ListN.{length, length-replicate, replicate-append-replicate}
use native.Mathlib.Omega.{arith}
use Prim.Native.Nat.{◌+◌, ◌<◌, suc, zero, ℕ}
use Rattle.theory.proofs.ConstantTerms.{constant-under, operator-under}
use Rattle.theory.proofs.Lattice.{below-same, below-zero, each_below, highest-upper}
use Rattle.theory.proofs.Levels.{highest-level}
use Rattle.theory.proofs.Lists.{any_at, each_same, map-all, never, replicate-all}
use Rattle.theory.proofs.Monotone.{codes-below}
use Rattle.theory.proofs.RelatedLevels.{related}
use Rattle.theory.proofs.Substitution.{instantiation}
use Rattle.theory.specs.Expand.{instantiate}
use Rattle.theory.specs.Lattice.{Below, EachBelow}
use Rattle.theory.specs.LawfulInstances.{ConstantSubstitutes, Formed, LawfulInstances, LawfulSubstitutes, all_at_zero, substituted}
use Rattle.theory.specs.Level.{IsLevel, highest, incorrect, mixes, top}
use Rattle.theory.specs.Lists.{All}
use Rattle.theory.specs.Term.{Fits, Kind, Term, WellFormed, constant, declared_level, kind_arity, level, long_way, no_definitions, variable, with_declared}

module _ (σ : Kind → ℕ → Term) (p : ℕ) where
  -- a declared name read as its substitute, the instance's parameters at 0
  abbrev read : Kind → ℕ → List ℕ → ℕ
  read k x ls = level long_way (all_at_zero p ++ ls) (σ k x)

  instance-read : (n : ℕ) (v : List ℕ) (t : Term) → Formed σ p → WellFormed no_definitions n 0 t
      → level long_way (all_at_zero p ++ v) (instantiate σ p t) ≡ level (with_declared long_way read) v t
  instance-read n v t ok w =
      subst (λ (q : ℕ). level long_way (all_at_zero p ++ v) (instantiate σ q t) ≡ level (with_declared long_way read) v t) (length-replicate p 0)
      (instantiation long_way σ no_definitions no_definitions (all_at_zero p) v n 0 [] t (rw length-replicate ok) w)

  -- of a name without arguments: the level that is judged
  read-alone : (k : Kind) (x : ℕ) (ls : List ℕ) → kind_arity k ≡ 0 → length ls ≡ 0 → read k x ls ≡ substituted σ p k x
  read-alone k x [] e l = rw (e, ← (replicate-append-replicate {A = ℕ} p 0 0))
  read-alone k x (m ∷ ls) e l = absurd (omega arith)

  no_higher : (n : ℕ) (v : List ℕ) (t : Term) → Formed σ p → LawfulSubstitutes σ p → WellFormed no_definitions n 0 t → All IsLevel v
      → Below (level long_way (all_at_zero p ++ v) (instantiate σ p t)) (level long_way v t)
  no_higher n v t ok lawful w a =
      rw (instance-read n v t ok w)
      (related Below (λ l h. below-same l) codes-below (Fits no_definitions n) read names v v a (each_same Below v (map-all IsLevel (λ l. Below l l) (λ l h. below-same l) v a)) t w)
    where
      names : (k : ℕ) (d : Kind) (x : ℕ) (ls ms : List ℕ) → length ls ≡ kind_arity d → All IsLevel ms → EachBelow ls ms → Below (read d x ls) (declared_level d x ms)
      names k (constant n) x ls ms l a r =
          operator-under (highest ms) (highest-level ms a) p n (σ (constant n) x) ls (ok (constant n) x) (omega (arith, lawful.constants n x)) l
          (each_below ls ms (highest ms) r (highest-upper ms a))
      names k variable x ls ms l a r = rw (read-alone variable x ls refl l) (omega (arith, lawful.variables x), λ e f. omega arith)

  module _ (subs : List ℕ) (lawful : ConstantSubstitutes σ p subs) where
    levels : All IsLevel subs
    levels = map-all (λ l. l < incorrect) IsLevel (λ l h. omega arith) subs lawful.not_incorrect

    constant-module : (n : ℕ) (t : Term) → Formed σ p → WellFormed no_definitions n 0 t → level long_way (all_at_zero n) t ≡ 0
        → Below (level long_way (all_at_zero (p + n)) (instantiate σ p t)) (highest subs)
    constant-module n t ok w e =
        rw (← (replicate-append-replicate {A = ℕ} p n 0), instance-read n (all_at_zero n) t ok w)
        (constant-under (highest subs) (highest-level subs levels) read constants n (all_at_zero n) t (length-replicate n 0) (replicate-all (λ l. Below l (highest subs)) n 0 (below-zero (highest subs))) w e)
      where
        constants : (n x : ℕ) (ls : List ℕ) → length ls ≡ n → All (λ l. Below l (highest subs)) ls → Below (read (constant n) x ls) (highest subs)
        constants zero x ls l b =
            rw (read-alone (constant 0) x ls refl l)
            (any_at (λ l. Below l (highest subs)) (substituted σ p (constant 0) x) (0 ∷ subs) (below-zero (highest subs), highest-upper subs levels) (lawful.constants x))
        constants (suc n) x ls l b =
            operator-under (highest subs) (highest-level subs levels) p (suc n) (σ (constant (suc n)) x) ls (ok (constant (suc n)) x) (omega (arith, lawful.operators n x)) l b

    substitutes_lawful : highest subs < incorrect
    substitutes_lawful = go (mixes subs) refl
      where
        top-lawful : (ls : List ℕ) → All (λ l. l < incorrect) ls → top ls < incorrect
        top-lawful [] a = lit≤ tt
        top-lawful (l ∷ ls) a = omega (arith, a.0, top-lawful ls a.1)

        go : (b : Bool) → mixes subs ≡ b → cond b incorrect (top subs) < incorrect
        go true e = let mixed : true ≡ false = cc lawful.not_mixed in never mixed
        go false e = top-lawful subs lawful.not_incorrect

pub lawful-instances : LawfulInstances
lawful-instances =
    record {
      no_higher = no_higher;
      constant-module = λ σ p n ls t ok lawful w e. constant-module σ p ls lawful n t ok w e;
      substitutes_lawful = substitutes_lawful;
    }
