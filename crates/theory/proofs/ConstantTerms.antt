-- A term of level 0 with parameters at 0 has nothing but constants in it: whatever is put in, it is no higher than the highest of that.
use mathlib.Core.Bool.{Bool, ◌||◌, cond, false, true}
use mathlib.Core.List.{List, [], ◌++◌, ◌∷◌}
use mathlib.Core.Option.{Option, none, some}
use mathlib.Core.Path.{◌∙◌, ◌≡◌, ap, refl, sym}
use lib.Dec.{T, eqb, eqb→eq, leb, leb→le, lit≤}
use lib.ListN.{length, length-append, length-replicate}
use native.Mathlib.Decide.{ℕ_discrete}
use native.Mathlib.Omega.{arith}
use Prim.Native.Nat.{◌+◌, ◌≤◌, ℕ}
use Rattle.theory.proofs.Finite.{at-list, at_lists}
use Rattle.theory.proofs.Lattice.{below-zero, highest-lowest, highest-upper}
use Rattle.theory.proofs.Lists.{append-all, each_all, each-length, every-all, map-all, replicate-all}
use Rattle.theory.proofs.NearestMask.{found, miscounted}
use Rattle.theory.proofs.RelatedLevels.{related}
use Rattle.theory.specs.Lattice.{Below}
use Rattle.theory.specs.LawfulInstances.{all_at_zero}
use Rattle.theory.specs.Level.{IsLevel, Row, builtin_level, highest, result_level, row, row_level, table}
use Rattle.theory.specs.Lists.{All, Each}
use Rattle.theory.specs.Term.{Fits, Kind, Term, WellFormed, constant, declared_level, kind_arity, level, long_way, no_definitions, variable, with_declared}

-- A row gives the highest of its arguments' levels, or is never 0: one computed test.
abbrev is_highest : Row → List ℕ → Bool
is_highest r ls = eqb (row_level (some r) ls) (highest ls)

abbrev is_not0 : Row → List ℕ → Bool
is_not0 r ls = leb 1 (row_level (some r) ls)

abbrev constant_or_not : Row → Bool
constant_or_not r = at_lists (length r.takes) (is_highest r) || at_lists (length r.takes) (is_not0 r)

-- so a code that is 0 at some levels gives the highest at all
abbrev GivesHighest : Option Row → ℕ → Type 0
GivesHighest o n = (ls : List ℕ) → All IsLevel ls → length ls ≡ n → row_level o ls ≡ highest ls

constant-code : (c : ℕ) (ms : List ℕ) → All IsLevel ms → builtin_level c ms ≡ 0 → GivesHighest (row c) (length ms)
constant-code c ms a = go (row c) refl
  where
    which : (r : Row) (x y : Bool) → (T x → GivesHighest (some r) (length ms)) → (T y → 1 ≤ row_level (some r) ms) → T (x || y) → row_level (some r) ms ≡ 0 → GivesHighest (some r) (length ms)
    which r true y f g t e = f tt
    which r false y f g t e = absurd (omega (arith, g t))

    counted : (r : Row) → T (constant_or_not r) → Dec (length ms ≡ length r.takes) → row_level (some r) ms ≡ 0 → GivesHighest (some r) (length ms)
    counted r t (yes l) e =
        which r (at_lists (length r.takes) (is_highest r)) (at_lists (length r.takes) (is_not0 r))
        (λ t ls h i. eqb→eq (row_level (some r) ls) (highest ls) (at-list (length r.takes) (is_highest r) t ls h (i ∙ l)))
        (λ t. leb→le 1 (row_level (some r) ms) (at-list (length r.takes) (is_not0 r) t ms a l)) t e
    counted r t (no l) e = absurd (omega (arith, ap (λ (b : Bool). cond b (result_level r.result ms) 4) (miscounted r.takes ms l)))

    go : (o : Option Row) → row c ≡ o → row_level o ms ≡ 0 → GivesHighest o (length ms)
    go none f e = absurd (omega arith)
    go (some r) f e = counted r (found (λ r. T (constant_or_not r)) (every-all constant_or_not table tt) c r f) (ℕ_discrete (length ms) (length r.takes)) e

-- Read otherwise, what was 0 is below `most`, if all that is put in is.
module _ (most : ℕ) (is_level : IsLevel most) where
  abbrev Under : ℕ → ℕ → Type 0
  Under l m = m ≡ 0 → Below l most

  all_under : (ls ms : List ℕ) → All IsLevel ms → Each Under ls ms → highest ms ≡ 0 → All (λ l. Below l most) ls
  all_under ls ms a r e =
      each_all Under (λ m. Below m (highest ms)) (λ l. Below l most) (λ l m u b. u (omega (arith, b.0))) ls ms r (highest-upper ms a)

  codes-under : (c : ℕ) (ls ms : List ℕ) → All IsLevel ms → Each Under ls ms → Under (builtin_level c ls) (builtin_level c ms)
  codes-under c ls ms a r e =
      let gives = constant-code c ms a e in
      let b = all_under ls ms a r (sym (gives ms a refl) ∙ e) in
      let h = map-all (λ l. Below l most) IsLevel (λ l h. omega (arith, h.0)) ls b in
      rw (gives ls h (each-length Under ls ms r)) (highest-lowest ls most b)

  all-zero : (v : List ℕ) → All (λ l. Below l most) v → Each Under v (all_at_zero (length v))
  all-zero [] b = tt
  all-zero (l ∷ v) b = (λ e. b.0, all-zero v b.1)

  -- t is 0 with its parameters at 0; now they are at v, and D is put for its constants
  pub constant-under : (D : Kind → ℕ → List ℕ → ℕ) → ((n x : ℕ) (ls : List ℕ) → length ls ≡ n → All (λ l. Below l most) ls → Below (D (constant n) x ls) most)
      → (n : ℕ) (v : List ℕ) (t : Term) → length v ≡ n → All (λ l. Below l most) v → WellFormed no_definitions n 0 t → level long_way (all_at_zero n) t ≡ 0
      → Below (level (with_declared long_way D) v t) most
  constant-under D constants n v t many b w e =
      related Under (λ l h z. rw z (below-zero most)) codes-under (Fits no_definitions n) D names v (all_at_zero (length v)) (replicate-all IsLevel (length v) 0 (lit≤ tt)) (all-zero v b) t w (rw many e)
    where
      names : (k : ℕ) (d : Kind) (x : ℕ) (ls ms : List ℕ) → length ls ≡ kind_arity d → All IsLevel ms → Each Under ls ms → Under (D d x ls) (declared_level d x ms)
      names k (constant n) x ls ms l a r e = constants n x ls l (all_under ls ms a r e)
      names k variable x ls ms l a r e = absurd (omega arith)

  -- so of an operator's substitute u, the instance's parameters at 0 and its own at ls
  pub operator-under : (p n : ℕ) (u : Term) (ls : List ℕ) → WellFormed no_definitions (p + n) 0 u → level long_way (all_at_zero (p + n)) u ≡ 0 → length ls ≡ n
      → All (λ l. Below l most) ls → Below (level long_way (all_at_zero p ++ ls) u) most
  operator-under p n u ls w e l b =
      constant-under declared_level (λ n x ls l b. highest-lowest ls most b) (p + n) (all_at_zero p ++ ls) u (rw (length-append, length-replicate, l))
      (append-all (λ l. Below l most) (all_at_zero p) ls (replicate-all (λ l. Below l most) p 0 (below-zero most)) b) w e
