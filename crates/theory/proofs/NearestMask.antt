-- The law of the nearest mask (specs/NearestMask).
use mathlib.Core.Bool.{Bool, ◌&&◌, ◌||◌, cond, false, true}
use mathlib.Core.List.{List, [], ◌++◌, ◌∷◌}
use mathlib.Core.Option.{Option, none, some}
use mathlib.Core.Path.{◌∙◌, ◌≡◌, ap, ap₂, refl, sym}
use borrow.Author.Tests.{eqb-false, eqb-true}
use lib.Dec.{T, eqb, eqb→eq, leb, leb→le, lit≤}
use lib.ListN.{get_or, length, length-append, length-replicate, replicate}
use native.Mathlib.Omega.{arith}
use Prim.Native.Nat.{◌+◌, suc, ℕ}
use Rattle.theory.proofs.ExpandFirst.{eval-good, evals-good, length-evals}
use Rattle.theory.proofs.Finite.{at_level, at-levels, at-list, at_levels, at_lists}
use Rattle.theory.proofs.Fusion.{no-scope}
use Rattle.theory.proofs.Labels.{act, label_of}
use Rattle.theory.proofs.Lattice.{below-incorrect, below-zero, higher-of, higher-swap, highest-append, highest-cons}
use Rattle.theory.proofs.Levels.{bound-level, highest-level, levels-kept}
use Rattle.theory.proofs.Lists.{and_parts, append-all, every-all, find-has, get_d-all, map-all, none-some, replicate-all}
use Rattle.theory.specs.Lattice.{higher}
use Rattle.theory.specs.Level.{IsLevel, Mask, Row, all_taken, any_level, binds_in, has, highest, result_level, row, row_level, table, taken, variable_level}
use Rattle.theory.specs.Lists.{All, every, map_option, same_numbers}
use Rattle.theory.specs.NearestMask.{KeepsJoins, NearestMask, OwnAndMasked, argument_levels, behind, behinds, masks, nearest, node_levels, nodes, nodes_in, own_level, row_masks, row_own}
use Rattle.theory.specs.Term.{Everys, Fits, Head, Term, Terms, WellFormed, binder, bound, builtin, constant, declared, defined, eval, evals, leaf, literal, long_way, no_definitions, param, variable}
use Rattle.theory.specs.Tree.{◌▹◌, count, node, ⟨⟩}

pub behind-level : (p : Option Mask) (l : ℕ) → IsLevel l → IsLevel (behind p l)
behind-level none l h = h
behind-level (some m) l h = go (taken m l)
  where
    go : (b : Bool) → IsLevel (cond b 0 4)
    go true = lit≤ tt
    go false = lit≤ tt

pub behinds-level : (p : Option Mask) (ms : List Mask) (ls : List ℕ) → All IsLevel ls → All IsLevel (behinds p ms ls)
behinds-level p [] ls a = tt
behinds-level p (m ∷ ms) [] a = tt
behinds-level p (m ∷ ms) (l ∷ ls) a = (behind-level (nearest p m) l a.0, behinds-level p ms ls a.1)

-- Places: what there is to be above a node

-- the row at the levels of its arguments, below p
record RowBelow (p : Option Mask) (r : Row) : Type 0 where
  own : IsLevel (result_level r.result [])
  law : (ls : List ℕ) → All IsLevel ls → length ls ≡ length r.takes
      → behind p (row_level (some r) ls) ≡ highest (behind p (result_level r.result []) ∷ behinds p r.takes ls)

-- p keeps 0, 4 and joins, is told by its label, and every row obeys the law below it
pub record PlaceKeeps (p : Option Mask) : Type 0 where
  nought : behind p 0 ≡ 0
  four : behind p 4 ≡ 4
  pub joins : (k l : ℕ) → IsLevel k → IsLevel l → behind p (higher k l) ≡ higher (behind p k) (behind p l)
  pub labelled : (l : ℕ) → IsLevel l → behind p l ≡ act (label_of p) l
  rows : All (RowBelow p) table

-- as a computed test over the table and the levels
abbrev row_at : Option Mask → Row → List ℕ → Bool
row_at p r ls = eqb (behind p (row_level (some r) ls)) (highest (behind p (result_level r.result []) ∷ behinds p r.takes ls))

abbrev row_test : Option Mask → Row → Bool
row_test p r = leb (result_level r.result []) 4 && at_lists (length r.takes) (row_at p r)

abbrev joins_at : Option Mask → ℕ → ℕ → Bool
joins_at p k l = eqb (behind p (higher k l)) (higher (behind p k) (behind p l))

abbrev labelled_at : Option Mask → ℕ → Bool
labelled_at p l = eqb (behind p l) (act (label_of p) l)

test : Option Mask → Bool
test p = eqb (behind p 0) 0 && (eqb (behind p 4) 4 && ((at_levels λ k. at_levels λ l. joins_at p k l) && (at_levels (labelled_at p) && every (row_test p) table)))

place-keeps : (p : Option Mask) → T (test p) → PlaceKeeps p
unfolding test
place-keeps p t =
    let a = and_parts (eqb (behind p 0) 0) _ t in
    let b = and_parts (eqb (behind p 4) 4) _ a.1 in
    let c = and_parts (at_levels λ k. at_levels λ l. joins_at p k l) _ b.1 in
    let d = and_parts (at_levels (labelled_at p)) (every (row_test p) table) c.1 in
    record {
      nought = eqb→eq (behind p 0) 0 a.0;
      four = eqb→eq (behind p 4) 4 b.0;
      joins = λ k l h i. eqb→eq (behind p (higher k l)) (higher (behind p k) (behind p l)) (at-levels (joins_at p) c.0 k l h i);
      labelled = λ l h. eqb→eq (behind p l) (act (label_of p) l) (at_level (labelled_at p) d.0 l h);
      rows = map-all (λ r. T (row_test p r)) (RowBelow p) row_below table (every-all (row_test p) table d.1);
    }
  where
    row_below : (r : Row) → T (row_test p r) → RowBelow p r
    row_below r t =
        let q = and_parts (leb (result_level r.result []) 4) (at_lists (length r.takes) (row_at p r)) t in
        record {
          own = leb→le (result_level r.result []) 4 q.0;
          law = λ ls a e.
              eqb→eq (behind p (row_level (some r) ls)) (highest (behind p (result_level r.result []) ∷ behinds p r.takes ls)) (at-list (length r.takes) (row_at p r) q.1 ls a e);
        }

pub none-keeps : PlaceKeeps none
unfolding test
none-keeps = place-keeps none tt

-- a mask that leads from a place that keeps all this to another
abbrev pub Leads : Mask → Type 0
Leads m = (p : Option Mask) → PlaceKeeps p → PlaceKeeps (nearest p m)

-- every mask of the table does
leads-table : All (λ (r : Row). All Leads r.takes) table
unfolding test
leads-table =
    map-all (λ (r : Row). T (every nearer r.takes)) (λ r. All Leads r.takes) (λ r t. map-all (λ m. T (nearer m)) Leads leads r.takes (every-all nearer r.takes t)) table
    (every-all (λ (r : Row). every nearer r.takes) table tt)
  where
    nearer : Mask → Bool
    nearer m = same_numbers m any_level || test (some m)

    leads : (m : Mask) → T (nearer m) → Leads m
    leads m t p k = go (same_numbers m any_level) t
      where
        go : (b : Bool) → T (b || test (some m)) → PlaceKeeps (cond b p (some m))
        go true t = k
        go false t = place-keeps (some m) t

-- what holds of every row holds of the one that a code has
pub found : (P : Row → Type 0) → All P table → (c : ℕ) (r : Row) → row c ≡ some r → P r
unfolding row
found P a c r e = (find-has P (has c) table r a e).0

-- Heads

-- 0 counts for nothing in a join, 4 for everything
from_zero : (l : ℕ) → IsLevel l → higher 0 l ≡ l
from_zero l h = higher-of 0 l (lit≤ tt) h (below-zero l)

pub to-zero : (l : ℕ) → IsLevel l → higher l 0 ≡ l
to-zero l h = higher-swap l 0 h (lit≤ tt) ∙ from_zero l h

from-four : (l : ℕ) → IsLevel l → higher 4 l ≡ 4
from-four l h = higher-swap 4 l (lit≤ tt) h ∙ higher-of l 4 h (lit≤ tt) (below-incorrect l h)

lone : (p : Option Mask) (l : ℕ) → IsLevel l → behind p l ≡ higher (behind p l) 0
lone p l h = sym (to-zero (behind p l) (behind-level p l h))

operator : (p : Option Mask) → PlaceKeeps p → (ls : List ℕ) → All IsLevel ls → behind p (highest ls) ≡ highest (behinds p (replicate (length ls) any_level) ls)
operator p k [] a = k.nought
operator p k (l ∷ ls) a =
    ap (behind p) (highest-cons l ls a.0 a.1) ∙ k.joins l (highest ls) a.0 (highest-level ls a.1) ∙ ap (higher (behind p l)) (operator p k ls a.1)
    ∙ sym (highest-cons (behind p l) (behinds p (replicate (length ls) any_level) ls) (behind-level p l a.0) (behinds-level p (replicate (length ls) any_level) ls a.1))

pub miscounted : (ms : List Mask) (ls : List ℕ) → ¬ (length ls ≡ length ms) → all_taken ms ls ≡ false
miscounted [] [] n = absurd (n refl)
miscounted [] (l ∷ ls) n = refl
miscounted (m ∷ ms) [] n = refl
miscounted (m ∷ ms) (l ∷ ls) n = go (taken m l) (miscounted ms ls (λ e. n (ap suc e)))
  where
    go : (b : Bool) → all_taken ms ls ≡ false → (b && all_taken ms ls) ≡ false
    go true rest = rest
    go false rest = refl

one-row : (p : Option Mask) → PlaceKeeps p → (r : Row) → RowBelow p r → (ls : List ℕ) → All IsLevel ls
    → behind p (row_level (some r) ls) ≡ higher (behind p (row_own (some r) (length ls))) (highest (behinds p r.takes ls))
one-row p k r q ls a = go (eqb (length ls) (length r.takes)) refl
  where
    below : All IsLevel (behinds p r.takes ls)
    below = behinds-level p r.takes ls a

    go : (b : Bool) → eqb (length ls) (length r.takes) ≡ b
        → behind p (row_level (some r) ls) ≡ higher (behind p (cond b (result_level r.result []) 4)) (highest (behinds p r.takes ls))
    go true e =
        q.law ls a (eqb-true (length ls) (length r.takes) e)
        ∙ highest-cons (behind p (result_level r.result [])) (behinds p r.takes ls) (behind-level p (result_level r.result []) q.own) below
    go false e =
        ap (λ (b : Bool). behind p (cond b (result_level r.result ls) 4)) (miscounted r.takes ls (eqb-false (length ls) (length r.takes) e)) ∙ k.four
        ∙ sym (ap (λ (x : ℕ). higher x (highest (behinds p r.takes ls))) k.four ∙ from-four (highest (behinds p r.takes ls)) (highest-level (behinds p r.takes ls) below))

code_row : (p : Option Mask) → PlaceKeeps p → (o : Option Row) → ((r : Row) → o ≡ some r → RowBelow p r) → (ls : List ℕ) → All IsLevel ls
    → behind p (row_level o ls) ≡ higher (behind p (row_own o (length ls))) (highest (behinds p (row_masks o) ls))
code_row p k none q ls a = lone p 4 (lit≤ tt)
code_row p k (some r) q ls a = one-row p k r (q r refl) ls a

row-own : (r : Row) (n : ℕ) → IsLevel (result_level r.result []) → IsLevel (row_own (some r) n)
row-own r n h = go (eqb n (length r.takes))
  where
    go : (b : Bool) → IsLevel (cond b (result_level r.result []) 4)
    go true = h
    go false = lit≤ tt

code-own : (o : Option Row) (n : ℕ) → ((r : Row) → o ≡ some r → RowBelow none r) → IsLevel (row_own o n)
code-own none n q = lit≤ tt
code-own (some r) n q = row-own r n (q r refl).own

pub own-level : (v β : List ℕ) (h : Head) (n : ℕ) → All IsLevel v → All IsLevel β → IsLevel (own_level v β h n)
own-level v β (param i) n a b = get_d-all IsLevel v i 4 a (lit≤ tt)
own-level v β (bound j) n a b = get_d-all IsLevel β j 4 b (lit≤ tt)
own-level v β (declared (constant k) x) n a b = lit≤ tt
own-level v β (declared variable x) n a b = lit≤ tt
own-level v β (defined g) n a b = lit≤ tt
own-level v β (builtin c) n a b = code-own (row c) n (found (RowBelow none) none-keeps.rows c)
own-level v β (leaf (literal l)) n a b = lit≤ tt

pub binder-level : (h : Head) → IsLevel (variable_level (binder h))
binder-level (param i) = lit≤ tt
binder-level (bound j) = lit≤ tt
binder-level (declared k x) = lit≤ tt
binder-level (defined g) = lit≤ tt
binder-level (builtin c) = bound-level c
binder-level (leaf l) = lit≤ tt

leads-row : (o : Option Row) → ((r : Row) → o ≡ some r → All Leads r.takes) → All Leads (row_masks o)
leads-row none q = tt
leads-row (some r) q = q r refl

pub leads-masks : (h : Head) (n : ℕ) → All Leads (masks h n)
leads-masks (param i) n = tt
leads-masks (bound j) n = tt
leads-masks (declared (constant k) x) n = replicate-all Leads n any_level (λ p k. k)
leads-masks (declared variable x) n = tt
leads-masks (defined g) n = tt
leads-masks (builtin c) n = leads-row (row c) (found (λ r. All Leads r.takes) leads-table c)
leads-masks (leaf l) n = tt

-- Terms

module _ (v : List ℕ) (given : All IsLevel v) where
  abbrev arguments : List ℕ → Head → Terms → List ℕ
  arguments β h ts = evals long_way v β (variable_level (binder h)) (binds_in (binder h)) ts

  -- below p a node's level is its own, joined with its arguments' levels behind their masks
  one-node : (p : Option Mask) → PlaceKeeps p → (β : List ℕ) (h : Head) (ts : Terms) → All IsLevel β → All IsLevel (arguments β h ts)
      → behind p (eval long_way v β (node h ts)) ≡ higher (behind p (own_level v β h (length (arguments β h ts)))) (highest (behinds p (masks h (length (arguments β h ts))) (arguments β h ts)))
  one-node p k β (param i) ts b a = lone p (get_or v i 4) (get_d-all IsLevel v i 4 given (lit≤ tt))
  one-node p k β (bound j) ts b a = lone p (get_or β j 4) (get_d-all IsLevel β j 4 b (lit≤ tt))
  one-node p k β (declared (constant n) x) ts b a =
      let ls = arguments β (declared (constant n) x) ts in
      let below = behinds p (replicate (length ls) any_level) ls in
      ap (λ (l : List ℕ). behind p (highest l)) (no-scope long_way v β 4 0 ts) ∙ operator p k ls a
      ∙ sym (ap (λ (x : ℕ). higher x (highest below)) k.nought ∙ from_zero (highest below) (highest-level below (behinds-level p (replicate (length ls) any_level) ls a)))
  one-node p k β (declared variable x) ts b a = lone p 1 (lit≤ tt)
  one-node p k β (defined g) ts b a = lone p 4 (lit≤ tt)
  one-node p k β (builtin c) ts b a = code_row p k (row c) (found (RowBelow p) k.rows c) (arguments β (builtin c) ts) a
  one-node p k β (leaf (literal n)) ts b a = lone p 0 (lit≤ tt)

  mutual
    at-term : (t : Term) (β : List ℕ) (p : Option Mask) → All IsLevel β → PlaceKeeps p
        → All IsLevel (node_levels v β p t) × (behind p (eval long_way v β t) ≡ highest (node_levels v β p t))
    at-term (node h ts) β p b k =
        let w = variable_level (binder h) in
        let s = binds_in (binder h) in
        let i = binder-level h in
        let own = behind-level p (own_level v β h (count ts)) (own-level v β h (count ts) given b) in
        let q = at-terms ts (masks h (count ts)) β w s p b i (leads-masks h (count ts)) k in
        let e = one-node p k β h ts b (evals-good long_way IsLevel levels-kept v given ts β w s b i) in (
          (own, q.0),
          rw (length-evals long_way v β w s ts) at e
              ∙ ap (higher (behind p (own_level v β h (count ts)))) q.1 ∙ sym (highest-cons (behind p (own_level v β h (count ts))) (argument_levels v β w s p ts (masks h (count ts))) own q.0),
        )

    at-terms : (ts : Terms) (ms : List Mask) (β : List ℕ) (w : ℕ) (s : ℕ → ℕ) (p : Option Mask) → All IsLevel β → IsLevel w → All Leads ms → PlaceKeeps p
        → All IsLevel (argument_levels v β w s p ts ms) × (highest (behinds p ms (evals long_way v β w s ts)) ≡ highest (argument_levels v β w s p ts ms))
    at-terms ⟨⟩ [] β w s p b i n k = (tt, refl)
    at-terms ⟨⟩ (m ∷ ms) β w s p b i n k = (tt, refl)
    at-terms (t ▹ ts) [] β w s p b i n k = (tt, refl)
    at-terms (t ▹ ts) (m ∷ ms) β w s p b i n k =
        let β' = replicate (s 0) w ++ β in
        let b' = append-all IsLevel (replicate (s 0) w) β (replicate-all IsLevel (s 0) w i) b in
        let q = at-term t β' (nearest p m) b' (n.0 p k) in
        let r = at-terms ts ms β w (λ i. s (suc i)) p b i n.1 k in
        let x = eval long_way v β' t in
        let ls = evals long_way v β w (λ i. s (suc i)) ts in
        let first = node_levels v β' (nearest p m) t in
        let rest = argument_levels v β w (λ i. s (suc i)) p ts ms in (
          append-all IsLevel first rest q.0 r.0,
          highest-cons (behind (nearest p m) x) (behinds p ms ls) (behind-level (nearest p m) x (eval-good long_way IsLevel levels-kept v given t β' b'))
              (behinds-level p ms ls (evals-good long_way IsLevel levels-kept v given ts β w (λ i. s (suc i)) b i))
              ∙ ap₂ higher q.1 r.1 ∙ sym (highest-append first rest q.0 r.0),
        )

-- Every node is there

some-masks : (o : Option Row) (m : ℕ) → map_option (λ (r : Row). length r.takes) o ≡ some m → length (row_masks o) ≡ m
some-masks none m e = none-some m e
some-masks (some r) m e = cc

count-masks : (n k : ℕ) (h : Head) (m : ℕ) → Fits no_definitions n k h m → length (masks h m) ≡ m
count-masks n k (param i) m w = sym w.1
count-masks n k (bound j) m w = sym w.1
count-masks n k (declared (constant a) x) m w = length-replicate m any_level
count-masks n k (declared variable x) m w = sym w
count-masks n k (defined g) m w = none-some m w
count-masks n k (builtin c) m w = some-masks (row c) m w
count-masks n k (leaf l) m w = sym w

mutual
  count-nodes : (t : Term) (n k : ℕ) (v β : List ℕ) (p : Option Mask) → WellFormed no_definitions n k t → length (node_levels v β p t) ≡ nodes t
  count-nodes (node h ts) n k v β p w =
      ap suc (counts-nodes ts n k v β (variable_level (binder h)) (binds_in (binder h)) p (masks h (count ts)) w.1 (count-masks n k h (count ts) w.0))

  counts-nodes : (ts : Terms) (n k : ℕ) (v β : List ℕ) (x : ℕ) (s : ℕ → ℕ) (p : Option Mask) (ms : List Mask) → Everys (Fits no_definitions n) k s ts → length ms ≡ count ts
      → length (argument_levels v β x s p ts ms) ≡ nodes_in ts
  counts-nodes ⟨⟩ n k v β x s p ms w e = refl
  counts-nodes (t ▹ ts) n k v β x s p [] w e = absurd (omega arith)
  counts-nodes (t ▹ ts) n k v β x s p (m ∷ ms) w e =
      length-append (node_levels v (replicate (s 0) x ++ β) (nearest p m) t) (argument_levels v β x (λ i. s (suc i)) p ts ms)
      ∙ ap₂ ◌+◌ (count-nodes t n (s 0 + k) v (replicate (s 0) x ++ β) (nearest p m) w.0) (counts-nodes ts n k v β x (λ i. s (suc i)) p ms w.1 (omega arith))

pub nearest-mask : NearestMask
nearest-mask =
    record {
      masks_keep_joins = map-all (λ (r : Row). All Leads r.takes) (λ r. All KeepsJoins r.takes)
          (λ r n. map-all Leads KeepsJoins (λ m lead. (lead none none-keeps).joins) r.takes n) table leads-table;
      each_row = map-all (RowBelow none) OwnAndMasked (λ r q ls a.
          one-row none none-keeps r q ls a
          ∙ sym (highest-cons (row_own (some r) (length ls)) (behinds none r.takes ls) (row-own r (length ls) q.own) (behinds-level none r.takes ls a))) table none-keeps.rows;
      nearest_masks = λ v t a. (at-term v a t [] none tt none-keeps).1;
      every_node = λ n v t w. count-nodes t n 0 v [] none w;
    }
