-- The levels are a lattice, `highest` its join, and every mask of the table is closed (specs/Lattice).
use mathlib.Core.Bool.{Bool, ◌&&◌, ◌||◌, cond, false, not, true}
use mathlib.Core.List.{List, [], ◌++◌, ◌∷◌}
use mathlib.Core.Path.{◌∙◌, ◌≡◌, ap, refl, subst, subst⁻¹}
use lib.Dec.{T, eqb, eqb_refl, eqb→eq, le→leb, leb, lit≤}
use native.Mathlib.Decide.{ℕ_discrete}
use native.Mathlib.Omega.{arith}
use Prim.Native.Nat.{◌≤◌, max, ℕ}
use Rattle.theory.proofs.Finite.{◌implies◌, at-levels, at_levels, modus}
use Rattle.theory.proofs.Levels.{highest-level}
use Rattle.theory.proofs.Lists.{and_both, and_parts, any_at, append-all, each_all, every-all, map-all, or_left, or_right, split-all}
use Rattle.theory.specs.Lattice.{Below, Closed, EachBelow, Lattice, higher}
use Rattle.theory.specs.Level.{IsLevel, Mask, Row, highest, incorrect, mixes, table, taken, top}
use Rattle.theory.specs.Lists.{All, any, every}

-- The order

pub below-same : (l : ℕ) → Below l l
below-same l = (omega arith, λ e f. omega arith)

pub below_then : (l m n : ℕ) → Below l m → Below m n → Below l n
below_then l m n a b = (omega (arith, a.0, b.0), λ e f. elim (ℕ_discrete m 2) [ yes d ↦ b.1 d f | no d ↦ a.1 e (omega (arith, a.0, b.0)) ])

pub below-zero : (l : ℕ) → Below 0 l
below-zero l = (omega arith, λ e f. omega arith)

pub below-incorrect : (l : ℕ) → IsLevel l → Below l incorrect
below-incorrect l h = (h, λ e f. omega arith)

-- The join

below-max : (l m n : ℕ) → Below l n → Below m n → Below (max l m) n
below-max l m n a b = (omega (arith, a.0, b.0), λ e f. elim (ℕ_discrete l 2) [ yes d ↦ a.1 d f | no d ↦ b.1 (omega arith) f ])

top_below : (ls : List ℕ) (m : ℕ) → All (λ l. Below l m) ls → Below (top ls) m
top_below [] m a = below-zero m
top_below (l ∷ ls) m a = below-max l (top ls) m a.0 (top_below ls m a.1)

pub highest-lowest : (ls : List ℕ) (m : ℕ) → All (λ l. Below l m) ls → Below (highest ls) m
highest-lowest ls m a = go (mixes ls) refl
  where
    go : (b : Bool) → mixes ls ≡ b → Below (cond b 4 (top ls)) m
    go true e =
        let p = and_parts (any (eqb 2) ls) (any (eqb 3) ls) (subst⁻¹ T e tt) in
        let two = any_at (λ l. Below l m) 2 ls a p.0 in
        let three = any_at (λ l. Below l m) 3 ls a p.1 in
        (omega (arith, three.0, two.1 refl), λ e f. omega arith)
    go false e = top_below ls m a

-- each number of a list is in it and no higher than its top; a 3 that is its top is in it
each-under : (ls : List ℕ) → All (λ l. (l ≤ top ls) × T (any (eqb l) ls)) ls
each-under [] = tt
each-under (l ∷ ls) = (
  (omega arith, or_left (eqb l l) (any (eqb l) ls) (eqb_refl l)),
  map-all (λ k. (k ≤ top ls) × T (any (eqb k) ls)) (λ k. (k ≤ top (l ∷ ls)) × T (any (eqb k) (l ∷ ls))) (λ k q. (omega (arith, q.0), or_right (eqb k l) (any (eqb k) ls) q.1)) ls
      (each-under ls),
)

top-is-3 : (ls : List ℕ) → top ls ≡ 3 → T (any (eqb 3) ls)
top-is-3 [] e = absurd (omega arith)
top-is-3 (l ∷ ls) e = go (ℕ_discrete l 3) (top-is-3 ls)
  where
    go : Dec (l ≡ 3) → (top ls ≡ 3 → T (any (eqb 3) ls)) → T (eqb 3 l || any (eqb 3) ls)
    go (yes d) rest = subst⁻¹ (λ (l : ℕ). T (eqb 3 l || any (eqb 3) ls)) d tt
    go (no d) rest = or_right (eqb 3 l) (any (eqb 3) ls) (rest (omega arith))

pub highest-upper : (ls : List ℕ) → All IsLevel ls → All (λ l. Below l (highest ls)) ls
highest-upper ls a = go (mixes ls) refl
  where
    go : (b : Bool) → mixes ls ≡ b → All (λ l. Below l (cond b 4 (top ls))) ls
    go true e = map-all IsLevel (λ l. Below l 4) below-incorrect ls a
    go false e =
        map-all (λ l. (l ≤ top ls) × T (any (eqb l) ls)) (λ l. Below l (top ls))
        (λ l q. (q.0, λ d f. subst T e (and_both (any (eqb 2) ls) (any (eqb 3) ls) (subst (λ (l : ℕ). T (any (eqb l) ls)) d q.1) (top-is-3 ls (omega (arith, q.0)))))) ls (each-under ls)

-- levels each below its fellow have their highest below the other's
pub each_below : (ls ms : List ℕ) (n : ℕ) → EachBelow ls ms → All (λ m. Below m n) ms → All (λ l. Below l n) ls
each_below ls ms n r a = each_all Below (λ m. Below m n) (λ l. Below l n) (λ l m b c. below_then l m n b c) ls ms r a

pub highest-below : (ls ms : List ℕ) → All IsLevel ms → EachBelow ls ms → Below (highest ls) (highest ms)
highest-below ls ms a r = highest-lowest ls (highest ms) (each_below ls ms (highest ms) r (highest-upper ms a))

-- The laws of a join follow from the order.

same : (l m : ℕ) → Below l m → Below m l → l ≡ m
same l m a b = omega (arith, a.0, b.0)

pub higher-lowest : (l m n : ℕ) → Below l n → Below m n → Below (higher l m) n
higher-lowest l m n a b = highest-lowest (l ∷ m ∷ []) n (a, (b, tt))

pub below_left : (l m : ℕ) → IsLevel l → IsLevel m → Below l (higher l m)
below_left l m h i = (highest-upper (l ∷ m ∷ []) (h, (i, tt))).0

pub below_right : (l m : ℕ) → IsLevel l → IsLevel m → Below m (higher l m)
below_right l m h i = (highest-upper (l ∷ m ∷ []) (h, (i, tt))).1.0

-- the higher of two levels is the one that the other is below
pub higher-of : (l m : ℕ) → IsLevel l → IsLevel m → Below l m → higher l m ≡ m
higher-of l m h i b = same (higher l m) m (higher-lowest l m m b (below-same m)) (below_right l m h i)

pub higher-swap : (l m : ℕ) → IsLevel l → IsLevel m → higher l m ≡ higher m l
higher-swap l m h i =
    same (higher l m) (higher m l) (higher-lowest l m (higher m l) (below_right m l i h) (below_left m l i h)) (higher-lowest m l (higher l m) (below_right l m h i) (below_left l m h i))

pub highest-append : (ls ms : List ℕ) → All IsLevel ls → All IsLevel ms → highest (ls ++ ms) ≡ higher (highest ls) (highest ms)
highest-append ls ms a b =
    let x = highest ls in
    let y = highest ms in
    let h = highest-level ls a in
    let i = highest-level ms b in
    let all = split-all (λ l. Below l (highest (ls ++ ms))) ls ms (highest-upper (ls ++ ms) (append-all IsLevel ls ms a b)) in
    same (highest (ls ++ ms)) (higher x y)
    (highest-lowest (ls ++ ms) (higher x y) (append-all (λ l. Below l (higher x y)) ls ms
    (map-all (λ l. Below l x) (λ l. Below l (higher x y)) (λ l q. below_then l x (higher x y) q (below_left x y h i)) ls (highest-upper ls a))
    (map-all (λ m. Below m y) (λ m. Below m (higher x y)) (λ m q. below_then m y (higher x y) q (below_right x y h i)) ms (highest-upper ms b))))
    (higher-lowest x y (highest (ls ++ ms)) (highest-lowest ls (highest (ls ++ ms)) all.0) (highest-lowest ms (highest (ls ++ ms)) all.1))

pub highest-one : (l : ℕ) → IsLevel l → highest (l ∷ []) ≡ l
highest-one l h = same (highest (l ∷ [])) l (highest-lowest (l ∷ []) l (below-same l, tt)) (highest-upper (l ∷ []) (h, tt)).0

pub highest-cons : (l : ℕ) (ls : List ℕ) → IsLevel l → All IsLevel ls → highest (l ∷ ls) ≡ higher l (highest ls)
highest-cons l ls h a = highest-append (l ∷ []) ls (h, tt) a ∙ ap (λ (x : ℕ). higher x (highest ls)) (highest-one l h)

-- The masks, one computed test over the table and the levels

abbrev below : ℕ → ℕ → Bool
below l m = leb l m && not (eqb l 2 && eqb m 3)

below-test : (l m : ℕ) → Below l m → T (below l m)
below-test l m b = and_both (leb l m) _ (le→leb l m b.0) (go (eqb l 2) (eqb m 3) (eqb→eq l 2) (eqb→eq m 3))
  where
    go : (x y : Bool) → (T x → l ≡ 2) → (T y → m ≡ 3) → T (not (x && y))
    go true true e f = b.1 (e tt) (f tt)
    go true false e f = tt
    go false y e f = tt

abbrev closed : Mask → Bool
closed m =
    taken m 0
    && ((at_levels λ l. at_levels λ k. below k l implies taken m l implies taken m k) && (at_levels λ k. at_levels λ l. taken m k implies taken m l implies taken m (higher k l)))

is-closed : (m : Mask) → T (closed m) → Closed m
is-closed m t =
    let p = and_parts (taken m 0) _ t in
    let q = and_parts (at_levels λ l. at_levels λ k. below k l implies taken m l implies taken m k) _ p.1 in
    record {
      nought = p.0;
      downward = λ l k h b x.
          modus (taken m l) (taken m k) (modus (below k l) _ (at-levels (λ l k. below k l implies taken m l implies taken m k) q.0 l k h (omega (arith, b.0))) (below-test k l b)) x;
      under_join = λ k l h i x y.
          modus (taken m l) _ (modus (taken m k) _ (at-levels (λ k l. taken m k implies taken m l implies taken m (higher k l)) q.1 k l h i) x) y;
    }

closed-masks : All (λ (r : Row). All Closed r.takes) table
closed-masks =
    map-all (λ (r : Row). T (every closed r.takes)) (λ r. All Closed r.takes) (λ r t. map-all (λ m. T (closed m)) Closed is-closed r.takes (every-all closed r.takes t)) table
    (every-all (λ (r : Row). every closed r.takes) table tt)

pub lattice : Lattice
lattice =
    record {
      reflexive = below-same;
      antisymmetric = same;
      transitive = below_then;
      least = below-zero;
      greatest = below-incorrect;
      apart = (λ b. b.1 refl refl, λ b. omega (arith, b.0));
      is-level = highest-level;
      upper = highest-upper;
      lowest_upper = highest-lowest;
      associative = highest-append;
      commutative = higher-swap;
      idempotent = λ l h. higher-of l l h h (below-same l);
      unit = λ l h. higher-of 0 l (lit≤ tt) h (below-zero l);
      masks_closed = closed-masks;
    }
