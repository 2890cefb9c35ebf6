-- The turns of a walk, as the code makes them.
use mathlib.Core.Bool.{Bool, ◌&&◌, cond, false, not, true}
use mathlib.Core.List.{List}
use mathlib.Core.Path.{◌≡◌, ◌∙◌, ap, refl, sym}
use borrow.Author.Tests.{eq-eqb, ltb-true, ne_eqb}
use lib.Dec.{eqb, ltb}
use lib.ListN.{get_or, length}
use native.Mathlib.Omega.{arith}
use Prim.Native.Nat.{ℕ, ◌+◌, ◌-◌, ◌*◌, ◌/◌, ◌%◌, ◌≤◌, ◌<◌}
use Rattle.theory.proofs.Lists.{never}
use Rattle.theory.specs.Term.{Term}
use Rattle.symbols.specs.Symbol.{Symbol, calls}
use Rattle.strings.specs.Read.{symbol_at}
use Rattle.rewriting.specs.Ends.{end_of, places_of}
use Rattle.cells.specs.Table.{Sized, rank_at}
use Rattle.cells.specs.Words.{word_at}
use Rattle.cells.specs.declared.Layout.{Layout}
use Rattle.cells.specs.declared.Place.{Place}
use Rattle.call_table.specs.Walking.{EndsArgument, EndsTerm, Passes, Small, Walking, Walks, hopped, stepped}
use Rattle.std.specs.Prelude.{None, Option, Some}
use Rattle.std.proofs.lemmas.Option.{cond_some, none-some, same_Some}
use Rattle.call_table.specs.declared.Walk.{Walk}
use Rattle.call_table.proofs.Cuts.{cut, rank-cut}
use Rattle.call_table.proofs.Walks.{walk-done, walk-hop, walk-over, walk_step}

pub both_true : (a b : Bool) → (a && b) ≡ true → (a ≡ true) × (b ≡ true)
both_true true b e = (refl, e)
both_true false b e = never (sym e)

pub unfailed : (b : Bool) → not b ≡ false → b ≡ true
unfailed true e = refl
unfailed false e = never e

pub not_done : (left c : ℕ) (b : Bool) → b ≡ (eqb left 0 && eqb c 0) → b ≡ false → (eqb left 0 && eqb c 0) ≡ false
not_done left c b e f = sym e ∙ f

-- what the test of a hop says
hops-says : (called b : Bool) (rank known left : ℕ) → b ≡ (called && (ltb rank known && ltb 0 left)) → b ≡ true → (called ≡ true) × (rank < known) × (0 < left)
hops-says called b rank known left e t =
    let p = both_true called (ltb rank known && ltb 0 left) (sym e ∙ t) in
    let q = both_true (ltb rank known) (ltb 0 left) p.1 in
    (p.0, ltb-true rank known q.0, ltb-true 0 left q.1)

pub hops-known : (called b : Bool) (rank known left room : ℕ) → b ≡ (called && (ltb rank known && ltb 0 left)) → b ≡ true → known ≤ room → rank < room
hops-known called b rank known left room e t l = omega (arith, (hops-says called b rank known left e t).1)

pub hops-left : (called b : Bool) (rank known left : ℕ) → b ≡ (called && (ltb rank known && ltb 0 left)) → b ≡ true → 0 < left
hops-left called b rank known left e t = (hops-says called b rank known left e t).2

module _ (a shapes : List ℕ) (n : ℕ) (l : Layout) (known : ℕ) (table : List ℕ) (w : Walk) (few : known ≤ l.room) (sized : Sized l (length table)) (small : Small w) (i : w.at < length a)
    (g : Symbol) (q : g ≡ symbol_at a w.at) (called : Bool) (k : called ≡ calls (eqb n) g) where
  pub pass-hop : (v : Option Walk) (b : Bool) → v ≡ hopped (word_at table (w.rank * l.stride + l.places)) w → b ≡ (called && (ltb w.rank known && ltb 0 w.left)) → b ≡ true
      → l.places ≡ places_of (get_or shapes n 0) → Passes a shapes n l known table w v
  pass-hop v b e f t p =
      let x = word_at table (w.rank * l.stride + l.places) in
      let s = hops-says called b w.rank known w.left f t in
      let goes : (u : Walk) → v ≡ Some u → (w.at < x / 16384) × (record { at = x / 16384; rank = x % 16384; left = w.left - 1; c = w.c } ≡ u) =
      λ u o.
      let y = cond_some (ltb w.at (x / 16384)) (record { at = x / 16384; rank = x % 16384; left = w.left - 1; c = w.c }) u (sym e ∙ o) in
      (ltb-true w.at (x / 16384) y.0, y.1) in
      record {
        on = λ u o. let y = goes u o in rw (← y.1) y.0;
        small = λ u o. let y = goes u o in let m = y.0 in rw (← y.1) (record { rank = omega arith; left = omega (arith, small.left); c = omega (arith, small.c) });
        walks =
            λ v o u z r y d j.
            rw (← (goes v o).1)
            (walk-hop a shapes n known r u z y w.at w.rank w.left w.c j l table d p (omega (arith, sized.small)) i g q (sym k ∙ s.0) s.1 s.2);
      }

  pub pass_step : (v : Walk) → v ≡ stepped shapes known called g w → w.at < v.at → v.left ≤ w.left + 255 → v.c ≤ w.c + 1 → (eqb w.left 0 && eqb w.c 0) ≡ false
      → Passes a shapes n l known table w (Some v)
  pass_step v e m o x d =
      record {
        on = λ u y. rw (← same_Some v u y) m;
        small = λ u y. rw (← same_Some v u y) (record { rank = rw e ranked; left = omega (arith, small.left); c = omega (arith, small.c) });
        walks = λ v' o u z r y d' j. rw (← same_Some v v' o, e, k) (walk_step a shapes n known r u z y w.at w.rank w.left w.c j i g q d);
      }
    where
      ranked : cond called (cond (ltb w.rank known) (w.rank + 1) w.rank) w.rank ≤ 16383
      ranked = go called (ltb w.rank known) refl
        where
          go : (b d : Bool) → ltb w.rank known ≡ d → cond b (cond d (w.rank + 1) w.rank) w.rank ≤ 16383
          go true true f = let u = ltb-true w.rank known f in omega (arith, sized.small)
          go true false f = small.rank
          go false d f = small.rank

module _ (a shapes : List ℕ) (n : ℕ) (l : Layout) (known : ℕ) (table : List ℕ) where
  pub walking_start : (w : Walk) → w.rank ≤ 16383 → w.left ≡ 1 → w.c ≡ 0 → Walking a shapes n l known table w w
  walking_start w r e f = record { small = record { rank = r; left = omega arith; c = omega arith }; walks = λ t z r x d j. j }

  pub walking_on : (w₀ w : Walk) (r : Option Walk) → Walking a shapes n l known table w₀ w → Passes a shapes n l known table w r → (v : Walk) → r ≡ Some v
      → Walking a shapes n l known table w₀ v
  walking_on w₀ w r k p v o = record { small = p.small v o; walks = λ t z r x d j. p.walks v o t z r x d (k.walks t z r x d j) }

  pub walking-less : (w : Walk) (r : Option Walk) → Passes a shapes n l known table w r → (v : Walk) → r ≡ Some v → w.at < length a → length a - v.at < length a - w.at
  walking-less w r p v o h = let m = p.on v o in omega arith

  module _ (w₀ w : Walk) (k : Walking a shapes n l known table w₀ w) (p : Place) (x : w₀.at ≡ p.at) (y : w₀.rank ≡ p.rank) (left : w₀.left ≡ 1) (c : w₀.c ≡ 0) where
    begun : (t : Term) (r s : ℕ) → Walks shapes n known r t s p.at p.rank 1 0 → Walks shapes n known r t s w₀.at w₀.rank w₀.left w₀.c
    begun t r s j = rw (x, y, left, c) j

    pub walking-done : (b : Bool) → b ≡ (eqb w.left 0 && eqb w.c 0) → b ≡ true
        → EndsTerm a shapes n l known table p (Some (record { at = w.at; rank = w.rank }))
    walking-done b e f =
        record { lands = λ u o t z r s d j. rw (← same_Some _ u o) (walk-done a shapes n known r t z s w.at w.rank w.left w.c (k.walks t z r s d (begun t r s j)) (sym e ∙ f)) }

    pub walking-over : length a ≤ w.at → EndsTerm a shapes n l known table p (Some (record { at = w.at; rank = w.rank }))
    walking-over h = record { lands = λ u o t z r s d j. rw (← same_Some _ u o) (walk-over a shapes n known r t z s w.at w.rank w.left w.c (k.walks t z r s d (begun t r s j)) h) }

  pub walking-failed : (p : Place) (e : Option Place) → e ≡ None → EndsTerm a shapes n l known table p e
  walking-failed p e z = record { lands = λ u o. absurd (none-some u (sym z ∙ o)) }

  -- an argument: a term, if its bit is set
  pub argument-set : (h : ℕ) (p : Place) (e : Option Place) → h % 2 ≡ 1 → EndsTerm a shapes n l known table p e → EndsArgument a shapes n l known table h p e
  unfolding end_of
  argument-set h p e b k =
      record {
        lands =
            λ u o t z r ks d j f.
            let m = j.place in
            let c = cut a shapes t z j.gs _ j.whole in
            k.lands u o t z r (end_of a shapes h p.at) d
            (record {
              gs = j.gs;
              hs = _;
              whole = j.whole;
              place = m;
              ranks = f ∙ ap (rank_at known n a) m ∙ rank-cut a shapes t z known n j.gs _ j.whole;
              later = j.later;
              ends = rw (eq-eqb (h % 2) 1 b, m, c.right) refl;
            });
      }

  pub argument-clear : (h : ℕ) (p : Place) → (h % 2 ≡ 1 → ⊥) → EndsArgument a shapes n l known table h p (Some p)
  unfolding end_of
  argument-clear h p b = record { lands = λ u o t z r ks d k f. rw (← same_Some p u o, ne_eqb (h % 2) 1 b) (refl, f) }
