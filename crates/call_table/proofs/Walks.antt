-- One turn of a walk, and where a walk ends.
use mathlib.Core.Bool.{◌&&◌, cond, false, true}
use mathlib.Core.List.{List, [], ◌++◌, ◌∷◌, append_assoc}
use mathlib.Core.Path.{◌≡◌, ◌∙◌, ap, refl, sym}
use borrow.Author.Tests.{ltb-true}
use lib.Dec.{eqb, ltb}
use lib.ListN.{get_or, length}
use native.Mathlib.Omega.{arith}
use Prim.Native.Nat.{ℕ, suc, ◌+◌, ◌-◌, ◌*◌, ◌/◌, ◌%◌, ◌≤◌, ◌<◌, min}
use Rattle.theory.specs.Term.{Term, defined}
use Rattle.theory.specs.Tree.{node}
use Rattle.symbols.proofs.Scanning.{scan-spell}
use Rattle.symbols.proofs.Sizes.{size-append}
use Rattle.symbols.specs.Pieces.{left_after, scan}
use Rattle.symbols.specs.Spell.{alone_shape, masked, spell}
use Rattle.symbols.specs.Symbol.{Symbol, after, call, calls, size}
use Rattle.strings.specs.Read.{shape_in, string_at, symbol_at, width_of}
use Rattle.rewriting.proofs.Bounding.{dropped}
use Rattle.rewriting.proofs.Standing.{call-is}
use Rattle.rewriting.specs.Ends.{last_from, places_of}
use Rattle.unfolding.proofs.Masks.{masked-zero}
use Rattle.cells.specs.Table.{packed, rank_at, tally}
use Rattle.cells.specs.Words.{word_at}
use Rattle.cells.specs.declared.Layout.{Layout}
use Rattle.call_table.specs.Walking.{Ahead, Ended, Source, Walks}
use Rattle.call_table.proofs.Arguments.{Called, ahead-call, ahead-last, all-dropped, called}
use Rattle.call_table.proofs.Cuts.{Cut, cut, first_read, none_left, rank-cut, size-one, whole-read}
use Rattle.call_table.proofs.Tallies.{rank-more, tally-more}

module _ (a shapes : List ℕ) (n known r : ℕ) (t : Term) (z : Source a shapes t) (x at rank left c : ℕ) (v : Walks shapes n known r t x at rank left c) where
  -- what is left begins with the symbol that stands there
  left-read : at < length a → (g : Symbol) → g ≡ symbol_at a at → v.hs ≡ g ∷ string_at a (at + width_of g) (length a)
  left-read l g q =
      let p = v.place in
      let e = first_read a shapes t z v.gs v.hs v.whole (omega arith) g (q ∙ ap (symbol_at a) p) in
      rw p e

  -- past one symbol
  pub walk_step : at < length a → (g : Symbol) → g ≡ symbol_at a at → (eqb left 0 && eqb c 0) ≡ false
      → Walks shapes n known r t x (at + width_of g) (cond (calls (eqb n) g) (cond (ltb rank known) (rank + 1) rank) rank) (left_after (shape_in shapes) left g) (after c g)
  walk_step l g q d =
      let hs : List Symbol = string_at a (at + width_of g) (length a) in
      let e : v.hs ≡ g ∷ hs = left-read l g q in
      let m = tally-more n v.gs g in
      let s = size-append v.gs (g ∷ []) in
      let o = size-one g in
      let p = v.place in
      let y = v.ends in
      let y' = rw (e, d) at y in
      let k = v.later in
      record {
        gs = v.gs ++ (g ∷ []);
        hs = hs;
        whole = v.whole ∙ ap (λ (w : List Symbol). v.gs ++ w) e ∙ sym (append_assoc v.gs (g ∷ []) hs);
        place = omega arith;
        ranks = rank-more (calls (eqb n) g) rank known (tally n v.gs) v.ranks ∙ ap (min known) (sym m);
        later = omega arith;
        ends = omega arith;
      }

  -- past a call that the table has the end of
  pub walk-hop : (l : Layout) (table : List ℕ) → Ended a shapes n l known (suc r) table → l.places ≡ places_of (get_or shapes n 0) → known ≤ 16383
      → at < length a → (g : Symbol) → g ≡ symbol_at a at → calls (eqb n) g ≡ true → rank < known → 0 < left
      → Walks shapes n known r t x (word_at table (rank * l.stride + l.places) / 16384) (word_at table (rank * l.stride + l.places) % 16384) (left - 1) c
  walk-hop l table ended pl few i g q b u d =
      record {
        gs = A.gs;
        hs = C.ks;
        whole = rest;
        place = place;
        ranks = ranks;
        later = A.later;
        ends = ends;
      }
    where
      h : ℕ
      h = get_or shapes n 0

      hs : List Symbol
      hs = string_at a (at + width_of g) (length a)

      front : v.hs ≡ call n ∷ hs
      front = rw (← (call-is n g b)) (left-read i g q)

      split : spell (shape_in shapes) t ≡ v.gs ++ (call n ∷ hs)
      split = v.whole ∙ ap (λ (w : List Symbol). v.gs ++ w) front

      C : Called shapes n hs
      C = called shapes n t v.gs hs z.shaped split

      number : rank ≡ tally n v.gs
      number = let e = v.ranks in omega arith

      end : ℕ
      end = last_from a shapes l.places h (size v.gs + 2)

      right : word_at table (rank * l.stride + l.places) ≡ packed end (rank_at known n a end)
      right =
          let k = v.later in
          rw number (ended v.gs hs (whole-read a shapes t z ∙ split) (omega arith) (omega (arith, number)) l.places (omega arith))

      A : Ahead shapes n r t C.ks (dropped l.places h) end
      A = ahead-last a shapes n r t z C.ks l.places h (size v.gs + 2) (ahead-call shapes n r t v.gs hs C split (let k = v.later in omega arith))

      none : dropped l.places h ≡ 0
      none = rw pl (all-dropped h (ltb-true h alone_shape C.small))

      rest : spell (shape_in shapes) t ≡ A.gs ++ C.ks
      rest =
          A.whole
          ∙ ap (λ (m : ℕ). A.gs ++ (masked (shape_in shapes) m A.us ++ C.ks)) none
          ∙ ap (λ (w : List Symbol). A.gs ++ (w ++ C.ks)) (masked-zero (shape_in shapes) A.us)

      ranked : rank_at known n a end ≡ min known (tally n A.gs)
      ranked = ap (rank_at known n a) A.place ∙ rank-cut a shapes t z known n A.gs C.ks rest

      place : word_at table (rank * l.stride + l.places) / 16384 ≡ size A.gs
      place = let p = A.place in rw right (omega (arith, ranked))

      ranks : word_at table (rank * l.stride + l.places) % 16384 ≡ min known (tally n A.gs)
      ranks = rw right (omega (arith, ranked))

      args : List Symbol
      args = masked (shape_in shapes) h C.us

      spelt : spell (shape_in shapes) (node (defined n) C.us) ≡ call n ∷ args
      spelt = rw C.small refl

      scanned : scan (shape_in shapes) left c v.hs ≡ size (call n ∷ args) + scan (shape_in shapes) (left - 1) c C.ks
      scanned =
          let e : left ≡ suc (left - 1) = omega arith in
          ap (scan (shape_in shapes) left c) (front ∙ ap (λ (w : List Symbol). call n ∷ w) C.rest)
          ∙ ap (λ (m : ℕ). scan (shape_in shapes) m c (call n ∷ (args ++ C.ks))) e
          ∙ (rw spelt at (scan-spell (shape_in shapes) (node (defined n) C.us) (left - 1) c C.ks C.shaped))

      sizes : size A.gs ≡ at + size (call n ∷ args)
      sizes =
          let before : Cut a v.gs (call n ∷ (args ++ C.ks)) = cut a shapes t z v.gs (call n ∷ (args ++ C.ks)) (split ∙ ap (λ (w : List Symbol). v.gs ++ (call n ∷ w)) C.rest) in
          let behind : Cut a A.gs C.ks = cut a shapes t z A.gs C.ks rest in
          let p = v.place in
          omega (arith, before.long, behind.long, size-append (call n ∷ args) C.ks)

      ends : word_at table (rank * l.stride + l.places) / 16384 + scan (shape_in shapes) (left - 1) c C.ks ≡ x
      ends = let y = v.ends in omega (arith, place, scanned, sizes)

  -- where nothing is wanted, or nothing is left
  scan-none : (hs : List Symbol) → (eqb left 0 && eqb c 0) ≡ true → scan (shape_in shapes) left c hs ≡ 0
  scan-none [] d = refl
  scan-none (g ∷ hs) d = rw d

  landed : scan (shape_in shapes) left c v.hs ≡ 0 → (at ≡ x) × (rank ≡ rank_at known n a x)
  landed e =
      let y = v.ends in
      let p : at ≡ x = omega arith in
      (p, v.ranks ∙ sym (rank-cut a shapes t z known n v.gs v.hs v.whole) ∙ ap (rank_at known n a) (sym v.place ∙ p))

  pub walk-done : (eqb left 0 && eqb c 0) ≡ true → (at ≡ x) × (rank ≡ rank_at known n a x)
  walk-done d = landed (scan-none v.hs d)

  pub walk-over : length a ≤ at → (at ≡ x) × (rank ≡ rank_at known n a x)
  walk-over l =
      let k = cut a shapes t z v.gs v.hs v.whole in
      let p = v.place in
      let e : v.hs ≡ [] = none_left v.hs (omega (arith, k.long)) in
      landed (rw e refl)
