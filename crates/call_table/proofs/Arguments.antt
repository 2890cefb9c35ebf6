-- The arguments of a call, one after another.
use mathlib.Core.Bool.{Bool, cond, false, true}
use mathlib.Core.List.{List, [], ◌++◌, ◌∷◌, append_assoc}
use mathlib.Core.Path.{◌≡◌, ◌∙◌, ap, subst, sym}
use lib.Dec.{eqb, ltb}
use lib.ListN.{get_or, length}
use native.Mathlib.Omega.{arith}
use Prim.Native.Nat.{ℕ, zero, suc, ◌+◌, ◌/◌, ◌%◌, ◌^◌, ◌≤◌, ◌<◌}
use Rattle.theory.specs.Level.{binds_in, plain}
use Rattle.theory.specs.Term.{Everys, Term, Terms, defined}
use Rattle.theory.specs.Tree.{◌▹◌, count, node, ⟨⟩}
use Rattle.symbols.proofs.Scanning.{piece-size}
use Rattle.symbols.proofs.Shaping.{shaped-any, shapeds-any}
use Rattle.symbols.proofs.Sizes.{size-append}
use Rattle.symbols.specs.Pieces.{Shaped, ShapedHead, scan}
use Rattle.symbols.specs.Spell.{alone_shape, mask_of, masked, spell}
use Rattle.symbols.specs.Symbol.{Symbol, call, size}
use Rattle.strings.specs.Read.{shape_in, string_at}
use Rattle.rewriting.proofs.Bits.{places-cover}
use Rattle.rewriting.proofs.Bounding.{dropped}
use Rattle.rewriting.specs.Ends.{end_of, last_from, places_of}
use Rattle.unfolding.proofs.CallsAt.{calls_at}
use Rattle.unfolding.proofs.Holes.{every-at}
use Rattle.cells.specs.Table.{tally}
use Rattle.call_table.specs.Walking.{Ahead, Source}
use Rattle.call_table.proofs.Cuts.{cut}
use Rattle.call_table.proofs.Tallies.{tally-append, tally-call, tally-more}

-- The call that stands after gs.
pub record Called (shapes : List ℕ) (n : ℕ) (hs : List Symbol) : Type 0 where
  pub us : Terms
  pub ks : List Symbol
  pub small : ltb (get_or shapes n 0) alone_shape ≡ true
  pub rest : hs ≡ masked (shape_in shapes) (get_or shapes n 0) us ++ ks
  pub shaped : Shaped (shape_in shapes) (node (defined n) us)

pub called : (shapes : List ℕ) (n : ℕ) (t : Term) (gs hs : List Symbol) → Shaped (shape_in shapes) t → spell (shape_in shapes) t ≡ gs ++ (call n ∷ hs) → Called shapes n hs
called shapes n t gs hs w e =
    let c = calls_at t (shape_in shapes) gs n hs e in
    let v = subst (λ (x : Term). Shaped (shape_in shapes) x) c.whole w in
    record {
      us = c.us;
      ks = c.ks;
      small = c.small;
      rest = c.rest;
      shaped = shaped-any (shape_in shapes) (node (defined n) c.us) _ 0 (every-at (ShapedHead (shape_in shapes)) c.hole (node (defined n) c.us) 0 v);
    }

-- all its arguments are ahead
pub ahead-call : (shapes : List ℕ) (n r : ℕ) (t : Term) (gs hs : List Symbol) (c : Called shapes n hs) → spell (shape_in shapes) t ≡ gs ++ (call n ∷ hs) → r ≤ tally n gs
    → Ahead shapes n r t c.ks (get_or shapes n 0) (size gs + 2)
ahead-call shapes n r t gs hs c e l =
    let m = tally-more n gs (call n) in
    let o = tally-call n in
    let s = size-append gs (call n ∷ []) in
    let f : mask_of (get_or shapes n 0) < 2 ^ count c.us = c.shaped.0.0 in
    record {
      gs = gs ++ (call n ∷ []);
      us = c.us;
      whole = e ∙ ap (λ (x : List Symbol). gs ++ (call n ∷ x)) c.rest ∙ sym (append_assoc gs (call n ∷ []) (masked (shape_in shapes) (get_or shapes n 0) c.us ++ c.ks));
      place = omega arith;
      later = omega arith;
      fits = rw c.small at f;
      shaped = c.shaped.1;
    }

none_dropped : (k h : ℕ) → h < 2 ^ k → dropped k h ≡ 0
none_dropped zero h l = omega arith
none_dropped (suc k) h l = none_dropped k (h / 2) (omega arith)

-- a shape speaks of no more arguments than it has places
pub all-dropped : (h : ℕ) → h < alone_shape → dropped (places_of h) h ≡ 0
all-dropped h l = none_dropped (places_of h) h (places-cover h l).0

module _ (a shapes : List ℕ) (n r : ℕ) (t : Term) (z : Source a shapes t) (ks : List Symbol) where
  -- one argument passed, if its bit is set
  pub ahead-next : (h at : ℕ) → Ahead shapes n r t ks h at → Ahead shapes n r t ks (h / 2) (end_of a shapes h at)
  unfolding end_of
  ahead-next h at v = none_or v.us v.whole v.fits v.shaped
    where
      none_or : (us : Terms) → spell (shape_in shapes) t ≡ v.gs ++ (masked (shape_in shapes) h us ++ ks) → h < 2 ^ count us
          → Everys (ShapedHead (shape_in shapes)) 0 (binds_in plain) us → Ahead shapes n r t ks (h / 2) (end_of a shapes h at)
      none_or ⟨⟩ e f w =
          let o : h ≡ 0 = omega arith in
          rw o (record { gs = v.gs; us = ⟨⟩; whole = e; place = v.place; later = v.later; fits = omega arith; shaped = tt })
      none_or (u ▹ us) e f w = go (eqb (h % 2) 1) e
        where
          halved : h / 2 < 2 ^ count us
          halved = let f' : h < 2 ^ suc (count us) = f in omega arith

          left : Everys (ShapedHead (shape_in shapes)) 0 (binds_in plain) us
          left = shapeds-any (shape_in shapes) us (λ i. binds_in plain (suc i)) (binds_in plain) 0 0 w.1

          go : (b : Bool) → spell (shape_in shapes) t ≡ v.gs ++ ((cond b (spell (shape_in shapes) u) [] ++ masked (shape_in shapes) (h / 2) us) ++ ks)
              → Ahead shapes n r t ks (h / 2) (cond b (at + scan (shape_in shapes) 1 0 (string_at a at (length a))) at)
          go true q =
              let g : List Symbol = spell (shape_in shapes) u in
              let m : List Symbol = masked (shape_in shapes) (h / 2) us in
              let q' : spell (shape_in shapes) t ≡ v.gs ++ (g ++ (m ++ ks)) = q ∙ ap (λ (x : List Symbol). v.gs ++ x) (append_assoc g m ks) in
              let c = cut a shapes t z v.gs (g ++ (m ++ ks)) q' in
              let p : string_at a at (length a) ≡ g ++ (m ++ ks) = ap (λ (x : ℕ). string_at a x (length a)) v.place ∙ c.right in
              let y = piece-size (shape_in shapes) u (m ++ ks) (shaped-any (shape_in shapes) u _ 0 w.0) in
              let s = size-append v.gs g in
              let k = tally-append n v.gs g in
              let i = v.place in
              let j = v.later in
              record {
                gs = v.gs ++ g;
                us = us;
                whole = q' ∙ sym (append_assoc v.gs g (m ++ ks));
                place = rw (p, y) (omega arith);
                later = omega arith;
                fits = halved;
                shaped = left;
              }
          go false q = record { gs = v.gs; us = us; whole = q; place = v.place; later = v.later; fits = halved; shaped = left }

  pub ahead-last : (k h at : ℕ) → Ahead shapes n r t ks h at → Ahead shapes n r t ks (dropped k h) (last_from a shapes k h at)
  ahead-last zero h at v = v
  ahead-last (suc k) h at v = ahead-last k (h / 2) (end_of a shapes h at) (ahead-next h at v)
