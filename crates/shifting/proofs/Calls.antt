-- Parts of the string of a task, symbol by symbol, and the calls in them: what stands in the memory at a part's place, and where a call's arguments
-- and the rest of the part stand.
use mathlib.Core.Bool.{false, true}
use mathlib.Core.List.{List, [], ◌++◌, ◌∷◌, append_assoc, append-nil}
use mathlib.Core.Path.{◌∙◌, ◌≡◌, ap, fun_ext, refl, subst, sym}
use borrow.Author.Tests.{ltb-true}
use lib.ListN.{get_or, length, length-append}
use native.Mathlib.Nat.{zero-add}
use native.Mathlib.Omega.{arith}
use Prim.Native.Nat.{ℕ, suc, ◌+◌, ◌^◌, ◌<◌, ◌≤◌}
use Rattle.symbols.proofs.Sizes.{size-append, size-first}
use Rattle.symbols.specs.Pieces.{ShapedHead}
use Rattle.symbols.specs.Spell.{alone_shape, mask_of, masked, max_params, spell}
use Rattle.symbols.specs.Symbol.{Spelt, Symbol, after, bytes_of, call, size, symbol_bytes}
use Rattle.strings.proofs.Reading.{stands, width_some}
use Rattle.strings.specs.Read.{far, is_far, shape_in, string_at, symbol_at, width_of}
use Rattle.theory.specs.Expand.{nothing}
use Rattle.theory.specs.Level.{binds_in, plain}
use Rattle.theory.specs.Lists.{or_else}
use Rattle.theory.specs.Term.{Everys, Fits, Term, WellFormed, defined}
use Rattle.theory.specs.Tree.{count, node, nth}
use Rattle.unfolding.proofs.CallsAt.{Calls, calls_at}
use Rattle.unfolding.proofs.Holes.{every-at}
use Rattle.unfolding.proofs.Masks.{mask_below}
use Rattle.unfolding.specs.Hole.{bound_at}
use Rattle.unfolding.specs.Right.{Calling}
use Rattle.unfolding.specs.Sense.{Right}
use Rattle.worlds.specs.World.{AnyName, HeadMentions}
use Rattle.rewriting.proofs.Bits.{none_both, places-cover}
use Rattle.rewriting.proofs.Bounding.{argument-of}
use Rattle.rewriting.proofs.Found.{Found, Front, found, front, spelt-split}
use Rattle.rewriting.proofs.Step.{stands-shaped}
use Rattle.rewriting.specs.Ends.{bit_at, last_from, places_of}
use Rattle.rewriting.specs.Rewritten.{Posed, Task}
use Rattle.shifting.proofs.CallPlaces.{ArgumentAt, bit-within, last_more, nth-every, placed}
use Rattle.shifting.proofs.Shifting.{closes-masked, closes-spell}
use Rattle.shifting.specs.Part.{CallHere, Later, Part}
use Rattle.shifting.specs.Shift.{Closes}

abbrev head_or : Symbol → List Symbol → Symbol
head_or d [] = d
head_or d (g ∷ gs) = g

-- how many brackets are open after a string
abbrev after_all : ℕ → List Symbol → ℕ
after_all c [] = c
after_all c (g ∷ gs) = after_all (after c g) gs

closes-later : (c : ℕ) (gs hs : List Symbol) → Closes c (gs ++ hs) → Closes (after_all c gs) hs
closes-later c [] hs w = w
closes-later c (g ∷ gs) hs w = closes-later (after c g) gs hs w.1

some_size : (g : Symbol) (gs : List Symbol) → 0 < size (g ∷ gs)
some_size g gs =
    let w = width_some g in
    let l : length (symbol_bytes g ++ bytes_of gs) ≡ length (symbol_bytes g) + length (bytes_of gs) = length-append (symbol_bytes g) (bytes_of gs) in
    omega arith

one_size : (g : Symbol) → size (g ∷ []) ≡ width_of g
one_size g = ap length (append-nil (symbol_bytes g))

regroup : (start : List Symbol) (g : Symbol) (ps gs qs hs : List Symbol) → start ++ (g ∷ ((ps ++ (gs ++ qs)) ++ hs)) ≡ (start ++ (g ∷ ps)) ++ (gs ++ (qs ++ hs))
regroup start g ps gs qs hs =
    ap (λ (l : List Symbol). start ++ (g ∷ l)) (append_assoc ps (gs ++ qs) hs ∙ ap (λ (l : List Symbol). ps ++ l) (append_assoc gs qs hs))
    ∙ sym (append_assoc start (g ∷ ps) (gs ++ (qs ++ hs)))

-- the memory up to the end of `start`, and from there on
record Cut (a : List ℕ) (start cs : List Symbol) : Type 0 where
  ahead : Spelt a 0 start (size start)
  onward : Spelt a (size start) cs (length a)
  near-ahead : far start ≡ false
  near-onward : far cs ≡ false
  inside : size start ≤ length a

module _ (x : Task) (a : List ℕ) (n : ℕ) (template : List ℕ) (tlen : ℕ) (shapes : List ℕ) (z : Posed a (length a) n template tlen shapes x) where
  text-reads : string_at a 0 (length a) ≡ spell x.sense.shape x.term
  text-reads = stands a 0 (spell x.sense.shape x.term) (length a) z.spelt (omega arith) z.near

  cut : (start cs : List Symbol) → string_at a 0 (length a) ≡ start ++ cs → Cut a start cs
  cut start cs e =
      let q : spell x.sense.shape x.term ≡ start ++ cs = sym text-reads ∙ e in
      let c = spelt-split a 0 (length a) start cs (subst (λ (gs : List Symbol). Spelt a 0 gs (length a)) q z.spelt) in
      let o = none_both is_far start cs (ap far (sym q) ∙ z.near) in
      let v : 0 + size start ≡ size start = zero-add (size start) in
      let w : Spelt a (size start) cs (length a) = subst (λ (y : ℕ). Spelt a y cs (length a)) v c.1 in
      let l = w.1 in
      record {
        ahead = subst (λ (y : ℕ). Spelt a 0 start y) v c.0;
        onward = w;
        near-ahead = o.0;
        near-onward = o.1;
        inside = omega arith;
      }

  -- the string from any symbol on
  part_at : (start cs : List Symbol) → string_at a 0 (length a) ≡ start ++ cs → Part x a (size start) (length a) (after_all 0 start) cs
  part_at start cs e =
      let q : spell x.sense.shape x.term ≡ start ++ cs = sym text-reads ∙ e in
      let w : Closes 0 (spell x.sense.shape x.term) = closes-spell x.sense.shape x.term in
      record {
        whole = x.term;
        level = 0;
        formed = z.stands.formed;
        calling = z.stands.calls;
        before = start;
        spelt = q;
        start = start;
        later = [];
        there = e ∙ ap (λ (gs : List Symbol). start ++ gs) (sym (append-nil cs));
        place = refl;
        end = (cut start cs e).onward.1;
        closes = closes-later 0 start cs (subst (Closes 0) q w);
      }

  pub whole_part : Part x a 0 (length a) 0 (spell x.sense.shape x.term)
  whole_part = part_at [] (spell x.sense.shape x.term) text-reads

  pub whole-starts : whole_part.start ≡ []
  unfolding whole_part part_at
  whole-starts = refl

  -- what the code reads from a part's place on and up to it
  part_cut : (p e depth : ℕ) (cs : List Symbol) (h : Part x a p e depth cs) → Cut a h.start (cs ++ h.later)
  part_cut p e depth cs h = cut h.start (cs ++ h.later) h.there

  pub part-spelt : (p e depth : ℕ) (cs : List Symbol) → Part x a p e depth cs → Spelt a p cs e
  part-spelt p e depth cs h =
      let c = spelt-split a (size h.start) (length a) cs h.later (part_cut p e depth cs h).onward in
      rw (h.end, h.place) c.0

  pub part-inside : (p e depth : ℕ) (cs : List Symbol) → Part x a p e depth cs → e ≤ length a
  part-inside p e depth cs h =
      let l = (part_cut p e depth cs h).onward.1 in
      let m = size-append cs h.later in
      omega arith

  pub part-near : (p e depth : ℕ) (cs : List Symbol) → Part x a p e depth cs → far cs ≡ false
  part-near p e depth cs h = (none_both is_far cs h.later (part_cut p e depth cs h).near-onward).0

  pub part-reads : (p e depth : ℕ) (cs : List Symbol) (h : Part x a p e depth cs) → string_at a p e ≡ cs
  part-reads p e depth cs h = stands a p cs e (part-spelt p e depth cs h) (part-inside p e depth cs h) (part-near p e depth cs h)

  pub part-start : (p e depth : ℕ) (cs : List Symbol) (h : Part x a p e depth cs) → string_at a 0 p ≡ h.start
  part-start p e depth cs h =
      let c = part_cut p e depth cs h in
      rw h.place (stands a 0 h.start (size h.start) c.ahead c.inside c.near-ahead)

  -- the first symbol of a part, and the part after it
  pub part-first : (p e depth : ℕ) (g : Symbol) (more : List Symbol) → Part x a p e depth (g ∷ more) → (symbol_at a p ≡ g) × (p < e)
  part-first p e depth g more h =
      let w = some_size g more in
      let l : p < e = omega arith in
      let r : Front a p (g ∷ more) e = front a p (g ∷ more) e (part-spelt p e depth (g ∷ more) h) l (part-near p e depth (g ∷ more) h) in
      (r.reads ∙ sym (ap (head_or g) r.whole), l)

  pub part-next : (p e depth : ℕ) (g : Symbol) (more : List Symbol) (h : Part x a p e depth (g ∷ more)) → Part x a (p + width_of g) e (after depth g) more
  part-next p e depth g more h =
      let w = one_size g in
      let l = size-append h.start (g ∷ []) in
      let m = size-first g more in
      record {
        whole = h.whole;
        level = h.level;
        formed = h.formed;
        calling = h.calling;
        before = h.before ++ (g ∷ []);
        spelt = h.spelt ∙ sym (append_assoc h.before (g ∷ []) more);
        start = h.start ++ (g ∷ []);
        later = h.later;
        there = h.there ∙ sym (append_assoc h.start (g ∷ []) (more ++ h.later));
        place = omega arith;
        end = omega arith;
        closes = h.closes.1;
      }

  pub part-next-start : (p e depth : ℕ) (g : Symbol) (more : List Symbol) (h : Part x a p e depth (g ∷ more))
      → (part-next p e depth g more h).start ≡ h.start ++ (g ∷ [])
  unfolding part-next
  part-next-start p e depth g more h = refl

  pub part-cons : (p e depth : ℕ) (cs : List Symbol) → Part x a p e depth cs → p < e → (g : Symbol) × (more : List Symbol) × (cs ≡ g ∷ more)
  part-cons p e depth [] h l = absurd (omega arith)
  part-cons p e depth (g ∷ more) h l = (g, more, refl)

  pub part-done : (p e depth : ℕ) (cs : List Symbol) → Part x a p e depth cs → e ≤ p → (cs ≡ []) × (depth ≡ 0)
  part-done p e depth [] h l = (refl, h.closes)
  part-done p e depth (g ∷ more) h l =
      let w = some_size g more in
      absurd (omega arith)

  -- a call where one stands
  module _ (p e depth : ℕ) (more : List Symbol) (h : Part x a p e depth (call n ∷ more)) where
    at : Calls x.sense.shape h.whole h.before n more
    at = calls_at h.whole x.sense.shape h.before n more h.spelt

    old : Term
    old = node (defined n) at.us

    bound : ℕ
    bound = bound_at h.level at.hole

    formed : WellFormed x.sense.arity x.params bound old
    unfolding bound old
    formed =
        every-at (Fits x.sense.arity x.params) at.hole (node (defined n) at.us) h.level
        (subst (λ (u : Term). WellFormed x.sense.arity x.params h.level u) at.whole h.formed)

    calling : Calling (Right x.sense) bound old
    unfolding bound old
    calling =
        every-at (HeadMentions AnyName (Right x.sense)) at.hole (node (defined n) at.us) h.level
        (subst (λ (u : Term). Calling (Right x.sense) h.level u) at.whole h.calling)

    number : count at.us ≡ x.arity
    unfolding old
    number = ap (or_else 0) (sym formed.0 ∙ z.templated.callee.arity)

    small : get_or shapes n 0 < alone_shape
    small = subst (λ (m : ℕ). m < alone_shape) (z.templated.shaped n) (ltb-true (x.sense.shape n) alone_shape at.small)

    bits : get_or shapes n 0 < 2 ^ count at.us
    unfolding old
    bits =
        let b : mask_of (x.sense.shape n) < 2 ^ count at.us = calling.0.0.1 (count at.us) formed.0 in
        subst (λ (m : ℕ). m < 2 ^ count at.us) (mask_below (x.sense.shape n) at.small ∙ z.templated.shaped n) b

    shaped : Everys (ShapedHead x.sense.shape) bound (binds_in plain) at.us
    unfolding old
    shaped = (stands-shaped x.sense x.params z.templated.few old bound formed calling).1

    same : shape_in shapes ≡ x.sense.shape
    same = fun_ext (λ i. sym (z.templated.shaped i))

    -- the arguments that stand after the call
    args : List Symbol
    args = masked x.sense.shape (get_or shapes n 0) at.us

    rest : more ≡ args ++ at.ks
    unfolding args
    rest = at.rest ∙ ap (λ (m : ℕ). masked x.sense.shape m at.us ++ at.ks) (z.templated.shaped n)

    there : string_at a 0 (length a) ≡ h.start ++ (call n ∷ (args ++ (at.ks ++ h.later)))
    there =
        h.there ∙ ap (λ (gs : List Symbol). h.start ++ (call n ∷ (gs ++ h.later))) rest
        ∙ ap (λ (gs : List Symbol). h.start ++ (call n ∷ gs)) (append_assoc args at.ks h.later)

    onward : Cut a (h.start ++ (call n ∷ [])) (args ++ (at.ks ++ h.later))
    onward = cut (h.start ++ (call n ∷ [])) (args ++ (at.ks ++ h.later)) (there ∙ sym (append_assoc h.start (call n ∷ []) (args ++ (at.ks ++ h.later))))

    from : Spelt a (p + 2) (args ++ (at.ks ++ h.later)) (length a)
    from =
        let l = size-append h.start (call n ∷ []) in
        let e : size (h.start ++ (call n ∷ [])) ≡ p + 2 = omega arith in
        subst (λ (y : ℕ). Spelt a y (args ++ (at.ks ++ h.later)) (length a)) e onward.onward

    standing : Found a shapes x.sense.shape at.us (at.ks ++ h.later) max_params (get_or shapes n 0) (p + 2)
    unfolding args
    standing =
        found a shapes x.sense.shape same (at.ks ++ h.later) max_params at.us (get_or shapes n 0) (p + 2) bound (binds_in plain)
        (omega (arith, number, z.templated.callee.few)) bits shaped onward.near-onward from

    argument-placed : (i : ℕ) → ArgumentAt a shapes x.sense.shape at.us (get_or shapes n 0) (p + 2) i
        → Later x a n h.start (last_from a shapes i (get_or shapes n 0) (p + 2)) (last_from a shapes (suc i) (get_or shapes n 0) (p + 2)) 0
        (spell x.sense.shape (nth nothing at.us i))
    unfolding args old
    argument-placed i q =
        let l = size-append h.start (call n ∷ q.ahead) in
        record {
          part =
              record {
                whole = nth nothing at.us i;
                level = bound;
                formed = nth-every (Fits x.sense.arity x.params) bound at.us i formed.1 q.inside;
                calling = nth-every (HeadMentions AnyName (Right x.sense)) bound at.us i calling.1 q.inside;
                before = [];
                spelt = refl;
                start = h.start ++ (call n ∷ q.ahead);
                later = q.behind ++ (at.ks ++ h.later);
                there =
                    there ∙ ap (λ (gs : List Symbol). h.start ++ (call n ∷ (gs ++ (at.ks ++ h.later)))) q.split
                    ∙ regroup h.start (call n) q.ahead (spell x.sense.shape (nth nothing at.us i)) q.behind (at.ks ++ h.later);
                place = omega (arith, q.begins, h.place);
                end = omega (arith, q.begins, q.ends);
                closes = closes-spell x.sense.shape (nth nothing at.us i);
              };
          between = q.ahead;
          starts = refl;
        }

    argument : (i : ℕ) → i < max_params → bit_at i (get_or shapes n 0) ≡ true
        → Later x a n h.start (last_from a shapes i (get_or shapes n 0) (p + 2)) (last_from a shapes (suc i) (get_or shapes n 0) (p + 2)) 0
        (spell x.sense.shape (nth nothing at.us i))
    unfolding args
    argument i l b =
        argument-placed i
        (placed a shapes x.sense.shape same (at.ks ++ h.later) at.us (get_or shapes n 0) (p + 2) bound (binds_in plain) i bits shaped onward.near-onward from b)

    behind : Later x a n h.start (last_from a shapes max_params (get_or shapes n 0) (p + 2)) e depth at.ks
    unfolding args
    behind =
        let l = size-append h.start (call n ∷ args) in
        let m = size-append args (at.ks ++ h.later) in
        let r : size more ≡ size args + size at.ks = ap (λ (gs : List Symbol). size gs) rest ∙ size-append args at.ks in
        let v = standing.left.1 in
        let w = from.1 in
        record {
          part =
              record {
                whole = h.whole;
                level = h.level;
                formed = h.formed;
                calling = h.calling;
                before = h.before ++ (call n ∷ args);
                spelt = h.spelt ∙ ap (λ (gs : List Symbol). h.before ++ (call n ∷ gs)) rest ∙ sym (append_assoc h.before (call n ∷ args) at.ks);
                start = h.start ++ (call n ∷ args);
                later = h.later;
                there = there ∙ sym (append_assoc h.start (call n ∷ args) (at.ks ++ h.later));
                place = omega (arith, h.place);
                end = omega (arith, h.end);
                closes = closes-masked x.sense.shape depth (get_or shapes n 0) at.us at.ks (subst (Closes depth) rest h.closes.1);
              };
          between = args;
          starts = refl;
        }

    pub call-here : CallHere x a shapes n h.start p e depth more
    unfolding args
    call-here =
        record {
          us = at.us;
          ks = at.ks;
          rest = rest;
          number = number;
          small = small;
          level = bound;
          shaped = shaped;
          given =
              λ i l b. argument-of a shapes (get_or shapes n 0) (p + 2) i l ∙ standing.each i l b;
          argument = argument;
          after = behind;
        }

  -- a call anywhere in the string
  pub call-anywhere : (start more : List Symbol) → string_at a 0 (length a) ≡ start ++ (call n ∷ more)
      → (e : ℕ) × (depth : ℕ) × CallHere x a shapes n start (size start) e depth more
  unfolding part_at
  call-anywhere start more q =
      (length a, after_all 0 start, call-here (size start) (length a) (after_all 0 start) more (part_at start (call n ∷ more) q))

  -- the end of all arguments is the end of those that the shape speaks of
  pub last-places : (h at : ℕ) → h < alone_shape → last_from a shapes (places_of h) h at ≡ last_from a shapes max_params h at
  last-places h at l =
      let c = places-cover h l in
      last_more a shapes (places_of h) max_params h at c.0 c.1

  pub bit-places : (h i : ℕ) → h < alone_shape → bit_at i h ≡ true → i < places_of h
  bit-places h i l b = bit-within i (places_of h) h (places-cover h l).0 b
