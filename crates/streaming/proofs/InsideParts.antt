-- An argument entered and a call left: where the string goes on.
use mathlib.Core.Bool.{Bool, ◌||◌, true}
use mathlib.Core.List.{List, [], ◌++◌, ◌∷◌, append_assoc}
use mathlib.Core.Path.{◌∙◌, ◌≡◌, ap, refl, subst, sym}
use borrow.Author.Tests.{eq-eqb}
use lib.ListN.{get_or, length, length-append}
use lib.Seq.{length-sets, sets}
use native.Mathlib.Decide.{dec_lt}
use native.Mathlib.Nat.{add_assoc}
use native.Mathlib.Numerals.{add-one}
use native.Mathlib.Omega.{arith}
use Prim.Native.Nat.{ℕ, suc, ◌+◌, ◌-◌, ◌*◌, ◌/◌, ◌%◌, ◌^◌, ◌<◌, ◌≤◌, min}
use Rattle.theory.proofs.Lists.{never}
use Rattle.theory.specs.Expand.{nothing}
use Rattle.theory.specs.Tree.{nth}
use Rattle.symbols.proofs.Sizes.{any-right}
use Rattle.symbols.specs.Spell.{alone_shape, max_params, occurring, shape_of, spell}
use Rattle.symbols.specs.Symbol.{Symbol, bytes_of, call, fill, is_par, par, sees, size, symbol_bytes}
use Rattle.strings.proofs.Reading.{width_some}
use Rattle.strings.specs.Read.{string_at, symbol_at}
use Rattle.unfolding.proofs.Shapes.{unseen}
use Rattle.rewriting.proofs.Bits.{occurring-bit, shape-bits}
use Rattle.rewriting.specs.Ends.{bit_at, last_from}
use Rattle.rewriting.specs.Rewritten.{Task}
use Rattle.shifting.proofs.Calls.{call-anywhere, last-places, part-start}
use Rattle.shifting.proofs.Shifting.{below_more, closes-spell, fill-argument}
use Rattle.shifting.specs.Part.{CallHere, Later, Part}
use Rattle.shifting.specs.Shift.{Closes, noted, shift, shift_each}
use Rattle.cells.proofs.Words.{cell-inside, word-put}
use Rattle.cells.specs.Table.{packed, rank_at, tally}
use Rattle.cells.specs.Words.{four, word_at}
use Rattle.cells.specs.declared.Layout.{Layout}
use Rattle.streaming.proofs.InsideSteps.{Ahead, ahead, link-next, next}
use Rattle.streaming.proofs.Keeping.{cell-kept, chain-kept, read_kept}
use Rattle.streaming.specs.Course.{Around, Chain, Frame, InString, InTemplate, Link, pending, pending_of, top_of}
use Rattle.streaming.specs.Inside.{Entered, cell_at, entered, left}
use Rattle.streaming.specs.Step.{Read}
use Rattle.streaming.specs.declared.Now.{Now}

-- a string with a call in it has one more than what stands before the call
tally-called : (n : ℕ) (gs hs : List Symbol) → tally n gs < tally n (gs ++ (call n ∷ hs))
tally-called n [] hs = rw (eq-eqb n n refl) (omega arith)
tally-called n (g ∷ gs) hs = let m = tally-called n gs hs in omega arith

-- a place and a rank out of one word
unpacked : (v at rank : ℕ) → v ≡ packed at rank → rank < 16384 → (v / 16384 ≡ at) × (v % 16384 ≡ rank)
unpacked v at rank e h = (omega arith, omega arith)

-- a part whose place and end are known by other numbers
abbrev placed : (x : Task) (a : List ℕ) (p e p' e' depth : ℕ) (cs : List Symbol) → p' ≡ p → e' ≡ e → Part x a p e depth cs → Part x a p' e' depth cs
placed x a p e p' e' depth cs q r h =
    record {
      whole = h.whole;
      level = h.level;
      formed = h.formed;
      calling = h.calling;
      before = h.before;
      spelt = h.spelt;
      start = h.start;
      later = h.later;
      there = h.there;
      place = q ∙ h.place;
      end = r ∙ h.end ∙ ap (λ (k : ℕ). k + size cs) (sym q);
      closes = h.closes;
    }

module _ (x : Task) (a template : List ℕ) (tlen : ℕ) (shapes : List ℕ) (n : ℕ) (l : Layout) (known : ℕ) (table : List ℕ)
    (z : Read x a template tlen shapes n l known table) (fs : List Frame) (f : Frame) (w : Link x a template tlen shapes n l known table fs f) where
  calls-it : (e : ℕ) × (depth : ℕ) × CallHere x a shapes n w.start (size w.start) e depth w.more
  calls-it = call-anywhere x a n template tlen shapes z.posed w.start w.more w.called

  -- the word of an argument's place
  place-word : (i : ℕ) → i ≤ l.places → (word_at table (f.rank * l.stride + i) / 16384 ≡ last_from a shapes i (get_or shapes n 0) (size w.start + 2))
      × (word_at table (f.rank * l.stride + i) % 16384 ≡ rank_at known n a (last_from a shapes i (get_or shapes n 0) (size w.start + 2)))
  place-word i k =
      let at : ℕ = last_from a shapes i (get_or shapes n 0) (size w.start + 2) in
      let u : tally n w.start < known = subst (λ (m : ℕ). m < known) (sym w.ranked) w.low in
      let e : word_at table (f.rank * l.stride + i) ≡ packed at (rank_at known n a at) =
      ap (λ (m : ℕ). word_at table (m * l.stride + i)) (sym w.ranked) ∙ z.tabled.each w.start w.more w.called u i k in
      unpacked (word_at table (f.rank * l.stride + i)) at (rank_at known n a at) e (omega (arith, z.tabled.few, z.sized.small))

  -- of a part that begins behind the call: its rank, and that it is above the call's
  behind-rank : (p e depth e' depth' : ℕ) (cs cs' : List Symbol) (y : Part x a p e depth cs) → Later x a n w.start p e' depth' cs'
      → (rank_at known n a p ≡ min known (tally n y.start)) × (f.rank < rank_at known n a p)
  behind-rank p e depth e' depth' cs cs' y o =
      let u : string_at a 0 p ≡ y.start = part-start x a n template tlen shapes z.posed p e depth cs y in
      let v : string_at a 0 p ≡ w.start ++ (call n ∷ o.between) = part-start x a n template tlen shapes z.posed p e' depth' cs' o.part ∙ o.starts in
      let t : tally n (string_at a 0 p) ≡ tally n (w.start ++ (call n ∷ o.between)) = ap (tally n) v in
      let m = tally-called n w.start o.between in
      (ap (λ (gs : List Symbol). min known (tally n gs)) u, omega (arith, t, m, w.ranked, w.low))

  module _ (i : ℕ) (o : Ahead f (par i) template tlen) where
    occurs : sees i (spell x.sense.shape x.text) ≡ true
    occurs =
        ap (λ (gs : List Symbol). sees i gs) (w.text ∙ ap (λ (gs : List Symbol). w.passed ++ gs) o.whole)
        ∙ any-right (is_par i) w.passed (par i ∷ o.more) (ap (λ (b : Bool). b || sees i o.more) (eq-eqb i i refl))

    within : i < max_params
    within = go (dec_lt i x.arity)
      where
        go : Dec (i < x.arity) → i < max_params
        go (yes k) = omega (arith, z.posed.templated.callee.few)
        go (no k) =
            never (sym occurs ∙ unseen x.sense.shape x.sense.arity x.arity i (omega arith) x.text 0 z.posed.templated.callee.stands.formed)

    bit : bit_at i (get_or shapes n 0) ≡ true
    bit =
        let text : List Symbol = spell x.sense.shape x.text in
        let same : get_or shapes n 0 ≡ shape_of text = sym (z.posed.templated.shaped n) ∙ z.posed.templated.callee.shape in
        let bits : get_or shapes n 0 ≡ occurring max_params 0 text = same ∙ shape-bits text (subst (λ (m : ℕ). m < alone_shape) same calls-it.2.small) in
        let y : 0 + i ≡ i = omega arith in
        ap (bit_at i) bits ∙ occurring-bit max_params 0 i text within (ap (λ (j : ℕ). sees j text) y ∙ occurs)

    cs : List Symbol
    cs = spell x.sense.shape (nth nothing calls-it.2.us i)

    -- the argument in the string
    argument : Later x a n w.start (last_from a shapes i (get_or shapes n 0) (size w.start + 2)) (last_from a shapes (suc i) (get_or shapes n 0) (size w.start + 2)) 0 cs
    unfolding cs
    argument = calls-it.2.argument i within bit

    given : get_or f.args i [] ≡ cs
    unfolding cs
    given = ap (λ (args : List (List Symbol)). get_or args i []) w.given ∙ calls-it.2.given i within bit

    closed : Closes 0 (get_or f.args i [])
    unfolding cs
    closed = subst (Closes 0) (sym given) (closes-spell x.sense.shape (nth nothing calls-it.2.us i))

    pending-argument : pending_of f ≡ shift f.env (f.base + f.unclosed) cs ++ pending_of (next f (par i) o.more)
    pending-argument =
        let A : List (List Symbol) = shift_each f.env f.base f.args in
        let S : List Symbol = shift f.env f.base f.after in
        ap (λ (gs : List Symbol). fill A f.unclosed gs ++ S) o.whole
        ∙ ap (λ (gs : List Symbol). gs ++ S) (fill-argument f.env f.base f.unclosed i f.args o.more closed w.below)
        ∙ ap (λ (gs : List Symbol). (shift f.env (f.base + f.unclosed) gs ++ fill A f.unclosed o.more) ++ S) given
        ∙ append_assoc (shift f.env (f.base + f.unclosed) cs) (fill A f.unclosed o.more) S

  -- the same in a table that keeps two words anew
  link_on : (table' : List ℕ) → word_at table' (f.rank * l.stride + l.places + 1) ≡ f.e → word_at table' (f.rank * l.stride + l.places + 2) / 2048 ≡ top_of fs
      → Link x a template tlen shapes n l known table' fs f
  link_on table' e t =
      record {
        low = w.low;
        above = w.above;
        start = w.start;
        more = w.more;
        called = w.called;
        ranked = w.ranked;
        given = w.given;
        passed = w.passed;
        text = w.text;
        read = w.read;
        closes = w.closes;
        depth = w.depth;
        part = w.part;
        around = w.around;
        based = w.based;
        below = w.below;
        kept_end = e;
        kept_top = t;
      }

none_left : (gs : List Symbol) → size gs ≡ 0 → gs ≡ []
none_left [] e = refl
none_left (g ∷ gs) e =
    let k = width_some g in
    let y : length (symbol_bytes g ++ bytes_of gs) ≡ length (symbol_bytes g) + length (bytes_of gs) = length-append (symbol_bytes g) (bytes_of gs) in
    absurd (omega arith)

module _ (x : Task) (a template : List ℕ) (tlen : ℕ) (shapes : List ℕ) (n : ℕ) (l : Layout) (known : ℕ) (table env out : List ℕ) (s : Now)
    (z : Read x a template tlen shapes n l known table) (v : InTemplate x a template tlen shapes n l known table env out s) where
  rank-here : s.top - 1 ≡ v.f.rank
  rank-here = omega (arith, v.top)

  -- the template is at its end, and the string goes on behind the call
  module _ (h : tlen ≤ s.tp) where
    done : v.f.rest ≡ []
    done = let r = v.link.read.1 in none_left v.f.rest (omega (arith, v.tp, r, h))

    closed_all : v.f.unclosed ≡ 0
    closed_all = subst (Closes v.f.unclosed) done v.link.closes

    based-here : s.b ≡ v.f.base
    based-here = omega (arith, v.based, closed_all)

    place : (word_at table (cell_at l s l.places) / 16384 ≡ last_from a shapes max_params (get_or shapes n 0) (size v.link.start + 2))
        × (word_at table (cell_at l s l.places) % 16384 ≡ rank_at known n a (last_from a shapes max_params (get_or shapes n 0) (size v.link.start + 2)))
    place =
        let w = v.link in
        let y = place-word x a template tlen shapes n l known table z v.fs v.f w l.places (omega arith) in
        let c = calls-it x a template tlen shapes n l known table z v.fs v.f w in
        let last : last_from a shapes l.places (get_or shapes n 0) (size w.start + 2) ≡ last_from a shapes max_params (get_or shapes n 0) (size w.start + 2) =
        ap (λ (k : ℕ). last_from a shapes k (get_or shapes n 0) (size w.start + 2)) z.places
        ∙ last-places x a n template tlen shapes z.posed (get_or shapes n 0) (size w.start + 2) c.2.small in
        let e : word_at table (cell_at l s l.places) ≡ word_at table (v.f.rank * l.stride + l.places) =
        ap (λ (r : ℕ). word_at table (r * l.stride + l.places)) rank-here in
        (ap (λ (k : ℕ). k / 16384) e ∙ y.0 ∙ last, ap (λ (k : ℕ). k % 16384) e ∙ y.1 ∙ ap (rank_at known n a) last)

    pub left-on : InString x a template tlen shapes n l known table env out (left l table s)
    left-on =
        let w = v.link in
        let c = calls-it x a template tlen shapes n l known table z v.fs v.f w in
        let at : ℕ = last_from a shapes max_params (get_or shapes n 0) (size w.start + 2) in
        let y = behind-rank x a template tlen shapes n l known table z v.fs v.f w at v.f.e w.depth c.0 c.1 v.f.after c.2.ks w.part c.2.after in
        record {
          kept = v.kept;
          gs = v.gs;
          cs = v.f.after;
          fs = v.fs;
          split =
              v.split
              ∙ ap (λ (gs : List Symbol). v.gs ++ ((fill (shift_each v.f.env v.f.base v.f.args) v.f.unclosed gs ++ shift v.f.env v.f.base v.f.after) ++ pending v.fs)) done
              ∙ ap (λ (E : List ℕ). v.gs ++ (shift E v.f.base v.f.after ++ pending v.fs)) (sym v.env_here)
              ∙ ap (λ (b : ℕ). v.gs ++ (shift (noted env s.d) b v.f.after ++ pending v.fs)) (sym based-here);
          done = v.done;
          chain = v.chain;
          top = ap (λ (r : ℕ). word_at table (r * l.stride + l.places + 2) / 2048) rank-here ∙ w.kept_top;
          above = omega (arith, w.above, y.1, place.1);
          depth = w.depth;
          part =
              placed x a at v.f.e (word_at table (cell_at l s l.places) / 16384) (word_at table (cell_at l s l.places + 1)) w.depth v.f.after place.0
              (ap (λ (r : ℕ). word_at table (r * l.stride + l.places + 1)) rank-here ∙ w.kept_end) w.part;
          ranked = place.1 ∙ y.0;
          around = subst (λ (E : List ℕ). Around E w.depth v.fs) (sym v.env_here) w.around;
          based = based-here ∙ w.based;
          below = rw (v.env_here, based-here) w.below;
        }

  -- a parameter is ahead, and the string goes on at its argument
  module _ (i : ℕ) (h : s.tp < tlen) (e : symbol_at template s.tp ≡ par i) (table' : List ℕ) (y : Entered l i s table table' (entered l i table' s)) where
    there : Ahead v.f (par i) template tlen
    there =
        ahead x a template tlen shapes n l known table z v.fs v.f v.link (par i) (subst (λ (k : ℕ). k < tlen) v.tp h)
        (subst (λ (k : ℕ). symbol_at template k ≡ par i) v.tp e)

    -- the word that is put
    value : ℕ
    value = word_at table (v.f.rank * l.stride + l.places + 2) / 2048 * 2048 + s.tp + 2

    put : table' ≡ sets table (4 * (v.f.rank * l.stride + (l.places + 2))) (four value)
    unfolding value
    put =
        y.keeps.put ∙ ap (λ (r : ℕ). sets table (4 * (r * l.stride + l.places + 2)) (four (word_at table (r * l.stride + l.places + 2) / 2048 * 2048 + s.tp + 2))) rank-here
        ∙ ap (λ (k : ℕ). sets table (4 * k) (four value)) (add_assoc (v.f.rank * l.stride) l.places 2)

    same : (r j : ℕ) → j < l.stride → (v.f.rank ≡ r → l.places + 2 ≡ j → ⊥) → word_at table' (r * l.stride + j) ≡ word_at table (r * l.stride + j)
    same r j k d =
        ap (λ (m : List ℕ). word_at m (r * l.stride + j)) put
        ∙ cell-kept l.stride table v.f.rank r (l.places + 2) j value (omega (arith, z.sized.wide)) k d

    kept_word : word_at table' (v.f.rank * l.stride + l.places + 2) ≡ value
    unfolding value
    kept_word =
        let c = cell-inside l (length table) v.f.rank (l.places + 2) z.sized (omega (arith, v.link.low, z.tabled.few)) (omega (arith, z.sized.wide)) in
        let u : word_at table (v.f.rank * l.stride + l.places + 2) < 2 ^ 32 =
        subst (λ (r : ℕ). word_at table (r * l.stride + l.places + 2) < 2 ^ 32) rank-here y.keeps.link in
        ap (word_at table') (add_assoc (v.f.rank * l.stride) l.places 2)
        ∙ ap (λ (m : List ℕ). word_at m (v.f.rank * l.stride + (l.places + 2))) put
        ∙ word-put table (v.f.rank * l.stride + (l.places + 2)) value c.0 (omega (arith, u, y.early))

    pub entered-read : Read x a template tlen shapes n l known table'
    entered-read =
        read_kept l table table' x a template tlen shapes n known (ap length put ∙ length-sets table (4 * (v.f.rank * l.stride + (l.places + 2))) (four value))
        (λ r j m k. same r j (omega (arith, z.sized.wide)) (λ (p : v.f.rank ≡ r) (q : l.places + 2 ≡ j). omega arith)) z

    f' : Frame
    f' = next v.f (par i) there.more

    chain : Chain x a template tlen shapes n l known table' (f' ∷ v.fs)
    unfolding value f'
    chain =
        let w : Link x a template tlen shapes n l known table v.fs (next v.f (par i) there.more) =
        link-next x a template tlen shapes n l known table z v.fs v.f v.link (par i) there in
        let end : word_at table' (v.f.rank * l.stride + l.places + 1) ≡ v.f.e =
        ap (word_at table') (add_assoc (v.f.rank * l.stride) l.places 1)
        ∙ same v.f.rank (l.places + 1) (omega (arith, z.sized.wide)) (λ (p : v.f.rank ≡ v.f.rank) (q : l.places + 2 ≡ l.places + 1). omega arith)
        ∙ ap (word_at table) (sym (add_assoc (v.f.rank * l.stride) l.places 1)) ∙ v.link.kept_end in
        let top : word_at table' (v.f.rank * l.stride + l.places + 2) / 2048 ≡ top_of v.fs = omega (arith, kept_word, v.link.kept_top, y.early) in (
          link_on x a template tlen shapes n l known table z v.fs (next v.f (par i) there.more) w table' end top,
          omega (arith, kept_word, y.early, v.tp),
          chain-kept l table table' x a template tlen shapes n known z.sized.wide v.fs
              (λ r j m k o. same r j o (λ (p : v.f.rank ≡ r) (q : l.places + 2 ≡ j). omega (arith, v.link.above, m, p))) v.chain,
        )

    part : Later x a n v.link.start (last_from a shapes i (get_or shapes n 0) (size v.link.start + 2))
        (last_from a shapes (suc i) (get_or shapes n 0) (size v.link.start + 2)) 0 (cs x a template tlen shapes n l known table z v.fs v.f v.link i there)
    part = argument x a template tlen shapes n l known table z v.fs v.f v.link i there

    from : word_at table' (cell_at l s i) ≡ word_at table (v.f.rank * l.stride + i)
    from =
        ap (λ (r : ℕ). word_at table' (r * l.stride + i)) rank-here
        ∙ same v.f.rank i (omega (arith, z.sized.wide, y.place)) (λ (p : v.f.rank ≡ v.f.rank) (q : l.places + 2 ≡ i). omega (arith, y.place, q))

    to : word_at table' (cell_at l s (i + 1)) ≡ word_at table (v.f.rank * l.stride + suc i)
    to =
        ap (λ (r : ℕ). word_at table' (r * l.stride + (i + 1))) rank-here ∙ ap (λ (k : ℕ). word_at table' (v.f.rank * l.stride + k)) (add-one i)
        ∙ same v.f.rank (suc i) (omega (arith, z.sized.wide, y.place)) (λ (p : v.f.rank ≡ v.f.rank) (q : l.places + 2 ≡ suc i). omega (arith, y.place, q))

    pub entered_on : InString x a template tlen shapes n l known table' env out (entered l i table' s)
    unfolding f'
    entered_on =
        let w = v.link in
        let gs : List Symbol = cs x a template tlen shapes n l known table z v.fs v.f w i there in
        let p : ℕ = last_from a shapes i (get_or shapes n 0) (size w.start + 2) in
        let q : ℕ = last_from a shapes (suc i) (get_or shapes n 0) (size w.start + 2) in
        let b = place-word x a template tlen shapes n l known table z v.fs v.f w i (omega (arith, y.place)) in
        let c = place-word x a template tlen shapes n l known table z v.fs v.f w (suc i) (omega (arith, y.place)) in
        let r = behind-rank x a template tlen shapes n l known table z v.fs v.f w p q 0 q 0 gs gs part.part part in
        let at : word_at table' (cell_at l s i) % 16384 ≡ rank_at known n a p = ap (λ (k : ℕ). k % 16384) from ∙ b.1 in
        record {
          kept = v.kept;
          gs = v.gs;
          cs = gs;
          fs = f' ∷ v.fs;
          split =
              v.split ∙ ap (λ (ks : List Symbol). v.gs ++ (ks ++ pending v.fs)) (pending-argument x a template tlen shapes n l known table z v.fs v.f w i there)
              ∙ ap (λ (ks : List Symbol). v.gs ++ ks) (append_assoc (shift v.f.env (v.f.base + v.f.unclosed) gs) (pending_of f') (pending v.fs))
              ∙ ap (λ (E : List ℕ). v.gs ++ (shift E (v.f.base + v.f.unclosed) gs ++ pending (f' ∷ v.fs))) (sym v.env_here)
              ∙ ap (λ (k : ℕ). v.gs ++ (shift (noted env s.d) k gs ++ pending (f' ∷ v.fs))) (sym v.based);
          done = v.done;
          chain = chain;
          top = v.top;
          above = omega (arith, r.1, at);
          depth = 0;
          part =
              placed x a p q (word_at table' (cell_at l s i) / 16384) (word_at table' (cell_at l s (i + 1)) / 16384) 0 gs (ap (λ (k : ℕ). k / 16384) from ∙ b.0)
              (ap (λ (k : ℕ). k / 16384) to ∙ c.0) part.part;
          ranked = at ∙ r.0;
          around = record { inner = []; split = v.env_here; deep = refl };
          based = v.based;
          below = rw (v.env_here, v.based) (below_more v.f.base (v.f.base + v.f.unclosed) v.f.env (omega arith) w.below);
        }
