-- A step in the string: a symbol written, a call entered, a part left.
use Rattle.std.specs.Prelude.{Err, Ok, Result}
use mathlib.Core.Bool.{Bool, ◌||◌, cond, false, true}
use mathlib.Core.List.{List, [], ◌++◌, ◌∷◌, append_assoc, append-nil}
use mathlib.Core.Logic.{◌⊎◌, inl, inr}
use mathlib.Core.Path.{◌≡◌, ◌∙◌, ap, ap₂, refl, subst, subst⁻¹, sym}
use borrow.Author.Tests.{eqb-false, eqb-true, le-ltb, lt-ltb}
use lib.Dec.{eqb, ltb}
use lib.ListN.{drop, get_or, length}
use lib.Seq.{length-sets, sets}
use native.Mathlib.Decide.{dec_lt}
use native.Mathlib.Nat.{add_assoc}
use native.Mathlib.Numerals.{add-one}
use native.Mathlib.Omega.{arith}
use Prim.Native.Nat.{ℕ, suc, ◌+◌, ◌-◌, ◌*◌, ◌/◌, ◌%◌, ◌^◌, ◌≤◌, ◌<◌, min}
use Rattle.context.proofs.Lookups.{cond_cases}
use Rattle.symbols.proofs.Sizes.{any-right, size-append}
use Rattle.symbols.specs.Spell.{masked, max_params, spell}
use Rattle.symbols.specs.Symbol.{Spelt, Symbol, after, begin, bytes_of, call, calls, code, end, fill, is_wide, name, number, par, size, var, wide}
use Rattle.strings.proofs.Written.{sets-at, sets_below, spelt-same}
use Rattle.strings.proofs.Reading.{width_some}
use Rattle.strings.specs.Read.{symbol_at, width_of}
use Rattle.rewriting.proofs.Found.{spelt-join}
use Rattle.rewriting.proofs.Standing.{call-is}
use Rattle.rewriting.specs.Ends.{last_from}
use Rattle.rewriting.specs.Filling.{arguments_of}
use Rattle.rewriting.specs.Going.{Kept, Over}
use Rattle.rewriting.specs.Rewritten.{Task}
use Rattle.shifting.proofs.Calls.{call-here, part-done, part-first, part-next, part-next-start}
use Rattle.shifting.proofs.Entering.{entered as call-entered}
use Rattle.shifting.proofs.Shifting.{below-after, closes-spell, shift-masked}
use Rattle.shifting.specs.Part.{CallHere, Part}
use Rattle.shifting.specs.Shift.{ClosesOne, noted, opened_by, shift, shift_each, shift_one}
use Rattle.cells.proofs.Words.{cell-inside, word-other, word-put}
use Rattle.cells.specs.Table.{tally}
use Rattle.cells.specs.Words.{four, word_at}
use Rattle.cells.specs.declared.Layout.{Layout}
use Rattle.streaming.proofs.Keeping.{cell-kept, chain-kept, read_kept}
use Rattle.streaming.specs.Course.{Around, Chain, Frame, InString, InTemplate, Link, Underway, base_of, env_of, pending, top_of}
use Rattle.streaming.specs.Here.{EntersCall, Writes, WritesHere, entered, leaving, returned, written}
use Rattle.streaming.specs.Step.{Read, Sane, StepsHere, Written}
use Rattle.streaming.specs.declared.Now.{Now}
use Rattle.streaming.specs.declared.Fault.{Fault}
use Rattle.streaming.specs.declared.Stepped.{Stepped}
use Rattle.streaming.specs.declared.Stepped.TheVariants.{Finished, On}
use Rattle.streaming.specs.declared.Fault.TheVariants.{Lost, Short}

-- calls counted, a symbol more
tally-next : (n : ℕ) (gs : List Symbol) (g : Symbol) → tally n (gs ++ (g ∷ [])) ≡ tally n gs + cond (calls (eqb n) g) 1 0
tally-next n [] g = omega arith
tally-next n (h ∷ gs) g = let r = tally-next n gs g in omega arith

next-ranked : (known t rank : ℕ) (called : Bool) → rank ≡ min known t
    → cond called (cond (ltb rank known) (rank + 1) rank) rank ≡ min known (t + cond called 1 0)
next-ranked known t rank false e = omega arith
next-ranked known t rank true e = go (dec_lt rank known)
  where
    go : Dec (rank < known) → cond (ltb rank known) (rank + 1) rank ≡ min known (t + 1)
    go (yes l) = rw (lt-ltb rank known l) (omega arith)
    go (no l) = rw (le-ltb rank known (omega arith)) (omega arith)

next_more : (known rank : ℕ) (called : Bool) → rank ≤ cond called (cond (ltb rank known) (rank + 1) rank) rank
next_more known rank false = omega arith
next_more known rank true = cond_cases (λ (r : ℕ). rank ≤ r) (ltb rank known) (λ _. omega arith) (λ _. omega arith)

-- what is open around, a symbol further on
around-next : (g : Symbol) (b : ℕ) (E : List ℕ) (depth : ℕ) (fs : List Frame) → ClosesOne depth g → Around E depth fs
    → Around (opened_by b E g) (after depth g) fs
around-next (par i) b E depth fs c r = r
around-next (var j) b E depth fs c r = r
around-next (name x k) b E depth fs c r = r
around-next (code k) b E depth fs c r = r
around-next (number v) b E depth fs c r = r
around-next (call n) b E depth fs c r = r
around-next begin b E depth fs c r =
    record { inner = b ∷ r.inner; split = ap (λ (es : List ℕ). b ∷ es) r.split; deep = ap suc r.deep }
around-next end b E depth fs c r = go r.inner r.split r.deep
  where
    go : (inner : List ℕ) → E ≡ inner ++ env_of fs → length inner ≡ depth → Around (drop 1 E) (depth - 1) fs
    go [] s d = absurd (omega arith)
    go (e ∷ es) s d = record { inner = es; split = ap (λ (F : List ℕ). drop 1 F) s; deep = omega arith }

-- nothing is open of the part itself where it ends
around-done : (E : List ℕ) (depth : ℕ) (fs : List Frame) → depth ≡ 0 → Around E depth fs → E ≡ env_of fs
around-done E depth fs z r = go r.inner r.split r.deep
  where
    go : (inner : List ℕ) → E ≡ inner ++ env_of fs → length inner ≡ depth → E ≡ env_of fs
    go [] s d = s
    go (e ∷ es) s d = absurd (omega arith)

-- a part, its bounds under other names
part-named : (x : Task) (a : List ℕ) (p p' e e' depth : ℕ) (cs : List Symbol) → p' ≡ p → e' ≡ e → (h : Part x a p e depth cs)
    → (h' : Part x a p' e' depth cs) × (h'.start ≡ h.start)
part-named x a p p' e e' depth cs u v h = (
  record {
    whole = h.whole;
    level = h.level;
    formed = h.formed;
    calling = h.calling;
    before = h.before;
    spelt = h.spelt;
    start = h.start;
    later = h.later;
    there = h.there;
    place = u ∙ h.place;
    end = v ∙ h.end ∙ ap (λ (i : ℕ). i + size cs) (sym u);
    closes = h.closes;
  },
  refl,
)

module _ (x : Task) (a template : List ℕ) (tlen : ℕ) (shapes : List ℕ) (n : ℕ) (l : Layout) (known : ℕ) (table env out : List ℕ) (s : Now)
    (d : Read x a template tlen shapes n l known table) (u : InString x a template tlen shapes n l known table env out s) where
  -- what is still to be written, if it begins with a symbol
  abbrev Splits : List Symbol → Type 0
  Splits cs = spell x.sense.shape u.kept.term ≡ u.gs ++ (shift (noted env s.d) s.b cs ++ pending u.fs)

  abbrev Ranked : (cs : List Symbol) → Part x a s.p s.e u.depth cs → Type 0
  Ranked cs h = s.rank ≡ min known (tally n h.start)

  on-next : (g : Symbol) (more : List Symbol) (called : Bool) (env' out' : List ℕ) (t : Now) (h : Part x a s.p s.e u.depth (g ∷ more)) → Ranked (g ∷ more) h
      → Splits (g ∷ more) → called ≡ calls (eqb n) g → Writes g called known env out s env' out' t → InString x a template tlen shapes n l known table env' out' t
  on-next g more called env' out' t h r e c w =
      record {
        kept = u.kept;
        gs = u.gs ++ written env s g;
        cs = more;
        fs = u.fs;
        split =
            e ∙ sym (append_assoc u.gs (written env s g) (shift (opened_by s.b (noted env s.d) g) s.b more ++ pending u.fs))
            ∙ ap₂ (λ (F : List ℕ) (b : ℕ). (u.gs ++ written env s g) ++ (shift F b more ++ pending u.fs)) (sym w.passes.opened) (sym w.passes.b);
        done = spelt-join out' 0 s.q t.q u.gs (written env s g) old new;
        chain = u.chain;
        top = w.passes.top ∙ u.top;
        above = omega (arith, u.above, w.passes.rank, next_more known s.rank called);
        depth = after u.depth g;
        part = part.0;
        ranked =
            w.passes.rank ∙ next-ranked known (tally n h.start) s.rank called r
            ∙ ap (λ (b : Bool). min known (tally n h.start + cond b 1 0)) c
            ∙ ap (min known) (sym (tally-next n h.start g) ∙ ap (tally n) (sym (part.1 ∙ part-next-start x a n template tlen shapes d.posed s.p s.e u.depth g more h)));
        around = subst⁻¹ (λ (F : List ℕ). Around F (after u.depth g) u.fs) w.passes.opened (around-next g s.b (noted env s.d) u.depth u.fs h.closes.0 u.around);
        based = w.passes.b ∙ u.based;
        below = rw (w.passes.opened, w.passes.b) (below-after s.b (noted env s.d) g u.below);
      }
    where
      part : (h' : Part x a t.p t.e (after u.depth g) more)
          × (h'.start ≡ (part-next x a n template tlen shapes d.posed s.p s.e u.depth g more h).start)
      part = part-named x a (s.p + width_of g) t.p s.e t.e (after u.depth g) more w.passes.p w.passes.e
          (part-next x a n template tlen shapes d.posed s.p s.e u.depth g more h)

      old : Spelt out' 0 u.gs s.q
      old = spelt-same u.gs out out' 0 s.q (λ k _ m. ap (λ (z : List ℕ). get_or z k 0) w.put ∙ sets_below (bytes_of (written env s g)) out s.q k m) u.done

      new : Spelt out' s.q (written env s g) t.q
      new = (
        rw w.put (sets-at (bytes_of (written env s g)) out s.q (omega (arith, w.passes.q, w.room))),
        w.passes.q,
      )

  over : (g : Symbol) (more : List Symbol) → Splits (g ∷ more)
      → (length out < s.q + size (written env s g)) ⊎ (is_wide (shift_one (noted env s.d) s.b g) ≡ true) → Over x (length out)
  over g more e c = record { kept = u.kept; over = go c }
    where
      rest : List Symbol
      rest = shift (opened_by s.b (noted env s.d) g) s.b more ++ pending u.fs

      long : size (spell x.sense.shape u.kept.term) ≡ size u.gs + (size (written env s g) + size rest)
      long = ap (λ (gs : List Symbol). size gs) e ∙ size-append u.gs (written env s g ++ rest) ∙ ap (λ (k : ℕ). size u.gs + k) (size-append (written env s g) rest)

      go : (length out < s.q + size (written env s g)) ⊎ (is_wide (shift_one (noted env s.d) s.b g) ≡ true)
          → (length out < size (spell x.sense.shape u.kept.term)) ⊎ (wide (spell x.sense.shape u.kept.term) ≡ true)
      go (inl k) = let z = u.done.1 in let y = long in inl (omega arith)
      go (inr k) =
          inr (ap wide e ∙ any-right is_wide u.gs (shift (noted env s.d) s.b (g ∷ more) ++ pending u.fs) (ap (λ (b : Bool). b || wide (shift (opened_by s.b (noted env s.d) g) s.b more ++ pending u.fs)) k))

  -- a call entered: the words put for it are its own
  module _ (low : s.rank < known) (small : s.e < 2 ^ 32) (under : s.top < 2 ^ 21) where
    two : List ℕ
    two = sets (sets table (4 * (s.rank * l.stride + l.places + 1)) (four s.e)) (4 * (s.rank * l.stride + l.places + 2)) (four (s.top * 2048))

    two-long : length two ≡ length table
    unfolding two
    two-long =
        length-sets (sets table (4 * (s.rank * l.stride + l.places + 1)) (four s.e)) (4 * (s.rank * l.stride + l.places + 2)) (four (s.top * 2048))
        ∙ length-sets table (4 * (s.rank * l.stride + l.places + 1)) (four s.e)

    inside : (i : ℕ) → i < 3 → 4 * (s.rank * l.stride + l.places + i) + 3 < length table
    inside i k =
        let e = add_assoc (s.rank * l.stride) l.places i in
        let c = cell-inside l (length table) s.rank (l.places + i) d.sized (omega (arith, d.tabled.few)) (omega (arith, d.sized.wide)) in
        omega (arith, c.0)

    -- no other word has changed
    others : (r i : ℕ) → i < l.stride → (s.rank ≡ r → i ≤ l.places) → word_at two (r * l.stride + i) ≡ word_at table (r * l.stride + i)
    unfolding two
    others r i h e =
        ap (λ (v : ℕ). word_at (sets one' (4 * v) (four (s.top * 2048))) (r * l.stride + i)) (add_assoc (s.rank * l.stride) l.places 2)
        ∙ cell-kept l.stride one' s.rank r (l.places + 2) i (s.top * 2048) (omega (arith, d.sized.wide)) h (λ q z. let m = e q in omega arith)
        ∙ ap (λ (v : ℕ). word_at (sets table (4 * v) (four s.e)) (r * l.stride + i)) (add_assoc (s.rank * l.stride) l.places 1)
        ∙ cell-kept l.stride table s.rank r (l.places + 1) i s.e (omega (arith, d.sized.wide)) h (λ q z. let m = e q in omega arith)
      where
        one' : List ℕ
        one' = sets table (4 * (s.rank * l.stride + l.places + 1)) (four s.e)

    end-put : word_at two (s.rank * l.stride + l.places + 1) ≡ s.e
    unfolding two
    end-put =
        word-other (sets table (4 * (s.rank * l.stride + l.places + 1)) (four s.e)) (s.rank * l.stride + l.places + 2) (s.rank * l.stride + l.places + 1) (s.top * 2048)
        (λ (q : s.rank * l.stride + l.places + 2 ≡ s.rank * l.stride + l.places + 1). omega arith)
        ∙ word-put table (s.rank * l.stride + l.places + 1) s.e (inside 1 (omega arith)) small

    top-put : word_at two (s.rank * l.stride + l.places + 2) ≡ s.top * 2048
    unfolding two
    top-put =
        let e = length-sets table (4 * (s.rank * l.stride + l.places + 1)) (four s.e) in
        word-put (sets table (4 * (s.rank * l.stride + l.places + 1)) (four s.e)) (s.rank * l.stride + l.places + 2) (s.top * 2048) (let k = inside 2 (omega arith) in omega arith)
        (omega arith)

    enter-read : Read x a template tlen shapes n l known two
    enter-read = read_kept l table two x a template tlen shapes n known two-long (λ r i m k. others r i (omega (arith, d.sized.wide)) (λ _. k)) d

    -- the frame of the call
    module _ (more : List Symbol) (h : Part x a s.p s.e u.depth (call n ∷ more)) (ranked : Ranked (call n ∷ more) h) (splits : Splits (call n ∷ more)) where
      c : CallHere x a shapes n h.start s.p s.e u.depth more
      c = call-here x a n template tlen shapes d.posed s.p s.e u.depth more h

      frame : Frame
      frame =
          record {
            rank = s.rank;
            e = s.e;
            env = noted env s.d;
            base = s.b;
            args = arguments_of a shapes (get_or shapes n 0) (s.p + 2);
            unclosed = 0;
            tp = 0;
            rest = spell x.sense.shape x.text;
            after = c.ks;
          }

      apart : spell x.sense.shape u.kept.term
          ≡ u.gs ++ (call n ∷ (shift (noted env s.d) s.b (masked x.sense.shape (get_or shapes n 0) c.us) ++ (shift (noted env s.d) s.b c.ks ++ pending u.fs)))
      apart =
          splits
          ∙ ap (λ (gs : List Symbol). u.gs ++ (call n ∷ (gs ++ pending u.fs)))
          (ap (shift (noted env s.d) s.b) c.rest ∙ shift-masked x.sense.shape (noted env s.d) s.b (get_or shapes n 0) c.us c.ks)
          ∙ ap (λ (gs : List Symbol). u.gs ++ (call n ∷ gs))
          (append_assoc (shift (noted env s.d) s.b (masked x.sense.shape (get_or shapes n 0) c.us)) (shift (noted env s.d) s.b c.ks) (pending u.fs))

      new : (k : Kept x)
          × (spell x.sense.shape k.term
          ≡ u.gs
          ++ (fill (shift_each (noted env s.d) s.b (arguments_of a shapes (get_or shapes n 0) (s.p + 2))) 0 (spell x.sense.shape x.text)
          ++ (shift (noted env s.d) s.b c.ks ++ pending u.fs)))
      new =
          call-entered x n template tlen shapes d.posed.templated u.kept u.gs (noted env s.d) s.b c.us c.level
          (shift (noted env s.d) s.b c.ks ++ pending u.fs) (arguments_of a shapes (get_or shapes n 0) (s.p + 2)) apart c.number c.shaped c.given

      link : Link x a template tlen shapes n l known two u.fs frame
      unfolding frame
      link =
          record {
            low = low;
            above = u.above;
            start = h.start;
            more = more ++ h.later;
            called = h.there;
            ranked = omega arith;
            given = ap (λ (i : ℕ). arguments_of a shapes (get_or shapes n 0) (i + 2)) h.place;
            passed = [];
            text = refl;
            read = d.posed.templated.spelt;
            closes = closes-spell x.sense.shape x.text;
            depth = u.depth;
            part = subst (λ (i : ℕ). Part x a (last_from a shapes max_params (get_or shapes n 0) (i + 2)) s.e u.depth c.ks) h.place c.after.part;
            around = u.around;
            based = u.based;
            below = u.below;
            kept_end = end-put;
            kept_top = let k = top-put in ap (λ (v : ℕ). v / 2048) k ∙ half s.top ∙ u.top;
          }
        where
          half : (t : ℕ) → t * 2048 / 2048 ≡ t
          half t = omega arith

      enter-on : InTemplate x a template tlen shapes n l known two env out (entered s)
      unfolding frame
      enter-on =
          record {
            kept = new.0;
            gs = u.gs;
            f = frame;
            fs = u.fs;
            split =
                new.1
                ∙ ap (λ (gs : List Symbol). u.gs ++ gs)
                (sym (append_assoc (fill (shift_each (noted env s.d) s.b (arguments_of a shapes (get_or shapes n 0) (s.p + 2))) 0 (spell x.sense.shape x.text))
                (shift (noted env s.d) s.b c.ks) (pending u.fs)));
            done = u.done;
            link = link;
            chain = chain-kept l table two x a template tlen shapes n known d.sized.wide u.fs (λ r i m j k. others r i k (λ (q : s.rank ≡ r). absurd (omega (arith, u.above)))) u.chain;
            top = add-one s.rank;
            tp = refl;
            env_here = refl;
            based = omega arith;
          }

  -- a part left: there is nothing of it to be written
  module _ (done : s.e ≤ s.p) where
    empty : (u.cs ≡ []) × (u.depth ≡ 0)
    empty = part-done x a n template tlen shapes d.posed s.p s.e u.depth u.cs u.part done

    left : spell x.sense.shape u.kept.term ≡ u.gs ++ pending u.fs
    left = u.split ∙ ap (λ (cs : List Symbol). u.gs ++ (shift (noted env s.d) s.b cs ++ pending u.fs)) empty.0

    leave-all : s.top ≡ 0 → Written x out s.q
    leave-all t = record { kept = u.kept; spelt = go u.fs left u.top }
      where
        go : (fs : List Frame) → spell x.sense.shape u.kept.term ≡ u.gs ++ pending fs → s.top ≡ top_of fs
            → Spelt out 0 (spell x.sense.shape u.kept.term) s.q
        go [] e k = subst⁻¹ (λ (gs : List Symbol). Spelt out 0 gs s.q) (e ∙ append-nil u.gs) u.done
        go (f ∷ fs) e k = absurd (omega arith)

    leave-on : (s.top ≡ 0 → ⊥) → InTemplate x a template tlen shapes n l known table env out (returned l table s)
    leave-on t = go u.fs left u.chain u.top (around-done (noted env s.d) u.depth u.fs empty.1 u.around) u.based
      where
        go : (fs : List Frame) → spell x.sense.shape u.kept.term ≡ u.gs ++ pending fs → Chain x a template tlen shapes n l known table fs → s.top ≡ top_of fs
            → noted env s.d ≡ env_of fs → s.b ≡ base_of fs → InTemplate x a template tlen shapes n l known table env out (returned l table s)
        go [] e c k v b = absurd (t k)
        go (f ∷ fs) e c k v b =
            let r : s.top - 1 ≡ f.rank = omega arith in
            record {
              kept = u.kept;
              gs = u.gs;
              f = f;
              fs = fs;
              split = e;
              done = u.done;
              link = c.0;
              chain = c.2;
              top = k;
              tp = ap (λ (i : ℕ). word_at table (i * l.stride + l.places + 2) % 2048) r ∙ c.1;
              env_here = v;
              based = b;
            }

  -- the symbol read is the first that is to be written
  module _ (g : Symbol) (here : s.p < s.e) (reads : g ≡ symbol_at a s.p) where
    first : (q : Symbol) (more : List Symbol) → Part x a s.p s.e u.depth (q ∷ more) → g ≡ q
    first q more h = reads ∙ (part-first x a n template tlen shapes d.posed s.p s.e u.depth q more h).0

    on-here : (called : Bool) (env' out' : List ℕ) (t : Now) → called ≡ calls (eqb n) g → Writes g called known env out s env' out' t
        → InString x a template tlen shapes n l known table env' out' t
    on-here called env' out' t e w = go u.cs u.part u.ranked u.split
      where
        go : (cs : List Symbol) (h : Part x a s.p s.e u.depth cs) → Ranked cs h → Splits cs → InString x a template tlen shapes n l known table env' out' t
        go [] h k v = absurd (omega (arith, here, h.end))
        go (q ∷ more) h k v =
            let f = first q more h in
            on-next q more called env' out' t h k v (e ∙ ap (calls (eqb n)) f) (subst (λ (z : Symbol). Writes z called known env out s env' out' t) f w)

    over-here : (length out < s.q + size (written env s g)) ⊎ (is_wide (shift_one (noted env s.d) s.b g) ≡ true) → Over x (length out)
    over-here w = go u.cs u.part u.split
      where
        go : (cs : List Symbol) → Part x a s.p s.e u.depth cs → Splits cs → Over x (length out)
        go [] h v = absurd (omega (arith, here, h.end))
        go (q ∷ more) h v =
            over q more v
            (subst (λ (z : Symbol). (length out < s.q + size (written env s z)) ⊎ (is_wide (shift_one (noted env s.d) s.b z) ≡ true)) (first q more h) w)

    enter-here : (low : s.rank < known) (small : s.e < 2 ^ 32) (under : s.top < 2 ^ 21) → calls (eqb n) g ≡ true
        → InTemplate x a template tlen shapes n l known (two low small under) env out (entered s)
    enter-here low small under y = go u.cs u.part u.ranked u.split
      where
        go : (cs : List Symbol) (h : Part x a s.p s.e u.depth cs) → Ranked cs h → Splits cs
            → InTemplate x a template tlen shapes n l known (two low small under) env out (entered s)
        go [] h k v = absurd (omega (arith, here, h.end))
        go (q ∷ more) h k v =
            subst⁻¹
            (λ (z : Symbol).
            (h : Part x a s.p s.e u.depth (z ∷ more)) → Ranked (z ∷ more) h → Splits (z ∷ more)
            → InTemplate x a template tlen shapes n l known (two low small under) env out (entered s))
            (call-is n q (ap (calls (eqb n)) (sym (first q more h)) ∙ y)) (enter-on low small under more) h k v

module _ (a : List ℕ) (n : ℕ) (l : Layout) (known : ℕ) (table env out : List ℕ) (s : Now) (fine : Sane env out s) where
  pub leaves-part : (r : Stepped) → s.e ≤ s.p → r ≡ leaving l table s → StepsHere a n l known table env out s table env out (Ok r)
  leaves-part r done e =
      subst⁻¹ (λ (r : Stepped). StepsHere a n l known table env out s table env out (Ok r)) e
      (cond_cases (λ (r : Stepped). StepsHere a n l known table env out s table env out (Ok r)) (eqb s.top 0)
      (λ t.
      record {
        steps = λ template tlen shapes.
            record {
              sane = fine.written;
              on = λ x d u. leave-all x a template tlen shapes n l known table env out s d u done (eqb-true s.top 0 t);
            };
      })
      (λ t.
      record {
        steps = λ template tlen shapes.
            record {
              sane = sane;
              on = λ x d u. (d, leave-on x a template tlen shapes n l known table env out s d u done (eqb-false s.top 0 t));
            };
      }))
    where
      sane : Sane env out (returned l table s)
      sane =
          record {
            written = fine.written;
            bounded = fine.bounded;
            few = fine.few;
            place = fine.place;
            end = fine.end;
            rank = fine.rank;
            top = fine.top;
            inside = omega arith;
          }

  -- a symbol stands where the part has not ended
  module _ (room : known ≤ l.room) (most : l.room ≤ 16383) (here : s.p < s.e) (g : Symbol) (reads : g ≡ symbol_at a s.p) where
    pub enters-call : (called : Bool) (table' : List ℕ) (t : Now) → called ≡ calls (eqb n) g → called ≡ true → s.rank < known → EntersCall l table s table' t
        → StepsHere a n l known table env out s table' env out (Ok (On t))
    unfolding two
    enters-call called table' t e y low w =
        subst⁻¹ (λ (t : Now). StepsHere a n l known table env out s table' env out (Ok (On t))) w.goes
        (subst⁻¹ (λ (m : List ℕ). StepsHere a n l known table env out s m env out (Ok (On (entered s)))) w.put
        (record {
          steps = λ template tlen shapes.
              record {
                sane = sane;
                on = λ x d u. (
                  enter-read x a template tlen shapes n l known table env out s d u low fine.end fine.top,
                  enter-here x a template tlen shapes n l known table env out s d u g here reads low fine.end fine.top (sym e ∙ y),
                );
              };
        }))
      where
        sane : Sane env out (entered s)
        sane =
            record {
              written = fine.written;
              bounded = fine.bounded;
              few = fine.few;
              place = fine.place;
              end = fine.end;
              rank = fine.rank;
              top = omega (arith, fine.rank);
              inside = omega arith;
            }

    pub writes-symbol : (called : Bool) (env' out' : List ℕ) (r : Result Stepped Fault) → called ≡ calls (eqb n) g → WritesHere g called known env out s env' out' r
        → StepsHere a n l known table env out s table env' out' r
    writes-symbol called env' out' (Ok (On t)) e w =
        record {
          steps = λ template tlen shapes.
              record {
                sane = sane;
                on = λ x d u. (
                  d,
                  subst⁻¹ (λ (b : Bool). Underway b x a template tlen shapes n l known table env' out' t) w.passes.inside
                      (on-here x a template tlen shapes n l known table env out s d u g here reads called env' out' t e w),
                );
              };
        }
      where
        sane : Sane env' out' t
        sane =
            let k = width_some g in
            record {
              written = omega (arith, w.room, w.long);
              bounded = w.passes.bounded;
              few = omega (arith, w.passes.b, fine.few);
              place = omega (arith, w.passes.p, here, fine.end);
              end = omega (arith, w.passes.e, fine.end);
              rank = omega (arith, w.passes.most, fine.rank);
              top = omega (arith, w.passes.top, fine.top);
              inside = omega (arith, w.passes.tp, fine.inside);
            }
    writes-symbol called env' out' (Ok (Finished len)) e w = absurd w
    writes-symbol called env' out' (Err Short) e w =
        record {
          steps = λ template tlen shapes.
              record {
                sane = tt;
                on = λ x d u. subst⁻¹ (Over x) w.0 (over-here x a template tlen shapes n l known table env out s d u g here reads w.1);
              };
        }
    writes-symbol called env' out' (Err Lost) e w = record { steps = λ template tlen shapes. record { sane = tt; on = λ x d u. tt } }
