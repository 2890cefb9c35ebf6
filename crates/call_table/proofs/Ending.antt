-- The words of the calls, the last call first.
use mathlib.Core.Bool.{Bool, false, true}
use mathlib.Core.List.{List, [], ◌++◌, ◌∷◌, append_assoc}
use mathlib.Core.Path.{◌≡◌, ◌∙◌, ap, fun_ext, refl, subst, sym}
use lib.ListN.{get_or, length}
use lib.Seq.{length-sets, sets}
use native.Mathlib.Decide.{dec_lt}
use native.Mathlib.Nat.{add-zero}
use native.Mathlib.Omega.{arith}
use Prim.Native.Nat.{ℕ, zero, suc, ◌+◌, ◌-◌, ◌*◌, ◌/◌, ◌%◌, ◌≤◌, ◌<◌}
use Rattle.theory.proofs.Lists.{never}
use Rattle.theory.specs.Term.{Term}
use Rattle.symbols.proofs.Sizes.{size-append}
use Rattle.symbols.specs.Pieces.{Shaped}
use Rattle.symbols.specs.Spell.{spell}
use Rattle.symbols.specs.Symbol.{Spelt, Symbol, call, size}
use Rattle.strings.specs.Read.{far, shape_in, string_at}
use Rattle.rewriting.specs.Ends.{end_of, last_from, places_of}
use Rattle.cells.proofs.Words.{cells-apart, word-other, word-put}
use Rattle.cells.specs.Table.{EndsCalls, Noted, Sized, Tabled, packed, rank_at, tally}
use Rattle.cells.specs.Words.{four, word_at}
use Rattle.cells.specs.declared.Layout.{Layout}
use Rattle.cells.specs.declared.Place.{Place}
use Rattle.call_table.specs.Walking.{Ahead, Ended, Ending, EndsArgument, EndsCall, Halfway, PutsEnd, Putting, Puts, Right, Source}
use Rattle.std.specs.Prelude.{None, Option, Some}
use Rattle.std.proofs.lemmas.Option.{none-some, same_Some}
use Rattle.call_table.proofs.Rows.{end-inside}
use Rattle.call_table.proofs.Tallies.{tally-call, tally-more}
use Rattle.call_table.proofs.Arguments.{Called, ahead-call, ahead-next, called}
use Rattle.call_table.proofs.Cuts.{rank-cut, whole-read}

module _ (l : Layout) (r i : ℕ) (before : List ℕ) (e : Place) where
  pub placed-failed : PutsEnd l r i before before e None
  placed-failed =
      record {
        long = refl;
        small = λ p o. absurd (none-some p o);
        others = λ j d. refl;
        word = λ p o. absurd (none-some p o);
        same = λ p o. absurd (none-some p o);
      }

  pub placed_one : (after : List ℕ) (long known j : ℕ) → j ≡ r * l.stride + (i + 1) → r < known → i < l.places → long ≤ 131072 → Sized l (length before) → known ≤ l.room
      → e.at ≤ long → e.rank ≤ known → after ≡ sets before (4 * j) (four (e.at * 16384 + e.rank)) → PutsEnd l r i before after e (Some e)
  placed_one after long known j q b c small z few u v s =
      record {
        long = ap length s ∙ length-sets before (4 * j) (four (e.at * 16384 + e.rank));
        small = λ p o. rw (← same_Some e p o) (omega (arith, z.small));
        others = λ m d. rw s (word-other before j m (e.at * 16384 + e.rank) (λ x. d (sym q ∙ x)));
        word = λ p o. rw (← same_Some e p o, s, ← q) (word-put before j (e.at * 16384 + e.rank) inside (omega (arith, z.small)));
        same = λ p o. sym (same_Some e p o);
      }
    where
      inside : 4 * j + 3 < length before
      inside = end-inside l (length before) known r i j z few b c q

pub places_same : (x h s : ℕ) → x ≡ places_of h → h ≡ s → x ≡ places_of s
places_same x h s e f = e ∙ ap places_of f

module _ (a shapes : List ℕ) (n : ℕ) (l : Layout) (known : ℕ) where
  module _ (h r i : ℕ) (p : Place) (before : List ℕ) (found : Option Place) (k : EndsArgument a shapes n l known before h p found) where
    pub puts-placed : (after : List ℕ) (e : Place) (put : Option Place) → found ≡ Some e → PutsEnd l r i before after e put → Puts a shapes n l known h r i p before after put
    puts-placed after e put f q =
        record {
          long = q.long;
          small = q.small;
          others = q.others;
          word = q.word;
          ends = record { lands = λ u o. k.lands u (f ∙ ap (λ (x : Place). Some x) (sym (q.same u o))) };
        }

    pub puts-none : found ≡ None → (put : Option Place) → put ≡ None → Puts a shapes n l known h r i p before before put
    puts-none f put z =
        rw z
        (record {
          long = refl;
          small = λ u o. absurd (none-some u o);
          others = λ j d. refl;
          word = λ u o. absurd (none-some u o);
          ends = record { lands = λ u o. absurd (none-some u o) };
        })

  module _ (r : ℕ) (table₀ : List ℕ) (z : Sized l (length table₀)) (few : known ≤ l.room) (early : r < known) where
    pub putting-start : (h j v : ℕ) (p : Place) → h ≡ get_or shapes n 0 → j ≡ r * l.stride + 0 → v ≡ word_at table₀ j → p.at ≡ v / 16384 → p.rank ≡ v % 16384
        → Putting a shapes n l known r table₀ table₀ p h 0
    putting-start h j v p hh q w pa pr =
        record {
          long = refl;
          few = omega arith;
          small = omega arith;
          others = λ q j s d. refl;
          first = refl;
          words = words;
        }
      where
        words : (t : Term) → Source a shapes t → Noted a n l known table₀ → Ended a shapes n l known (suc r) table₀
            → (gs hs : List Symbol) → string_at a 0 (length a) ≡ gs ++ (call n ∷ hs) → tally n gs ≡ r → Halfway a shapes n l known r t table₀ p h 0 gs
        words t y noted ended gs hs e m =
            record {
              ks = C.ks;
              ahead = rw (hh, at) A;
              ranks = rw at (rank ∙ sym ranked);
              more = λ k. let o : 0 + k ≡ k = omega arith in rw (hh, at, o) refl;
              words = λ j d. one j d;
            }
          where
            split : spell (shape_in shapes) t ≡ gs ++ (call n ∷ hs)
            split = sym (whole-read a shapes t y) ∙ e

            C : Called shapes n hs
            C = called shapes n t gs hs y.shaped split

            A : Ahead shapes n r t C.ks (get_or shapes n 0) (size gs + 2)
            A = ahead-call shapes n r t gs hs C split (omega arith)

            read : v ≡ packed (size gs + 2) (tally n gs + 1)
            read =
                let o : r * l.stride + 0 ≡ tally n gs * l.stride = add-zero (r * l.stride) ∙ ap (λ (x : ℕ). x * l.stride) (sym m) in
                w ∙ ap (word_at table₀) (q ∙ o) ∙ noted.first gs hs e (omega arith)

            at : p.at ≡ size gs + 2
            at = omega (arith, read, z.small)

            rank : p.rank ≡ tally n gs + 1
            rank = omega (arith, read, z.small)

            ranked : rank_at known n a (size gs + 2) ≡ tally n gs + 1
            ranked =
                let s : size (gs ++ (call n ∷ [])) ≡ size gs + 2 = size-append gs (call n ∷ []) in
                let k = tally-more n gs (call n) in
                let o = tally-call n in
                ap (rank_at known n a) (sym s)
                ∙ rank-cut a shapes t y known n (gs ++ (call n ∷ [])) hs (split ∙ sym (append_assoc gs (call n ∷ []) hs))
                ∙ omega arith

            one : (j : ℕ) → j ≤ 0 → Right a shapes n l known table₀ gs j
            one zero d = rw (add-zero (tally n gs * l.stride), ranked) (noted.first gs hs e (omega arith))
            one (suc j) d = absurd (omega arith)

    noted-kept : (table : List ℕ) → ((q j : ℕ) → j < l.stride → (q ≡ r → ⊥) → word_at table (q * l.stride + j) ≡ word_at table₀ (q * l.stride + j))
        → word_at table (r * l.stride) ≡ word_at table₀ (r * l.stride) → Noted a n l known table₀ → Noted a n l known table
    noted-kept table others same d = record { few = d.few; first = λ gs hs e k. go gs (dec_lt (tally n gs) r) (dec_lt r (tally n gs)) ∙ d.first gs hs e k }
      where
        apart : (gs : List Symbol) → (tally n gs ≡ r → ⊥) → word_at table (tally n gs * l.stride) ≡ word_at table₀ (tally n gs * l.stride)
        apart gs k =
            let o = add-zero (tally n gs * l.stride) in
            rw o at (others (tally n gs) 0 (omega (arith, z.wide)) k)

        go : (gs : List Symbol) → Dec (tally n gs < r) → Dec (r < tally n gs) → word_at table (tally n gs * l.stride) ≡ word_at table₀ (tally n gs * l.stride)
        go gs (yes k) o = apart gs (λ (x : tally n gs ≡ r). omega arith)
        go gs (no k) (yes o) = apart gs (λ (x : tally n gs ≡ r). omega arith)
        go gs (no k) (no o) = rw (equal k o) same
          where
            equal : (tally n gs < r → ⊥) → (r < tally n gs → ⊥) → tally n gs ≡ r
            equal k o = omega arith

    module _ (table : List ℕ) (p : Place) (rest i : ℕ) (v : Putting a shapes n l known r table₀ table p rest i) where
      -- what the words of later calls say stays
      later : Ended a shapes n l known (suc r) table₀ → Ended a shapes n l known (suc r) table
      later d gs hs e s k j o = v.others (tally n gs) j (omega (arith, z.wide)) (λ (x : tally n gs ≡ r). omega arith) ∙ d gs hs e s k j o

      pub putting-end : l.places ≤ i → EndsCall a shapes n l known r table₀ table true
      putting-end h = record { long = v.long; noted = noted-kept table v.others v.first; ended = λ o t y d e. ended t y d e }
        where
          ended : (t : Term) → Source a shapes t → Noted a n l known table₀ → Ended a shapes n l known (suc r) table₀ → Ended a shapes n l known r table
          ended t y d b gs hs e s k j o = go (dec_lt r (tally n gs))
            where
              go : Dec (r < tally n gs) → Right a shapes n l known table gs j
              go (yes m) = later b gs hs e m k j o
              go (no m) = (v.words t y d b gs hs e (equal m)).words j (omega arith)
                where
                  equal : (r < tally n gs → ⊥) → tally n gs ≡ r
                  equal m = omega arith

      module _ (table' : List ℕ) (e : Option Place) (u : Puts a shapes n l known rest r i p table table' e) (in-places : i < l.places) where
        others : (q j : ℕ) → j < l.stride → (q ≡ r → ⊥) → word_at table' (q * l.stride + j) ≡ word_at table₀ (q * l.stride + j)
        others q j k d =
            u.others (q * l.stride + j) (cells-apart l.stride r q (i + 1) j (omega (arith, z.wide)) k (λ (x : r ≡ q). d (sym x))) ∙ v.others q j k d

        first : word_at table' (r * l.stride) ≡ word_at table₀ (r * l.stride)
        first = u.others (r * l.stride) (λ (x : r * l.stride + (i + 1) ≡ r * l.stride). omega arith) ∙ v.first

        pub putting-on : (p' : Place) → e ≡ Some p' → Putting a shapes n l known r table₀ table' p' (rest / 2) (i + 1)
        putting-on p' ok =
            record {
              long = u.long ∙ v.long;
              few = omega arith;
              small = u.small p' ok;
              others = others;
              first = first;
              words = words;
            }
          where
            words : (t : Term) → Source a shapes t → Noted a n l known table₀ → Ended a shapes n l known (suc r) table₀
                → (gs hs : List Symbol) → string_at a 0 (length a) ≡ gs ++ (call n ∷ hs) → tally n gs ≡ r → Halfway a shapes n l known r t table' p' (rest / 2) (i + 1) gs
            words t y noted ended gs hs f m =
                record {
                  ks = H.ks;
                  ahead = rw at (ahead-next a shapes n r t y H.ks rest p.at H.ahead);
                  ranks = rw at L.1;
                  more = more;
                  words = one;
                }
              where
                H : Halfway a shapes n l known r t table p rest i gs
                H = v.words t y noted ended gs hs f m

                L : (p'.at ≡ end_of a shapes rest p.at) × (p'.rank ≡ rank_at known n a (end_of a shapes rest p.at))
                L = u.ends.lands p' ok t y r H.ks (later ended) H.ahead H.ranks

                at : p'.at ≡ end_of a shapes rest p.at
                at = L.0

                more : (k : ℕ) → last_from a shapes k (rest / 2) p'.at ≡ last_from a shapes (i + 1 + k) (get_or shapes n 0) (size gs + 2)
                more k =
                    let o : i + suc k ≡ i + 1 + k = omega arith in
                    rw at (H.more (suc k) ∙ ap (λ (x : ℕ). last_from a shapes x (get_or shapes n 0) (size gs + 2)) o)

                last : p'.at ≡ last_from a shapes (i + 1) (get_or shapes n 0) (size gs + 2)
                last = more 0 ∙ ap (λ (x : ℕ). last_from a shapes x (get_or shapes n 0) (size gs + 2)) (add-zero (i + 1))

                one : (j : ℕ) → j ≤ i + 1 → Right a shapes n l known table' gs j
                one j d = go (dec_lt i j)
                  where
                    go : Dec (i < j) → Right a shapes n l known table' gs j
                    go (yes k) =
                        let o : j ≡ i + 1 = omega arith in
                        rw (o, m, ← last) (u.word p' ok ∙ ap (packed p'.at) (L.1 ∙ ap (rank_at known n a) (sym L.0)))
                    go (no k) =
                        u.others (tally n gs * l.stride + j) (λ (x : r * l.stride + (i + 1) ≡ tally n gs * l.stride + j). apart k (rw m at x))
                        ∙ H.words j (below k)
                      where
                        below : (i < j → ⊥) → j ≤ i
                        below k = omega arith

                        apart : (i < j → ⊥) → r * l.stride + (i + 1) ≡ r * l.stride + j → ⊥
                        apart k x = omega arith

        pub putting-failed : EndsCall a shapes n l known r table₀ table' false
        putting-failed = record { long = u.long ∙ v.long; noted = noted-kept table' others first; ended = λ o. never (sym o) }

  -- all calls
  pub ending-start : (table₀ : List ℕ) → Ending a shapes n l known known table₀ table₀
  ending-start table₀ =
      record { long = refl; few = omega arith; noted = λ d. d; ended = λ t y d gs hs e (s : known ≤ tally n gs) (k : tally n gs < known) j o. absurd (omega arith) }

  module _ (table₀ table : List ℕ) (r : ℕ) (v : Ending a shapes n l known r table₀ table) where
    pub ending-on : (table' : List ℕ) (b : Bool) → 0 < r → EndsCall a shapes n l known (r - 1) table table' b → b ≡ true → Ending a shapes n l known (r - 1) table₀ table'
    ending-on table' b s u o =
        let q : suc (r - 1) ≡ r = omega arith in
        record {
          long = u.long ∙ v.long;
          few = omega (arith, v.few);
          noted = λ d. u.noted (v.noted d);
          ended = λ t y d. u.ended o t y (v.noted d) (rw q (v.ended t y d));
        }

    pub ending-end : r ≤ 0 → EndsCalls a shapes n l known table₀ table true
    ending-end h = record { yes = λ o σ t e w f p d. all t (subst (λ (x : ℕ → ℕ). Shaped x t) (fun_ext e) w) (subst (λ (x : ℕ → ℕ). far (spell x t) ≡ false) (fun_ext e) f) (subst (λ (x : ℕ → ℕ). Spelt a 0 (spell x t) (length a)) (fun_ext e) p) d }
      where
        all : (t : Term) → Shaped (shape_in shapes) t → far (spell (shape_in shapes) t) ≡ false → Spelt a 0 (spell (shape_in shapes) t) (length a) → Noted a n l known table₀
            → Tabled a shapes n l known table
        all t w f p d =
            record { few = d.few; each = λ gs hs e k i m. v.ended t (record { shaped = w; near = f; spelt = p }) d gs hs e (omega arith) k i m }

  pub ending-failed : (table₀ table : List ℕ) → EndsCalls a shapes n l known table₀ table false
  ending-failed table₀ table = record { yes = λ o. never (sym o) }
