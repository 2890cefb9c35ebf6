-- The stand-ins taken out of a definition's text, the highest number first.
use mathlib.Core.Bool.{Bool, false, true}
use mathlib.Core.List.{List}
use mathlib.Core.Logic.{◌⊎◌, inl}
use mathlib.Core.Path.{◌∙◌, ◌≡◌, ap, refl, subst, sym}
use borrow.Author.Tests.{le-leb, leb-false, leb-true, lt-leb, ne_eqb}
use lib.Dec.{eqb, leb}
use lib.ListN.{get_or, length}
use native.Mathlib.Omega.{arith}
use Prim.Native.Nat.{◌+◌, ◌-◌, ◌<◌, ◌≤◌, suc, ℕ}
use Rattle.limits.specs.Limits.{max_definitions}
use Rattle.symbols.specs.Spell.{spell}
use Rattle.symbols.specs.Symbol.{Spelt, Symbol, calls, size, wide}
use Rattle.theory.specs.Lists.{any}
use Rattle.theory.specs.Term.{Term, kind_arity}
use Rattle.rules.specs.State.{params_of}
use Rattle.texts.specs.Text.{no_declaration}
use Rattle.store.specs.declared.Store.{Store}
use Rattle.store.specs.declared.Facts.{Facts}
use Rattle.worlds.specs.Rows.{world_of}
use Rattle.strings.proofs.Reading.{stands}
use Rattle.strings.specs.Read.{string_at}
use Rattle.std.specs.Prelude.{None, Option, Some}
use Rattle.std.proofs.lemmas.Option.{none-some, same_Some}
use Rattle.chains.specs.Walk.{outer_after}
use Rattle.unfolding.proofs.TemplateSteps.{StandInCalled, called-callee, calls-both, calls-down, few-along, own-near, standin-down, standin-near, stray, stray-standin, taken-called, taken-on, taken_start}
use Rattle.unfolding.specs.CalleeTerm.{max_links, own_term, sense_along, stand_in_term}
use Rattle.unfolding.specs.Sense.{Sense}
use Rattle.unfolding.specs.StandIn.{entry_of, level_of}
use Rattle.spelling.specs.Strings.{shapes_of}
use Rattle.callees.specs.Results.{OwnString, StandInString, Strung}
use Rattle.rewriting.specs.Rewritten.{Replaced, Rewritten, Task, Templated}
use Rattle.templates.proofs.Highest.{highest-low, highest-none, highest-there}
use Rattle.templates.proofs.Numbers.{low}
use Rattle.templates.specs.Highest.{highest_number}
use Rattle.templates.specs.Shaped.{first_stand_in, shape_count, text_bytes}
use Rattle.templates.specs.Taking.{AllTaken, Known, Mid, MidAt, MidLong, OwnTaken, StepTaken, TakenOut, work_bytes}
use Rattle.templates.specs.Told.{Told}
use Rattle.templates.specs.declared.making.Unfolded.{Unfolded}

-- a test that no call passes, and one that passes no more
calls-weaken : (q u : ℕ → Bool) → ((n : ℕ) → q n ≡ false → u n ≡ false) → (gs : List Symbol) → any (calls q) gs ≡ false → any (calls u) gs ≡ false
calls-weaken q u f gs e = calls-both q q u (λ n a b. f n a) gs e e

-- what stands in the memory is what the code reads there
pub mid-reads : (file refs : List ℕ) (v : Store) (declared : List ℕ) (n d k : ℕ) (numbers currents outers along : List ℕ) (x : Told file refs v declared n) (work : List ℕ) (len : ℕ)
    (at : MidAt file refs v declared n d k numbers currents outers along x work len) → len ≤ length work → string_at work 0 len ≡ spell (shapes_of along) at.term
mid-reads file refs v declared n d k numbers currents outers along x work len at l =
    stands work 0 (spell (shapes_of along) at.term) len at.spelt l at.mid.near

module _ (file refs : List ℕ) (v : Store) (numbers currents outers along : List ℕ) where
  abbrev facts : List Facts
  facts = v.facts

  abbrev declared : List ℕ
  declared = v.declared

  module _ (m l e : ℕ) (text : List ℕ) (room : ℕ) (fits : Bool) (tlen : ℕ) (before : List ℕ) (len : ℕ) (after : List ℕ) (r : Option ℕ)
      (high : first_stand_in ≤ m) (ql : l ≡ level_of m - 1) (qe : e ≡ entry_of m)
      (s : StandInString file refs v numbers currents outers along l e text room fits tlen) (big : text_bytes ≤ room) (fills : length text ≡ room)
      (w : Rewritten before len m text tlen along after r) where
    module _ (n k : ℕ) (x : Told file refs v declared n) (d : ℕ) (known : Known file refs v declared n d k numbers currents outers along x)
        (at : MidAt file refs v declared n d k numbers currents outers along x before len) (top : highest_number (spell (shapes_of along) at.term) ≡ suc m) where
      abbrev σ : ℕ → ℕ
      σ = shapes_of along

      abbrev t : Term
      t = at.term

      abbrev g : Sense
      g = sense_along x.state x.decls (world_of x.rows d) σ

      abbrev T : Term
      T = stand_in_term file refs v x.decls numbers currents outers (level_of m - 1) (entry_of m)

      few : d < max_definitions
      few = low file refs v declared n d k numbers currents outers x known.there known.chain

      called : StandInCalled x.decls (world_of x.rows d) k m
      called =
          taken-called file refs v declared n d x.counts x.state x.rows x.decls x.end x.ready known.there x.room k numbers currents outers known.chain σ
          known.below known.shaped t at.mid.taken m (omega (arith, few)) (highest-there (spell σ t) m top)

      strung : Strung T along x.end text room fits tlen
      strung =
          let s' : StandInString file refs v numbers currents outers along (level_of m - 1) (entry_of m) text room fits tlen =
          subst (λ (j : ℕ). StandInString file refs v numbers currents outers along (level_of m - 1) j text room fits tlen) qe
          (subst (λ (j : ℕ). StandInString file refs v numbers currents outers along j e text room fits tlen) ql s) in
          s'.string n d x.counts x.state x.rows x.decls x.end x.ready known.there x.room k known.chain called.on called.named known.fit

      spelt : Spelt text 0 (spell σ T) tlen × (tlen ≤ room)
      spelt = strung.spells.spelt (strung.whole (omega (arith, x.short)) (omega arith))

      -- its own text calls nothing from it on
      down : (b : ℕ) → m ≤ b → any (calls (λ i. leb b i)) (spell σ T) ≡ false
      down b q =
          standin-down file refs v declared n d x.counts x.state x.rows x.decls x.end x.ready known.there x.room k numbers currents outers known.chain σ
          (level_of m - 1) (entry_of m) called.on called.named b (omega (arith, called.number))

      abbrev task : Task
      task =
          record {
            sense = g;
            params = params_of x.state d;
            term = t;
            arity = outer_after facts (get_or outers (level_of m - 1) 0) (get_or currents (level_of m - 1) 0) + kind_arity (get_or x.decls (entry_of m) no_declaration).0;
            text = T;
          }

      templated : Templated m text tlen along task
      templated =
          record {
            shaped = λ i. refl;
            few =
                few-along file refs v declared n d x.counts x.state x.rows x.decls x.end x.ready known.there x.room k numbers currents outers known.chain;
            callee =
                called-callee file refs v declared n d x.counts x.state x.rows x.decls x.end x.ready known.there x.room k numbers currents outers known.chain
                σ known.below known.shaped t at.mid.taken m called;
            fresh =
                calls-weaken (λ i. leb m i) (eqb m) (λ i q. ne_eqb m i (λ (z : m ≡ i). omega (arith, leb-false m i q))) (spell σ T) (down m (omega arith));
            near =
                standin-near file refs v declared n d x.counts x.state x.rows x.decls x.end x.ready known.there x.room k numbers currents outers known.chain
                σ (level_of m - 1) (entry_of m) called.on called.named;
            spelt = spelt.0;
            inside = omega (arith, spelt.1);
          }

      replaced : Replaced m task after r
      replaced = w.replaced task (record { templated = templated; stands = at.mid.taken.stands; near = at.mid.near; spelt = at.spelt })

      mid : Mid file refs v declared n d k numbers currents outers along x replaced.term
      mid =
          record {
            taken =
                taken-on file refs v declared n d x.counts x.state x.rows x.decls x.end x.ready known.there x.room k numbers currents outers known.chain σ
                known.below known.shaped t at.mid.taken m called replaced.term replaced.stands replaced.same replaced.others;
            near = replaced.near;
          }

      on : ((q : ℕ) → r ≡ Some q → (at' : MidAt file refs v declared n d k numbers currents outers along x after q) × (highest_number (spell (shapes_of along) at'.term) ≤ m))
          × (r ≡ None → MidLong file refs v declared n d k numbers currents outers along x (length before))
      on = (fit, unfit)
        where
          fit : (q : ℕ) → r ≡ Some q → (at' : MidAt file refs v declared n d k numbers currents outers along x after q) × (highest_number (spell (shapes_of along) at'.term) ≤ m)
          fit q f = (
            record { term = replaced.term; mid = mid; spelt = (replaced.yes q f).0 },
            highest-low (spell σ replaced.term) m
                (calls-down m (spell σ replaced.term)
                (replaced.others (λ i. leb (suc m) i) (highest-none (spell σ t) (suc m) (omega arith)) (down (suc m) (omega arith))) (replaced.yes q f).1),
          )

          unfit : r ≡ None → MidLong file refs v declared n d k numbers currents outers along x (length before)
          unfit f = record { term = replaced.term; mid = mid; long = subst (λ (y : ℕ). (y < size (spell σ replaced.term)) ⊎ (wide (spell σ replaced.term) ≡ true)) w.long (replaced.no f) }

    pub taken_out : TakenOut file refs v declared m numbers currents outers along before len after r
    taken_out = record { long = w.long; within = w.within; on = on }

-- one more than the highest number left
module _ (file refs : List ℕ) (v : Store) (declared : List ℕ) (h m : ℕ) (numbers currents outers along before : List ℕ) (len : ℕ) (after : List ℕ) (f : Option ℕ)
    (one : suc m ≡ h) (o : TakenOut file refs v declared m numbers currents outers along before len after f) where
  pub step-short : f ≡ None → (r : Option Unfolded) → r ≡ None → StepTaken file refs v declared h numbers currents outers along before len after r
  step-short e r z =
      rw z
      (record {
        long = o.long;
        within = λ u q. absurd (none-some u q);
        small = λ u q. absurd (none-some u q);
        less = λ u q. absurd (none-some u q);
        on = λ n k x d known at top. (λ u q. absurd (none-some u q), λ q. (o.on n k x d known at (top ∙ sym one)).1 e);
      })

  module _ (q high : ℕ) (fits : f ≡ Some q) (e : high ≡ highest_number (string_at after 0 q)) (small : high ≤ shape_count) where
    reads : (n k : ℕ) (x : Told file refs v declared n) (d : ℕ) → Known file refs v declared n d k numbers currents outers along x
        → (at : MidAt file refs v declared n d k numbers currents outers along x after q) → highest_number (spell (shapes_of along) at.term) ≡ high
    reads n k x d known at =
        let l = o.within q fits in
        sym (e ∙ ap highest_number (mid-reads file refs v declared n d k numbers currents outers along x after q at (omega (arith, o.long))))

    pub step-taken : high < h → StepTaken file refs v declared h numbers currents outers along before len after (Some (record { len = q; highest = high }))
    step-taken low =
        record {
          long = o.long;
          within = λ u z. rw (← same_Some _ u z) (o.within q fits);
          small = λ u z. rw (← same_Some _ u z) small;
          less = λ u z. rw (← same_Some _ u z) low;
          on = λ n k x d known at top. (
            λ u z. rw (← same_Some _ u z) (let y = (o.on n k x d known at (top ∙ sym one)).0 q fits in (y.0, reads n k x d known y.0)),
            λ z. absurd (none-some _ (sym z)),
          );
        }

    -- it would be no lower
    pub step-high : h ≤ high → StepTaken file refs v declared h numbers currents outers along before len after None
    step-high l =
        record {
          long = o.long;
          within = λ u z. absurd (none-some u z);
          small = λ u z. absurd (none-some u z);
          less = λ u z. absurd (none-some u z);
          on = λ n k x d known at top. (
            λ u z. absurd (none-some u z),
            λ z.
                let y = (o.on n k x d known at (top ∙ sym one)).0 q fits in
                absurd (omega (arith, y.1, reads n k x d known y.0)),
          );
        }

-- The string is that of a term on the way, and h is one more than the highest number that it calls.
pub record Underway (file refs : List ℕ) (v : Store) (declared numbers currents outers along before : List ℕ) (len : ℕ) (work : List ℕ) (q h : ℕ) : Type 0 where
  pub long : length work ≡ length before
  pub within : q ≤ length before
  pub small : h ≤ shape_count
  pub on : (n k : ℕ) (x : Told file refs v declared n) (d : ℕ) → Known file refs v declared n d k numbers currents outers along x
      → MidAt file refs v declared n d k numbers currents outers along x before len
      → (at : MidAt file refs v declared n d k numbers currents outers along x work q) × (highest_number (spell (shapes_of along) at.term) ≡ h)

module _ (file refs : List ℕ) (v : Store) (declared numbers currents outers along before : List ℕ) (len : ℕ) where
  pub underway-start : (h : ℕ) → len ≤ length before → h ≡ highest_number (string_at before 0 len) → h ≤ shape_count
      → Underway file refs v declared numbers currents outers along before len before len h
  underway-start h l e small =
      record {
        long = refl;
        within = l;
        small = small;
        on = λ n k x d known at. (at, sym (e ∙ ap highest_number (mid-reads file refs v declared n d k numbers currents outers along x before len at l)));
      }

  module _ (work : List ℕ) (q h : ℕ) (u : Underway file refs v declared numbers currents outers along before len work q h) where
    pub underway-turn : (after : List ℕ) (r : Option Unfolded) → StepTaken file refs v declared h numbers currents outers along work q after r → (t : Unfolded) → r ≡ Some t
        → Underway file refs v declared numbers currents outers along before len after t.len t.highest
    underway-turn after r s t f =
        record {
          long = s.long ∙ u.long;
          within = omega (arith, s.within t f, u.long);
          small = s.small t f;
          on = λ n k x d known at.
              let y = u.on n k x d known at in
              (s.on n k x d known y.0 y.1).0 t f;
        }

    -- a string too long
    pub underway-no : (after : List ℕ) (r : Option Unfolded) → StepTaken file refs v declared h numbers currents outers along work q after r → r ≡ None
        → (z : Option ℕ) → z ≡ None → AllTaken file refs v declared numbers currents outers along before len after z
    underway-no after r s f z zn =
        rw zn
        (record {
          long = s.long ∙ u.long;
          within = λ i g. absurd (none-some i g);
          on = λ n k x d known at.
              let y = u.on n k x d known at in
              let m : MidLong file refs v declared n d k numbers currents outers along x (length work) = (s.on n k x d known y.0 y.1).1 f in (
                λ i g. absurd (none-some i g),
                λ g. subst (MidLong file refs v declared n d k numbers currents outers along x) u.long m,
              );
        })

    pub underway-end : h ≤ first_stand_in → AllTaken file refs v declared numbers currents outers along before len work (Some q)
    underway-end top =
        record {
          long = u.long;
          within = λ i g. rw (← same_Some q i g) u.within;
          on = λ n k x d known at.
              let y = u.on n k x d known at in (
                λ i g. (
                  record { term = y.0.term; mid = y.0.mid; spelt = subst (Spelt work 0 (spell (shapes_of along) y.0.term)) (same_Some q i g) y.0.spelt },
                  calls-both (stray x.decls d (world_of x.rows d) k) (λ i. leb first_stand_in i) (λ i. leb d i)
                      (λ i a b. under n k x d i a b) (spell (shapes_of along) y.0.term) y.0.mid.taken.known
                      (highest-none (spell (shapes_of along) y.0.term) first_stand_in (omega (arith, y.1))),
                ),
                λ g. absurd (none-some q (sym g)),
              );
        }
      where
        under : (n k : ℕ) (x : Told file refs v declared n) (d i : ℕ) → stray x.decls d (world_of x.rows d) k i ≡ false → leb first_stand_in i ≡ false → leb d i ≡ false
        under n k x d i a b = go (leb d i) refl
          where
            go : (z : Bool) → leb d i ≡ z → z ≡ false
            go false q = refl
            go true q = absurd (omega (arith, leb-false first_stand_in i b, (stray-standin x.decls d (world_of x.rows d) k i (leb-true d i q) a).high))

-- the definition's own text
module _ (file refs : List ℕ) (v : Store) (k : ℕ) (numbers currents outers along : List ℕ) (few : k ≤ max_links) (work : List ℕ) (room : ℕ) (fits : Bool)
    (len : ℕ) (full : room ≡ work_bytes) (fills : length work ≡ room) (s : OwnString file refs v numbers currents outers along k work room fits len) where
  module _ (n : ℕ) (x : Told file refs v v.declared n) (d : ℕ) (known : Known file refs v v.declared n d k numbers currents outers along x) where
    own-strung : Strung (own_term file refs v.facts x.decls k numbers currents outers) along x.end work room fits len
    own-strung = s.string n d x.counts x.state x.rows x.decls x.end x.ready known.there x.room known.chain known.fit

    own-mid : Mid file refs v v.declared n d k numbers currents outers along x (own_term file refs v.facts x.decls k numbers currents outers)
    own-mid =
        record {
          taken =
              taken_start file refs v v.declared n d x.counts x.state x.rows x.decls x.end x.ready known.there x.room k numbers currents outers known.chain
              (shapes_of along) known.below known.shaped;
          near =
              own-near file refs v v.declared n d x.counts x.state x.rows x.decls x.end x.ready known.there x.room k numbers currents outers known.chain
              (shapes_of along);
        }

    own-mid-at : len ≤ room → MidAt file refs v v.declared n d k numbers currents outers along x work len
    own-mid-at l =
        record {
          term = own_term file refs v.facts x.decls k numbers currents outers;
          mid = own-mid;
          spelt = (own-strung.spells.spelt (s.told ∙ le-leb len room l)).0;
        }

    own-mid-long : room < len → MidLong file refs v v.declared n d k numbers currents outers along x room
    own-mid-long l =
        record {
          term = own_term file refs v.facts x.decls k numbers currents outers;
          mid = own-mid;
          long = inl (own-strung.spells.short (s.told ∙ lt-leb len room l));
        }

  pub own-taken : (after : List ℕ) (r : Option ℕ) → len ≤ length work
      → AllTaken file refs v v.declared numbers currents outers along work len after r
      → OwnTaken file refs v v.declared k numbers currents outers along after r
  own-taken after r l a =
      record {
        long = a.long ∙ fills ∙ full;
        within = λ q e. omega (arith, a.within q e);
        on = λ n x d known.
            let y = a.on n k x d known (own-mid-at n x d known (omega arith)) in
            (y.0, λ f. subst (MidLong file refs v v.declared n d k numbers currents outers along x) (fills ∙ full) (y.1 f));
      }

  pub own-taken-no : length work < len → OwnTaken file refs v v.declared k numbers currents outers along work None
  own-taken-no over =
      record {
        long = fills ∙ full;
        within = λ q e. absurd (none-some q e);
        on = λ n x d known. (
          λ q e. absurd (none-some q e),
          λ g. subst (MidLong file refs v v.declared n d k numbers currents outers along x) full (own-mid-long n x d known (omega arith)),
        );
      }
