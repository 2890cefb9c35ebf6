-- A round, and one round after another.
use mathlib.Core.Bool.{Bool, ◌||◌, cond, false, true}
use mathlib.Core.List.{List, [], ◌∷◌}
use mathlib.Core.Path.{◌∙◌, ◌≡◌, ap, refl, subst, sym}
use native.Mathlib.Omega.{arith}
use Prim.Native.Nat.{ℕ, ◌+◌, ◌-◌, ◌<◌, ◌≤◌, min}
use lib.Dec.{eqb}
use lib.ListN.{drop, get_or, length, length-take, take}
use lib.Seq.{get_or-take, paste}
use Rattle.theory.specs.Lists.{any}
use Rattle.symbols.specs.Spell.{spell}
use Rattle.symbols.specs.Symbol.{Spelt, Symbol, calls}
use Rattle.strings.proofs.Reading.{stands}
use Rattle.strings.proofs.Written.{paste-spelt, spelt-same}
use Rattle.strings.specs.Read.{string_at}
use Rattle.std.proofs.Common.{Break, Continue, ControlFlow}
use Rattle.std.specs.Prelude.{Err, None, Ok, Option, Result, Some}
use Rattle.std.proofs.lemmas.Option.{none-some, same_Some}
use Rattle.rewriting.proofs.Standing.{over_done}
use Rattle.rewriting.proofs.Step.{stands-shaped}
use Rattle.rewriting.specs.Rewritten.{Posed, Rewritten, Task, Templated}
use Rattle.rewriting.specs.Ends.{places_of}
use Rattle.cells.specs.Table.{EndsCalls, Noted, Sized, row_bytes, tally}
use Rattle.cells.specs.declared.Layout.{Layout}
use Rattle.streaming.specs.Step.{Read, Written}
use Rattle.replacing.proofs.Tasks.{again, kept-first, kept-through, posed-again, replaced-all, replaced-through}
use Rattle.replacing.specs.Round.{Comes, NotedRan, RanOn, RoundComes, RoundWithin, Rounded, Rounding, TurnComes, TurnWithin, TurnedTo, Within}
use Rattle.streaming.specs.declared.Fault.{Fault}
use Rattle.streaming.specs.declared.Fault.TheVariants.{Lost, Short}

one_none : (b rest : Bool) (t : ℕ) → cond b 1 0 + t ≡ 0 → (t ≡ 0 → rest ≡ false) → (b || rest) ≡ false
one_none true rest t e f = absurd (omega arith)
one_none false rest t e f = f (omega arith)

tally-none : (n : ℕ) (gs : List Symbol) → tally n gs ≡ 0 → any (calls (eqb n)) gs ≡ false
tally-none n [] e = refl
tally-none n (g ∷ gs) e = one_none (calls (eqb n) g) (any (calls (eqb n)) gs) (tally n gs) e (λ z. tally-none n gs z)

module _ (a template : List ℕ) (tlen : ℕ) (shapes : List ℕ) (n : ℕ) where
  -- no call was found
  pub round-none : (out : List ℕ) (l : Layout) (bytes found : ℕ) → Sized l bytes → row_bytes ≤ bytes → found ≡ min l.room (tally n (string_at a 0 (length a))) → found ≡ 0
      → Rounded a template tlen shapes n out out (Ok None)
  round-none out l bytes found sized room is none =
      record {
        within = tt;
        comes = λ x p.
            let s : string_at a 0 (length a) ≡ spell x.sense.shape x.term = stands a 0 (spell x.sense.shape x.term) (length a) p.spelt (omega arith) p.near in
            let some : 0 < l.room = sized.some room in
            let t : tally n (string_at a 0 (length a)) ≡ 0 = omega arith in
            tally-none n (spell x.sense.shape x.term) (ap (tally n) (sym s) ∙ t);
      }

  -- those that are noted have been replaced
  pub noted-ran : (out out' : List ℕ) (l : Layout) (h known : ℕ) (table table' : List ℕ) (told : Bool) (t : Result ℕ Fault) → h ≡ get_or shapes n 0 → l.places ≡ places_of h → Sized l (length table)
      → length table' ≡ length table → EndsCalls a shapes n l known table table' told → told ≡ true → RanOn a template tlen n l known table' out out' t
      → NotedRan a template tlen shapes n l known table out out' t
  noted-ran out out' l h known table table' told t eh places sized long ends done ran =
      record { within = (ran.ran shapes).within; comes = λ noted x p. (ran.ran shapes).comes x (read noted x p) }
    where
      read : Noted a n l known table → (x : Task) → Posed a (length a) n template tlen shapes x → Read x a template tlen shapes n l known table'
      read noted x p =
          record {
            posed = p;
            places = places ∙ ap places_of eh;
            sized = subst (Sized l) (sym long) sized;
            tabled =
                ends.yes done x.sense.shape x.term p.templated.shaped
                (stands-shaped x.sense x.params p.templated.few x.term 0 p.stands.formed p.stands.calls) p.near p.spelt noted;
          }

  pub noted-lost : (out out' : List ℕ) (l : Layout) (known : ℕ) (table : List ℕ) → NotedRan a template tlen shapes n l known table out out' (Err Lost)
  noted-lost out out' l known table = record { within = tt; comes = λ noted x p. tt }

  module _ (out out' : List ℕ) (l : Layout) (found : ℕ) (table : List ℕ) (t : Result ℕ Fault) (noted : Noted a n l found table)
      (ran : NotedRan a template tlen shapes n l found table out out' t) where
    pub round-ran : (len : ℕ) → t ≡ Ok len → Rounded a template tlen shapes n out out' (Ok (Some len))
    round-ran len e = record { within = subst (Within out) e ran.within; comes = λ x p. subst (Comes x out out') e (ran.comes noted x p) }

    pub round-failed : (f : Fault) → t ≡ Err f → Rounded a template tlen shapes n out out' (Err f)
    round-failed Short e = record { within = tt; comes = λ x p. subst (Comes x out out') e (ran.comes noted x p) }
    round-failed Lost e = record { within = tt; comes = λ x p. tt }

-- the first part of a slice
pub round-first : (a : List ℕ) (size : ℕ) (template : List ℕ) (tlen : ℕ) (shapes : List ℕ) (n : ℕ) (out out' : List ℕ) (r : Result (Option ℕ) Fault)
    → Rounded (take (size - 0) (drop 0 a)) template tlen shapes n out out' r → Rounded (take size a) template tlen shapes n out out' r
round-first a size template tlen shapes n out out' r h =
    let e : size - 0 ≡ size = omega arith in
    subst (λ (k : ℕ). Rounded (take k a) template tlen shapes n out out' r) e h

-- the calls replaced one after another
pub turn-slow : (before : List ℕ) (size n : ℕ) (template : List ℕ) (tlen : ℕ) (shapes after : List ℕ) (f : Option ℕ) → Rewritten before size n template tlen shapes after f
    → TurnedTo before size n template tlen shapes after (Break f)
turn-slow before size n template tlen shapes after f w = record { long = w.long; within = w.within; comes = w.replaced }

module _ (before : List ℕ) (size n : ℕ) (template : List ℕ) (tlen : ℕ) (shapes : List ℕ) (inside : size ≤ length before) where
  short : length (take size before) ≡ size
  short = length-take size before ∙ omega arith

  -- the part of the memory that holds the string
  posed-part : (x : Task) → Posed before size n template tlen shapes x → Posed (take size before) (length (take size before)) n template tlen shapes x
  posed-part x p =
      record {
        templated = p.templated;
        stands = p.stands;
        near = p.near;
        spelt =
            subst (Spelt (take size before) 0 (spell x.sense.shape x.term)) (sym short)
            (spelt-same (spell x.sense.shape x.term) before (take size before) 0 size (λ k u v. get_or-take size before k 0 v) p.spelt);
      }

  module _ (out out' : List ℕ) (r : Result (Option ℕ) Fault) (h : Rounded (take size before) template tlen shapes n out out' r) where
    pub turn-done : (y : Option ℕ) → r ≡ Ok y → y ≡ None → TurnedTo before size n template tlen shapes before (Break (Some size))
    turn-done y k i =
        let e : r ≡ Ok None = k ∙ ap (λ (z : Option ℕ). Ok z) i in
        record {
          long = refl;
          within = λ k f. rw (← same_Some size k f) inside;
          comes = λ x p.
              replaced-all n x (kept-first x before size n template tlen shapes p) before size p.spelt (subst (RoundComes n x out out') e (h.comes x (posed-part x p)));
        }

    pub turn_more : (after : List ℕ) (y : Option ℕ) (len : ℕ) → r ≡ Ok y → y ≡ Some len → length before ≡ length out → length out' ≡ length out
        → after ≡ paste before 0 out' len → length after ≡ length before → TurnedTo before size n template tlen shapes after (Continue len)
    turn_more after y len k i same long e la =
        let t : r ≡ Ok (Some len) = k ∙ ap (λ (z : Option ℕ). Ok z) i in
        let j : len ≤ length out = subst (RoundWithin out) t h.within in
        record {
          long = la;
          within = omega arith;
          comes = λ x p.
              let w : Written x out' len = subst (RoundComes n x out out') t (h.comes x (posed-part x p)) in
              let gs : List Symbol = spell x.sense.shape w.kept.term in
              let s : Spelt (paste before 0 out' len) 0 gs (0 + len) = paste-spelt before 0 out' len (omega arith) (omega arith) gs w.spelt in
              let z : 0 + len ≡ len = omega arith in
              record { kept = w.kept; spelt = subst (λ (i : ℕ). Spelt after 0 gs i) z (subst (λ (m : List ℕ). Spelt m 0 gs (0 + len)) (sym e) s) };
        }

    pub turn-short : (f : Fault) → r ≡ Err f → f ≡ Short → length before ≡ length out → TurnedTo before size n template tlen shapes before (Break None)
    turn-short f k i same =
        let e : r ≡ Err Short = k ∙ ap (λ (z : Fault). Err z) i in
        record {
          long = refl;
          within = λ k f. absurd (none-some k f);
          comes = λ x p. over_done n x before (length out) (subst (RoundComes n x out out') e (h.comes x (posed-part x p))) same;
        }

module _ (before : List ℕ) (len n : ℕ) (template : List ℕ) (tlen : ℕ) (shapes : List ℕ) where
  pub rounds-start : len ≤ length before → Rounding before len n template tlen shapes before len
  rounds-start l = record { long = refl; within = l; on = λ x p. record { kept = kept-first x before len n template tlen shapes p; spelt = p.spelt } }

  module _ (a : List ℕ) (size : ℕ) (h : Rounding before len n template tlen shapes a size) where
    pub rounds-slow : (after : List ℕ) (r : Option ℕ) → Rewritten a size n template tlen shapes after r → Rewritten before len n template tlen shapes after r
    rounds-slow after r w =
        record {
          long = w.long ∙ h.long;
          within = λ k e. omega (arith, w.within k e, h.long);
          replaced = λ x p.
              let y = h.on x p in
              replaced-through n x y.kept after r (w.replaced (again x y.kept.term) (posed-again n template tlen shapes x y.kept a size p.templated y.spelt));
        }

    module _ (after : List ℕ) (t : ControlFlow (Option ℕ) ℕ) (w : TurnedTo a size n template tlen shapes after t) where
      pub rounds-on : (next : ℕ) → t ≡ Continue next → Rounding before len n template tlen shapes after next
      rounds-on next e =
          let i : next ≤ length a = subst (TurnWithin a) e w.within in
          record {
            long = w.long ∙ h.long;
            within = omega (arith, h.long);
            on = λ x p.
                let y = h.on x p in
                let v : Written (again x y.kept.term) after next =
                subst (TurnComes n (again x y.kept.term) after) e (w.comes (again x y.kept.term) (posed-again n template tlen shapes x y.kept a size p.templated y.spelt)) in
                record { kept = kept-through x y.kept v.kept; spelt = v.spelt };
          }

      pub rounds-end : (answer : Option ℕ) → t ≡ Break answer → Rewritten before len n template tlen shapes after answer
      rounds-end answer e =
          rounds-slow after answer
          (record {
            long = w.long;
            within = subst (TurnWithin a) e w.within;
            replaced = λ x p. subst (TurnComes n x after) e (w.comes x p);
          })

-- the template in other memory
pub rewritten-small : (a : List ℕ) (len n : ℕ) (template : List ℕ) (tlen : ℕ) (shapes zeros small after : List ℕ) (r : Option ℕ) → tlen ≤ length template → tlen ≤ length zeros
    → small ≡ paste zeros 0 template tlen → length small ≡ length zeros → Rewritten a len n small tlen shapes after r → Rewritten a len n template tlen shapes after r
rewritten-small a len n template tlen shapes zeros small after r i j e l w =
    record { long = w.long; within = w.within; replaced = λ x p. w.replaced x (posed x p) }
  where
    spelt : (gs : List Symbol) → Spelt template 0 gs tlen → Spelt small 0 gs tlen
    spelt gs s =
        let y : Spelt (paste zeros 0 template tlen) 0 gs (0 + tlen) = paste-spelt zeros 0 template tlen (omega arith) i gs s in
        let z : 0 + tlen ≡ tlen = omega arith in
        subst (λ (k : ℕ). Spelt small 0 gs k) z (subst (λ (m : List ℕ). Spelt m 0 gs (0 + tlen)) (sym e) y)

    templated : (x : Task) → Templated n template tlen shapes x → Templated n small tlen shapes x
    templated x w =
        record {
          shaped = w.shaped;
          few = w.few;
          callee = w.callee;
          fresh = w.fresh;
          near = w.near;
          spelt = spelt (spell x.sense.shape x.text) w.spelt;
          inside = omega arith;
        }

    posed : (x : Task) → Posed a len n template tlen shapes x → Posed a len n small tlen shapes x
    posed x p = record { templated = templated x p.templated; stands = p.stands; near = p.near; spelt = p.spelt }
