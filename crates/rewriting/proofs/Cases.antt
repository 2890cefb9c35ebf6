-- What each function gives, case by case, over plain values.
use mathlib.Core.Bool.{Bool, false, true}
use mathlib.Core.List.{List}
use mathlib.Core.Logic.{inl, inr}
use mathlib.Core.Path.{◌∙◌, ◌≡◌, ap, refl, subst, sym}
use borrow.Author.Tests.{eq-eqb, ne_eqb}
use lib.Dec.{eqb}
use lib.ListN.{drop, get_or, length, length-drop}
use lib.Seq.{length-paste, paste}
use native.Mathlib.Omega.{arith}
use Prim.Native.Nat.{ℕ, ◌+◌, ◌-◌, ◌%◌, ◌<◌, ◌≤◌, min}
use Rattle.strings.specs.Laid.{Laid, arguments_at}
use Rattle.strings.specs.Read.{shape_in, string_at, symbol_at, symbol_of, width_of}
use Rattle.std.specs.Prelude.{None, Option, Some}
use Rattle.std.proofs.lemmas.Option.{none-some, same_Some}
use Rattle.strings.specs.declared.Sign.{Sign}
use Rattle.strings.specs.declared.Sign.TheVariants.{Call}
use Rattle.symbols.specs.Pieces.{scan}
use Rattle.symbols.specs.Symbol.{Symbol, calls, fill}
use Rattle.rewriting.proofs.Bounding.{arguments-same}
use Rattle.rewriting.proofs.Standing.{all_done, carried, moved-right, no-fill, no_room, over_done, replaced-going}
use Rattle.rewriting.specs.Ends.{end_of, last_from}
use Rattle.rewriting.specs.Filling.{Bounds, FilledCall, arguments_of, filled_of}
use Rattle.rewriting.specs.Going.{AtRight, Carried, Cleared, Ended, Ending, Turned, Turning}
use Rattle.rewriting.specs.Rewritten.{Rewritten}
use Rattle.rewriting.specs.declared.Moved.{Moved}
use Rattle.rewriting.specs.declared.Part.{Part}
use Rattle.symbols.specs.Spell.{max_params}

-- is_call
pub same_number : (n k : ℕ) (g : Sign) → g ≡ Call k → eqb n k ≡ calls (eqb n) (symbol_of g)
same_number n k g e = ap (λ (z : Sign). calls (eqb n) (symbol_of z)) (sym e)

-- argument_end
pub end-yes : (a shapes : List ℕ) (h at r : ℕ) → h % 2 ≡ 1 → r ≡ at + scan (shape_in shapes) 1 0 (string_at a at (length a)) → r ≡ end_of a shapes h at
unfolding end_of
end-yes a shapes h at r e f = rw (eq-eqb (h % 2) 1 e) f

pub end-no : (a shapes : List ℕ) (h at : ℕ) → (h % 2 ≡ 1 → ⊥) → at ≡ end_of a shapes h at
unfolding end_of
end-no a shapes h at e = rw (ne_eqb (h % 2) 1 e)

-- fill_call
module _ (a : List ℕ) (at h : ℕ) (template : List ℕ) (tlen : ℕ) (shapes before after bounds : List ℕ) (f : Option ℕ) (b : Bounds a shapes h at bounds)
    (l : Laid (fill (arguments_at a bounds) 0 (string_at template 0 tlen)) 0 before after f) where
  laid-call : Laid (fill (arguments_of a shapes h at) 0 (string_at template 0 tlen)) 0 before after f
  laid-call = subst (λ (args : List (List Symbol)). Laid (fill args 0 (string_at template 0 tlen)) 0 before after f) (arguments-same a shapes h at bounds b) l

  pub call-filled : (len : ℕ) → f ≡ Some len → FilledCall a at h template tlen shapes before after (Some (record { len = len; end = get_or bounds max_params 0 }))
  call-filled len e =
      record {
        laid = subst (λ (r : Option ℕ). Laid (fill (arguments_of a shapes h at) 0 (string_at template 0 tlen)) 0 before after r) e laid-call;
        last = λ s z. rw (← same_Some _ s z) (b.each max_params (omega arith));
      }

  pub call-unfilled : f ≡ None → (r : Option Part) → r ≡ None → FilledCall a at h template tlen shapes before after r
  call-unfilled e r z =
      rw z
      (record {
        laid = subst (λ (x : Option ℕ). Laid (fill (arguments_of a shapes h at) 0 (string_at template 0 tlen)) 0 before after x) e laid-call;
        last = λ s k. absurd (none-some s k);
      })

-- end_at
module _ (q : ℕ) (filled : List ℕ) (n end : ℕ) (a : List ℕ) where
  pub ending-none : n ≡ 0 → Ending q filled n end a a None
  ending-none e = record { long = refl; yes = λ i t. absurd (none-some i t); no = λ _. inl e }

  pub ending-short : (e : ℕ) → e ≡ min end (length a) → e < q + n → Ending q filled n end a a None
  ending-short e m l = record { long = refl; yes = λ i t. absurd (none-some i t); no = λ _. inr (omega arith) }

  pub ending-yes : (e : ℕ) (a' : List ℕ) → e ≡ min end (length a) → (n ≡ 0 → ⊥) → q + n ≤ e → a' ≡ paste a (e - n) filled n → length a' ≡ length a
      → Ending q filled n end a a' (Some (e - n))
  ending-yes e a' m z l p k =
      record {
        long = k;
        yes = λ i t. let o = same_Some (e - n) i t in (omega arith, omega arith, omega arith, rw (← o) p);
        no = λ t. absurd (none-some (e - n) (sym t));
      }

-- replace
module _ (n : ℕ) (template : List ℕ) (tlen : ℕ) (shapes : List ℕ) (q p : ℕ) (a : List ℕ) (l : p < length a) (c : calls (eqb n) (symbol_at a p) ≡ true)
    (h : ℕ) (hs : h ≡ get_or shapes n 0) (before filled : List ℕ) (room : length a ≤ length before) (s : Option Part)
    (f : FilledCall a (p + 2) h template tlen shapes before filled s) where
  laid : Laid (fill (arguments_of a shapes (get_or shapes n 0) (p + 2)) 0 (string_at template 0 tlen)) 0 before filled (filled_of s)
  laid = subst (λ (z : ℕ). Laid (fill (arguments_of a shapes z (p + 2)) 0 (string_at template 0 tlen)) 0 before filled (filled_of s)) hs f.laid

  pub call-over : s ≡ None → (r : Option ℕ) → r ≡ None → Cleared n template tlen shapes q p a a r
  call-over g r e =
      rw e
      (record {
        long = refl;
        room = λ i t. absurd (none-some i t);
        yes = λ i t. absurd (none-some i t);
        no = λ _ x w y. no-fill n template tlen shapes x w a q p y l c before filled (filled_of s) laid room (ap filled_of g);
      })

  pub call-replaced : (a' : List ℕ) (r : Option ℕ) (u : Part) → s ≡ Some u → Ending q filled u.len u.end a a' r → Cleared n template tlen shapes q p a a' r
  call-replaced a' r u g e =
      record {
        long = e.long;
        room = λ i t. let z = e.yes i t in (omega arith, omega arith);
        yes = λ i t x w y. replaced-going n template tlen shapes x w a q p y l c before filled (filled_of s) laid u.len (ap filled_of g) a' r ending i t;
        no = λ t x w y. no_room n template tlen shapes x w a q p y l c before filled (filled_of s) laid u.len (ap filled_of g) a' r ending t;
      }
    where
      ending : Ending q filled u.len (last_from a shapes max_params (get_or shapes n 0) (p + 2)) a a' r
      ending = subst (λ (z : ℕ). Ending q filled u.len z a a' r) (f.last u g ∙ ap (λ (i : ℕ). last_from a shapes max_params i (p + 2)) hs) e

-- cleared
pub call-here : (n : ℕ) (g : Symbol) (a : List ℕ) (p : ℕ) (b : Bool) → b ≡ calls (eqb n) g → g ≡ symbol_at a p → b ≡ true → calls (eqb n) (symbol_at a p) ≡ true
call-here n g a p b e f t = ap (calls (eqb n)) (sym f) ∙ sym e ∙ t

pub not-here : (n : ℕ) (template : List ℕ) (tlen : ℕ) (shapes : List ℕ) (q p : ℕ) (a : List ℕ) (g : Symbol) (b : Bool) → q ≤ p → p < length a → b ≡ calls (eqb n) g
    → g ≡ symbol_at a p → b ≡ false → Cleared n template tlen shapes q p a a (Some p)
not-here n template tlen shapes q p a g b k l e f t =
    record {
      long = refl;
      room = λ i z. let o = same_Some p i z in (omega arith, omega arith);
      yes = λ i z x w y. rw (← same_Some p i z) (y, ap (calls (eqb n)) (sym f) ∙ sym e ∙ t);
      no = λ z. absurd (none-some p (sym z));
    }

-- carry
pub clear-order : (n : ℕ) (template : List ℕ) (tlen : ℕ) (shapes : List ℕ) (q p : ℕ) (a a' : List ℕ) (f : Option ℕ) → Cleared n template tlen shapes q p a a' f
    → (at : ℕ) → f ≡ Some at → q ≤ at
clear-order n template tlen shapes q p a a' f c at t = (c.room at t).0

pub clear-inside : (n : ℕ) (template : List ℕ) (tlen : ℕ) (shapes : List ℕ) (q p : ℕ) (a a' : List ℕ) (f : Option ℕ) → Cleared n template tlen shapes q p a a' f
    → (at : ℕ) → f ≡ Some at → at < length a'
clear-inside n template tlen shapes q p a a' f c at t = let z = c.room at t in omega (arith, z.1, c.long)

pub carry-done : (q p : ℕ) (a a' : List ℕ) (g : Symbol) (u w : ℕ) → g ≡ symbol_at a p → u ≡ width_of g → 1 ≤ u → w ≡ min u (length a - p) → p < length a → q ≤ p
    → a' ≡ paste a q (drop p a) w → Carried q p a a' w
carry-done q p a a' g u w e f k m l o z =
    let d = length-drop p a in
    record {
      width = m ∙ ap (λ (i : ℕ). min i (length a - p)) (f ∙ ap width_of e);
      some = omega arith;
      inside = omega arith;
      moved = z;
      long = ap length z ∙ length-paste a q (drop p a) w (omega arith) (omega arith);
    }

-- turn
module _ (n : ℕ) (template : List ℕ) (tlen : ℕ) (shapes : List ℕ) (q p : ℕ) (a a' : List ℕ) (f : Option ℕ) (c : Cleared n template tlen shapes q p a a' f) where
  pub turned-over : f ≡ None → (r : Option Moved) → r ≡ None → Turned n template tlen shapes q p a a' r
  turned-over g r e = rw e (record { long = c.long; room = λ m t. absurd (none-some m t); yes = λ m t. absurd (none-some m t); no = λ _. c.no g })

  pub turned : (a'' : List ℕ) (at w : ℕ) → f ≡ Some at → Carried q at a' a'' w → (m : Moved) → m.q ≡ q + w → m.p ≡ at + w
      → Turned n template tlen shapes q p a a'' (Some m)
  turned a'' at w g d m mq mp =
      let z = c.room at g in
      record {
        long = d.long ∙ c.long;
        room = λ k t. rw (← same_Some m k t) (omega (arith, d.some), omega (arith, z.0), omega (arith, d.inside, c.long));
        yes = λ k t x v y. let u = c.yes at g x v y in
            rw (← same_Some m k t, mq, mp) (carried n x a' q at w a'' u.0 (omega (arith, z.1, c.long)) z.0 u.1 d.width d.moved d.long);
        no = λ t. absurd (none-some m (sym t));
      }

-- rewrite_from
module _ (n : ℕ) (template : List ℕ) (tlen : ℕ) (shapes : List ℕ) (from : ℕ) (first work : List ℕ) where
  pub turn-start : from ≤ length first → Turning n template tlen shapes from first work first work 0 from
  turn-start l = record { order = omega arith; inside = l; long = refl; room = refl; going = λ x w y. y }

  module _ (a filled : List ℕ) (q p : ℕ) (t : Turning n template tlen shapes from first work a filled q p) where
    pub turn_end : length a ≤ p → Ended n template tlen shapes from first a (Some q)
    turn_end l =
        record {
          long = t.long;
          within = λ len e. let k = same_Some q len e in omega (arith, t.order, t.inside, t.long);
          replaced = λ x w y. all_done n x a q p (t.going x w y) l;
        }

    module _ (a' : List ℕ) (r : Option Moved) (c : Turned n template tlen shapes q p a a' r) where
      pub turn-over : r ≡ None → (r' : Option ℕ) → r' ≡ None → Ended n template tlen shapes from first a' r'
      turn-over g r' e =
          rw e
          (record {
            long = c.long ∙ t.long;
            within = λ len k. absurd (none-some len k);
            replaced = λ x w y. over_done n x a' (length a) (c.no g x w (t.going x w y)) c.long;
          })

      pub turn_on : (filled' : List ℕ) (m : Moved) → r ≡ Some m → length filled' ≡ length filled → Turning n template tlen shapes from first work a' filled' m.q m.p
      turn_on filled' m g l =
          let z = c.room m g in
          record {
            order = z.1;
            inside = omega (arith, z.2, c.long);
            long = c.long ∙ t.long;
            room = l ∙ t.room;
            going = λ x v y. c.yes m g x v (t.going x v y);
          }

      pub turn-less : (m : Moved) → r ≡ Some m → p < length a → length a' - m.q < length a - q
      turn-less m g l = let z = c.room m g in omega (arith, z.0, z.1, z.2, c.long, t.order)

-- to_right
pub right-done : (a : List ℕ) (len : ℕ) (b b' a' : List ℕ) → len ≤ length a → length a ≤ length b → b' ≡ paste b 0 a len → a' ≡ paste a (length a - len) b' len
    → AtRight a len a' (length a - len)
right-done a len b b' a' l m e f =
    let lb : length b' ≡ length b = ap length e ∙ length-paste b 0 a len (omega arith) l in
    let la : length a' ≡ length a = ap length f ∙ length-paste a (length a - len) b' len (omega arith) (omega arith) in
    record {
      long = la;
      inside = omega arith;
      going = λ n template tlen shapes x z. moved-right a len n template tlen shapes x b b' a' z l m e f la lb;
    }

-- rewrite
pub rewrite-done : (a : List ℕ) (len n : ℕ) (template : List ℕ) (tlen : ℕ) (shapes a' a'' : List ℕ) (from : ℕ) (r : Option ℕ) → AtRight a len a' from
    → Ended n template tlen shapes from a' a'' r → Rewritten a len n template tlen shapes a'' r
rewrite-done a len n template tlen shapes a' a'' from r t d =
    record {
      long = d.long ∙ t.long;
      within = λ size k. omega (arith, d.within size k, t.long);
      replaced = λ x z. d.replaced x z.templated (t.going n template tlen shapes x z);
    }
