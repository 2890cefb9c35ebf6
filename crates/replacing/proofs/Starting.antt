-- Where a run begins.
use mathlib.Core.List.{List, [], ◌∷◌, append-nil}
use mathlib.Core.Path.{◌∙◌, ◌≡◌, ap, ap₂, refl, sym}
use native.Mathlib.Omega.{arith}
use Prim.Native.Nat.{ℕ}
use lib.ListN.{length}
use Rattle.symbols.specs.Spell.{spell}
use Rattle.symbols.specs.Symbol.{Symbol, begin, call, code, end, name, number, par, var}
use Rattle.cells.specs.Table.{tally}
use Rattle.cells.specs.declared.Layout.{Layout}
use Rattle.rewriting.specs.Rewritten.{Task}
use Rattle.shifting.proofs.Calls.{whole_part, whole-starts}
use Rattle.shifting.specs.Part.{Part}
use Rattle.shifting.specs.Shift.{noted, opened_by, shift, shift_one}
use Rattle.streaming.specs.Course.{InString}
use Rattle.streaming.specs.Step.{Read}
use Rattle.streaming.specs.declared.Now.{Now}
use Rattle.replacing.proofs.Tasks.{kept-first}

one_none : (E : List ℕ) (g : Symbol) → shift_one E 0 g ≡ g
one_none E (par i) = refl
one_none E (var j) = ap (λ (i : ℕ). var i) (omega arith)
one_none E (name x k) = refl
one_none E (code c) = refl
one_none E (number v) = refl
one_none E (call n) = refl
one_none E begin = refl
one_none E end = refl

-- where no template has opened a bracket nothing moves
shift_none : (E : List ℕ) (gs : List Symbol) → shift E 0 gs ≡ gs
shift_none E [] = refl
shift_none E (g ∷ gs) = ap₂ (λ (h : Symbol) (hs : List Symbol). h ∷ hs) (one_none E g) (shift_none (opened_by 0 E g) gs)

pub start-here : (x : Task) (a template : List ℕ) (tlen : ℕ) (shapes : List ℕ) (n : ℕ) (l : Layout) (known : ℕ) (table env out : List ℕ) (s : Now) → Read x a template tlen shapes n l known table
    → s.q ≡ 0 → s.p ≡ 0 → s.e ≡ length a → s.rank ≡ 0 → s.top ≡ 0 → s.b ≡ 0 → s.d ≡ 0 → InString x a template tlen shapes n l known table env out s
start-here x a template tlen shapes n l known table env out s z q p e rank top b d =
    let σ : ℕ → ℕ = x.sense.shape in
    let whole : Part x a 0 (length a) 0 (spell σ x.term) = whole_part x a n template tlen shapes z.posed in
    let none : tally n whole.start ≡ 0 = ap (tally n) (whole-starts x a n template tlen shapes z.posed) in
    record {
      kept = kept-first x a (length a) n template tlen shapes z.posed;
      gs = [];
      cs = spell σ x.term;
      fs = [];
      split = rw (b, shift_none (noted env s.d) (spell σ x.term)) (sym (append-nil (spell σ x.term)));
      done = (tt, rw q refl);
      chain = tt;
      top = top;
      above = omega arith;
      depth = 0;
      part =
          record {
            whole = whole.whole;
            level = whole.level;
            formed = whole.formed;
            calling = whole.calling;
            before = whole.before;
            spelt = whole.spelt;
            start = whole.start;
            later = whole.later;
            there = whole.there;
            place = p ∙ whole.place;
            end = rw (p, e) whole.end;
            closes = whole.closes;
          };
      ranked = omega arith;
      around = record { inner = []; split = rw d refl; deep = refl };
      based = b;
      below = rw d tt;
    }
