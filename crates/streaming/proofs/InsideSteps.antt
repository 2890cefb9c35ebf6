-- A symbol of a template written: the call's frame goes on behind it.
use mathlib.Core.Bool.{false}
use mathlib.Core.List.{List, [], ◌++◌, ◌∷◌, append_assoc}
use mathlib.Core.Logic.{inl}
use mathlib.Core.Path.{◌∙◌, ◌≡◌, ap, refl, subst, sym}
use lib.ListN.{get_or, length}
use native.Mathlib.Omega.{arith}
use Prim.Native.Nat.{ℕ, ◌+◌, ◌<◌}
use Rattle.symbols.proofs.Sizes.{size-append, size-first}
use Rattle.symbols.specs.Spell.{spell}
use Rattle.symbols.specs.Symbol.{Spelt, Symbol, after, begin, bytes_of, call, code, end, fill, fill_one, name, number, par, size, var}
use Rattle.strings.proofs.Written.{sets-at, sets_below, spelt-same}
use Rattle.strings.specs.Read.{far, is_far, symbol_at, width_of}
use Rattle.rewriting.proofs.Bits.{none_both}
use Rattle.rewriting.proofs.Found.{Front, front, spelt-join}
use Rattle.rewriting.specs.Going.{Over}
use Rattle.rewriting.specs.Rewritten.{Task}
use Rattle.shifting.specs.Shift.{Closes, ClosesOne, shift, shift_each}
use Rattle.cells.specs.declared.Layout.{Layout}
use Rattle.streaming.specs.Course.{Frame, InTemplate, Link, pending, pending_of}
use Rattle.streaming.specs.Inside.{NoRoom, Wrote, behind}
use Rattle.streaming.specs.Step.{Read}
use Rattle.streaming.specs.declared.Now.{Now}

-- a bracket that the template closes is one that it opened
pub after-base : (b c : ℕ) (g : Symbol) → ClosesOne c g → after (b + c) g ≡ b + after c g
after-base b c (par i) w = refl
after-base b c (var j) w = refl
after-base b c (name x k) w = refl
after-base b c (code k) w = refl
after-base b c (number v) w = refl
after-base b c (call n) w = refl
after-base b c begin w = omega arith
after-base b c end w = omega arith

-- a frame behind a symbol of its template
abbrev pub next : Frame → Symbol → List Symbol → Frame
next f g more =
    record {
      rank = f.rank;
      e = f.e;
      env = f.env;
      base = f.base;
      args = f.args;
      unclosed = after f.unclosed g;
      tp = f.tp + width_of g;
      rest = more;
      after = f.after;
    }

-- what the template goes on with
pub record Ahead (f : Frame) (g : Symbol) (template : List ℕ) (tlen : ℕ) : Type 0 where
  pub more : List Symbol
  pub whole : f.rest ≡ g ∷ more
  pub onward : Spelt template (f.tp + width_of g) more tlen

module _ (x : Task) (a template : List ℕ) (tlen : ℕ) (shapes : List ℕ) (n : ℕ) (l : Layout) (known : ℕ) (table : List ℕ)
    (z : Read x a template tlen shapes n l known table) (fs : List Frame) (f : Frame) (w : Link x a template tlen shapes n l known table fs f) where
  pub near : far f.rest ≡ false
  near = (none_both is_far w.passed f.rest (ap far (sym w.text) ∙ z.posed.templated.near)).1

  pub ahead : (g : Symbol) → f.tp < tlen → symbol_at template f.tp ≡ g → Ahead f g template tlen
  ahead g h e =
      let r : Front template f.tp f.rest tlen = front template f.tp f.rest tlen w.read h near in
      let first : r.first ≡ g = sym r.reads ∙ e in
      record {
        more = r.more;
        whole = r.whole ∙ ap (λ (k : Symbol). k ∷ r.more) first;
        onward = subst (λ (k : Symbol). Spelt template (f.tp + width_of k) r.more tlen) first r.next;
      }

  pub closing : (g : Symbol) (o : Ahead f g template tlen) → ClosesOne f.unclosed g × Closes (after f.unclosed g) o.more
  closing g o = subst (Closes f.unclosed) o.whole w.closes

  pub link-next : (g : Symbol) (o : Ahead f g template tlen) → Link x a template tlen shapes n l known table fs (next f g o.more)
  link-next g o =
      record {
        low = w.low;
        above = w.above;
        start = w.start;
        more = w.more;
        called = w.called;
        ranked = w.ranked;
        given = w.given;
        passed = w.passed ++ (g ∷ []);
        text = w.text ∙ ap (λ (k : List Symbol). w.passed ++ k) o.whole ∙ sym (append_assoc w.passed (g ∷ []) o.more);
        read = o.onward;
        closes = (closing g o).1;
        depth = w.depth;
        part = w.part;
        around = w.around;
        based = w.based;
        below = w.below;
        kept_end = w.kept_end;
        kept_top = w.kept_top;
      }

-- no parameter
abbrev pub Itself : Symbol → Type 0
Itself g = (args : List (List Symbol)) (c : ℕ) → fill_one args c g ≡ g ∷ []

pub pending_next : (f : Frame) (g : Symbol) (more : List Symbol) → Itself g → f.rest ≡ g ∷ more → pending_of f ≡ g ∷ pending_of (next f g more)
pending_next f g more i e =
    ap (λ (k : List Symbol). fill (shift_each f.env f.base f.args) f.unclosed k ++ shift f.env f.base f.after) e
    ∙ ap (λ (k : List Symbol). (k ++ fill (shift_each f.env f.base f.args) (after f.unclosed g) more) ++ shift f.env f.base f.after)
    (i (shift_each f.env f.base f.args) f.unclosed)

module _ (x : Task) (a template : List ℕ) (tlen : ℕ) (shapes : List ℕ) (n : ℕ) (l : Layout) (known : ℕ) (table env out : List ℕ) (s : Now)
    (z : Read x a template tlen shapes n l known table) (v : InTemplate x a template tlen shapes n l known table env out s) (g : Symbol) (i : Itself g)
    (h : s.tp < tlen) (e : symbol_at template s.tp ≡ g) where
  there : Ahead v.f g template tlen
  there =
      ahead x a template tlen shapes n l known table z v.fs v.f v.link g (subst (λ (k : ℕ). k < tlen) v.tp h)
      (subst (λ (k : ℕ). symbol_at template k ≡ g) v.tp e)

  split : spell x.sense.shape v.kept.term ≡ v.gs ++ (g ∷ pending (next v.f g there.more ∷ v.fs))
  split = v.split ∙ ap (λ (k : List Symbol). v.gs ++ (k ++ pending v.fs)) (pending_next v.f g there.more i there.whole)

  pub wrote_on : (out' : List ℕ) → Wrote g s out out' (behind g s) → InTemplate x a template tlen shapes n l known table env out' (behind g s)
  wrote_on out' w =
      record {
        kept = v.kept;
        gs = v.gs ++ (g ∷ []);
        f = next v.f g there.more;
        fs = v.fs;
        split = split ∙ sym (append_assoc v.gs (g ∷ []) (pending (next v.f g there.more ∷ v.fs)));
        done =
            spelt-join out' 0 s.q (s.q + size (g ∷ [])) v.gs (g ∷ [])
            (spelt-same v.gs out out' 0 s.q (λ k _ u. ap (λ (m : List ℕ). get_or m k 0) w.put ∙ sets_below (bytes_of (g ∷ [])) out s.q k u) v.done)
            (subst (λ (m : List ℕ). Spelt m s.q (g ∷ []) (s.q + size (g ∷ []))) (sym w.put) (sets-at (bytes_of (g ∷ [])) out s.q w.within, refl));
        link = link-next x a template tlen shapes n l known table z v.fs v.f v.link g there;
        chain = v.chain;
        top = v.top;
        tp = ap (λ (k : ℕ). k + width_of g) v.tp;
        env_here = v.env_here;
        based =
            ap (λ (k : ℕ). after k g) v.based
            ∙ after-base v.f.base v.f.unclosed g (closing x a template tlen shapes n l known table z v.fs v.f v.link g there).0;
      }

  pub no_room : (out' : List ℕ) → NoRoom g s out out' → Over x (length out')
  no_room out' w =
      let more : List Symbol = pending (next v.f g there.more ∷ v.fs) in
      let q = v.done.1 in
      let y : size (spell x.sense.shape v.kept.term) ≡ size (v.gs ++ (g ∷ more)) = ap (λ (k : List Symbol). size k) split in
      let u = size-append v.gs (g ∷ more) in
      let t = size-first g more in
      record { kept = v.kept; over = inl (omega (arith, w.long, w.over, q, y, u, t)) }
