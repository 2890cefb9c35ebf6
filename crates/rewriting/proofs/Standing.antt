-- One turn of the rewriting, on what stands in the memory.
use mathlib.Core.Bool.{Bool, ◌||◌, false, true}
use mathlib.Core.List.{List, [], ◌++◌, ◌∷◌, append_assoc, append-nil}
use mathlib.Core.Logic.{◌⊎◌, inl, inr}
use mathlib.Core.Path.{◌∙◌, ◌≡◌, ap, fun_ext, refl, subst, sym}
use borrow.Author.Tests.{eqb-true}
use lib.Dec.{eqb, leb}
use lib.ListN.{drop, get_or, length, length-append, length-drop}
use lib.Seq.{get_or-drop, paste}
use native.Mathlib.Nat.{zero-add}
use native.Mathlib.Decide.{dec_lt}
use native.Mathlib.Omega.{arith}
use Prim.Native.Nat.{ℕ, ◌+◌, ◌-◌, ◌^◌, ◌<◌, ◌≤◌, min}
use Rattle.strings.proofs.Reading.{stands, width_some}
use Rattle.strings.proofs.Standing.{laid-spelt}
use Rattle.strings.proofs.Written.{paste-above, paste-below, paste-spelt, spelt-same, at_moved}
use Rattle.strings.specs.Laid.{Laid}
use Rattle.strings.specs.Read.{far, is_far, string_at, symbol_at, width_of}
use Rattle.std.specs.Prelude.{None, Option, Some}
use Rattle.std.proofs.lemmas.Option.{none-some, same_Some}
use Rattle.symbols.proofs.Filling.{Given, fill-term}
use Rattle.symbols.proofs.Sizes.{any_left, any-right, size-append, size-first}
use Rattle.symbols.specs.Spell.{alone_shape, masked, max_params, occurring, shape_of, spell}
use Rattle.symbols.specs.Symbol.{Spelt, Symbol, begin, bytes_of, symbol_bytes, call, calls, code, end, fill, is_wide, name, number, par, sees, size, var, wide}
use Rattle.theory.proofs.Lists.{never}
use Rattle.theory.specs.Expand.{put_in}
use Rattle.theory.specs.Level.{binds_in, plain}
use Rattle.theory.specs.Lists.{any}
use Rattle.theory.specs.Term.{Term}
use Rattle.theory.specs.Tree.{count}
use Rattle.unfolding.proofs.Shapes.{unseen}
use Rattle.unfolding.specs.Sense.{Same, Sense}
use Rattle.rewriting.proofs.Bounding.{argument-of}
use Rattle.rewriting.proofs.Bits.{Begins, any_none, fill_begins, fill-calls, masked-calls, none_both, occurring-bit, shape-bits, starts}
use Rattle.rewriting.proofs.Found.{Found, Front, found, front, spelt-join}
use Rattle.rewriting.proofs.Seen.{filled-sees, shape-kept}
use Rattle.rewriting.proofs.Step.{Step, stands-shaped, step}
use Rattle.rewriting.specs.Ends.{bit_at, last_from}
use Rattle.rewriting.specs.Filling.{arguments_of}
use Rattle.rewriting.specs.Going.{Ending, Going, Kept, Over}
use Rattle.rewriting.specs.Rewritten.{Posed, Replaced, Task, Templated}

abbrev head_or : Symbol → List Symbol → Symbol
head_or d [] = d
head_or d (g ∷ gs) = g

pub call-is : (n : ℕ) (g : Symbol) → calls (eqb n) g ≡ true → g ≡ call n
call-is n (par i) e = never (sym e)
call-is n (var j) e = never (sym e)
call-is n (name x k) e = never (sym e)
call-is n (code c) e = never (sym e)
call-is n (number v) e = never (sym e)
call-is n (call k) e = ap (λ (i : ℕ). call i) (sym (eqb-true n k e))
call-is n begin e = never (sym e)
call-is n end e = never (sym e)

begin-other : (n : ℕ) (str ks more : List Symbol) (g : Symbol) → Begins n str → str ++ ks ≡ g ∷ more → calls (eqb n) g ≡ false
begin-other n str ks more g b e =
    let w : g ∷ more ≡ b.first ∷ (b.more ++ ks) = sym e ∙ ap (λ (z : List Symbol). z ++ ks) b.whole in
    ap (λ (z : List Symbol). calls (eqb n) (head_or end z)) w ∙ b.other

same-trans : (g : Sense) (t u v : Term) → Same g t u → Same g u v → Same g t v
same-trans g t u v a b = record { as_bytes = λ ρ β. a.as_bytes ρ β ∙ b.as_bytes ρ β; as_sizes = λ ρ β. a.as_sizes ρ β ∙ b.as_sizes ρ β }

-- The call of n that the rest begins with, its text with the arguments put in, and what stands after its arguments.
pub record Opened (n : ℕ) (template : List ℕ) (tlen : ℕ) (shapes : List ℕ) (x : Task) (a : List ℕ) (p : ℕ) (gs : List Symbol) : Type 0 where
  pub kept : Kept x
  pub ks : List Symbol
  pub spelt : spell x.sense.shape kept.term ≡ gs ++ (fill (arguments_of a shapes (get_or shapes n 0) (p + 2)) 0 (string_at template 0 tlen) ++ ks)
  pub begins : Begins n (fill (arguments_of a shapes (get_or shapes n 0) (p + 2)) 0 (string_at template 0 tlen))
  pub left : Spelt a (last_from a shapes max_params (get_or shapes n 0) (p + 2)) ks (length a)

module _ (n : ℕ) (template : List ℕ) (tlen : ℕ) (shapes : List ℕ) (x : Task) (w : Templated n template tlen shapes x) (a : List ℕ) (q p : ℕ) where
  -- with the sense's own shapes, once the call has been found
  opened-at : (k : Kept x) (gs hs : List Symbol) → spell x.sense.shape k.term ≡ gs ++ (call n ∷ hs) → Spelt a (p + 2) hs (length a) → far hs ≡ false
      → Opened n template tlen shapes x a p gs
  opened-at k gs hs e sp f =
      record {
        kept =
            record {
              term = S.next;
              same = same-trans x.sense x.term k.term S.next k.same S.same;
              stands = S.stands;
              others = λ r c d. calling r (k.others r c d) d;
              near = calling (λ i. leb 1280 i) k.near w.near;
              shape = shape;
            };
        ks = S.ks;
        spelt = S.spelt ∙ ap (λ (z : List Symbol). gs ++ (z ++ S.ks)) (sym text);
        begins = rw read begins;
        left = at-arguments.left;
      }
    where
      σ : ℕ → ℕ
      σ = x.sense.shape

      T : Term
      T = x.text

      h : ℕ
      h = get_or shapes n 0

      args : List (List Symbol)
      args = arguments_of a shapes h (p + 2)

      S : Step x.sense x.params n x.arity T k.term gs hs
      S = step x.sense x.params n x.arity T k.term gs hs w.few k.stands w.callee e

      rest : hs ≡ masked σ h S.us ++ S.ks
      rest = S.rest ∙ ap (λ (z : ℕ). masked σ z S.us ++ S.ks) (w.shaped n)

      number : count S.us ≡ x.arity
      number = S.number

      at-arguments : Found a shapes σ S.us S.ks max_params h (p + 2)
      at-arguments =
          found a shapes σ (fun_ext (λ i. sym (w.shaped i))) S.ks max_params S.us h (p + 2) S.depth (binds_in plain) (omega (arith, number, w.callee.few))
          (subst (λ (z : ℕ). z < 2 ^ count S.us) (w.shaped n) S.bits) S.shaped (ap far (sym rest) ∙ f)
          (subst (λ (z : List Symbol). Spelt a (p + 2) z (length a)) rest sp)

      bits : h ≡ occurring max_params 0 (spell σ T)
      bits = sym (w.shaped n) ∙ w.callee.shape ∙ shape-bits (spell σ T) (subst (λ (z : ℕ). z < alone_shape) w.callee.shape S.small)

      known : (i : ℕ) → sees i (spell σ T) ≡ true → i < x.arity
      known i s = go (dec_lt i x.arity)
        where
          go : Dec (i < x.arity) → i < x.arity
          go (yes l) = l
          go (no l) = never (sym s ∙ unseen σ x.sense.arity x.arity i (omega arith) T 0 w.callee.stands.formed)

      seen : (i : ℕ) → sees i (spell σ T) ≡ true → bit_at i h ≡ true
      seen i s =
          let z : 0 + i ≡ i = omega arith in
          ap (bit_at i) bits ∙ occurring-bit max_params 0 i (spell σ T) (omega (arith, known i s, w.callee.few)) (ap (λ (j : ℕ). sees j (spell σ T)) z ∙ s)

      given : Given σ S.us args (spell σ T)
      given i s =
          let l : i < max_params = omega (arith, known i s, w.callee.few) in
          argument-of a shapes h (p + 2) i l ∙ at-arguments.each i l (seen i s)

      read : string_at template 0 tlen ≡ spell σ T
      read = stands template 0 (spell σ T) tlen w.spelt w.inside w.near

      filled : fill args 0 (spell σ T) ≡ spell σ (put_in S.us T)
      filled = fill-term σ S.us args T given

      text : fill args 0 (string_at template 0 tlen) ≡ spell σ (put_in S.us T)
      text = ap (fill args 0) read ∙ filled

      begins : Begins n (fill args 0 (spell σ T))
      begins =
          fill_begins n args (spell σ T) (starts T σ 0 (stands-shaped x.sense x.arity w.few T 0 w.callee.stands.formed w.callee.stands.calls))
          (subst (λ (z : ℕ). z < alone_shape) w.callee.shape S.small) w.fresh

      shape : shape_of (spell σ S.next) ≡ shape_of (spell σ x.term)
      shape =
          ap shape_of (S.spelt ∙ ap (λ (z : List Symbol). gs ++ (z ++ S.ks)) (sym filled))
          ∙ shape-kept n gs (masked σ h S.us) (fill args 0 (spell σ T)) S.ks
          (filled-sees σ S.us h args (spell σ T) bits (λ j s. subst (λ (z : ℕ). j < z) (sym number) (known j s)) seen given) begins
          ∙ ap shape_of (sym (e ∙ ap (λ (z : List Symbol). gs ++ (call n ∷ z)) rest)) ∙ k.shape

      calling : (r : ℕ → Bool) → any (calls r) (spell σ k.term) ≡ false → any (calls r) (spell σ T) ≡ false → any (calls r) (spell σ S.next) ≡ false
      calling r c d =
          let b = none_both (calls r) gs (call n ∷ hs) (ap (any (calls r)) (sym e) ∙ c) in
          let o = none_both (calls r) (call n ∷ []) hs b.1 in
          let u = none_both (calls r) (masked σ h S.us) S.ks (ap (any (calls r)) (sym rest) ∙ o.1) in
          let v : any (calls r) (fill args 0 (spell σ T)) ≡ false =
          fill-calls r args (spell σ T) 0
          (λ i s. ap (any (calls r)) (given i s) ∙ masked-calls (calls r) σ S.us h i (omega (arith, known i s, number)) u.0 (seen i s)) d in
          ap (any (calls r)) S.spelt
          ∙ any_none (calls r) gs (spell σ (put_in S.us T) ++ S.ks) b.0
          (any_none (calls r) (spell σ (put_in S.us T)) S.ks (ap (any (calls r)) (sym filled) ∙ v) u.1)

  -- where the rest begins with a call of n
  pub opened : (y : Going n x a q p) → p < length a → calls (eqb n) (symbol_at a p) ≡ true → Opened n template tlen shapes x a p y.gs
  opened y l c =
      let near = none_both is_far y.gs y.hs (ap far (sym y.split) ∙ y.kept.near) in
      let f : Front a p y.hs (length a) = front a p y.hs (length a) y.left l near.1 in
      let first : f.first ≡ call n = call-is n f.first (ap (calls (eqb n)) (sym f.reads) ∙ c) in
      let whole : y.hs ≡ call n ∷ f.more = f.whole ∙ ap (λ (g : Symbol). g ∷ f.more) first in
      opened-at y.kept y.gs f.more (y.split ∙ ap (λ (z : List Symbol). y.gs ++ z) whole)
      (subst (λ (g : Symbol). Spelt a (p + width_of g) f.more (length a)) first f.next)
      (none_both is_far (call n ∷ []) f.more (ap far (sym whole) ∙ near.1)).1

  -- The text with the arguments put in, written so that it ends where the arguments end.
  module _ (y : Going n x a q p) (l : p < length a) (c : calls (eqb n) (symbol_at a p) ≡ true) (roomy : List ℕ) (filled : List ℕ) (r : Option ℕ)
      (laid : Laid (fill (arguments_of a shapes (get_or shapes n 0) (p + 2)) 0 (string_at template 0 tlen)) 0 roomy filled r) where
    ended : (o : Opened n template tlen shapes x a p y.gs) → size (spell x.sense.shape o.kept.term)
        ≡ q + size (fill (arguments_of a shapes (get_or shapes n 0) (p + 2)) 0 (string_at template 0 tlen)) + size o.ks
    ended o =
        let str : List Symbol = fill (arguments_of a shapes (get_or shapes n 0) (p + 2)) 0 (string_at template 0 tlen) in
        let e : q ≡ 0 + size y.gs = y.done.1 in
        let u = size-append y.gs (str ++ o.ks) in
        let v = size-append str o.ks in
        ap size o.spelt ∙ omega (arith, e, u, v)

    str : List Symbol
    str = fill (arguments_of a shapes (get_or shapes n 0) (p + 2)) 0 (string_at template 0 tlen)

    -- there was no room for it, or an index is too wide
    pub no-fill : length a ≤ length roomy → r ≡ None → Over x (length a)
    unfolding str
    no-fill b f = record { kept = (opened y l c).kept; over = go (laid.no f) }
      where
        o : Opened n template tlen shapes x a p y.gs
        o = opened y l c

        go : (length roomy < 0 + size str) ⊎ (wide str ≡ true)
            → (length a < size (spell x.sense.shape o.kept.term)) ⊎ (wide (spell x.sense.shape o.kept.term) ≡ true)
        go (inl k) = inl (omega (arith, ended o, k))
        go (inr k) = inr (ap wide o.spelt ∙ any-right is_wide y.gs (str ++ o.ks) (any_left is_wide str o.ks k))

    long : (o : Opened n template tlen shapes x a p y.gs) → 0 < size str
    unfolding str
    long o =
        let b = o.begins in
        let z = size-first b.first b.more in
        let k = width_some b.first in
        let e : size str ≡ size (b.first ∷ b.more) = ap size b.whole in
        let u : size (b.first ∷ []) ≡ width_of b.first + 0 = length-append (symbol_bytes b.first) [] in
        omega arith

    module _ (m : ℕ) (f : r ≡ Some m) (a' : List ℕ) (r' : Option ℕ) (e : Ending q filled m (last_from a shapes max_params (get_or shapes n 0) (p + 2)) a a' r') where
      -- or none between the two parts
      pub no_room : r' ≡ None → Over x (length a)
      unfolding str
      no_room g = record { kept = (opened y l c).kept; over = inl (go (e.no g)) }
        where
          o : Opened n template tlen shapes x a p y.gs
          o = opened y l c

          go : (m ≡ 0) ⊎ (min (last_from a shapes max_params (get_or shapes n 0) (p + 2)) (length a) < q + m) → length a < size (spell x.sense.shape o.kept.term)
          go (inl k) = absurd (omega (arith, long o, (laid.yes m f).0))
          go (inr k) = omega (arith, ended o, k, o.left.1, (laid.yes m f).0)

      pub replaced-going : (j : ℕ) → r' ≡ Some j → Going n x a' q j × (calls (eqb n) (symbol_at a' j) ≡ false)
      unfolding str
      replaced-going j g = (
        record {
          kept = o.kept;
          gs = y.gs;
          hs = str ++ o.ks;
          split = o.spelt;
          clear = y.clear;
          done = done;
          left = subst (λ (z : ℕ). Spelt a' j (str ++ o.ks) z) (sym e.long) rest;
        },
        other,
      )
        where
          o : Opened n template tlen shapes x a p y.gs
          o = opened y l c

          E : ℕ
          E = last_from a shapes max_params (get_or shapes n 0) (p + 2)

          len : m ≡ 0 + size str
          len = (laid.yes m f).0

          whole : length a ≡ E + size o.ks
          whole = o.left.1

          at : (0 < m) × (q + m ≤ min E (length a)) × (j ≡ min E (length a) - m) × (a' ≡ paste a j filled m)
          at = e.yes j g

          in-a : j + m ≤ length a
          in-a = omega (arith, at.1, at.2)

          in-filled : m ≤ length filled
          in-filled = omega (arith, laid.long, laid.within m f)

          done : Spelt a' 0 y.gs q
          done =
              spelt-same y.gs a a' 0 q
              (λ i u v. ap (λ (z : List ℕ). get_or z i 0) at.3 ∙ paste-below a j filled m in-a in-filled i (omega (arith, at.1, at.2)))
              y.done

          middle : Spelt a' j str (j + m)
          middle =
              subst (λ (z : List ℕ). Spelt z j str (j + m)) (sym at.3)
              (paste-spelt a j filled m in-a in-filled str (laid-spelt str 0 roomy filled r laid m f))

          after-it : Spelt a' E o.ks (length a)
          after-it =
              spelt-same o.ks a a' E (length a)
              (λ i u v. ap (λ (z : List ℕ). get_or z i 0) at.3 ∙ paste-above a j filled m in-a in-filled i (omega (arith, at.1, at.2)))
              o.left

          rest : Spelt a' j (str ++ o.ks) (length a)
          rest =
              let z : j + m ≡ E = omega (arith, at.1, at.2, whole) in
              spelt-join a' j E (length a) str o.ks (subst (λ (i : ℕ). Spelt a' j str i) z middle) after-it

          other : calls (eqb n) (symbol_at a' j) ≡ false
          other =
              let near = none_both is_far y.gs (str ++ o.ks) (ap far (sym o.spelt) ∙ o.kept.near) in
              let fr : Front a' j (str ++ o.ks) (length a) = front a' j (str ++ o.ks) (length a) rest (omega (arith, at.0, at.1, at.2)) near.1 in
              ap (calls (eqb n)) fr.reads ∙ begin-other n str o.ks fr.more fr.first o.begins fr.whole

-- One symbol goes from the rest to what is done.
pub carried : (n : ℕ) (x : Task) (a : List ℕ) (q p w : ℕ) (a' : List ℕ) → Going n x a q p → p < length a → q ≤ p → calls (eqb n) (symbol_at a p) ≡ false
    → w ≡ min (width_of (symbol_at a p)) (length a - p) → a' ≡ paste a q (drop p a) w → length a' ≡ length a → Going n x a' (q + w) (p + w)
carried n x a q p w a' y l b c e m long =
    record {
      kept = y.kept;
      gs = y.gs ++ (f.first ∷ []);
      hs = f.more;
      split = y.split ∙ ap (λ (z : List Symbol). y.gs ++ z) f.whole ∙ sym (append_assoc y.gs (f.first ∷ []) f.more);
      clear = any_none (calls (eqb n)) y.gs (f.first ∷ []) y.clear (ap (λ (t : Bool). t || false) (ap (calls (eqb n)) (sym f.reads) ∙ c));
      done = spelt-join a' 0 q (q + w) y.gs (f.first ∷ []) done moved;
      left = subst (λ (z : ℕ). Spelt a' (p + w) f.more z) (sym long) rest;
    }
  where
    f : Front a p y.hs (length a)
    f = front a p y.hs (length a) y.left l (none_both is_far y.gs y.hs (ap far (sym y.split) ∙ y.kept.near)).1

    width : w ≡ width_of f.first
    width =
        let z : width_of (symbol_at a p) ≡ width_of f.first = ap width_of f.reads in
        omega (arith, e, f.inside, z)

    inside : p + w ≤ length a
    inside = omega (arith, width, f.inside)

    in-drop : w ≤ length (drop p a)
    in-drop = let z = length-drop p a in omega (arith, z, inside)

    done : Spelt a' 0 y.gs q
    done =
        spelt-same y.gs a a' 0 q
        (λ i u v. ap (λ (z : List ℕ). get_or z i 0) m ∙ paste-below a q (drop p a) w (omega (arith, inside)) in-drop i v) y.done

    source : Spelt (drop p a) 0 (f.first ∷ []) w
    source = (
      at_moved (bytes_of (f.first ∷ [])) a (drop p a) p 0 (λ k u. ap (λ (i : ℕ). get_or (drop p a) i 0) (zero-add k) ∙ get_or-drop p a k 0) f.here.0,
      omega (arith, width, f.here.1),
    )

    moved : Spelt a' q (f.first ∷ []) (q + w)
    moved = subst (λ (z : List ℕ). Spelt z q (f.first ∷ []) (q + w)) (sym m) (paste-spelt a q (drop p a) w (omega (arith, inside)) in-drop (f.first ∷ []) source)

    rest : Spelt a' (p + w) f.more (length a)
    rest =
        spelt-same f.more a a' (p + w) (length a)
        (λ i u v. ap (λ (z : List ℕ). get_or z i 0) m ∙ paste-above a q (drop p a) w (omega (arith, inside)) in-drop i (omega arith))
        (subst (λ (z : ℕ). Spelt a (p + z) f.more (length a)) (sym width) f.next)

no_size : (gs : List Symbol) → size gs ≡ 0 → gs ≡ []
no_size [] e = refl
no_size (g ∷ gs) e =
    let z : length (symbol_bytes g ++ bytes_of gs) ≡ length (symbol_bytes g) + length (bytes_of gs) = length-append (symbol_bytes g) (bytes_of gs) in
    let k = width_some g in
    absurd (omega arith)

-- nothing is left
pub all_done : (n : ℕ) (x : Task) (a : List ℕ) (q p : ℕ) → Going n x a q p → length a ≤ p → Replaced n x a (Some q)
all_done n x a q p y l =
    record {
      term = y.kept.term;
      same = y.kept.same;
      stands = y.kept.stands;
      others = y.kept.others;
      near = y.kept.near;
      shape = y.kept.shape;
      yes = λ m e. (subst (λ (z : List Symbol). Spelt a 0 z m) (sym whole) (subst (λ (z : ℕ). Spelt a 0 y.gs z) (same_Some q m e) y.done), ap (any (calls (eqb n))) whole ∙ y.clear);
      no = λ e. absurd (none-some q (sym e));
    }
  where
    whole : spell x.sense.shape y.kept.term ≡ y.gs
    whole =
        y.split ∙ ap (λ (z : List Symbol). y.gs ++ z) (no_size y.hs (omega (arith, y.left.1))) ∙ append-nil y.gs

pub over_done : (n : ℕ) (x : Task) (a : List ℕ) (room : ℕ) → Over x room → length a ≡ room → Replaced n x a None
over_done n x a room o l =
    record {
      term = o.kept.term;
      same = o.kept.same;
      stands = o.kept.stands;
      others = o.kept.others;
      near = o.kept.near;
      shape = o.kept.shape;
      yes = λ m e. absurd (none-some m e);
      no = λ _. rw l o.over;
    }

-- the string moved to the right end, by way of other memory
pub moved-right : (a : List ℕ) (len n : ℕ) (template : List ℕ) (tlen : ℕ) (shapes : List ℕ) (x : Task) (b b' a' : List ℕ) → Posed a len n template tlen shapes x
    → len ≤ length a → length a ≤ length b → b' ≡ paste b 0 a len → a' ≡ paste a (length a - len) b' len → length a' ≡ length a → length b' ≡ length b
    → Going n x a' 0 (length a - len)
moved-right a len n template tlen shapes x b b' a' z l m e f la lb =
    record {
      kept =
          record {
            term = x.term;
            same = record { as_bytes = λ ρ β. refl; as_sizes = λ ρ β. refl };
            stands = z.stands;
            others = λ q c d. c;
            near = z.near;
            shape = refl;
          };
      gs = [];
      hs = spell x.sense.shape x.term;
      split = refl;
      clear = refl;
      done = (tt, refl);
      left = subst (λ (i : ℕ). Spelt a' (length a - len) gs i) (omega (arith, la)) there;
    }
  where
    gs : List Symbol
    gs = spell x.sense.shape x.term

    first : Spelt b' 0 gs len
    first =
        let s : Spelt (paste b 0 a len) 0 gs (0 + len) = paste-spelt b 0 a len (omega arith) l gs z.spelt in
        subst (λ (i : ℕ). Spelt b' 0 gs i) (zero-add len) (subst (λ (y : List ℕ). Spelt y 0 gs (0 + len)) (sym e) s)

    there : Spelt a' (length a - len) gs (length a - len + len)
    there =
        subst (λ (y : List ℕ). Spelt y (length a - len) gs (length a - len + len)) (sym f)
        (paste-spelt a (length a - len) b' len (omega arith) (omega arith) gs first)
