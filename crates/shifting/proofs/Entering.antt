-- A call entered: in the string of a task, the call of n with its shifted arguments gives way to its text, with the arguments put in.
use mathlib.Core.Bool.{Bool, false, true}
use mathlib.Core.List.{List, [], ◌++◌, ◌∷◌}
use mathlib.Core.Path.{◌∙◌, ◌≡◌, ap, subst, sym}
use lib.Dec.{leb}
use lib.ListN.{get_or}
use native.Mathlib.Decide.{dec_lt}
use native.Mathlib.Omega.{arith}
use Prim.Native.Nat.{ℕ, ◌+◌, ◌<◌}
use Rattle.rewriting.proofs.Bits.{Begins, any_none, fill_begins, fill-calls, masked-calls, none_both, occurring-bit, shape-bits, starts}
use Rattle.rewriting.proofs.Seen.{filled-sees, shape-kept}
use Rattle.rewriting.proofs.Step.{Step, stands-shaped, step}
use Rattle.rewriting.specs.Ends.{bit_at}
use Rattle.rewriting.specs.Going.{Kept}
use Rattle.rewriting.specs.Rewritten.{Task, Templated}
use Rattle.symbols.proofs.Filling.{Given, fill-term}
use Rattle.symbols.specs.Pieces.{ShapedHead}
use Rattle.symbols.specs.Spell.{alone_shape, masked, max_params, occurring, shape_of, spell}
use Rattle.symbols.specs.Symbol.{Symbol, call, calls, fill, sees}
use Rattle.theory.proofs.Lists.{never}
use Rattle.theory.specs.Expand.{nothing, put_in}
use Rattle.theory.specs.Level.{binds_in, plain}
use Rattle.theory.specs.Lists.{any}
use Rattle.theory.specs.Term.{Everys, Term, Terms}
use Rattle.theory.specs.Tree.{count, nth}
use Rattle.unfolding.proofs.SameLaws.{same-trans}
use Rattle.unfolding.proofs.Shapes.{unseen}
use Rattle.shifting.proofs.Pieces.{SameArguments, same-arguments}
use Rattle.shifting.proofs.Shifting.{each_at}
use Rattle.shifting.specs.Shift.{shift, shift_each}

module _ (x : Task) (n : ℕ) (template : List ℕ) (tlen : ℕ) (shapes : List ℕ) (w : Templated n template tlen shapes x) where
  pub entered : (k : Kept x) (gs : List Symbol) (E : List ℕ) (b : ℕ) (us : Terms) (d : ℕ) (ks : List Symbol) (args : List (List Symbol))
      → spell x.sense.shape k.term ≡ gs ++ (call n ∷ (shift E b (masked x.sense.shape (get_or shapes n 0) us) ++ ks)) → count us ≡ x.arity
      → Everys (ShapedHead x.sense.shape) d (binds_in plain) us
      → ((i : ℕ) → i < max_params → bit_at i (get_or shapes n 0) ≡ true → get_or args i [] ≡ spell x.sense.shape (nth nothing us i))
      → (k' : Kept x) × (spell x.sense.shape k'.term ≡ gs ++ (fill (shift_each E b args) 0 (spell x.sense.shape x.text) ++ ks))
  entered k gs E b us d ks args e few shaped arguments = (
    record {
      term = S.next;
      same = same-trans x.sense x.term k.term S.next k.same S.same;
      stands = S.stands;
      others = λ r c d. calling r (k.others r c d) d;
      near = calling (λ i. leb 1280 i) k.near w.near;
      shape = shape;
    },
    spelt,
  )
    where
      σ : ℕ → ℕ
      σ = x.sense.shape

      T : Term
      T = x.text

      h : ℕ
      h = get_or shapes n 0

      hs : List Symbol
      hs = shift E b (masked σ h us) ++ ks

      put : List (List Symbol)
      put = shift_each E b args

      S : Step x.sense x.params n x.arity T k.term gs hs
      S = step x.sense x.params n x.arity T k.term gs hs w.few k.stands w.callee e

      rest : hs ≡ masked σ h S.us ++ S.ks
      rest = S.rest ∙ ap (λ (z : ℕ). masked σ z S.us ++ S.ks) (w.shaped n)

      number : count S.us ≡ x.arity
      number = S.number

      pieces : SameArguments σ E b h us S.us ks S.ks
      pieces = same-arguments σ E b us S.us h d S.depth (binds_in plain) (binds_in plain) ks S.ks (few ∙ sym number) shaped S.shaped rest

      bits : h ≡ occurring max_params 0 (spell σ T)
      bits = sym (w.shaped n) ∙ w.callee.shape ∙ shape-bits (spell σ T) (subst (λ (z : ℕ). z < alone_shape) w.callee.shape S.small)

      known : (i : ℕ) → sees i (spell σ T) ≡ true → i < x.arity
      known i s = go (dec_lt i x.arity)
        where
          go : Dec (i < x.arity) → i < x.arity
          go (yes l) = l
          go (no l) = never (sym s ∙ unseen σ x.sense.arity x.arity i (omega arith) T 0 w.callee.stands.formed)

      seen : (i : ℕ) → sees i (spell σ T) ≡ true → bit_at i h ≡ true
      seen i s =
          let z : 0 + i ≡ i = omega arith in
          ap (bit_at i) bits ∙ occurring-bit max_params 0 i (spell σ T) (omega (arith, known i s, w.callee.few)) (ap (λ (j : ℕ). sees j (spell σ T)) z ∙ s)

      given : Given σ S.us put (spell σ T)
      given i s =
          let l : i < max_params = omega (arith, known i s, w.callee.few) in
          each_at E b i args ∙ ap (shift E b) (arguments i l (seen i s)) ∙ pieces.0 i (subst (λ (z : ℕ). i < z) (sym few) (known i s)) (seen i s)

      filled : fill put 0 (spell σ T) ≡ spell σ (put_in S.us T)
      filled = fill-term σ S.us put T given

      spelt : spell σ S.next ≡ gs ++ (fill put 0 (spell σ T) ++ ks)
      spelt =
          S.spelt ∙ ap (λ (z : List Symbol). gs ++ (z ++ S.ks)) (sym filled)
          ∙ ap (λ (z : List Symbol). gs ++ (fill put 0 (spell σ T) ++ z)) (sym pieces.1)

      begins : Begins n (fill put 0 (spell σ T))
      begins =
          fill_begins n put (spell σ T) (starts T σ 0 (stands-shaped x.sense x.arity w.few T 0 w.callee.stands.formed w.callee.stands.calls))
          (subst (λ (z : ℕ). z < alone_shape) w.callee.shape S.small) w.fresh

      shape : shape_of (spell σ S.next) ≡ shape_of (spell σ x.term)
      shape =
          ap shape_of (S.spelt ∙ ap (λ (z : List Symbol). gs ++ (z ++ S.ks)) (sym filled))
          ∙ shape-kept n gs (masked σ h S.us) (fill put 0 (spell σ T)) S.ks
          (filled-sees σ S.us h put (spell σ T) bits (λ j s. subst (λ (z : ℕ). j < z) (sym number) (known j s)) seen given) begins
          ∙ ap shape_of (sym (e ∙ ap (λ (z : List Symbol). gs ++ (call n ∷ z)) rest)) ∙ k.shape

      calling : (r : ℕ → Bool) → any (calls r) (spell σ k.term) ≡ false → any (calls r) (spell σ T) ≡ false → any (calls r) (spell σ S.next) ≡ false
      calling r c d =
          let b = none_both (calls r) gs (call n ∷ hs) (ap (any (calls r)) (sym e) ∙ c) in
          let o = none_both (calls r) (call n ∷ []) hs b.1 in
          let u = none_both (calls r) (masked σ h S.us) S.ks (ap (any (calls r)) (sym rest) ∙ o.1) in
          let v : any (calls r) (fill put 0 (spell σ T)) ≡ false =
          fill-calls r put (spell σ T) 0
          (λ i s. ap (any (calls r)) (given i s) ∙ masked-calls (calls r) σ S.us h i (omega (arith, known i s, number)) u.0 (seen i s)) d in
          ap (any (calls r)) S.spelt
          ∙ any_none (calls r) gs (spell σ (put_in S.us T) ++ S.ks) b.0
          (any_none (calls r) (spell σ (put_in S.us T)) S.ks (ap (any (calls r)) (sym filled) ∙ v) u.1)
