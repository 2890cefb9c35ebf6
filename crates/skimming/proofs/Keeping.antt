-- Whether an expression keeps the limits, and what it is then worth, from what its parts are, for any algebra.
use borrow.Author.Tests.{le-leb, lt-leb}
use mathlib.Core.Bool.{Bool, and-false, cond, false, not, true, ◌&&◌}
use mathlib.Core.List.{List}
use mathlib.Core.Path.{◌∙◌, ◌≡◌, ap, ap₂, refl, subst, sym}
use Prim.Native.Nat.{ℕ, ◌+◌, ◌-◌, ◌<◌, ◌≤◌}
use lib.Dec.{leb}
use Rattle.std.specs.Prelude.{None, Some, is_none, Option}
use Rattle.limits.specs.Limits.{max_arity}
use Rattle.tokens.specs.Expr.{Expr, Found, Founds, after, before, expr_at, found, founds, none, nones, over, several}
use Rattle.tokens.specs.Fold.{Algebra, Worth, fold}
use Rattle.tokens.specs.Limit.{counts_kept, kept_of}
use Rattle.tokens.specs.Token.{arguments_of, token_at, width_of, written_of}
use Rattle.tokens.specs.declared.Token.{Token}
use Rattle.tokens.proofs.Folding.{Scoped}
use Rattle.tokens.proofs.Places.{never, written_count}
use Rattle.tokens.proofs.Reading.{expr-more, expr-none, expr-zero}
use Rattle.skimming.specs.Kept.{KeptWorth, KeptWorths}

not_so : {A : Type 0} (b : Bool) → b ≡ false → b ≡ true → A
not_so b p q = never (sym p ∙ q)

module _ {E R A : Type 0} (G : Algebra E R A) where
  -- a token over its arguments
  module _ (e : E) (at : ℕ) (t : Token) (b : Bool) (v : R) (x : ℕ) where
    over-kept : (g : Founds) (a : A) → leb (written_of t) max_arity ≡ true → KeptWorths G e (G.inner t e) g b a x → v ≡ G.token e at t a → KeptWorth G e (over at t g) b v x
    unfolding KeptWorth KeptWorths
    over-kept (founds ts n) a w (p, q) hv = (rw w p, λ k. (hv ∙ ap (G.token e at t) (q k).0, (q k).1))
    over-kept nones a w p hv = p

    over-passed : (g : Founds) → leb (written_of t) max_arity ≡ false → b ≡ false → KeptWorth G e (over at t g) b v x
    unfolding KeptWorth
    over-passed (founds ts n) w h = (rw w h, λ k. not_so b h k)
    over-passed nones w h = h

    over-lost : (g : Founds) (c : Bool) (a : A) (y : ℕ) → KeptWorths G e (G.inner t e) g c a y → c ≡ false → b ≡ false → KeptWorth G e (over at t g) b v x
    unfolding KeptWorth KeptWorths
    over-lost (founds ts n) c a y (p, q) z h = (h ∙ sym (and-false (leb (written_of t) max_arity)) ∙ ap (◌&&◌ (leb (written_of t) max_arity)) (sym z ∙ p), λ k. not_so b h k)
    over-lost nones c a y p z h = h

  module _ (n : ℕ) (s : List ℕ) (at : ℕ) (e : E) (b : Bool) (v : R) (x : ℕ) where
    pub kept-limit : n ≡ 0 → b ≡ false → KeptWorth G e (expr_at n s at) b v x
    unfolding KeptWorth
    kept-limit z h = rw (expr-zero n s at z) h

    module _ (o : Option Token) (et : o ≡ token_at s at) where
      pub kept-nothing : o ≡ None → b ≡ false → KeptWorth G e (expr_at n s at) b v x
      unfolding KeptWorth
      kept-nothing z h = rw (expr-none n s at (sym et ∙ z)) h

      module _ (t : Token) (there : o ≡ Some t) (deep : n ≡ 0 → ⊥) where
        abbrev args : Founds
        args = several (expr_at (n - 1) s) (at + width_of t) (arguments_of t)

        this : expr_at n s at ≡ over at t args
        this = expr-more n s at t deep (sym et ∙ there)

        module _ (k : ℕ) (ek : k ≡ arguments_of t) where
          written : leb (written_of t) max_arity ≡ leb k max_arity
          written = written_count s at t (sym et ∙ there) ∙ ap (λ (y : ℕ). leb y max_arity) (sym ek)

          pub kept-count : max_arity < k → b ≡ false → KeptWorth G e (expr_at n s at) b v x
          kept-count h z = rw this (over-passed e at t b v x args (written ∙ lt-leb k max_arity h) z)

          module _ (w : ℕ) (ew : w ≡ width_of t) (inner : E) (ei' : inner ≡ G.inner t e) (c : Bool) (a : A) (y : ℕ)
              (all : KeptWorths G e inner (several (expr_at (n - 1) s) (at + w) k) c a y) where
            there-all : KeptWorths G e (G.inner t e) args c a y
            there-all = rw (ei', ew, ek) at all

            pub kept-lost : c ≡ false → b ≡ false → KeptWorth G e (expr_at n s at) b v x
            kept-lost z h = rw this (over-lost e at t b v x args c a y there-all z h)

            pub kept-token : k ≤ max_arity → c ≡ true → b ≡ true → x ≡ y → v ≡ G.token e at t a → KeptWorth G e (expr_at n s at) b v x
            kept-token h z q ex hv = rw (this, q, ex) (over-kept e at t true v y args a (written ∙ le-leb k max_arity h) (rw z at there-all) hv)

  -- argument lists
  module _ (outer last : E) where
    pub kepts-none : (f : ℕ → Found) (at : ℕ) → KeptWorths G outer last (several f at 0) true G.start at
    unfolding KeptWorths
    kepts-none f at = (refl, λ k. (refl, refl))

    before-kept : (t : Expr) (g : Founds) (b : Bool) (v : R) (a : A) (x : ℕ) (e : E) → true ≡ counts_kept t → v ≡ fold G e t → Scoped outer last e g
        → KeptWorths G outer last g b a x → KeptWorths G outer last (before t g) b (G.push v a) x
    unfolding KeptWorths
    before-kept t (founds ts n) b v a x e c hv hs (p, q) =
        (rw (← c) p, λ k. (ap₂ G.push (hv ∙ ap (λ (y : E). fold G y t) hs) (q k).0, (q k).1))
    before-kept t nones b v a x e c hv hs p = p

    before-lost : (t : Expr) (g : Founds) (a : A) (x : ℕ) → false ≡ counts_kept t → KeptWorths G outer last (before t g) false a x
    unfolding KeptWorths
    before-lost t (founds ts n) a x c = (rw (← c) refl, λ k. never k)
    before-lost t nones a x c = refl

    pub kepts-more : (y : Found) (rest : ℕ → Founds) (e : E) (v : R) (m : ℕ) (b : Bool) (c a : A) (x : ℕ) → KeptWorth G e y true v m
        → ((q : ℕ) → Scoped outer last e (rest q)) → KeptWorths G outer last (rest m) b a x → c ≡ G.push v a → KeptWorths G outer last (after y rest) b c x
    unfolding KeptWorth
    kepts-more (found t n) rest e v m b c a x (p, q) hs h hc =
        rw hc
        (before-kept t (rest n) b v a x e p (q refl).0 (hs n) (subst (λ (i : ℕ). KeptWorths G outer last (rest i) b a x) (q refl).1 h))
    kepts-more none rest e v m b c a x p hs h hc = never (sym p)

    pub kepts-lost : (y : Found) (rest : ℕ → Founds) (e : E) (v : R) (m : ℕ) (c : A) (x : ℕ) → KeptWorth G e y false v m
        → KeptWorths G outer last (after y rest) false c x
    unfolding KeptWorth KeptWorths
    kepts-lost (found t n) rest e v m c x (p, q) = before-lost t (rest n) c x p
    kepts-lost none rest e v m c x p = refl

    -- what does not keep them has no worth
    pub any-worth : (y : Founds) (a c : A) (x z : ℕ) → KeptWorths G outer last y false a x → KeptWorths G outer last y false c z
    unfolding KeptWorths
    any-worth (founds ts n) a c x z (p, q) = (p, λ k. never k)
    any-worth nones a c x z p = p

    pub kepts-later : (y : Found) (rest : ℕ → Founds) (e : E) (v : R) (m : ℕ) (c a : A) (x z : ℕ) → KeptWorth G e y true v m
        → ((q : ℕ) → Scoped outer last e (rest q)) → KeptWorths G outer last (rest m) false a x → KeptWorths G outer last (after y rest) false c z
    kepts-later y rest e v m c a x z h hs k =
        any-worth (after y rest) (G.push v a) c x z (kepts-more y rest e v m false (G.push v a) a x h hs k refl)

  pub any-kept : (e : E) (y : Found) (v w : R) (x z : ℕ) → KeptWorth G e y false v x → KeptWorth G e y false w z
  unfolding KeptWorth
  any-kept e (found t n) v w x z (p, q) = (p, λ k. never k)
  any-kept e none v w x z p = p

  -- what keeps the limits has its worth, and what does not passes one
  pub kept-worth : (e : E) (y : Found) (b : Bool) (v : R) (x : ℕ) → KeptWorth G e y b v x → b ≡ true → Worth G e y v x
  unfolding KeptWorth Worth
  kept-worth e (found t n) b v x (p, q) h = q h
  kept-worth e none b v x p h = tt

  pub kept-passed : (e : E) (y : Found) (b : Bool) (v : R) (x : ℕ) → KeptWorth G e y b v x → is_none (kept_of y) ≡ not b
  unfolding KeptWorth
  kept-passed e (found t n) b v x (p, q) = rw (← p) (go b)
    where
      go : (b : Bool) → is_none (cond b (Some n) None) ≡ not b
      go true = refl
      go false = refl
  kept-passed e none b v x p = rw p refl
