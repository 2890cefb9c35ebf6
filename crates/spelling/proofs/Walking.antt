-- The walk: one lemma for each way through its code, with the facts that the code has there as premises.
use mathlib.Core.Bool.{Bool, ◌&&◌, cond, false, true}
use mathlib.Core.List.{List, [], ◌++◌, ◌∷◌, append-nil}
use mathlib.Core.Path.{◌∙◌, ◌≡◌, ap, refl, subst, sym}
use Prim.Native.Nat.{ℕ, suc, ◌+◌, ◌-◌, ◌/◌}
use native.Mathlib.Omega.{arith}
use borrow.Author.Tests.{eq-eqb, ne_eqb}
use lib.Dec.{eqb}
use lib.ListN.{get_or, length}
use Rattle.std.specs.Prelude.{Option, None, Some}
use Rattle.theory.proofs.Lists.{never}
use Rattle.theory.specs.Term.{Terms}
use Rattle.theory.specs.Tree.{◌▹◌, count, ⟨⟩}
use Rattle.tokens.specs.Token.{arguments_of, token_at, width_of}
use Rattle.tokens.specs.Expr.{Expr, Exprs, Found, Founds, after, before, expr_at, found, founds, none, nones, over, several}
use Rattle.tokens.specs.declared.Token.{Token}
use Rattle.tokens.specs.declared.Token.TheVariants.{BuiltIn, Bound, InstanceOperator, Literal, Name, Parameter}
use Rattle.tokens.proofs.Reading.{expr-more, expr-none, expr-zero, several-more}
use Rattle.texts.specs.Text.{Declarations}
use Rattle.symbols.specs.Symbol.{Symbol, begin, bytes_of, end}
use Rattle.symbols.specs.Spell.{bracketed, spell}
use Rattle.unfolding.specs.InWorld.{Setting, by_refs, term_in, terms_in, token_in}
use Rattle.spelling.specs.Put.{Put}
use Rattle.spelling.specs.Parts.{Closed, Opened, bound_before, is_written, part, parts}
use Rattle.spelling.specs.Written.{AllWrote, ArgumentWrote, Headed, Wrote}
use Rattle.spelling.proofs.Putting.{put-append, put-none, put-past}
use Rattle.spelling.proofs.Heading.{put-symbols}

pub inside-last : (binds : Bool) (k : ℕ) → binds ≡ true → eqb k 1 ≡ binds && eqb k 1
inside-last binds k h = rw h

pub inside-none : (binds : Bool) (k : ℕ) → binds ≡ false → false ≡ binds && eqb k 1
inside-none binds k h = rw h

-- Before and after an argument. The tests' own answers, w and v, are those of the code.
module _ (written inside w : Bool) (e : w ≡ written) where
  pub opened-bracket : (v : Bool) (out : List ℕ) (q : ℕ) (out' : List ℕ) (q' : ℕ) → w ≡ true → v ≡ inside → v ≡ true → Put out q (11 ∷ []) out' q'
      → Opened written inside out q out' q'
  opened-bracket v out q out' q' h f g p =
      record { put = λ z. rw (sym f ∙ g) p; skipped = λ z. never (sym h ∙ e ∙ z) }

  pub opened-bare : (v : Bool) (out : List ℕ) (q : ℕ) → w ≡ true → v ≡ inside → v ≡ false → Opened written inside out q out q
  opened-bare v out q h f g =
      record { put = λ z. rw (sym f ∙ g) (put-none out q); skipped = λ z. never (sym h ∙ e ∙ z) }

  pub opened-skipped : (out : List ℕ) (q : ℕ) → w ≡ false → Opened written inside out q out (length out + 1)
  opened-skipped out q h =
      record { put = λ z. never (sym z ∙ sym e ∙ h); skipped = λ z. (refl, omega arith) }

  pub closed-bracket : (v : Bool) (q : ℕ) (out : List ℕ) (p : ℕ) (out' : List ℕ) (p' : ℕ) → w ≡ true → v ≡ inside → v ≡ true → Put out p (12 ∷ []) out' p'
      → Closed written inside q out p out' p'
  closed-bracket v q out p out' p' h f g d =
      record { put = λ z. rw (sym f ∙ g) d; skipped = λ z. never (sym h ∙ e ∙ z) }

  pub closed-bare : (v : Bool) (q : ℕ) (out : List ℕ) (p : ℕ) → w ≡ true → v ≡ inside → v ≡ false → Closed written inside q out p out p
  closed-bare v q out p h f g =
      record { put = λ z. rw (sym f ∙ g) (put-none out p); skipped = λ z. never (sym h ∙ e ∙ z) }

  pub closed-skipped : (q : ℕ) (out : List ℕ) (p : ℕ) → w ≡ false → Closed written inside q out p out q
  closed-skipped q out p h =
      record { put = λ z. never (sym z ∙ sym e ∙ h); skipped = λ z. (refl, refl) }

-- an argument with what is put before and after it
argument : (written inside : Bool) (gs : List Symbol) (out : List ℕ) (q : ℕ) (out₁ : List ℕ) (q₁ : ℕ) (out₂ : List ℕ) (q₂ : ℕ) (out₃ : List ℕ) (q₃ : ℕ)
    → Opened written inside out q out₁ q₁ → Put out₁ q₁ (bytes_of gs) out₂ q₂ → Closed written inside q out₂ q₂ out₃ q₃
    → Put out q (bytes_of (cond written (bracketed (cond inside 1 0) gs) [])) out₃ q₃
argument true true gs out q out₁ q₁ out₂ q₂ out₃ q₃ a p b =
    put-symbols out q (begin ∷ []) out₁ q₁ (gs ++ (end ∷ [])) out₃ q₃ (a.put refl) (put-symbols out₁ q₁ gs out₂ q₂ (end ∷ []) out₃ q₃ p (b.put refl))
argument true false gs out q out₁ q₁ out₂ q₂ out₃ q₃ a p b =
    let l : Put out q (bytes_of gs) out₂ q₂ = put-append out q [] out₁ q₁ (bytes_of gs) out₂ q₂ (a.put refl) p in
    subst (λ (bs : List ℕ). Put out q bs out₃ q₃) (append-nil (bytes_of gs)) (put-append out q (bytes_of gs) out₂ q₂ [] out₃ q₃ l (b.put refl))
argument false inside gs out q out₁ q₁ out₂ q₂ out₃ q₃ a p b =
    let s = a.skipped refl in
    let z = b.skipped refl in
    let r : Put out (suc (length out)) (bytes_of gs) out₂ q₂ = rw (s.0, s.1) at p in
    rw (z.0, z.1, put-past out (bytes_of gs) out₂ q₂ r) (put-none out q)

-- what a name at a position was resolved to
token-same : (look : ℕ → Token → ℕ) (decls : Declarations) (P : Setting) (at : ℕ) (t : Token) (r : ℕ) (ts : Terms) → r ≡ look at t
    → token_in look decls P at t ts ≡ token_in (λ a u. r) decls P at t ts
token-same look decls P at (Parameter i) r ts e = refl
token-same look decls P at (Bound j) r ts e = refl
token-same look decls P at (Name n k) r ts e = rw e
token-same look decls P at (InstanceOperator i n k) r ts e = rw e
token-same look decls P at (BuiltIn c) r ts e = refl
token-same look decls P at (Literal v) r ts e = refl

module _ (look : ℕ → Token → ℕ) (σ : ℕ → ℕ) (decls : Declarations) (P : Setting) where
  count-terms : (ts : Exprs) → count (terms_in look decls P ts) ≡ count ts
  count-terms ⟨⟩ = refl
  count-terms (t ▹ ts) = ap suc (count-terms ts)

  over-wrote : (at : ℕ) (t : Token) (r : ℕ) (g : Founds) (all : Bool) (m : ℕ) (binds : Bool) (out : List ℕ) (q : ℕ) (out₁ : List ℕ) (q₁ : ℕ) (out₂ : List ℕ) (q₂ x : ℕ)
      → r ≡ look at t → Headed σ decls P t r out q out₁ all m binds q₁ → AllWrote look σ decls P g (arguments_of t) all m binds out₁ q₁ out₂ q₂ x
      → Wrote look σ decls P (over at t g) out q out₂ q₂ x
  unfolding Wrote AllWrote
  over-wrote at t r (founds ts e) all m binds out q out₁ q₁ out₂ q₂ x h d (p, y, z) =
      let us : Terms = terms_in look decls P ts in
      let f : spell σ (token_in look decls P at t us) ≡ d.first ++ parts σ all m binds us =
      ap (spell σ) (token-same look decls P at t r us h) ∙ d.rest at us (count-terms ts ∙ z) in
      (subst (λ (gs : List Symbol). Put out q (bytes_of gs) out₂ q₂) (sym f) (put-symbols out q d.first out₁ q₁ (parts σ all m binds us) out₂ q₂ d.put p), y)
  over-wrote at t r nones all m binds out q out₁ q₁ out₂ q₂ x h d u = tt

  module _ (n : ℕ) (s : List ℕ) (at : ℕ) (out : List ℕ) (q : ℕ) (out' : List ℕ) (q' x : ℕ) where
    pub wrote-limit : n ≡ 0 → Wrote look σ decls P (expr_at n s at) out q out' q' x
    unfolding Wrote
    wrote-limit h = rw (expr-zero n s at h) tt

    pub wrote_nothing : (o : Option Token) → o ≡ token_at s at → o ≡ None → Wrote look σ decls P (expr_at n s at) out q out' q' x
    unfolding Wrote
    wrote_nothing o p f = rw (expr-none n s at (sym p ∙ f)) tt

    pub wrote-token : (o : Option Token) (t : Token) (r w k : ℕ) (all : Bool) (m : ℕ) (binds : Bool) (out₁ : List ℕ) (q₁ : ℕ) → (n ≡ 0 → ⊥) → o ≡ token_at s at → o ≡ Some t
        → r ≡ look at t → Headed σ decls P t r out q out₁ all m binds q₁ → w ≡ width_of t → k ≡ arguments_of t
        → AllWrote look σ decls P (several (expr_at (n - 1) s) (at + w) k) k all m binds out₁ q₁ out' q' x → Wrote look σ decls P (expr_at n s at) out q out' q' x
    wrote-token o t r w k all m binds out₁ q₁ h p f hr d hw hk a =
        rw (expr-more n s at t h (sym p ∙ f))
        (over-wrote at t r (several (expr_at (n - 1) s) (at + width_of t) (arguments_of t)) all m binds out q out₁ q₁ out' q' x hr d (rw (hw, hk) at a))

  first-inside : (binds : Bool) (k : ℕ) (ts : Exprs) → suc (count ts) ≡ k → cond (binds && eqb k 1) 1 0 ≡ bound_before binds (count (terms_in look decls P ts))
  first-inside true k ⟨⟩ h = rw (eq-eqb k 1 (sym h))
  first-inside true k (t ▹ ts) h = rw (ne_eqb k 1 (λ e. omega arith), ne_eqb (suc (count (terms_in look decls P ts))) 0 (λ e. omega arith))
  first-inside false k ts h = refl

  pub argument-wrote : (f : Found) (k : ℕ) (all : Bool) (m : ℕ) (binds : Bool) (out : List ℕ) (q : ℕ) (out₁ : List ℕ) (q₁ : ℕ) (out₂ : List ℕ) (q₂ : ℕ) (out₃ : List ℕ) (q₃ x : ℕ)
      → Opened (is_written all m) (binds && eqb k 1) out q out₁ q₁ → Wrote look σ decls P f out₁ q₁ out₂ q₂ x
      → Closed (is_written all m) (binds && eqb k 1) q out₂ q₂ out₃ q₃ → ArgumentWrote look σ decls P f k all m binds out q out₃ q₃ x
  unfolding Wrote ArgumentWrote
  argument-wrote (found t e) k all m binds out q out₁ q₁ out₂ q₂ out₃ q₃ x a (p, y) b =
      (argument (is_written all m) (binds && eqb k 1) (spell σ (term_in look decls P t)) out q out₁ q₁ out₂ q₂ out₃ q₃ a p b, y)
  argument-wrote none k all m binds out q out₁ q₁ out₂ q₂ out₃ q₃ x a u b = tt

  module _ (k : ℕ) (all : Bool) (m : ℕ) (binds : Bool) (out : List ℕ) (q : ℕ) (out₃ : List ℕ) (q₃ : ℕ) (out₄ : List ℕ) (q₄ x : ℕ) where
    before-wrote : (t : Expr) (g : Founds) (j : ℕ) → suc j ≡ k
        → Put out q (bytes_of (cond (is_written all m) (bracketed (cond (binds && eqb k 1) 1 0) (spell σ (term_in look decls P t))) [])) out₃ q₃
        → AllWrote look σ decls P g j all (m / 2) binds out₃ q₃ out₄ q₄ x → AllWrote look σ decls P (before t g) k all m binds out q out₄ q₄ x
    unfolding AllWrote parts
    before-wrote t (founds ts e) j h p (d, y, z) =
        let us : Terms = terms_in look decls P ts in
        let gs : List Symbol = spell σ (term_in look decls P t) in
        let c : suc (count ts) ≡ k = ap suc z ∙ h in
        let o : Put out q (bytes_of (part all m binds (count us) gs)) out₃ q₃ =
        subst (λ (i : ℕ). Put out q (bytes_of (cond (is_written all m) (bracketed i gs) [])) out₃ q₃) (first-inside binds k ts c) p in
        (put-symbols out q (part all m binds (count us) gs) out₃ q₃ (parts σ all (m / 2) binds us) out₄ q₄ o d, y, c)
    before-wrote t nones j h p u = tt

    after-wrote : (f : Found) (rest : ℕ → Founds) (y j : ℕ) → suc j ≡ k → ArgumentWrote look σ decls P f k all m binds out q out₃ q₃ y
        → AllWrote look σ decls P (rest y) j all (m / 2) binds out₃ q₃ out₄ q₄ x → AllWrote look σ decls P (after f rest) k all m binds out q out₄ q₄ x
    unfolding ArgumentWrote AllWrote
    after-wrote (found t e) rest y j h (p, z) d = before-wrote t (rest e) j h p (rw z at d)
    after-wrote none rest y j h u d = tt

    pub args_more : (f : ℕ → Found) (at y : ℕ) (c : Bool) (n : ℕ) (v : Bool) (p : ℕ) → (k ≡ 0 → ⊥) → ArgumentWrote look σ decls P (f at) k all m binds out q out₃ q₃ y → p ≡ q₃
        → c ≡ all → n ≡ m / 2 → v ≡ binds → AllWrote look σ decls P (several f y (k - 1)) (k - 1) c n v out₃ p out₄ q₄ x
        → AllWrote look σ decls P (several f at k) k all m binds out q out₄ q₄ x
    args_more f at y c n v p h w ep ec en ev d =
        rw (several-more f at k h) (after-wrote (f at) (λ e. several f e (k - 1)) y (k - 1) (omega arith) w (rw (ep, ec, en, ev) at d))

  pub args_none : (f : ℕ → Found) (at k : ℕ) (all : Bool) (m : ℕ) (binds : Bool) (out : List ℕ) (q : ℕ) → k ≡ 0
      → AllWrote look σ decls P (several f at k) k all m binds out q out q at
  unfolding AllWrote parts
  args_none f at k all m binds out q h = rw h (put-none out q, refl, refl)

-- by the table of what names were resolved to
pub text-token : (refs : List ℕ) (σ : ℕ → ℕ) (decls : Declarations) (P : Setting) (n : ℕ) (s : List ℕ) (at : ℕ) (out : List ℕ) (q : ℕ) (out' : List ℕ) (q' x : ℕ) (o : Option Token) (t : Token)
    (r w k : ℕ) (all : Bool) (m : ℕ) (binds : Bool) (out₁ : List ℕ) (q₁ : ℕ) → (n ≡ 0 → ⊥) → o ≡ token_at s at → o ≡ Some t
    → r ≡ get_or refs at 0 → Headed σ decls P t r out q out₁ all m binds q₁ → w ≡ width_of t → k ≡ arguments_of t
    → AllWrote (by_refs refs) σ decls P (several (expr_at (n - 1) s) (at + w) k) k all m binds out₁ q₁ out' q' x → Wrote (by_refs refs) σ decls P (expr_at n s at) out q out' q' x
text-token refs σ decls P n s at out q out' q' x o t r w k all m binds out₁ q₁ h p f hr d hw hk a =
    wrote-token (by_refs refs) σ decls P n s at out q out' q' x o t r w k all m binds out₁ q₁ h p f hr d hw hk a
