-- What a walk answers and notes, from what its parts do: one lemma for each way through the code and for each call.
use borrow.Author.Tests.{ne_eqb}
use mathlib.Core.Path.{◌≡◌, refl, sym, ap, ◌∙◌}
use mathlib.Core.Bool.{Bool, true, false, ◌||◌, not}
use mathlib.Core.List.{List}
use Prim.Native.Nat.{ℕ, ◌+◌, ◌-◌, ◌≤◌, ◌<◌}
use native.Mathlib.Omega.{arith}
use lib.Dec.{eqb, leb}
use lib.ListN.{length, set}
use lib.Seq.{set_out}
use Rattle.std.specs.Prelude.{Option, None, Some}
use Rattle.theory.specs.Tree.{node, ⟨⟩}
use Rattle.rows.specs.Rows.{binder_of}
use Rattle.tokens.specs.Token.{token_at, width_of, arguments_of}
use Rattle.tokens.specs.Expr.{Expr, Found, found, none, Founds, founds, nones, before, after, several, over, expr_at, placed}
use Rattle.tokens.specs.Fold.{Algebra, under_of, Worth}
use Rattle.tokens.specs.declared.Token.{Token}
use Rattle.tokens.specs.declared.Token.TheVariants.{Parameter, Bound, Name, InstanceOperator, BuiltIn, Literal}
use Rattle.tokens.proofs.Folding.{at-limit, at-nothing, at-token, none_left, one_more}
use Rattle.tokens.proofs.Places.{cases}
use Rattle.tokens.proofs.Reading.{expr-zero, expr-none, expr-more, several-more}
use Rattle.texts.specs.Noted.{is_name, note, noted, noteds}
use Rattle.texts.proofs.Noting.{noted-length, noteds-length}
use Rattle.agree.specs.Folds.{binds_of, searching}
use Rattle.resolve.specs.Look.{look_in}
use Rattle.resolve.specs.Walk.{number_of, wrong_count, unknown_at, miscounted_at, note_of, inside, inside_of, word_count, unknown_in, miscounted_in, number_in, Notes, NotesAll, Looks, LooksAll}
use Rattle.std.specs.Prelude.{Option as Answer, Some}
use Rattle.resolve.specs.declared.Look.{Look}
use Rattle.store.specs.declared.Facts.{Facts}

pub out-of-table : (refs : List ℕ) (at number : ℕ) → length refs ≤ at → refs ≡ set refs at number
out-of-table refs at number h = sym (set_out refs at number h)

pub noted-name : (refs refs' : List ℕ) (at number : ℕ) (t : Token) (l : Answer Look) (i : Bool) → refs' ≡ set refs at number → number ≡ number_of l → i ≡ is_name t → i ≡ true
    → refs' ≡ note_of at t l refs
noted-name refs refs' at number t l i e n p q = rw (← p, q, ← n) e

pub noted_other : (refs : List ℕ) (at : ℕ) (t : Token) (l : Answer Look) (i : Bool) → i ≡ is_name t → i ≡ false → refs ≡ note_of at t l refs
noted_other refs at t l i p q = rw (← p, q)

-- what a token is unknown or miscounted by
pub wrong-count : (l : Answer Look) (look : Look) (k : ℕ) → l ≡ Some look → not (eqb k look.arity) ≡ wrong_count k l
wrong-count l look k e = rw e

pub unknown-parameter : (t : Token) (l : Answer Look) (p k i : ℕ) → t ≡ Parameter i → leb p i ≡ unknown_at p k t l
unknown-parameter t l p k i e = rw e

pub unknown-bound : (t : Token) (l : Answer Look) (p k j : ℕ) → t ≡ Bound j → leb k j ≡ unknown_at p k t l
unknown-bound t l p k j e = rw e

pub miscounted-name : (t : Token) (l : Answer Look) (n k : ℕ) (b : Bool) → t ≡ Name n k → b ≡ wrong_count k l → b ≡ miscounted_at t l
miscounted-name t l n k b e h = rw e h

pub miscounted-instance : (t : Token) (l : Answer Look) (i f k : ℕ) (b : Bool) → t ≡ InstanceOperator i f k → b ≡ wrong_count k l → b ≡ miscounted_at t l
miscounted-instance t l i f k b e h = rw e h

pub unknown-or : (r a b : Bool) (p k : ℕ) (t : Token) (l : Answer Look) → r ≡ (a || b) → a ≡ unknown_at p k t l → r ≡ (unknown_at p k t l || b)
unknown-or r a b p k t l h e = h ∙ ap (λ (x : Bool). x || b) e

pub miscounted-or : (r a b : Bool) (t : Token) (l : Answer Look) → r ≡ (a || b) → a ≡ miscounted_at t l → r ≡ (miscounted_at t l || b)
miscounted-or r a b t l h e = h ∙ ap (λ (x : Bool). x || b) e

-- the bound variables of a token's last argument
pub binds-code : (t : Token) (c b : ℕ) → t ≡ BuiltIn c → b ≡ binder_of c → b ≡ binds_of t
binds-code t c b e p = rw e p

pub binds-none : (t : Token) (b k : ℕ) → b ≡ binds_of t → b ≡ 0 → k ≡ inside t k
binds-none t b k p q = rw (← p, q)

pub binds-one : (t : Token) (b k : ℕ) → b ≡ binds_of t → (b ≡ 0 → ⊥) → k + 1 ≡ inside t k
binds-one t b k p q = rw (← p, ne_eqb b 0 q)

pub inside-some : (o : Answer Token) (t : Token) (k x : ℕ) → o ≡ Some t → x ≡ inside t k → x ≡ inside_of o k
inside-some o t k x e h = rw e h

-- what is noted

module _ (names : List ℕ) (facts : List Facts) (cs : List ℕ) where
  abbrev look : Token → ℕ
  look = number_in names facts cs

  all-length : (g : Founds) (refs refs' : List ℕ) → NotesAll names facts cs g refs refs' → length refs' ≡ length refs
  unfolding NotesAll
  all-length (founds ts e) refs refs' h = ap length h ∙ noteds-length ts look refs
  all-length nones refs refs' h = h

  notes-over : (at : ℕ) (t : Token) (g : Founds) (refs refs₁ refs₂ : List ℕ) → refs₁ ≡ note look at t refs → NotesAll names facts cs g refs₁ refs₂
      → Notes names facts cs (over at t g) refs refs₂
  unfolding Notes NotesAll noted
  notes-over at t (founds ts e) refs refs₁ refs₂ p h = h ∙ ap (noteds look ts) p
  notes-over at t nones refs refs₁ refs₂ p h = h ∙ ap length p ∙ noted-length (node (placed at t) ⟨⟩) look refs

  notes-before : (t : Expr) (g : Founds) (refs refs₁ refs₂ : List ℕ) → refs₁ ≡ noted look t refs → NotesAll names facts cs g refs₁ refs₂
      → NotesAll names facts cs (before t g) refs refs₂
  unfolding NotesAll noted
  notes-before t (founds ts e) refs refs₁ refs₂ p h = h ∙ ap (noteds look ts) p
  notes-before t nones refs refs₁ refs₂ p h = h ∙ ap length p ∙ noted-length t look refs

  notes-after : (G : Algebra ℕ Bool Bool) (k : ℕ) (v : Bool) (f : Found) (rest : ℕ → Founds) (x : ℕ) (refs refs₁ refs₂ : List ℕ) → Worth G k f v x
      → Notes names facts cs f refs refs₁ → NotesAll names facts cs (rest x) refs₁ refs₂ → NotesAll names facts cs (after f rest) refs refs₂
  unfolding Notes NotesAll Worth
  notes-after G k v (found t e) rest x refs refs₁ refs₂ (a, b) p h = notes-before t (rest e) refs refs₁ refs₂ p (rw b at h)
  notes-after G k v none rest x refs refs₁ refs₂ w p h = all-length (rest x) refs₁ refs₂ h ∙ p

-- what `search` cites

module _ (names : List ℕ) (facts : List Facts) (cs : List ℕ) (p k n : ℕ) (s : List ℕ) (at : ℕ) (refs : List ℕ) (u c : Bool) (x : ℕ) where
  pub w-limit : n ≡ 0 → Looks names facts cs p k (expr_at n s at) refs refs u c x
  unfolding Looks Notes
  w-limit h = (
    at-limit (searching (unknown_in names facts cs p)) n s at k u x h,
    at-limit (searching (miscounted_in names facts cs)) n s at k c x h,
    rw (expr-zero n s at h) refl,
  )

  pub w-nothing : (o : Option Token) → o ≡ token_at s at → o ≡ None → Looks names facts cs p k (expr_at n s at) refs refs u c x
  unfolding Looks Notes
  w-nothing o e f = (
    at-nothing (searching (unknown_in names facts cs p)) n s at k u x o e f,
    at-nothing (searching (miscounted_in names facts cs)) n s at k c x o e f,
    rw (expr-none n s at (sym e ∙ f)) refl,
  )

  pub w-token : (o : Option Token) (t : Token) (l : Answer Look) (inner w a y : ℕ) (refs₁ refs₂ : List ℕ) (u₂ c₂ : Bool)
      → LooksAll names facts cs p k inner (several (expr_at (n - 1) s) (at + w) a) refs₁ refs₂ u₂ c₂ y → o ≡ token_at s at → o ≡ Some t → (n ≡ 0 → ⊥)
      → l ≡ look_in names facts cs t → refs₁ ≡ note_of at t l refs → inner ≡ inside t k → w ≡ width_of t → a ≡ arguments_of t → x ≡ y → u ≡ (unknown_at p k t l || u₂)
      → c ≡ (miscounted_at t l || c₂) → Looks names facts cs p k (expr_at n s at) refs refs₂ u c x
  unfolding Looks LooksAll
  w-token o t l inner w a y refs₁ refs₂ u₂ c₂ h e f z hl hr hi hw ha hx hu hc = (
    at-token (searching (unknown_in names facts cs p)) n s at k u x o t inner w a u₂ z e f hi hw ha (rw (← hx) at h.0) (rw hl at hu),
    at-token (searching (miscounted_in names facts cs)) n s at k c x o t inner w a c₂ z e f hi hw ha (rw (← hx) at h.1) (rw hl at hc),
    rw (expr-more n s at t z (sym e ∙ f))
        (notes-over names facts cs at t (several (expr_at (n - 1) s) (at + width_of t) (arguments_of t)) refs refs₁ refs₂
        (rw hl at hr) (rw (hw, ha) at h.2)),
  )

module _ (names : List ℕ) (facts : List Facts) (cs : List ℕ) (p outer last n : ℕ) (s : List ℕ) (at k : ℕ) (refs : List ℕ) where
  pub w-none : (u c : Bool) (x : ℕ) → k ≡ 0 → x ≡ at → u ≡ false → c ≡ false → LooksAll names facts cs p outer last (several (expr_at n s) at k) refs refs u c x
  unfolding LooksAll NotesAll noted
  w-none u c x h hx hu hc =
      rw hx (none_left (searching (unknown_in names facts cs p)) (expr_at n s) at k outer last u h hu, none_left (searching (miscounted_in names facts cs)) (expr_at n s) at k outer last c h hc, rw h refl)

  pub w-more : (b x y z : ℕ) (refs₁ refs₂ : List ℕ) (u u₁ u₂ c c₁ c₂ : Bool) → Looks names facts cs p b (expr_at n s at) refs refs₁ u₁ c₁ x
      → LooksAll names facts cs p outer last (several (expr_at n s) x (k - 1)) refs₁ refs₂ u₂ c₂ y → (k ≡ 0 → ⊥) → b ≡ under_of k outer last → z ≡ y → u ≡ (u₁ || u₂) → c ≡ (c₁ || c₂)
      → LooksAll names facts cs p outer last (several (expr_at n s) at k) refs refs₂ u c z
  unfolding Looks LooksAll
  w-more b x y z refs₁ refs₂ u u₁ u₂ c c₁ c₂ (pu, pc, pn) (qu, qc, qn) h hb hz hu hc =
      rw hz (
        one_more (searching (unknown_in names facts cs p)) (expr_at n s) at k outer last u b u₁ x u₂ y h hb pu qu hu,
        one_more (searching (miscounted_in names facts cs)) (expr_at n s) at k outer last c b c₁ x c₂ y h hb pc qc hc,
        rw (several-more (expr_at n s) at k h)
            (notes-after names facts cs (searching (unknown_in names facts cs p)) b u₁ (expr_at n s at) (λ q. several (expr_at n s) q (k - 1)) x refs refs₁ refs₂ pu pn qn),
      )

-- the number of bound variables stays low
pub under_low : (k outer last n b : ℕ) → b ≡ under_of k outer last → outer + n < word_count → last + n < word_count → b + n < word_count
under_low k outer last n b h p q = rw h (cases (λ (d : ℕ). d + n < word_count) (eqb k 1) (λ _. q) (λ _. p))

one_deeper : (t : Token) (k : ℕ) → inside t k ≤ k + 1
one_deeper (Parameter i) k = omega arith
one_deeper (Bound j) k = omega arith
one_deeper (Name n a) k = omega arith
one_deeper (InstanceOperator i f a) k = omega arith
one_deeper (BuiltIn c) k = cases (λ (d : ℕ). d ≤ k + 1) (eqb (binder_of c) 0) (λ _. omega arith) (λ _. omega arith)
one_deeper (Literal v) k = omega arith

pub deeper-low : (t : Token) (k n b : ℕ) → b ≡ inside t k → k + n < word_count → (n ≡ 0 → ⊥) → b + (n - 1) < word_count
deeper-low t k n b h p q = let d = one_deeper t k in omega arith
