-- The token that stands at a position: for each tag, with all its bytes or not, and where two bytes are left.
-- Assumes nothing.
use mathlib.Core.Path.{◌≡◌, refl, sym, ap, ◌∙◌}
use mathlib.Core.Bool.{Bool, true, false, cond}
use mathlib.Core.List.{List}
use Prim.Native.Nat.{ℕ, ◌+◌, ◌-◌, ◌<◌}
use native.Mathlib.Omega.{arith}
use lib.Dec.{leb}
use lib.ListN.{get_or, length}
use borrow.Author.Tests.{le-leb, lt-leb, leb-true, leb-false, eq-eqb, ne_eqb}
use Rattle.std.specs.Prelude.{Option, None, Some}
use Rattle.std.specs.Bool.{then_some}
use Rattle.rows.specs.Rows.{no_code, arity_of}
use Rattle.tokens.specs.Token.{token_at, tagged_at, number_at, fitting, built_in, named, instanced, width_of}
use Rattle.tokens.specs.declared.Token.{Token}
use Rattle.tokens.specs.declared.Token.TheVariants.{Parameter, Bound, BuiltIn, Literal}

-- an arm for each tag: search finds the premises among the facts of the place, so that no path is written
module _ (s : List ℕ) (at tag : ℕ) where
  pub param : {b : ℕ} → tag ≡ 0 → b ≡ get_or s (at + 1) 0 → Some (Parameter b) ≡ tagged_at s at tag
  unfolding tagged_at
  param e p = rw (e, p)

  pub bound : {j : ℕ} → tag ≡ 1 → j ≡ number_at s (at + 1) → Some (Bound j) ≡ tagged_at s at tag
  unfolding tagged_at
  bound e p = rw (e, p)

  pub name : {t : Option Token} {n k : ℕ} → tag ≡ 2 → t ≡ named n k → n ≡ number_at s (at + 1) → k ≡ get_or s (at + 3) 0 → t ≡ tagged_at s at tag
  unfolding tagged_at
  name e p q r = rw (e, p, q, r)

  pub inst : {t : Option Token} {n m k : ℕ} → tag ≡ 3 → t ≡ instanced n m k → n ≡ number_at s (at + 1) → m ≡ number_at s (at + 3) → k ≡ get_or s (at + 5) 0 → t ≡ tagged_at s at tag
  unfolding tagged_at
  inst e p q r u = rw (e, p, q, r, u)

  pub code : {t : Option Token} {b : ℕ} → tag ≡ 4 → t ≡ built_in b → b ≡ get_or s (at + 1) 0 → t ≡ tagged_at s at tag
  unfolding tagged_at
  code e p q = rw (e, p, q)

  pub lit : {j : ℕ} → tag ≡ 5 → j ≡ number_at s (at + 1) → Some (Literal j) ≡ tagged_at s at tag
  unfolding tagged_at
  lit e p = rw (e, p)

  pub other : (tag ≡ 0 → ⊥) → (tag ≡ 1 → ⊥) → (tag ≡ 2 → ⊥) → (tag ≡ 3 → ⊥) → (tag ≡ 4 → ⊥) → (tag ≡ 5 → ⊥) → None ≡ tagged_at s at tag
  unfolding tagged_at
  other a b c d e f = rw (ne_eqb tag 0 a, ne_eqb tag 1 b, ne_eqb tag 2 c, ne_eqb tag 3 d, ne_eqb tag 4 e, ne_eqb tag 5 f)

-- with all its bytes, or none
leb-moved : (at w n : ℕ) → at < n → leb w (n - at) ≡ leb (at + w) n
leb-moved at w n l = go (leb w (n - at)) refl
  where
    go : (b : Bool) → leb w (n - at) ≡ b → leb w (n - at) ≡ leb (at + w) n
    go true e = rw (e, le-leb (at + w) n (omega (arith, leb-true w (n - at) e)))
    go false e = rw (e, lt-leb (at + w) n (omega (arith, leb-false w (n - at) e)))

module _ (s : List ℕ) (at : ℕ) (o r : Option Token) (e : o ≡ tagged_at s at (get_or s at 0)) where
  pub cut-short : o ≡ None → r ≡ None → r ≡ token_at s at
  unfolding token_at
  cut-short f q = q ∙ ap (fitting s at) (sym f ∙ e)

  pub all-there : (t : Token) (w : ℕ) → o ≡ Some t → w ≡ width_of t → at < length s → r ≡ then_some (leb w (length s - at)) t → r ≡ token_at s at
  unfolding token_at
  all-there t w f v l q = q ∙ rw (leb-moved at w (length s) l, v) (go (leb (at + width_of t) (length s))) ∙ ap (fitting s at) (sym f ∙ e)
    where
      go : (b : Bool) → then_some b t ≡ cond b (Some t) None
      go true = refl
      go false = refl

-- a parameter and a built-in, where two bytes are left
module _ (s : List ℕ) (at x tag : ℕ) (more : 1 < length s - at) (ex : x ≡ get_or s (at + 1) 0) (et : tag ≡ get_or s at 0) where
  pub reads-parameter : tag ≡ 0 → token_at s at ≡ Some (Parameter x)
  unfolding token_at tagged_at
  reads-parameter z = rw (← et, z, ← ex, le-leb (at + 2) (length s) (omega arith)) refl

  pub reads-code : tag ≡ 4 → (arity_of x ≡ no_code → ⊥) → token_at s at ≡ Some (BuiltIn x)
  unfolding token_at tagged_at
  reads-code z h = rw (← et, z, ← ex, ne_eqb (arity_of x) no_code h, le-leb (at + 2) (length s) (omega arith)) refl

  pub reads-no-code : tag ≡ 4 → arity_of x ≡ no_code → token_at s at ≡ None
  unfolding token_at tagged_at
  reads-no-code z h = rw (← et, z, ← ex, eq-eqb (arity_of x) no_code h) refl
