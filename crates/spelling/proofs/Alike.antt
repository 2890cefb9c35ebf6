-- A string does not show what kind a declared name is: declarations of the same names have the same strings.
use mathlib.Core.Bool.{Bool, cond, false, true}
use mathlib.Core.List.{List, [], ◌++◌, ◌∷◌}
use mathlib.Core.Path.{◌≡◌, ap, ap₂, refl}
use Prim.Native.Nat.{ℕ, zero, suc, ◌+◌, ◌-◌, ◌/◌, ◌%◌, ◌<◌, ◌≤◌}
use native.Mathlib.Omega.{arith}
use borrow.Author.Tests.{ltb-false}
use lib.Dec.{eqb, ltb}
use lib.ListN.{get_or, length}
use Rattle.limits.specs.Limits.{max_definitions}
use Rattle.theory.specs.Expand.{params_from}
use Rattle.theory.specs.Level.{binds_in, code_binder, plain}
use Rattle.theory.specs.Term.{Term, Terms, param}
use Rattle.theory.specs.Tree.{◌▹◌, count, join, node, ⟨⟩}
use Rattle.tokens.specs.Expr.{Expr, Exprs}
use Rattle.tokens.specs.declared.Token.{Token}
use Rattle.tokens.specs.declared.Token.TheVariants.{BuiltIn, Bound, InstanceOperator, Literal, Name, Parameter}
use Rattle.texts.specs.Noted.{is_name}
use Rattle.texts.specs.Text.{Declarations, no_declaration}
use Rattle.symbols.specs.Symbol.{Symbol, code, name}
use Rattle.symbols.specs.Spell.{bracketed, call_head, mask_of, masked, spell, spells}
use Rattle.unfolding.specs.InWorld.{Setting, called, declared_in, named_in, stand_in, term_in, terms_in, token_in}
use Rattle.spelling.specs.Strings.{AllLooksBelow, LooksBelow}

-- argument lists of the same strings
record Alike (σ : ℕ → ℕ) (us vs : Terms) : Type 0 where
  counts : count us ≡ count vs
  plainly : (s : ℕ → ℕ) → spells σ s us ≡ spells σ s vs
  masks : (m : ℕ) → masked σ m us ≡ masked σ m vs

module _ (σ : ℕ → ℕ) where
  alike_same : (us : Terms) → Alike σ us us
  alike_same us = record { counts = refl; plainly = λ s. refl; masks = λ m. refl }

  alike-more : (t u : Term) (us vs : Terms) → spell σ t ≡ spell σ u → Alike σ us vs → Alike σ (t ▹ us) (u ▹ vs)
  alike-more t u us vs e a = record {
    counts = ap suc a.counts;
    plainly = λ s. ap₂ (λ (x y : List Symbol). bracketed (s 0) x ++ y) e (a.plainly (λ i. s (suc i)));
    masks = λ m. ap₂ (λ (x y : List Symbol). cond (eqb (m % 2) 1) x [] ++ y) e (a.masks (m / 2));
  }

  -- after the same parameters
  masked-after : (i p m : ℕ) (us vs : Terms) → Alike σ us vs → masked σ m (join (params_from i p) us) ≡ masked σ m (join (params_from i p) vs)
  masked-after i zero m us vs a = a.masks m
  masked-after i (suc p) m us vs a = ap (λ (x : List Symbol). cond (eqb (m % 2) 1) (spell σ (node (param i) ⟨⟩)) [] ++ x) (masked-after (suc i) p (m / 2) us vs a)

  same-called : (outer n : ℕ) (us vs : Terms) → Alike σ us vs → spell σ (called outer n us) ≡ spell σ (called outer n vs)
  same-called outer n us vs a = ap (λ (x : List Symbol). call_head (σ n) n ++ x) (masked-after 0 outer (mask_of (σ n)) us vs a)

  module _ (decls decls' : Declarations) (P : Setting)
      (same : (d : ℕ) → d < length decls → (get_or decls d no_declaration).1 ≡ (get_or decls' d no_declaration).1) where
    same-declared : (l outer r : ℕ) (us vs : Terms) → Alike σ us vs → max_definitions ≤ r → r < max_definitions + length decls
        → spell σ (declared_in decls l outer r us) ≡ spell σ (declared_in decls' l outer r vs)
    same-declared zero outer r us vs a g h =
        ap₂ (λ (x : Symbol) (y : List Symbol). x ∷ y) (ap₂ (λ (x k : ℕ). name x k) (same (r - max_definitions) (omega arith)) a.counts) (a.plainly (binds_in plain))
    same-declared (suc l) outer r us vs a g h = same-called outer (stand_in (suc l) r) us vs a

    same-named : (r : ℕ) (us vs : Terms) → Alike σ us vs → r < max_definitions + length decls → spell σ (named_in decls P r us) ≡ spell σ (named_in decls' P r vs)
    same-named r us vs a h = go (ltb r max_definitions) refl
      where
        go : (b : Bool) → ltb r max_definitions ≡ b
            → spell σ (cond b (called P.outer (get_or P.numbers r 0) us) (declared_in decls P.level P.outer r us))
            ≡ spell σ (cond b (called P.outer (get_or P.numbers r 0) vs) (declared_in decls' P.level P.outer r vs))
        go true e = same-called P.outer (get_or P.numbers r 0) us vs a
        go false e = same-declared P.level P.outer r us vs a (omega (arith, ltb-false r max_definitions e)) h

    -- what a name implies
    pub same-implied : (r : ℕ) (us : Terms) → r < max_definitions + length decls → spell σ (named_in decls P r us) ≡ spell σ (named_in decls' P r us)
    same-implied r us h = same-named r us us (alike_same us) h

    module _ (look : ℕ → Token → ℕ) where
      same-token : (at : ℕ) (t : Token) (us vs : Terms) → Alike σ us vs → (is_name t ≡ true → look at t < max_definitions + length decls)
          → spell σ (token_in look decls P at t us) ≡ spell σ (token_in look decls' P at t vs)
      same-token at (Parameter i) us vs a h = refl
      same-token at (Bound j) us vs a h = refl
      same-token at (Name n k) us vs a h = same-named (look at (Name n k)) us vs a (h refl)
      same-token at (InstanceOperator i n k) us vs a h = same-named (look at (InstanceOperator i n k)) us vs a (h refl)
      same-token at (BuiltIn c) us vs a h = ap (λ (x : List Symbol). code c ∷ x) (a.plainly (binds_in (code_binder c)))
      same-token at (Literal v) us vs a h = refl

      mutual
        pub same-string : (t : Expr) → LooksBelow (max_definitions + length decls) look t → spell σ (term_in look decls P t) ≡ spell σ (term_in look decls' P t)
        same-string (node h ts) (l, ls) = same-token h.at h.token (terms_in look decls P ts) (terms_in look decls' P ts) (same-strings ts ls) l

        same-strings : (ts : Exprs) → AllLooksBelow (max_definitions + length decls) look ts → Alike σ (terms_in look decls P ts) (terms_in look decls' P ts)
        same-strings ⟨⟩ u = alike_same ⟨⟩
        same-strings (t ▹ ts) (l, ls) =
            alike-more (term_in look decls P t) (term_in look decls' P t) (terms_in look decls P ts) (terms_in look decls' P ts) (same-string t l) (same-strings ts ls)
