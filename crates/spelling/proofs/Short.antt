-- The string of a text is short: a name of four bytes may become a call and the instances' parameters, of two bytes each, and nothing else grows so
-- much.
use mathlib.Core.Bool.{Bool, cond, false, true}
use mathlib.Core.List.{List, [], ◌++◌, ◌∷◌}
use mathlib.Core.Path.{◌∙◌, ◌≡◌, ap, refl, subst}
use Prim.Native.Nat.{ℕ, zero, suc, ◌+◌, ◌-◌, ◌*◌, ◌/◌, ◌%◌, ◌≤◌}
use native.Mathlib.Omega.{arith}
use lib.Dec.{eqb, ltb}
use lib.ListN.{get_or, length, length-append}
use Rattle.limits.specs.Limits.{max_arity, max_definitions}
use Rattle.theory.specs.Expand.{params_from}
use Rattle.theory.specs.Level.{Binder, binds_in, code_binder, in_body, plain, set_then_body}
use Rattle.theory.specs.Term.{Term, Terms, param}
use Rattle.theory.specs.Tree.{◌▹◌, join, node, ⟨⟩}
use Rattle.tokens.specs.Token.{arguments_of, token_at, width_of}
use Rattle.tokens.specs.Expr.{Expr, Exprs, Found, Founds, after, before, expr_at, found, founds, none, nones, over, several}
use Rattle.tokens.specs.declared.Token.{Token}
use Rattle.tokens.specs.declared.Token.TheVariants.{BuiltIn, Bound, InstanceOperator, Literal, Name, Parameter}
use Rattle.tokens.proofs.Reading.{heads}
use Rattle.texts.specs.Text.{Declarations}
use Rattle.symbols.specs.Symbol.{Symbol, bytes_of, call, end, par, size}
use Rattle.symbols.specs.Spell.{alone_shape, bracketed, call_head, mask_of, masked, spell, spells}
use Rattle.unfolding.specs.InWorld.{Setting, called, declared_in, implied_in, named_in, stand_in, term_in, terms_in, token_in}
use Rattle.spelling.specs.Strings.{growth}
use Rattle.spelling.proofs.Parting.{bytes-append}

size-append : (gs hs : List Symbol) → size (gs ++ hs) ≡ size gs + size hs
size-append gs hs = ap length (bytes-append gs hs) ∙ length-append (bytes_of gs) (bytes_of hs)

size-bracketed : (n : ℕ) (gs : List Symbol) → size (bracketed n gs) ≤ size gs + 2
size-bracketed zero gs = omega arith
size-bracketed (suc n) gs = omega (arith, size-append gs (end ∷ []))

size-cond : (b : Bool) (gs : List Symbol) → size (cond b gs []) ≤ size gs
size-cond true gs = omega arith
size-cond false gs = omega arith

-- how many bytes a text has
abbrev mutual
  pub bytes_in : Expr → ℕ
  bytes_in (node h ts) = width_of h.token + bytes_in_all ts

  pub bytes_in_all : Exprs → ℕ
  bytes_in_all ⟨⟩ = 0
  bytes_in_all (t ▹ ts) = bytes_in t + bytes_in_all ts

abbrev EndOf : ℕ → Found → Type 0
EndOf at (found t e) = e ≡ at + bytes_in t
EndOf at none = Unit {0}

abbrev EndsOf : ℕ → Founds → Type 0
EndsOf at (founds ts e) = e ≡ at + bytes_in_all ts
EndsOf at nones = Unit {0}

end_before : (at e : ℕ) (t : Expr) (g : Founds) → e ≡ at + bytes_in t → EndsOf e g → EndsOf at (before t g)
end_before at e t (founds ts e') p q = omega arith
end_before at e t nones p b = tt

end_after : (at : ℕ) (x : Found) (rest : ℕ → Founds) → EndOf at x → ((e : ℕ) → EndsOf e (rest e)) → EndsOf at (after x rest)
end_after at (found t e) rest p h = end_before at e t (rest e) p (h e)
end_after at none rest a h = tt

end-several : (f : ℕ → Found) → ((p : ℕ) → EndOf p (f p)) → (at k : ℕ) → EndsOf at (several f at k)
end-several f h at zero = omega arith
end-several f h at (suc k) = end_after at (f at) (λ e. several f e k) (h at) (λ e. end-several f h e k)

end-over : (at : ℕ) (t : Token) (g : Founds) → EndsOf (at + width_of t) g → EndOf at (over at t g)
end-over at t (founds ts e) p = omega arith
end-over at t nones s = tt

end-found : (n : ℕ) (s : List ℕ) (at : ℕ) → EndOf at (expr_at n s at)
unfolding expr_at
end-found zero s at = tt
end-found (suc n) s at =
    let follow : Token → Founds = λ t. several (expr_at n s) (at + width_of t) (arguments_of t) in
    heads (EndOf at) at (token_at s at) follow
    (λ t e. end-over at t (follow t) (end-several (expr_at n s) (end-found n s) (at + width_of t) (arguments_of t)))
    (λ e. tt)

pub text-ends : (n : ℕ) (s : List ℕ) (at : ℕ) (t : Expr) (e : ℕ) → expr_at n s at ≡ found t e → e ≡ at + bytes_in t
text-ends n s at t e p = subst (EndOf at) p (end-found n s at)

-- twice the bytes of an argument list's strings, at most b
record Measured (σ : ℕ → ℕ) (us : Terms) (b : ℕ) : Type 0 where
  flat : (s : ℕ → ℕ) → ((i : ℕ) → s i ≡ 0) → 2 * size (spells σ s us) ≤ b
  scoped : (s : ℕ → ℕ) (p : ℕ) → ((i : ℕ) → (i ≡ p → ⊥) → s i ≡ 0) → 2 * size (spells σ s us) ≤ b + 4
  masks : (m : ℕ) → 2 * size (masked σ m us) ≤ b

module _ (σ : ℕ → ℕ) where
  measured-none : Measured σ ⟨⟩ 0
  measured-none = record { flat = λ s z. omega arith; scoped = λ s p z. omega arith; masks = λ m. omega arith }

  measured-more : (t : Term) (us : Terms) (v w : ℕ) → 2 * size (spell σ t) ≤ v → Measured σ us w → Measured σ (t ▹ us) (v + w)
  measured-more t us v w h a = record { flat = flat; scoped = scoped; masks = masks }
    where
      flat : (s : ℕ → ℕ) → ((i : ℕ) → s i ≡ 0) → 2 * size (spells σ s (t ▹ us)) ≤ v + w
      flat s z =
          let f : 2 * size (spells σ (λ i. s (suc i)) us) ≤ w = a.flat (λ i. s (suc i)) (λ i. z (suc i)) in
          rw (z 0) (omega (arith, size-append (spell σ t) (spells σ (λ i. s (suc i)) us)))

      scoped : (s : ℕ → ℕ) (p : ℕ) → ((i : ℕ) → (i ≡ p → ⊥) → s i ≡ 0) → 2 * size (spells σ s (t ▹ us)) ≤ v + w + 4
      scoped s zero z =
          let f : 2 * size (spells σ (λ i. s (suc i)) us) ≤ w = a.flat (λ i. s (suc i)) (λ i. z (suc i) (λ (e : suc i ≡ 0). omega arith)) in
          omega (arith, size-bracketed (s 0) (spell σ t), size-append (bracketed (s 0) (spell σ t)) (spells σ (λ i. s (suc i)) us))
      scoped s (suc p) z =
          let f : 2 * size (spells σ (λ i. s (suc i)) us) ≤ w + 4 =
          a.scoped (λ i. s (suc i)) p (λ i n. z (suc i) (λ (e : suc i ≡ suc p). n (omega arith))) in
          let g : s 0 ≡ 0 = z 0 (λ (e : 0 ≡ suc p). omega arith) in
          rw g (omega (arith, size-append (spell σ t) (spells σ (λ i. s (suc i)) us)))

      masks : (m : ℕ) → 2 * size (masked σ m (t ▹ us)) ≤ v + w
      masks m =
          let f : 2 * size (masked σ (m / 2) us) ≤ w = a.masks (m / 2) in
          omega (arith, size-cond (eqb (m % 2) 1) (spell σ t), size-append (cond (eqb (m % 2) 1) (spell σ t) []) (masked σ (m / 2) us))

  size-led : (i p m : ℕ) (us : Terms) (w : ℕ) → Measured σ us w → 2 * size (masked σ m (join (params_from i p) us)) ≤ 4 * p + w
  size-led i zero m us w a = let f = a.masks m in omega arith
  size-led i (suc p) m us w a =
      let f : 2 * size (masked σ (m / 2) (join (params_from (suc i) p) us)) ≤ 4 * p + w = size-led (suc i) p (m / 2) us w a in
      let g : size (cond (eqb (m % 2) 1) (par i ∷ []) []) ≤ 2 = size-cond (eqb (m % 2) 1) (par i ∷ []) in
      omega (arith, size-append (cond (eqb (m % 2) 1) (par i ∷ []) []) (masked σ (m / 2) (join (params_from (suc i) p) us)))

  size-called : (outer n : ℕ) (us : Terms) (w : ℕ) → Measured σ us w → 2 * size (spell σ (called outer n us)) ≤ 4 + 4 * outer + w
  size-called outer n us w a =
      let f : 2 * size (masked σ (mask_of (σ n)) (join (params_from 0 outer) us)) ≤ 4 * outer + w = size-led 0 outer (mask_of (σ n)) us w a in
      let g : size (call_head (σ n) n) ≤ 2 = size-cond (ltb (σ n) alone_shape) (call n ∷ []) in
      omega (arith, size-append (call_head (σ n) n) (masked σ (mask_of (σ n)) (join (params_from 0 outer) us)))

  bound-place : (b : Binder) → (p : ℕ) × ((i : ℕ) → (i ≡ p → ⊥) → binds_in b i ≡ 0)
  bound-place plain = (0, λ i n. refl)
  bound-place (in_body l) = (0, at)
    where
      at : (i : ℕ) → (i ≡ 0 → ⊥) → binds_in (in_body l) i ≡ 0
      at zero n = absurd (n refl)
      at (suc i) n = refl
  bound-place (set_then_body l) = (1, at)
    where
      at : (i : ℕ) → (i ≡ 1 → ⊥) → binds_in (set_then_body l) i ≡ 0
      at zero n = refl
      at (suc zero) n = absurd (n refl)
      at (suc (suc i)) n = refl

  module _ (decls : Declarations) (P : Setting) (outer-few : P.outer ≤ max_arity) where
    size-declared : (l r : ℕ) (us : Terms) (w : ℕ) → Measured σ us w → 2 * size (spell σ (declared_in decls l P.outer r us)) ≤ 4 * growth + w
    size-declared zero r us w a = let f = a.flat (binds_in plain) (λ i. refl) in omega arith
    size-declared (suc l) r us w a = let f = size-called P.outer (stand_in (suc l) r) us w a in omega arith

    size-named : (r : ℕ) (us : Terms) (w : ℕ) → Measured σ us w → 2 * size (spell σ (named_in decls P r us)) ≤ 4 * growth + w
    size-named r us w a = go (ltb r max_definitions)
      where
        go : (b : Bool) → 2 * size (spell σ (cond b (called P.outer (get_or P.numbers r 0) us) (declared_in decls P.level P.outer r us))) ≤ 4 * growth + w
        go true = let f = size-called P.outer (get_or P.numbers r 0) us w a in omega arith
        go false = size-declared P.level r us w a

    params-measured : (i p : ℕ) → Measured σ (params_from i p) (4 * p)
    params-measured i zero = measured-none
    params-measured i (suc p) =
        subst (Measured σ (params_from i (suc p))) (omega arith) (measured-more (node (param i) ⟨⟩) (params_from (suc i) p) 4 (4 * p) (omega arith) (params-measured (suc i) p))

    -- what a name implies is short
    pub implied-short : (p k r : ℕ) → size (spell σ (implied_in decls P p k r)) ≤ 2 * growth + 2 * k
    implied-short p k r = let f = size-named r (params_from (P.outer + p) k) (4 * k) (params-measured (P.outer + p) k) in omega arith

    module _ (look : ℕ → Token → ℕ) where
      size-token : (at : ℕ) (t : Token) (us : Terms) (w : ℕ) → Measured σ us w → 2 * size (spell σ (token_in look decls P at t us)) ≤ growth * width_of t + w
      size-token at (Parameter i) us w a = omega arith
      size-token at (Bound j) us w a = omega arith
      size-token at (Name n k) us w a = let f = size-named (look at (Name n k)) us w a in omega arith
      size-token at (InstanceOperator i n k) us w a = let f = size-named (look at (InstanceOperator i n k)) us w a in omega arith
      size-token at (BuiltIn c) us w a =
          let p = bound-place (code_binder c) in
          let f : 2 * size (spells σ (binds_in (code_binder c)) us) ≤ w + 4 = a.scoped (binds_in (code_binder c)) p.0 p.1 in
          omega arith
      size-token at (Literal v) us w a = omega arith

      mutual
        size-string : (t : Expr) → 2 * size (spell σ (term_in look decls P t)) ≤ growth * bytes_in t
        size-string (node h ts) =
            let f : 2 * size (spell σ (token_in look decls P h.at h.token (terms_in look decls P ts))) ≤ growth * width_of h.token + growth * bytes_in_all ts =
            size-token h.at h.token (terms_in look decls P ts) (growth * bytes_in_all ts) (size-strings ts) in
            omega arith

        size-strings : (ts : Exprs) → Measured σ (terms_in look decls P ts) (growth * bytes_in_all ts)
        size-strings ⟨⟩ = measured-none
        size-strings (t ▹ ts) =
            subst (Measured σ (terms_in look decls P (t ▹ ts))) (omega arith)
            (measured-more (term_in look decls P t) (terms_in look decls P ts) (growth * bytes_in t) (growth * bytes_in_all ts) (size-string t) (size-strings ts))

      pub text-short : (n : ℕ) (s : List ℕ) (at : ℕ) (t : Expr) (e : ℕ) → expr_at n s at ≡ found t e → 2 * size (spell σ (term_in look decls P t)) ≤ growth * (e - at)
      text-short n s at t e p =
          let q = text-ends n s at t e p in
          let f : 2 * size (spell σ (term_in look decls P t)) ≤ growth * bytes_in t = size-string t in
          omega (arith, q)
