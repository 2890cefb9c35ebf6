-- The bytes of a string whose tokens were read from bytes.
use mathlib.Core.Bool.{Bool, cond, false, true}
use mathlib.Core.List.{List, [], ◌∷◌}
use mathlib.Core.Path.{◌∙◌, ◌≡◌, ap, refl, subst}
use Prim.Native.Nat.{ℕ, zero, suc, ◌+◌, ◌-◌, ◌/◌, ◌%◌, ◌<◌}
use native.Mathlib.Omega.{arith}
use lib.Dec.{eqb, ltb}
use lib.ListN.{get_or}
use Rattle.limits.specs.Limits.{max_definitions}
use Rattle.theory.proofs.Lists.{append-all}
use Rattle.theory.specs.Expand.{params_from}
use Rattle.theory.specs.Level.{binds_in, code_binder, plain}
use Rattle.theory.specs.Lists.{All}
use Rattle.theory.specs.Term.{Terms}
use Rattle.theory.specs.Tree.{◌▹◌, count, join, node, ⟨⟩}
use Rattle.rows.specs.Rows.{arity_of, no_code}
use Rattle.tokens.specs.Token.{arguments_of, number_at, tagged_at, token_at, width_of}
use Rattle.tokens.specs.Expr.{Expr, Exprs, Found, Founds, after, before, expr_at, found, founds, none, nones, over, several}
use Rattle.tokens.specs.declared.Token.{Token}
use Rattle.tokens.specs.declared.Token.TheVariants.{BuiltIn, Bound, InstanceOperator, Literal, Name, Parameter}
use Rattle.tokens.proofs.Places.{Each, cases, each_fitting, each_none, each_some}
use Rattle.tokens.proofs.Reading.{heads}
use Rattle.texts.specs.Text.{Declarations, no_declaration}
use Rattle.symbols.specs.Symbol.{Symbol, begin, bytes_of, call, code, end, name, number, par, symbol_bytes, var}
use Rattle.symbols.specs.Spell.{alone_shape, bracketed, call_head, mask_of, masked, spell, spells}
use Rattle.unfolding.specs.InWorld.{Setting, called, declared_in, named_in, stand_in, term_in, terms_in, token_in}
use Rattle.spelling.specs.Strings.{Bytes, Narrow, narrow}

-- numbers that bytes hold
abbrev pub small : Symbol → Type 0
small (par i) = Unit {0}
small (var j) = j < 65536
small (name x k) = (x < 65536) × (k < 256)
small (code c) = c < 256
small (number v) = v < 65536
small (call n) = Unit {0}
small begin = Unit {0}
small end = Unit {0}

symbol-bytes : (g : Symbol) → small g → narrow g → All (λ b. b < 256) (symbol_bytes g)
symbol-bytes (par i) s n = (omega arith, (n, tt))
symbol-bytes (var j) s n = (omega arith, (omega arith, (omega arith, tt)))
symbol-bytes (name x k) s n = (omega arith, (omega arith, (omega arith, (s.1, tt))))
symbol-bytes (code c) s n = (omega arith, (s, tt))
symbol-bytes (number v) s n = (omega arith, (omega arith, (omega arith, tt)))
symbol-bytes (call k) s n = (omega arith, (omega arith, tt))
symbol-bytes begin s n = (omega arith, tt)
symbol-bytes end s n = (omega arith, tt)

pub small_bytes : (gs : List Symbol) → All small gs → Narrow gs → Bytes gs
small_bytes [] s n = tt
small_bytes (g ∷ gs) s n = append-all (λ b. b < 256) (symbol_bytes g) (bytes_of gs) (symbol-bytes g s.0 n.0) (small_bytes gs s.1 n.1)

-- a token of bytes
abbrev Small : Token → Type 0
Small (Parameter i) = Unit {0}
Small (Bound j) = j < 65536
Small (Name n k) = k < 256
Small (InstanceOperator i n k) = k < 256
Small (BuiltIn c) = c < 256
Small (Literal v) = v < 65536

module _ (s : List ℕ) (bytes : (i : ℕ) → get_or s i 0 < 256) where
  two-small : (i : ℕ) → number_at s i < 65536
  two-small i = let a = bytes i in let b = bytes (i + 1) in omega arith

  small-tagged : (at tag : ℕ) → Each Small (tagged_at s at tag)
  unfolding tagged_at
  small-tagged at tag =
      let n = number_at s (at + 1) in
      let m = number_at s (at + 3) in
      let c = get_or s (at + 1) 0 in
      cases (Each Small) (eqb tag 0) (λ _. each_some Small (Parameter c) tt)
      (λ _. cases (Each Small) (eqb tag 1) (λ _. each_some Small (Bound n) (two-small (at + 1)))
      (λ _. cases (Each Small) (eqb tag 2)
      (λ _. cases (Each Small) (eqb n 0) (λ _. each_none Small) (λ _. each_some Small (Name n (get_or s (at + 3) 0)) (bytes (at + 3))))
      (λ _. cases (Each Small) (eqb tag 3)
      (λ _. cases (Each Small) (eqb n 0) (λ _. each_none Small)
      (λ _. cases (Each Small) (eqb m 0) (λ _. each_none Small) (λ _. each_some Small (InstanceOperator n m (get_or s (at + 5) 0)) (bytes (at + 5)))))
      (λ _. cases (Each Small) (eqb tag 4)
      (λ _. cases (Each Small) (eqb (arity_of c) no_code) (λ _. each_none Small) (λ e. each_some Small (BuiltIn c) (bytes (at + 1))))
      (λ _. cases (Each Small) (eqb tag 5) (λ _. each_some Small (Literal n) (two-small (at + 1))) (λ _. each_none Small))))))

  small_at : (at : ℕ) → Each Small (token_at s at)
  unfolding token_at
  small_at at = each_fitting Small s at (tagged_at s at (get_or s at 0)) (small-tagged at (get_or s at 0))

-- the tokens of a text are such, with their arguments
abbrev mutual
  pub SmallText : Expr → Type 0
  SmallText (node h ts) = Small h.token × (count ts ≡ arguments_of h.token) × SmallTexts ts

  pub SmallTexts : Exprs → Type 0
  SmallTexts ⟨⟩ = Unit {0}
  SmallTexts (t ▹ ts) = SmallText t × SmallTexts ts

abbrev SmallFound : Found → Type 0
SmallFound (found t e) = SmallText t
SmallFound none = Unit {0}

abbrev SmallFounds : ℕ → Founds → Type 0
SmallFounds k (founds ts e) = (count ts ≡ k) × SmallTexts ts
SmallFounds k nones = Unit {0}

small-before : (k : ℕ) (t : Expr) (g : Founds) → SmallText t → SmallFounds k g → SmallFounds (suc k) (before t g)
small-before k t (founds ts e) a b = (ap suc b.0, (a, b.1))
small-before k t nones a b = tt

small-after : (k : ℕ) (f : Found) (rest : ℕ → Founds) → SmallFound f → ((e : ℕ) → SmallFounds k (rest e)) → SmallFounds (suc k) (after f rest)
small-after k (found t e) rest a b = small-before k t (rest e) a (b e)
small-after k none rest a b = tt

small-several : (f : ℕ → Found) → ((p : ℕ) → SmallFound (f p)) → (at k : ℕ) → SmallFounds k (several f at k)
small-several f h at zero = (refl, tt)
small-several f h at (suc k) = small-after k (f at) (λ e. several f e k) (h at) (λ e. small-several f h e k)

small-over : (at : ℕ) (t : Token) (g : Founds) → Small t → SmallFounds (arguments_of t) g → SmallFound (over at t g)
small-over at t (founds ts e) a b = (a, b.0, b.1)
small-over at t nones a b = tt

small-found : (s : List ℕ) → ((i : ℕ) → get_or s i 0 < 256) → (n at : ℕ) → SmallFound (expr_at n s at)
unfolding expr_at
small-found s bytes zero at = tt
small-found s bytes (suc n) at =
    let follow : Token → Founds = λ t. several (expr_at n s) (at + width_of t) (arguments_of t) in
    heads SmallFound at (token_at s at) follow
    (λ t e. small-over at t (follow t) (small_at s bytes at t e) (small-several (expr_at n s) (small-found s bytes n) (at + width_of t) (arguments_of t)))
    (λ e. tt)

pub small-text : (s : List ℕ) → ((i : ℕ) → get_or s i 0 < 256) → (n at : ℕ) (t : Expr) (e : ℕ) → expr_at n s at ≡ found t e → SmallText t
small-text s bytes n at t e p = subst SmallFound p (small-found s bytes n at)

pub count-params : (i p : ℕ) → count (params_from i p) ≡ p
count-params i zero = refl
count-params i (suc p) = ap suc (count-params (suc i) p)

-- argument lists of such strings
record SmallParts (σ : ℕ → ℕ) (us : Terms) : Type 0 where
  plainly : (s : ℕ → ℕ) → All small (spells σ s us)
  masks : (m : ℕ) → All small (masked σ m us)

module _ (σ : ℕ → ℕ) where
  small-bracketed : (n : ℕ) (gs : List Symbol) → All small gs → All small (bracketed n gs)
  small-bracketed zero gs a = a
  small-bracketed (suc n) gs a = (tt, append-all small gs (end ∷ []) a (tt, tt))

  small-cond : (b : Bool) (gs : List Symbol) → All small gs → All small (cond b gs [])
  small-cond true gs a = a
  small-cond false gs a = tt

  small-head : (h n : ℕ) → All small (call_head h n)
  small-head h n = small-cond (ltb h alone_shape) (call n ∷ []) (tt, tt)

  small-after-params : (i p m : ℕ) (us : Terms) → SmallParts σ us → All small (masked σ m (join (params_from i p) us))
  small-after-params i zero m us a = a.masks m
  small-after-params i (suc p) m us a =
      append-all small (cond (eqb (m % 2) 1) (par i ∷ []) []) (masked σ (m / 2) (join (params_from (suc i) p) us)) (small-cond (eqb (m % 2) 1) (par i ∷ []) (tt, tt))
      (small-after-params (suc i) p (m / 2) us a)

  small-called : (outer n : ℕ) (us : Terms) → SmallParts σ us → All small (spell σ (called outer n us))
  small-called outer n us a =
      append-all small (call_head (σ n) n) (masked σ (mask_of (σ n)) (join (params_from 0 outer) us)) (small-head (σ n) n) (small-after-params 0 outer (mask_of (σ n)) us a)

  module _ (decls : Declarations) (P : Setting) (named : (d : ℕ) → (get_or decls d no_declaration).1 < 65536) where
    small-declared : (l outer r : ℕ) (us : Terms) → SmallParts σ us → count us < 256 → All small (spell σ (declared_in decls l outer r us))
    small-declared zero outer r us a k = ((named (r - max_definitions), k), a.plainly (binds_in plain))
    small-declared (suc l) outer r us a k = small-called outer (stand_in (suc l) r) us a

    small-named : (r : ℕ) (us : Terms) → SmallParts σ us → count us < 256 → All small (spell σ (named_in decls P r us))
    small-named r us a k = go (ltb r max_definitions)
      where
        go : (b : Bool) → All small (spell σ (cond b (called P.outer (get_or P.numbers r 0) us) (declared_in decls P.level P.outer r us)))
        go true = small-called P.outer (get_or P.numbers r 0) us a
        go false = small-declared P.level P.outer r us a k

    -- parameters alone
    params_small : (i p : ℕ) → SmallParts σ (params_from i p)
    params_small i zero = record { plainly = λ s. tt; masks = λ m. tt }
    params_small i (suc p) =
        let a = params_small (suc i) p in
        record {
          plainly = λ s. append-all small (bracketed (s 0) (par i ∷ [])) (spells σ (λ j. s (suc j)) (params_from (suc i) p)) (small-bracketed (s 0) (par i ∷ []) (tt, tt)) (a.plainly (λ j. s (suc j)));
          masks = λ m. append-all small (cond (eqb (m % 2) 1) (par i ∷ []) []) (masked σ (m / 2) (params_from (suc i) p)) (small-cond (eqb (m % 2) 1) (par i ∷ []) (tt, tt)) (a.masks (m / 2));
        }

    pub small-implied : (r i p : ℕ) → p < 256 → All small (spell σ (named_in decls P r (params_from i p)))
    small-implied r i p h = small-named r (params_from i p) (params_small i p) (rw (count-params i p) h)

    module _ (look : ℕ → Token → ℕ) where
      small-token : (at : ℕ) (t : Token) (us : Terms) → SmallParts σ us → Small t → count us ≡ arguments_of t → All small (spell σ (token_in look decls P at t us))
      small-token at (Parameter i) us a h k = (tt, tt)
      small-token at (Bound j) us a h k = (h, tt)
      small-token at (Name n m) us a h k = small-named (look at (Name n m)) us a (rw k h)
      small-token at (InstanceOperator i n m) us a h k = small-named (look at (InstanceOperator i n m)) us a (rw k h)
      small-token at (BuiltIn c) us a h k = (h, a.plainly (binds_in (code_binder c)))
      small-token at (Literal v) us a h k = (h, tt)

      count-terms : (ts : Exprs) → count (terms_in look decls P ts) ≡ count ts
      count-terms ⟨⟩ = refl
      count-terms (t ▹ ts) = ap suc (count-terms ts)

      mutual
        pub small-string : (t : Expr) → SmallText t → All small (spell σ (term_in look decls P t))
        small-string (node h ts) (a, k, b) = small-token h.at h.token (terms_in look decls P ts) (small-strings ts b) a (count-terms ts ∙ k)

        small-strings : (ts : Exprs) → SmallTexts ts → SmallParts σ (terms_in look decls P ts)
        small-strings ⟨⟩ u = record { plainly = λ s. tt; masks = λ m. tt }
        small-strings (t ▹ ts) (a, b) =
            let f : All small (spell σ (term_in look decls P t)) = small-string t a in
            let g : SmallParts σ (terms_in look decls P ts) = small-strings ts b in
            record {
              plainly = λ s. append-all small (bracketed (s 0) (spell σ (term_in look decls P t))) (spells σ (λ j. s (suc j)) (terms_in look decls P ts)) (small-bracketed (s 0) (spell σ (term_in look decls P t)) f) (g.plainly (λ j. s (suc j)));
              masks = λ m. append-all small (cond (eqb (m % 2) 1) (spell σ (term_in look decls P t)) []) (masked σ (m / 2) (terms_in look decls P ts)) (small-cond (eqb (m % 2) 1) (spell σ (term_in look decls P t)) f) (g.masks (m / 2));
            }
