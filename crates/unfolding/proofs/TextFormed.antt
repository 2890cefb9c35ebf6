-- A text brought to a world, as a term with calls: it is well formed, and what it calls. At level 0 it is the text itself.
use borrow.Author.Tests.{ltb-false}
use mathlib.Core.Bool.{Bool, cond, false, true}
use mathlib.Core.List.{List, [], ◌∷◌}
use mathlib.Core.Option.{Option, some}
use mathlib.Core.Path.{◌∙◌, ◌≡◌, ap, ap₂, refl, subst, sym}
use lib.Dec.{ltb}
use lib.ListN.{get_or, length}
use native.Mathlib.Nat.{zero-add}
use native.Mathlib.Omega.{arith}
use Prim.Native.Nat.{◌+◌, ◌-◌, ◌≤◌, suc, zero, ℕ}
use Rattle.limits.specs.Limits.{max_definitions}
use Rattle.theory.proofs.Later.{every-weaken}
use Rattle.theory.proofs.Substitution.{count-join, count-params}
use Rattle.theory.specs.Expand.{params_from}
use Rattle.theory.specs.Level.{binds_in, plain}
use Rattle.theory.specs.Term.{Arities, Every, Everys, Fits, Head, Kind, Term, Terms, WellFormed, binder, declared, defined, kind_arity, param}
use Rattle.theory.specs.Tree.{◌▹◌, count, join, map_trees, node, ⟨⟩}
use Rattle.tokens.specs.Expr.{Expr, Exprs, Placed}
use Rattle.tokens.specs.declared.Token.{Token}
use Rattle.tokens.specs.declared.Token.TheVariants.{BuiltIn, Bound, InstanceOperator, Literal, Name, Parameter}
use Rattle.texts.specs.Text.{Declarations, no_declaration, ref_head, shown, token_head}
use Rattle.worlds.specs.World.{AnyName, HeadMentions, Uses, World, number_in, params_in}
use Rattle.entering.specs.Numbering.{ShowsNumbers}
use Rattle.entering.specs.Shows.{OneOf, Resolved, TextNames, TextsName, TokenNames}
use Rattle.unfolding.specs.InWorld.{Setting, by_refs, called, declared_in, implied_in, named_in, stand_in, term_in, terms_in, token_in}
use Rattle.unfolding.specs.StandIn.{place_at}

-- a head may stand there, and what it calls has C
abbrev CalledFits : Arities → (ℕ → Type 0) → ℕ → ℕ → Head → ℕ → Type 0
CalledFits ar C n k h m = Fits ar n k h m × HeadMentions AnyName C k h m

everys-join : (Q : ℕ → Head → ℕ → Type 0) (k : ℕ) (ts us : Terms) → Everys Q k (binds_in plain) ts → Everys Q k (binds_in plain) us → Everys Q k (binds_in plain) (join ts us)
everys-join Q k ⟨⟩ us a b = b
everys-join Q k (t ▹ ts) us a b = (a.0, everys-join Q k ts us a.1 b)

params_fit : (ar : Arities) (C : ℕ → Type 0) (n k i p : ℕ) → i + p ≤ n → Everys (CalledFits ar C n) k (binds_in plain) (params_from i p)
params_fit ar C n k i zero h = tt
params_fit ar C n k i (suc p) h = ((((omega arith, refl), tt), tt), params_fit ar C n k (suc i) p (omega arith))

called-fits : (ar : Arities) (C : ℕ → Type 0) (p n k g m : ℕ) (ts : Terms) → ar g ≡ some (p + m) → C g → count ts ≡ m
    → Everys (CalledFits ar C (p + n)) k (binds_in plain) ts → Every (CalledFits ar C (p + n)) k (called p g ts)
called-fits ar C p n k g m ts e c q a = (
  (e ∙ ap {B = Option ℕ} some (sym (count-join (params_from 0 p) ts ∙ ap₂ ◌+◌ (count-params 0 p) q)), c),
  everys-join (CalledFits ar C (p + n)) k (params_from 0 p) ts (params_fit ar C (p + n) k 0 p (omega arith)) a,
)

-- what stands for the declarations in N may be called, at the instances' parameters and then the name's arguments
abbrev pub StandInsKnown : Arities → (ℕ → Type 0) → Declarations → (ℕ → Type 0) → World → Type 0
StandInsKnown ar C decls N [] = Unit {0}
StandInsKnown ar C decls N (l ∷ w) =
    (e : ℕ) → N e
    → (ar (stand_in (length (l ∷ w)) (max_definitions + e)) ≡ some (params_in (l ∷ w) + kind_arity (get_or decls e no_declaration).0))
    × C (stand_in (length (l ∷ w)) (max_definitions + e))

declared-fits : (ar : Arities) (C : ℕ → Type 0) (decls : Declarations) (N : ℕ → Type 0) (w : World) → StandInsKnown ar C decls N w → (n k r : ℕ) (ts : Terms)
    → max_definitions ≤ r → N (r - max_definitions) → count ts ≡ kind_arity (get_or decls (r - max_definitions) no_declaration).0
    → Everys (CalledFits ar C (params_in w + n)) k (binds_in plain) ts
    → Every (CalledFits ar C (params_in w + n)) k (declared_in decls (length w) (params_in w) r ts)
declared-fits ar C decls N [] st n k r ts h i q a = ((q, tt), a)
declared-fits ar C decls N (l ∷ w) st n k r ts h i q a =
    let e = r - max_definitions in
    let z : max_definitions + e ≡ r = omega arith in
    let y = st e i in
    called-fits ar C (params_in (l ∷ w)) n k (stand_in (length (l ∷ w)) r) (kind_arity (get_or decls e no_declaration).0) ts
    (subst (λ (x : ℕ). ar (stand_in (length (l ∷ w)) x) ≡ some (params_in (l ∷ w) + kind_arity (get_or decls e no_declaration).0)) z y.0)
    (subst (λ (x : ℕ). C (stand_in (length (l ∷ w)) x)) z y.1) q a

module _ (refs : List ℕ) (decls : Declarations) (N F : ℕ → Type 0) (w : World) (numbers : List ℕ) (shows : ShowsNumbers F numbers w) where
  abbrev P : Setting
  P = place_at (length w) (params_in w) numbers

  abbrev head_of : Placed → Head
  head_of h = token_head refs decls h.at h.token

  count-shown : (ts : Exprs) → count (terms_in (by_refs refs) decls P ts) ≡ count (map_trees head_of ts)
  count-shown ⟨⟩ = refl
  count-shown (t ▹ ts) = ap suc (count-shown ts)

  module _ (ar ar' : Arities) (C : ℕ → Type 0) (known : (r m : ℕ) → F r → ar r ≡ some m → ar' (number_in w r) ≡ some (params_in w + m)) (may : (r : ℕ) → F r → C (number_in w r))
      (stand : StandInsKnown ar' C decls N w) (n : ℕ) where
    abbrev Q : ℕ → Head → ℕ → Type 0
    Q = CalledFits ar' C (params_in w + n)

    named-fits : (r : ℕ) → Resolved N F r → (k m : ℕ) (ts : Terms) → Fits ar n k (ref_head decls r) m → count ts ≡ m
        → Everys Q k (binds_in plain) ts → Every Q k (named_in decls P r ts)
    named-fits r h k m ts f q a = go (ltb r max_definitions) refl h f
      where
        go : (b : Bool) → ltb r max_definitions ≡ b → OneOf b N F r
            → Fits ar n k (cond b (defined r) (declared (get_or decls (r - max_definitions) no_declaration).0 (get_or decls (r - max_definitions) no_declaration).1)) m
            → Every Q k (cond b (called (params_in w) (get_or numbers r 0) ts) (declared_in decls (length w) (params_in w) r ts))
        go true e i f =
            subst (λ (g : ℕ). Every Q k (called (params_in w) g ts)) (sym (shows.each r i))
            (called-fits ar' C (params_in w) n k (number_in w r) m ts (known r m i f) (may r i) q a)
        go false e i f = declared-fits ar' C decls N w stand n k r ts (ltb-false r max_definitions e) i (q ∙ f) a

    plain-ref : (r k : ℕ) (ts : Terms) → Everys Q k (binds_in (binder (ref_head decls r))) ts → Everys Q k (binds_in plain) ts
    plain-ref r k ts a = go (ltb r max_definitions) a
      where
        go : (b : Bool)
            → Everys Q k (binds_in (binder (cond b (defined r) (declared (get_or decls (r - max_definitions) no_declaration).0 (get_or decls (r - max_definitions) no_declaration).1)))) ts
            → Everys Q k (binds_in plain) ts
        go true a = a
        go false a = a

    token-fits : (t : Token) (at k : ℕ) (ts : Terms) (m : ℕ) → TokenNames N F refs at t → Fits ar n k (token_head refs decls at t) m → count ts ≡ m
        → Everys Q k (binds_in (binder (token_head refs decls at t))) ts → Every Q k (token_in (by_refs refs) decls P at t ts)
    token-fits (Parameter i) at k ts m h f q a = (((omega (arith, f.0), q ∙ f.1), tt), a)
    token-fits (Bound j) at k ts m h f q a = (((f.0, q ∙ f.1), tt), a)
    token-fits (Name x j) at k ts m h f q a = named-fits (get_or refs at 0) h k m ts f q (plain-ref (get_or refs at 0) k ts a)
    token-fits (InstanceOperator i x j) at k ts m h f q a = named-fits (get_or refs at 0) h k m ts f q (plain-ref (get_or refs at 0) k ts a)
    token-fits (BuiltIn c) at k ts m h f q a = ((f ∙ ap {B = Option ℕ} some (sym q), tt), a)
    token-fits (Literal v) at k ts m h f q a = ((q ∙ f, tt), a)

    mutual
      term_fits : (t : Expr) (k : ℕ) → TextNames N F refs t → Every (Fits ar n) k (shown refs decls t) → Every Q k (term_in (by_refs refs) decls P t)
      term_fits (node h ts) k m f =
          token-fits h.token h.at k (terms_in (by_refs refs) decls P ts) (count (map_trees head_of ts)) m.0 f.0 (count-shown ts)
          (terms-fit ts k (binds_in (binder (head_of h))) m.1 f.1)

      terms-fit : (ts : Exprs) (k : ℕ) (s : ℕ → ℕ) → TextsName N F refs ts → Everys (Fits ar n) k s (map_trees head_of ts) → Everys Q k s (terms_in (by_refs refs) decls P ts)
      terms-fit ⟨⟩ k s m f = tt
      terms-fit (t ▹ ts) k s m f = (term_fits t (s 0 + k) m.0 f.0, terms-fit ts k (λ i. s (suc i)) m.1 f.1)

    formed-of : (t : Term) → Every Q 0 t → WellFormed ar' (params_in w + n) 0 t
    formed-of t a = every-weaken Q (Fits ar' (params_in w + n)) (λ k h m x. x.0) t 0 a

    calls-of : (t : Term) → Every Q 0 t → Uses C t
    calls-of t a = every-weaken Q (HeadMentions AnyName C) (λ k h m x. x.1) t 0 a

    -- A well formed text is well formed where it has been brought,
    pub text-formed : (t : Expr) → TextNames N F refs t → WellFormed ar n 0 (shown refs decls t) → WellFormed ar' (params_in w + n) 0 (term_in (by_refs refs) decls P t)
    text-formed t m f = formed-of (term_in (by_refs refs) decls P t) (term_fits t 0 m f)

    -- and calls only what may be called there;
    pub text-calls : (t : Expr) → TextNames N F refs t → WellFormed ar n 0 (shown refs decls t) → Uses C (term_in (by_refs refs) decls P t)
    text-calls t m f = calls-of (term_in (by_refs refs) decls P t) (term_fits t 0 m f)

    implied-fits : (p : ℕ) (k : Kind) (r : ℕ) → n ≡ p + kind_arity k → Resolved N F r → Fits ar n 0 (ref_head decls r) (kind_arity k)
        → Every Q 0 (implied_in decls P p (kind_arity k) r)
    implied-fits p k r e h f =
        named-fits r h 0 (kind_arity k) (params_from (params_in w + p) (kind_arity k)) f (count-params (params_in w + p) (kind_arity k))
        (params_fit ar' C (params_in w + n) 0 (params_in w + p) (kind_arity k) (omega arith))

    -- and so a name that stands for itself.
    pub implied-formed : (p : ℕ) (k : Kind) (r : ℕ) → n ≡ p + kind_arity k → Resolved N F r → Fits ar n 0 (ref_head decls r) (kind_arity k)
        → WellFormed ar' (params_in w + n) 0 (implied_in decls P p (kind_arity k) r)
    implied-formed p k r e h f = formed-of (implied_in decls P p (kind_arity k) r) (implied-fits p k r e h f)

    pub implied-calls : (p : ℕ) (k : Kind) (r : ℕ) → n ≡ p + kind_arity k → Resolved N F r → Fits ar n 0 (ref_head decls r) (kind_arity k)
        → Uses C (implied_in decls P p (kind_arity k) r)
    implied-calls p k r e h f = calls-of (implied_in decls P p (kind_arity k) r) (implied-fits p k r e h f)

-- Where no instance has brought it, the term is the one that the text shows.
module _ (refs : List ℕ) (decls : Declarations) (N F : ℕ → Type 0) (numbers : List ℕ) (each : (r : ℕ) → F r → get_or numbers r 0 ≡ r) where
  named-shown : (r : ℕ) → Resolved N F r → (ts : Terms) → named_in decls (place_at 0 0 numbers) r ts ≡ node (ref_head decls r) ts
  named-shown r h ts = go (ltb r max_definitions) h
    where
      go : (b : Bool) → OneOf b N F r
          → cond b (called 0 (get_or numbers r 0) ts) (declared_in decls 0 0 r ts)
          ≡ node (cond b (defined r) (declared (get_or decls (r - max_definitions) no_declaration).0 (get_or decls (r - max_definitions) no_declaration).1)) ts
      go true i = ap (λ (g : ℕ). node (defined g) ts) (each r i)
      go false i = refl

  token-shown : (t : Token) (at : ℕ) (ts : Terms) → TokenNames N F refs at t → token_in (by_refs refs) decls (place_at 0 0 numbers) at t ts ≡ node (token_head refs decls at t) ts
  token-shown (Parameter i) at ts h = ap (λ (j : ℕ). node (param j) ts) (zero-add i)
  token-shown (Bound j) at ts h = refl
  token-shown (Name x k) at ts h = named-shown (get_or refs at 0) h ts
  token-shown (InstanceOperator i x k) at ts h = named-shown (get_or refs at 0) h ts
  token-shown (BuiltIn c) at ts h = refl
  token-shown (Literal v) at ts h = refl

  mutual
    pub text-shown : (t : Expr) → TextNames N F refs t → term_in (by_refs refs) decls (place_at 0 0 numbers) t ≡ shown refs decls t
    text-shown (node h ts) n =
        token-shown h.token h.at (terms_in (by_refs refs) decls (place_at 0 0 numbers) ts) n.0
        ∙ ap (node (token_head refs decls h.at h.token)) (texts-shown ts n.1)

    texts-shown : (ts : Exprs) → TextsName N F refs ts → terms_in (by_refs refs) decls (place_at 0 0 numbers) ts ≡ map_trees (λ (h : Placed). token_head refs decls h.at h.token) ts
    texts-shown ⟨⟩ n = refl
    texts-shown (t ▹ ts) n = ap₂ ◌▹◌ (text-shown t n.0) (texts-shown ts n.1)
