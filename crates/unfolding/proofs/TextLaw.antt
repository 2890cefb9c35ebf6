-- A text brought to a world, as a term with calls, means what the text means in the world.
use borrow.Author.Tests.{ltb-false}
use mathlib.Core.Bool.{Bool, cond, false, true}
use mathlib.Core.List.{List, [], ◌++◌, ◌∷◌}
use mathlib.Core.Path.{◌∙◌, ◌≡◌, ap, ap₂, fun_ext, refl, sym}
use lib.Dec.{ltb}
use lib.ListN.{drop, get_or, length, replicate, take}
use lib.Seq.{drop_at, drop-cons, get_or-drop, length-take-le, take_at}
use native.Mathlib.Nat.{add-suc}
use native.Mathlib.Omega.{arith}
use Prim.Native.Nat.{◌+◌, ◌-◌, ◌<◌, ◌≤◌, suc, zero, ℕ}
use Rattle.limits.specs.Limits.{max_definitions}
use Rattle.theory.specs.Expand.{itself, params_from}
use Rattle.theory.specs.Level.{binds_in, plain}
use Rattle.theory.specs.Term.{Kind, Reading, Terms, declared, defined, eval, evals, kind_arity, with_defined}
use Rattle.theory.proofs.Values.{values}
use Rattle.theory.specs.Tree.{◌▹◌, join, map_trees, node, ⟨⟩}
use Rattle.tokens.specs.Expr.{Expr, Exprs, Placed}
use Rattle.tokens.specs.declared.Token.{Token}
use Rattle.tokens.specs.declared.Token.TheVariants.{BuiltIn, Bound, InstanceOperator, Literal, Name, Parameter}
use Rattle.texts.specs.Text.{Declarations, no_declaration, ref_head, shown, token_head}
use Rattle.worlds.specs.World.{World, eval_at, in_world, number_in, params_in, read_declared}
use Rattle.entering.specs.Numbering.{ShowsNumbers}
use Rattle.entering.specs.Shows.{OneOf, Resolved, TextNames, TextsName, TokenNames}
use Rattle.unfolding.specs.InWorld.{Setting, by_refs, called, declared_in, implied_in, named_in, stand_in, term_in, terms_in, token_in}
use Rattle.unfolding.specs.StandIn.{place_at}

module _ {A : Type 0} (R : Reading A) (us : List A) where
  values_join : (β : List A) (ts us' : Terms) → values R us β (join ts us') ≡ values R us β ts ++ values R us β us'
  values_join β ⟨⟩ us' = refl
  values_join β (t ▹ ts) us' = ap (λ (l : List A). eval R us β t ∷ l) (values_join β ts us')

  values-params : (β : List A) (i p : ℕ) → i + p ≤ length us → values R us β (params_from i p) ≡ take p (drop i us)
  values-params β i zero h = refl
  values-params β i (suc p) h =
      let there : i < length us = omega arith in
      rw (drop-cons us i R.unknown there) (ap (λ (l : List A). get_or us i R.unknown ∷ l) (values-params β (suc i) p (omega arith)))

  -- the instances' parameters before the arguments
  pub values-called : (β : List A) (p : ℕ) (ts : Terms) → p ≤ length us → values R us β (join (params_from 0 p) ts) ≡ take p us ++ values R us β ts
  values-called β p ts h =
      values_join β (params_from 0 p) ts ∙ ap (λ (l : List A). l ++ values R us β ts) (values-params β 0 p (omega arith))

-- what stands for the declarations in N where an instance has brought the text
abbrev pub StandIns : {A : Type 0} → Reading A → (ℕ → List A → A) → (ℕ → List A → A) → Declarations → (ℕ → Type 0) → World → Type 0
StandIns M G H decls N [] = Unit {0}
StandIns {A = A} M G H decls N (l ∷ w) =
    (e : ℕ) → N e → (vs : List A)
    → H (stand_in (length (l ∷ w)) (max_definitions + e)) vs
    ≡ read_declared M G (l ∷ w) (take (params_in (l ∷ w)) vs) (get_or decls e no_declaration).0 (get_or decls e no_declaration).1 (drop (params_in (l ∷ w)) vs)

module _ {A : Type 0} (M : Reading A) (G H : ℕ → List A → A) (decls : Declarations) (N : ℕ → Type 0) where
  declared-means : (w : World) → StandIns M G H decls N w → (us : List A) → params_in w ≤ length us → (β : List A) (r : ℕ) → max_definitions ≤ r → N (r - max_definitions)
      → (ts ts' : Terms) → values (with_defined M H) us β ts ≡ values (in_world M G w (take (params_in w) us)) (drop (params_in w) us) β ts'
      → eval (with_defined M H) us β (declared_in decls (length w) (params_in w) r ts)
      ≡ eval (in_world M G w (take (params_in w) us)) (drop (params_in w) us) β
      (node (declared (get_or decls (r - max_definitions) no_declaration).0 (get_or decls (r - max_definitions) no_declaration).1) ts')
  declared-means [] st us long β r h n ts ts' same =
      ap (M.on_declared (get_or decls (r - max_definitions) no_declaration).0 (get_or decls (r - max_definitions) no_declaration).1) same
  declared-means (l ∷ w) st us long β r h n ts ts' same =
      let p = params_in (l ∷ w) in
      let e = r - max_definitions in
      let vs = values (in_world M G (l ∷ w) (take p us)) (drop p us) β ts' in
      let k = (get_or decls e no_declaration).0 in
      let x = (get_or decls e no_declaration).1 in
      let pl : length (take p us) ≡ p = length-take-le p us long in
      ap₂ H (ap (stand_in (length (l ∷ w))) (omega arith)) (values-called (with_defined M H) us β p ts long ∙ ap (λ (m : List A). take p us ++ m) same)
      ∙ st e n (take p us ++ vs)
      ∙ ap₂ (λ (a b : List A). read_declared M G (l ∷ w) a k x b) (take_at (take p us) vs p pl) (drop_at (take p us) vs p pl)

module _ (refs : List ℕ) (decls : Declarations) (N F : ℕ → Type 0) (w : World) (numbers : List ℕ) (shows : ShowsNumbers F numbers w) where
  abbrev P : Setting
  P = place_at (length w) (params_in w) numbers

  module _ {A : Type 0} (M : Reading A) (G H : ℕ → List A → A) (same_defined : (r : ℕ) → F r → (vs : List A) → H (number_in w r) vs ≡ G (number_in w r) vs)
      (stand : StandIns M G H decls N w) (us : List A) (long : params_in w ≤ length us) where
    abbrev pre : List A
    pre = take (params_in w) us

    abbrev post : List A
    post = drop (params_in w) us

    abbrev R : Reading A
    R = with_defined M H

    abbrev R' : Reading A
    R' = in_world M G w pre

    named-means : (r : ℕ) → Resolved N F r → (β : List A) (ts ts' : Terms) → values R us β ts ≡ values R' post β ts'
        → eval R us β (named_in decls P r ts) ≡ eval R' post β (node (ref_head decls r) ts')
    named-means r h β ts ts' same = go (ltb r max_definitions) refl h
      where
        go : (b : Bool) → ltb r max_definitions ≡ b → OneOf b N F r
            → eval R us β (cond b (called (params_in w) (get_or numbers r 0) ts) (declared_in decls (length w) (params_in w) r ts))
            ≡ eval R' post β
            (node (cond b (defined r) (declared (get_or decls (r - max_definitions) no_declaration).0 (get_or decls (r - max_definitions) no_declaration).1)) ts')
        go true e f =
            ap₂ H (shows.each r f) (values-called R us β (params_in w) ts long ∙ ap (λ (m : List A). pre ++ m) same)
            ∙ same_defined r f (pre ++ values R' post β ts')
        go false e n = declared-means M G H decls N w stand us long β r (ltb-false r max_definitions e) n ts ts' same

    token-means : (t : Token) (at : ℕ) (β : List A) (ts ts' : Terms) → TokenNames N F refs at t
        → ((v : A) (s : ℕ → ℕ) → evals R us β v s ts ≡ evals R' post β v s ts')
        → eval R us β (token_in (by_refs refs) decls P at t ts) ≡ eval R' post β (node (token_head refs decls at t) ts')
    token-means (Parameter i) at β ts ts' n same = sym (get_or-drop (params_in w) us i M.unknown)
    token-means (Bound j) at β ts ts' n same = refl
    token-means (Name x k) at β ts ts' n same = named-means (get_or refs at 0) n β ts ts' (same M.unknown (binds_in plain))
    token-means (InstanceOperator i x k) at β ts ts' n same = named-means (get_or refs at 0) n β ts ts' (same M.unknown (binds_in plain))
    token-means (BuiltIn c) at β ts ts' n same = ap (M.on_builtin c) (fun_ext λ v. same v _)
    token-means (Literal v) at β ts ts' n same = refl

    mutual
      term-means : (t : Expr) (β : List A) → TextNames N F refs t → eval R us β (term_in (by_refs refs) decls P t) ≡ eval R' post β (shown refs decls t)
      term-means (node h ts) β n =
          token-means h.token h.at β (terms_in (by_refs refs) decls P ts) (map_trees (λ (h : Placed). token_head refs decls h.at h.token) ts) n.0
          (λ v s. terms-mean ts β v s n.1)

      terms-mean : (ts : Exprs) (β : List A) (v : A) (s : ℕ → ℕ) → TextsName N F refs ts
          → evals R us β v s (terms_in (by_refs refs) decls P ts)
          ≡ evals R' post β v s (map_trees (λ (h : Placed). token_head refs decls h.at h.token) ts)
      terms-mean ⟨⟩ β v s n = refl
      terms-mean (t ▹ ts) β v s n = ap₂ ◌∷◌ (term-means t (replicate (s 0) v ++ β) n.0) (terms-mean ts β v (λ i. s (suc i)) n.1)

    -- A text brought to the world, with its calls, means what it means in the world.
    pub text-means : (t : Expr) → TextNames N F refs t → eval R us [] (term_in (by_refs refs) decls P t) ≡ eval_at (in_world M G w) (params_in w) (shown refs decls t) us
    text-means t n = term-means t [] n

    params-mean : (i m : ℕ) → values R us [] (params_from (params_in w + i) m) ≡ values R' post [] (params_from i m)
    params-mean i zero = refl
    params-mean i (suc m) =
        ap₂ ◌∷◌ (sym (get_or-drop (params_in w) us i M.unknown))
        (ap (λ (j : ℕ). values R us [] (params_from j m)) (sym (add-suc (params_in w) i)) ∙ params-mean (suc i) m)

    -- And so does a name that stands for itself.
    pub implied-means : (p : ℕ) (k : Kind) (r : ℕ) → Resolved N F r
        → eval R us [] (implied_in decls P p (kind_arity k) r) ≡ eval_at (in_world M G w) (params_in w) (itself p k (ref_head decls r)) us
    implied-means p k r h = named-means r h [] (params_from (params_in w + p) (kind_arity k)) (params_from p (kind_arity k)) (params-mean p (kind_arity k))
