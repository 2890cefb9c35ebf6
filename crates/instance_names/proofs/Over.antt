-- Cause 5: the limits over the store are the rules'.
use borrow.Author.Tests.{le-ltb, ltb-true}
use mathlib.Core.Bool.{Bool, ◌||◌, cond, false, true}
use mathlib.Core.List.{List, [], ◌∷◌}
use mathlib.Core.Path.{◌∙◌, ◌≡◌, ap, ap₂, refl, sym}
use Prim.Native.Nat.{ℕ, ◌+◌, ◌≤◌, ◌<◌}
use native.Mathlib.Omega.{arith}
use lib.Dec.{ltb}
use lib.ListN.{get_or, length}
use Rattle.std.specs.Prelude.{None, Some, is_none}
use Rattle.limits.specs.Limits.{max_arity, max_definitions, max_nesting}
use Rattle.theory.specs.Lists.{All, any}
use Rattle.rules.specs.Expression.{over_arity, over_limit}
use Rattle.rules.specs.Field.{Substitution}
use Rattle.rules.specs.Instance.{arity_in, source}
use Rattle.rules.specs.Judge.{instance_over_limit, too_many_definitions}
use Rattle.rules.specs.State.{Module, State, params_of}
use Rattle.laws.proofs.Invariant.{Good}
use Rattle.tokens.specs.Expr.{expr_at}
use Rattle.tokens.specs.Limit.{kept_of, limit_at}
use Rattle.tokens.specs.Token.{number_at}
use Rattle.tokens.proofs.Nesting.{limited}
use Rattle.agree.specs.Parts.{SubstitutionsAt}
use Rattle.agree.proofs.Limits.{limits-agree}
use Rattle.context.specs.Holds.{Holds, module_no}
use Rattle.context.specs.Entries.{order_of}
use Rattle.store.specs.Store.{order_slot}
use Rattle.store.specs.declared.Store.{Store}
use Rattle.context.specs.declared.Counts.{Counts}
use Rattle.context.proofs.Room.{count_law, order-law, params-law}
use Rattle.judge_plain.proofs.Premises.{good-listed}
use Rattle.instance_names.specs.Causes.{site}
use Rattle.instance_names.specs.Sites.{definition_over, definitions_over, is_ended, module_over, over_limits, substitution_over, substitutions_over}
use Rattle.instance_names.specs.declared.Site.{Site}
use Rattle.instance_names.proofs.Modules.{arity-there, module-absent, module-there}
use Rattle.instance_names.proofs.Starts.{Stands, any-starts}

-- tests that agree on every element
pub any-all : {A : Type 0} (t u : A → Bool) (xs : List A) → All (λ a. t a ≡ u a) xs → any t xs ≡ any u xs
any-all t u [] h = refl
any-all t u (x ∷ xs) h = ap₂ ◌||◌ h.0 (any-all t u xs h.1)

all_from : {A : Type 0} (P Q : A → Type 0) → ((a : A) → P a → Q a) → (xs : List A) → All P xs → All Q xs
all_from P Q f [] h = tt
all_from P Q f (x ∷ xs) h = (f x h.0, all_from P Q f xs h.1)

passed-cond : (b : Bool) (e : ℕ) → is_none (cond b None (Some e)) ≡ b
passed-cond true e = refl
passed-cond false e = refl

in_order : (t p d b : Bool) → p || ((t || d) || b) ≡ t || p || d || b
in_order true true d b = refl
in_order true false true b = refl
in_order true false false b = refl
in_order false true d b = refl
in_order false false true b = refl
in_order false false false b = refl

-- the limits of the expression of a substitution
pub limit-law : (file : List ℕ) (end : ℕ) → end ≤ length file → (at : ℕ) (y : Substitution) → Stands file end at y → is_none (limit_at file (at + 4)) ≡ over_limit y.1
limit-law file end whole at y h =
    let l = number_at file (at + 2) in
    ap is_none (sym (limited file (at + 4) (kept_of (expr_at max_nesting file (at + 4))) refl)
    ∙ limits-agree file (at + 4) l y.1 (omega (arith, h.room)) h.read)
    ∙ passed-cond (over_limit y.1) (at + 4 + l)

module _ (v : Store) (c : Counts) (s : State) (holds : Holds v c s) (good : Good s) (p m k at : ℕ) where
  abbrev here : Site
  here = site v.heads c.modules p m k at

  abbrev M : Module
  M = source s m

  module _ (file : List ℕ) (end : ℕ) (whole : end ≤ length file) where
    pub substitution-law : (pos : ℕ) (y : Substitution) → Stands file end pos y
        → substitution_over file v.names v.facts v.contexts v.heads here pos ≡ (over_arity (p + arity_in M y.0) || over_limit y.1)
    unfolding substitution_over
    substitution-law pos y h =
        ap₂ ◌||◌
        (ap (λ (z : ℕ). ltb max_arity (p + z)) (arity-there v c s holds p m k at (number_at file pos) ∙ ap (arity_in M) h.name))
        (limit-law file end whole pos y h)

    pub substitutions-law : (ss : List Substitution) → SubstitutionsAt file at end ss
        → substitutions_over file v.names v.facts v.contexts v.heads here (length ss) at
        ≡ any (λ (y : Substitution). over_arity (p + arity_in M y.0) || over_limit y.1) ss
    unfolding substitutions_over
    substitutions-law ss h =
        any-starts file end whole (substitution_over file v.names v.facts v.contexts v.heads here)
        (λ (y : Substitution). over_arity (p + arity_in M y.0) || over_limit y.1) substitution-law ss at h

  definitions-law : (gs : List ℕ) → All (λ g. g < c.definitions) gs → definitions_over v.facts p gs ≡ any (λ g. over_arity (p + params_of s g)) gs
  unfolding definitions_over definition_over
  definitions-law gs h =
      any-all (definition_over v.facts p) (λ g. over_arity (p + params_of s g)) gs
      (all_from (λ g. g < c.definitions) (λ g. definition_over v.facts p g ≡ over_arity (p + params_of s g))
      (λ g l. ap (λ (z : ℕ). ltb max_arity (p + z)) (params-law v c s holds g l)) gs h)

  pub module-law : module_over v.facts v.orders v.heads here c.definitions
      ≡ (too_many_definitions s (length M.definitions) || any (λ g. over_arity (p + params_of s g)) M.definitions)
  unfolding module_over
  module-law = go (is_ended here) refl
    where
      go : (b : Bool) → is_ended here ≡ b
          → cond b (ltb max_definitions (c.definitions + get_or v.heads (order_slot here.source) 0) || definitions_over v.facts p (order_of v.orders v.heads here.source)) false
          ≡ (too_many_definitions s (length M.definitions) || any (λ g. over_arity (p + params_of s g)) M.definitions)
      go true e =
          let l : here.source < c.modules = ltb-true here.source c.modules e in
          let q : module_no s here.source ≡ M = module-there v c s holds p m k at e in
          ap₂ ◌||◌
          (ap₂ (λ (a b : ℕ). ltb max_definitions (a + b)) holds.definitions (count_law v c s holds here.source (omega arith) ∙ ap (λ (N : Module). length N.definitions) q))
          (ap (definitions_over v.facts p) (order-law v c s holds here.source (omega arith))
          ∙ definitions-law (module_no s here.source).definitions (good-listed v c s holds good here.source l)
          ∙ ap (λ (N : Module). any (λ g. over_arity (p + params_of s g)) N.definitions) q)
      go false e =
          sym (ap (λ (N : Module). too_many_definitions s (length N.definitions) || any (λ g. over_arity (p + params_of s g)) N.definitions) (module-absent v c s holds p m k at e)
          ∙ ap (λ (b : Bool). b || false) (le-ltb max_definitions (length s.definitions + 0) (omega (arith, holds.definitions, holds.sized.definitions))))

  pub over-law : (file : List ℕ) (end : ℕ) → end ≤ length file → (ss : List Substitution) → length ss ≡ k → SubstitutionsAt file at end ss
      → over_limits file v.names v.facts v.contexts v.orders v.heads here c.definitions ≡ instance_over_limit s p M ss
  unfolding over_limits
  over-law file end whole ss count h =
      let subs = ap (λ (n : ℕ). substitutions_over file v.names v.facts v.contexts v.heads here n at) (sym count) ∙ substitutions-law file end whole ss h in
      ap₂ (λ (a b : Bool). ltb max_arity p || (a || b)) module-law subs
      ∙ in_order (too_many_definitions s (length M.definitions)) (over_arity p) (any (λ g. over_arity (p + params_of s g)) M.definitions)
      (any (λ (y : Substitution). over_arity (p + arity_in M y.0) || over_limit y.1) ss)
