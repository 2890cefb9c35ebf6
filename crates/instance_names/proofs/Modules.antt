-- The module instanced, by its place among the modules ended, is the rules' source.
use borrow.Author.Tests.{le-leb, lt-leb, ltb-false, ltb-true}
use mathlib.Core.Bool.{Bool, cond, false, not, true}
use mathlib.Core.Option.{Option, none, some}
use mathlib.Core.Path.{◌∙◌, ◌≡◌, ap, refl, sym}
use Prim.Native.Nat.{ℕ, zero, suc, ◌≤◌}
use native.Mathlib.Omega.{arith}
use lib.Dec.{eqb-suc-zero, leb, ltb}
use Rattle.theory.specs.Lists.{is_some, map_option, or_else}
use Rattle.theory.specs.Term.{kind_arity}
use Rattle.theory.proofs.Lists.{never}
use Rattle.rules.specs.Instance.{arity_in, kind_in, source}
use Rattle.rules.specs.Judge.{instance_clashes, not_ended}
use Rattle.rules.specs.State.{Module, State, module_named, no_module}
use Rattle.context.specs.Holds.{Holds, module_no}
use Rattle.context.specs.Lookup.{as_code, declared_named, operator_in}
use Rattle.context.specs.Entries.{codes_of}
use Rattle.store.specs.declared.Store.{Store}
use Rattle.context.specs.declared.Counts.{Counts}
use Rattle.std.specs.Prelude.{Option as Answer, Some, None}
use Rattle.context.specs.declared.Operator.{Operator}
use Rattle.context.specs.declared.Operator.TheVariants.{Constant, Variable, Defined}
use Rattle.context.proofs.Extends.{source-law}
use Rattle.context.proofs.Judging.{arity-law, clash-law, here-law, kind-law, kind_answered}
use Rattle.judge_plain.proofs.Lifted.{ended-law}
use Rattle.instance_names.specs.Causes.{site}
use Rattle.instance_names.specs.Sites.{answered_arity, answered_some, arity_there, clashes_at, is_ended}
use Rattle.instance_names.specs.declared.Site.{Site}

answered-arity : (o : Answer Operator) → answered_arity o ≡ or_else 0 (map_option kind_arity (kind_answered o))
unfolding answered_arity
answered-arity (Some (Constant o k)) = refl
answered-arity (Some (Variable o)) = refl
answered-arity (Some (Defined g)) = refl
answered-arity None = refl

pub answered-some : (o : Answer Operator) → answered_some o ≡ is_some (kind_answered o)
unfolding answered_some
answered-some (Some (Constant o k)) = refl
answered-some (Some (Variable o)) = refl
answered-some (Some (Defined g)) = refl
answered-some None = refl

pub at_most : (a b : ℕ) → leb a b ≡ not (ltb b a)
at_most a b = go (ltb b a) refl
  where
    go : (t : Bool) → ltb b a ≡ t → leb a b ≡ not t
    go true e = lt-leb a b (ltb-true b a e)
    go false e = le-leb a b (ltb-false b a e)

module _ (v : Store) (c : Counts) (s : State) (holds : Holds v c s) (p m k at : ℕ) where
  abbrev pub place : Site
  place = site v.heads c.modules p m k at

  ended : is_ended place ≡ is_some (module_named s m)
  ended = ended-law v c s holds m

  pub module-there : is_ended place ≡ true → module_no s place.source ≡ source s m
  module-there e = sym (source-law v c s holds m place.source refl (ltb-true place.source place.modules e))

  pub module-absent : is_ended place ≡ false → source s m ≡ no_module
  module-absent e = go (module_named s m) (sym ended ∙ e)
    where
      go : (o : Option Module) → is_some o ≡ false → or_else no_module o ≡ no_module
      go none z = refl
      go (some M) z = never z

  -- 7
  pub missing-law : leb place.modules place.source ≡ not_ended s m
  missing-law = at_most place.modules place.source ∙ ap not ended

  pub arity-there : (n : ℕ) → arity_there v.names v.facts v.contexts v.heads place n ≡ arity_in (source s m) n
  unfolding arity_there
  arity-there n = go (is_ended place) refl
    where
      go : (b : Bool) → is_ended place ≡ b
          → cond b (answered_arity (operator_in v.facts (as_code (declared_named v.names v.facts n (codes_of v place.source))))) 0 ≡ arity_in (source s m) n
      go true e =
          answered-arity (operator_in v.facts (as_code (declared_named v.names v.facts n (codes_of v place.source))))
          ∙ arity-law v c s holds place.source n (omega (arith, ltb-true place.source place.modules e)) ∙ ap (λ (M : Module). arity_in M n) (module-there e)
      go false e = sym (ap (λ (M : Module). arity_in M n) (module-absent e))

  module _ (e : is_ended place ≡ true) where
    pub below : place.source ≤ c.modules
    below = omega (arith, ltb-true place.source place.modules e)

    pub kind-there : (n : ℕ)
        → answered_some (operator_in v.facts (as_code (declared_named v.names v.facts n (codes_of v place.source)))) ≡ is_some (kind_in (source s m) n)
    kind-there n =
        answered-some (operator_in v.facts (as_code (declared_named v.names v.facts n (codes_of v place.source))))
        ∙ ap is_some (kind-law v c s holds place.source n below ∙ ap (λ (M : Module). kind_in M n) (module-there e))

    -- 8
    pub clashes-law : (n : ℕ) → clashes_at v.names v.contexts v.heads place n ≡ instance_clashes s n (source s m)
    unfolding clashes_at
    clashes-law zero = clash-law v c s holds place.source below ∙ ap (instance_clashes s 0) (module-there e)
    clashes-law (suc n) = rw (eqb-suc-zero n) (here-law v c s holds (suc n))
