-- What follows where the first seven causes of an INSTANCE field are clear: there is room for what it brings, and its substitutes are well formed.
use borrow.Author.Tests.{ltb-false}
use mathlib.Core.Bool.{◌||◌, false}
use mathlib.Core.List.{List}
use mathlib.Core.Path.{◌≡◌}
use lib.ListN.{length}
use Prim.Native.Nat.{◌+◌, ◌≤◌, ℕ}
use Rattle.laws.proofs.Invariant.{Good, expressions-read, substitute-formed}
use Rattle.limits.specs.Limits.{max_arity, max_definitions}
use Rattle.rules.specs.Expression.{over_arity}
use Rattle.rules.specs.Field.{FieldFits, Substitution, instance}
use Rattle.rules.specs.Instance.{source, substitute}
use Rattle.rules.specs.Judge.{too_many_definitions}
use Rattle.rules.specs.State.{State, params_of, templates_of}
use Rattle.theory.proofs.Lists.{or-false}
use Rattle.theory.specs.Expand.{arities_of}
use Rattle.theory.specs.Lists.{any}
use Rattle.theory.specs.Term.{Kind, WellFormed, kind_arity}
use Rattle.judge_instance.specs.Cleared.{Cleared}

module _ (s : State) (n p m : ℕ) (ss : List Substitution) (cleared : Cleared s p m ss) where
  abbrev gs : List ℕ
  gs = (source s m).definitions

  -- two parts of cause 5
  limit-parts : (too_many_definitions s (length gs) ≡ false) × (over_arity p ≡ false)
  limit-parts =
      let a = (or-false (too_many_definitions s (length gs) || over_arity p || any (λ g. over_arity (p + params_of s g)) gs) _ cleared.limited).0 in
      let b = or-false (too_many_definitions s (length gs) || over_arity p) (any (λ g. over_arity (p + params_of s g)) gs) a in
      or-false (too_many_definitions s (length gs)) (over_arity p) b.0

  pub few-new : length s.definitions + length gs ≤ max_definitions
  few-new = ltb-false max_definitions (length s.definitions + length gs) limit-parts.0

  pub few-params : p ≤ max_arity
  few-params = ltb-false max_arity p limit-parts.1

  pub formed : Good s → FieldFits (instance n p m ss) → (k : Kind) (x : ℕ) → WellFormed (arities_of (templates_of s)) (p + kind_arity k) 0 (substitute s p (source s m) ss k x)
  formed good fits =
      substitute-formed s good.sound good.current.0 p (source s m) ss
      (expressions-read n p m ss fits) cleared.known cleared.counted
