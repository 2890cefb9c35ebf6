-- The levels of a text's expressions are levels, and an argument list has as many as there are arguments.
use mathlib.Core.Path.{◌≡◌, refl, ap}
use mathlib.Core.Bool.{Bool, cond, false, true}
use mathlib.Core.List.{List, ◌++◌}
use Prim.Native.Nat.{ℕ, suc, ◌+◌, ◌-◌}
use native.Mathlib.Omega.{arith}
use lib.Dec.{lit≤, ltb}
use lib.ListN.{get_or, length}
use Rattle.limits.specs.Limits.{max_definitions}
use Rattle.theory.specs.Lists.{All, param_levels}
use Rattle.theory.specs.Tree.{◌▹◌, count, node, ⟨⟩}
use Rattle.theory.specs.Level.{IsLevel}
use Rattle.theory.proofs.Levels.{levels-kept}
use Rattle.tokens.specs.Expr.{Expr, Exprs}
use Rattle.tokens.specs.Fold.{fold, folds, under}
use Rattle.tokens.specs.declared.Token.{Token}
use Rattle.tokens.specs.declared.Token.TheVariants.{Parameter, Bound, Name, InstanceOperator, BuiltIn, Literal}
use Rattle.texts.specs.Text.{Scene, named, scope, token_level}
use Rattle.forms.proofs.Forms.{at_low}
use Rattle.forms.proofs.Highest.{low-param}
use Rattle.levels.specs.Tables.{Names, levels_at, scene_of}

module _ (N : Names) (v : List ℕ) where
  abbrev S : Scene
  S = scene_of N.numbers N.words

  named-low : (r : ℕ) (ls : List ℕ) → IsLevel (named S r ls)
  named-low r ls = go (ltb r max_definitions)
    where
      go : (b : Bool) → IsLevel (cond b (S.definitions r ls) (S.declarations (r - max_definitions) ls))
      go true = at_low (get_or N.words (get_or N.numbers r 0) 0) ls
      go false = at_low (get_or N.words (max_definitions + (r - max_definitions)) 0) ls

  module _ (low : All IsLevel v) where
    token-low : (t : Token) (at bits : ℕ) (ls : List ℕ) → All IsLevel ls → IsLevel (token_level N.refs S N.outer v bits at t ls)
    token-low (Parameter i) at bits ls a = low-param (N.outer + i) v low
    token-low (Bound j) at bits ls a = omega arith
    token-low (Name n k) at bits ls a = named-low (get_or N.refs at 0) (param_levels 0 N.outer v ++ ls)
    token-low (InstanceOperator i n k) at bits ls a = named-low (get_or N.refs at 0) (param_levels 0 N.outer v ++ ls)
    token-low (BuiltIn c) at bits ls a = levels-kept.on_builtin c (λ _. ls) (λ _ _. a)
    token-low (Literal n) at bits ls a = lit≤ tt

    mutual
      pub fold-low : (t : Expr) (bits : ℕ) → IsLevel (fold (levels_at N v) bits t)
      fold-low (node h ts) bits =
          token-low h.token h.at bits (folds (levels_at N v) bits (scope h.token bits) ts) (folds-low ts bits (scope h.token bits))

      pub folds-low : (ts : Exprs) (outer last : ℕ) → All IsLevel (folds (levels_at N v) outer last ts)
      folds-low ⟨⟩ outer last = tt
      folds-low (t ▹ ts) outer last = (fold-low t (under ts outer last), folds-low ts outer last)

  pub folds-length : (ts : Exprs) (outer last : ℕ) → length (folds (levels_at N v) outer last ts) ≡ count ts
  folds-length ⟨⟩ outer last = refl
  folds-length (t ▹ ts) outer last = ap suc (folds-length ts outer last)
