-- Where what a call stands for is found: a text in the file, or a name that stands for itself.
use Rattle.std.specs.Prelude.{true, List, ◌≡◌, ℕ, ◌+◌, ◌≤◌, ◌<◌, length}
use Rattle.limits.specs.Limits.{max_definitions, max_nesting}
use Rattle.theory.specs.Term.{Kind, Reading, kind_arity}
use Rattle.rules.specs.State.{State}
use Rattle.tokens.specs.Expr.{Expr, expr_at, found}
use Rattle.tokens.specs.Limit.{counts_kept}
use Rattle.texts.specs.Text.{Declarations}
use Rattle.text_levels.proofs.OwnWorld.{RefsBelow}
use Rattle.store.specs.declared.Store.{Store}
use Rattle.worlds.specs.World.{World}
use Rattle.entering.specs.Implied.{implied_ref}
use Rattle.std.specs.Prelude.{Option as Answer, Some, None}
use Rattle.unfolding.specs.InWorld.{by_refs, implied_in, term_in}
use Rattle.unfolding.specs.StandIn.{Unfolds, place_at}

-- the text at a position, which ends before `end`, is what call n stands for, l instances with `outer` parameters being entered
pub record UnfoldsText {A : Type 0} (M : Reading A) (file refs : List ℕ) (s : State) (decls : Declarations) (w : World) (D n m l outer : ℕ) (numbers : List ℕ) (end at : ℕ) : Type 0 where
  pub text : Expr
  pub next : ℕ
  pub stands : expr_at max_nesting file at ≡ found text next
  pub kept : counts_kept text ≡ true
  pub below : RefsBelow (max_definitions + length decls) refs text
  pub inside : next ≤ end
  pub unfolds : Unfolds M s decls w D n m l (term_in (by_refs refs) decls (place_at l outer numbers) text)

-- the name x of kind k stands for itself in the module `owner`, after the p parameters of its instance
pub record UnfoldsImplied {A : Type 0} (M : Reading A) (v : Store) (s : State) (decls : Declarations) (w : World) (D n m l outer : ℕ) (numbers : List ℕ) (owner p : ℕ) (k : Kind) (x : ℕ) : Type 0 where
  pub below : implied_ref v.names v.facts v.contexts v.heads owner x < max_definitions + length decls
  pub unfolds : Unfolds M s decls w D n m l
      (implied_in decls (place_at l outer numbers) p (kind_arity k) (implied_ref v.names v.facts v.contexts v.heads owner x))

-- what stands for the name x is written, or implied
abbrev pub UnfoldsBy : {A : Type 0} → Reading A → List ℕ → List ℕ → Store → State → Declarations → World → ℕ → ℕ → ℕ → ℕ → ℕ → List ℕ → ℕ → ℕ → ℕ → Kind → ℕ → Answer ℕ → Type 0
UnfoldsBy M file refs v s decls w D n m l outer numbers end owner p k x (Some at) = UnfoldsText M file refs s decls w D n m l outer numbers end at
UnfoldsBy M file refs v s decls w D n m l outer numbers end owner p k x None = UnfoldsImplied M v s decls w D n m l outer numbers owner p k x
