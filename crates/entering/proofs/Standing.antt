-- `empty`: a declaration stands for itself.
use mathlib.Core.Path.{◌≡◌, refl, subst, sym, ◌∙◌}
use mathlib.Core.List.{List}
use Prim.Native.Nat.{ℕ, ◌+◌, ◌≤◌, ◌<◌}
use native.Mathlib.Omega.{arith}
use borrow.Author.Tests.{le-leb, lt-leb}
use lib.ListN.{length}
use Rattle.limits.specs.Limits.{max_arity, max_declarations, max_definitions}
use Rattle.theory.specs.Level.{highest}
use Rattle.theory.specs.Lists.{param_levels}
use Rattle.forms.specs.Forms.{Gives, stored}
use Rattle.forms.proofs.Forms.{variable-level}
use Rattle.forms.proofs.Tables.{load-other, load_same, stored-length}
use Rattle.levels.specs.Tables.{table_words}
use Rattle.entering.specs.Itself.{Put, itself_level}

pub itself-constant : (k r : ℕ) → k ≤ max_arity → Gives r (λ v. highest (param_levels 0 k v)) → Gives r (itself_level k)
unfolding itself_level
itself-constant k r h g = record { at = λ v l low. g.at v l low ∙ rw (le-leb k max_arity h) refl }

pub itself-variable : (k : ℕ) → max_arity < k → Gives 1 (itself_level k)
unfolding itself_level
itself-variable k h = record { at = λ v l _. variable-level v ∙ rw (lt-leb k max_arity h) refl }

pub put-itself : (words : List ℕ) (d k f : ℕ) → length words ≡ table_words → d < max_declarations → Gives f (itself_level k)
    → Put (itself_level k) words (stored words (max_definitions + d) f) (max_definitions + d)
put-itself words d k f l h g = record {
  size = stored-length words (max_definitions + d) f;
  here = subst (λ (x : ℕ). Gives x (itself_level k)) (sym (load_same words (max_definitions + d) f (omega arith))) g;
  others = λ i n. load-other words (max_definitions + d) i f n;
}
