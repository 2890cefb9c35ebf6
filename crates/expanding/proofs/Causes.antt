-- The causes of an expansion query's expression: one lemma for each way through the code.
use borrow.Author.Tests.{eq-eqb, ne_eqb}
use mathlib.Core.Bool.{false, true}
use mathlib.Core.List.{List}
use mathlib.Core.Path.{◌≡◌, refl}
use Prim.Native.Nat.{ℕ}
use lib.ListN.{length}
use Rattle.asking.specs.Asks.{name_cause}
use Rattle.query_strings.specs.declared.Queried.{Queried}
use Rattle.expanding.specs.Asks.{read_cause}

module _ (expr : List ℕ) (q : Queried) where
  pub cause-left : (q.looked.next ≡ length expr → ⊥) → 3 ≡ read_cause expr q
  unfolding read_cause
  cause-left h = rw (ne_eqb q.looked.next (length expr) h) refl

  module _ (ends : q.looked.next ≡ length expr) where
    pub cause-unknown : q.looked.unknown ≡ true → 9 ≡ read_cause expr q
    unfolding read_cause name_cause
    cause-unknown u = rw (eq-eqb q.looked.next (length expr) ends, u) refl

    pub cause-miscounted : q.looked.unknown ≡ false → q.looked.miscounted ≡ true → 10 ≡ read_cause expr q
    unfolding read_cause name_cause
    cause-miscounted u w = rw (eq-eqb q.looked.next (length expr) ends, u, w) refl

    pub cause-none : q.looked.unknown ≡ false → q.looked.miscounted ≡ false → 0 ≡ read_cause expr q
    unfolding read_cause name_cause
    cause-none u w = rw (eq-eqb q.looked.next (length expr) ends, u, w) refl
