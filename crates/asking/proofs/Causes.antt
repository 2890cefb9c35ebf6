-- The causes of a query: one lemma for each way through the code.
use Rattle.std.specs.List.{list_any}
use Rattle.std.specs.Prelude.{Option, None, Some, Result, Ok}
use borrow.Author.Tests.{eq-eqb, le-ltb, lt-ltb, ne_eqb}
use mathlib.Core.Bool.{Bool, false, true}
use mathlib.Core.List.{List}
use mathlib.Core.Path.{◌∙◌, ◌≡◌, refl, sym}
use Prim.Native.Nat.{ℕ, ◌<◌, ◌≤◌}
use lib.Dec.{leb}
use lib.ListN.{length}
use Rattle.limits.specs.Limits.{level_count, max_arity}
use Rattle.theory.specs.Lists.{any}
use Rattle.tokens.specs.Expr.{whole_of}
use Rattle.forms.specs.Forms.{level_at}
use Rattle.asking.specs.Asks.{kept_reply, levels_cause, limit_cause, reply_of}
use Rattle.refusals.specs.declared.Refusal.{Refusal}
use Rattle.refusals.specs.Outcomes.{refused}
use Rattle.asking.specs.declared.Walked.{Walked}
use Rattle.asking.proofs.Levels.{any-same}

module _ (expr : List ℕ) (a : Bool) (is-a : a ≡ whole_of expr) where
  pub limit-whole : a ≡ true → 5 ≡ limit_cause expr
  unfolding limit_cause
  limit-whole h = rw (sym is-a ∙ h) refl

  pub limit-bytes : a ≡ false → 3 ≡ limit_cause expr
  unfolding limit_cause
  limit-bytes h = rw (sym is-a ∙ h) refl

module _ (levels expr : List ℕ) (b : Bool) (found : b ≡ list_any (λ l. leb level_count l) levels) where
  is_b : b ≡ any (λ l. leb level_count l) levels
  is_b = found ∙ any-same (λ l. leb level_count l) levels

  pub cause-level : b ≡ true → 3 ≡ levels_cause levels expr
  unfolding levels_cause
  cause-level h = rw (sym is_b ∙ h) refl

  module _ (levels-right : b ≡ false) where
    pub cause-arity : (r : ℕ) → max_arity < length levels → r ≡ limit_cause expr → r ≡ levels_cause levels expr
    unfolding levels_cause
    cause-arity r h e = rw (sym is_b ∙ levels-right, lt-ltb max_arity (length levels) h) e

    pub cause-none : length levels ≤ max_arity → 0 ≡ levels_cause levels expr
    unfolding levels_cause
    cause-none h = rw (sym is_b ∙ levels-right, le-ltb max_arity (length levels) h) refl

-- the reply by what the walk found
pub reply-limit : (levels : List ℕ) (fields : ℕ) (expr : List ℕ) (o : Option Walked) (c : ℕ) → o ≡ None → c ≡ limit_cause expr → refused c fields ≡ reply_of levels expr o fields
unfolding reply_of
reply-limit levels fields expr o c h e = rw (h, e) refl

module _ (levels : List ℕ) (w : Walked) (fields : ℕ) where
  pub reply-unknown : w.looked.unknown ≡ true → refused 9 fields ≡ kept_reply levels w fields
  unfolding kept_reply
  reply-unknown u = rw u refl

  pub reply-miscounted : w.looked.unknown ≡ false → w.looked.miscounted ≡ true → refused 10 fields ≡ kept_reply levels w fields
  unfolding kept_reply
  reply-miscounted u m = rw (u, m) refl

  pub reply-right : (l : ℕ) → w.looked.unknown ≡ false → w.looked.miscounted ≡ false → l ≡ level_at w.form levels → Ok l ≡ kept_reply levels w fields
  unfolding kept_reply
  reply-right l u m e = rw (u, m, e) refl

  module _ (expr : List ℕ) where
    pub reply-kept : (o : Option Walked) → o ≡ Some w → (r : Result ℕ Refusal) → w.looked.next ≡ length expr → r ≡ kept_reply levels w fields
        → r ≡ reply_of levels expr o fields
    unfolding kept_reply reply_of
    reply-kept o h r n e = rw (h, eq-eqb w.looked.next (length expr) n) e

    pub reply-left-over : (o : Option Walked) → o ≡ Some w → (w.looked.next ≡ length expr → ⊥) → refused 3 fields ≡ reply_of levels expr o fields
    unfolding reply_of
    reply-left-over o h n = rw (h, ne_eqb w.looked.next (length expr) n) refl
