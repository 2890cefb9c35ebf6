-- One lemma for each answer of a lookup.
use borrow.Author.Tests.{le-leb, le-ltb, lt-leb, lt-ltb}
use mathlib.Core.List.{List}
use mathlib.Core.Path.{◌≡◌}
use Prim.Native.Nat.{ℕ, ◌+◌, ◌≤◌, ◌<◌}
use Rattle.limits.specs.Limits.{max_declarations, max_definitions}
use Rattle.theory.specs.Lists.{numbers_from}
use Rattle.tokens.specs.declared.Token.{Token}
use Rattle.tokens.specs.declared.Token.TheVariants.{Parameter, Bound, Name, InstanceOperator, BuiltIn, Literal}
use Rattle.context.specs.Lookup.{as_code, brought_in, code_named, code_under, operator_in}
use Rattle.std.specs.Prelude.{Option as Answer, Some, None}
use Rattle.context.specs.declared.Operator.{Operator}
use Rattle.context.specs.declared.Operator.TheVariants.{Constant, Variable, Defined}
use Rattle.context.specs.declared.Brought.{Brought}
use Rattle.resolve.specs.Look.{declared_ref, defined_ref, operator_ref, code_ref, brought_ref, look_in, ref_to}
use Rattle.resolve.specs.declared.Look.{Look}
use Rattle.store.specs.Store.{first_at, kind_at}
use Rattle.store.specs.declared.Facts.{Facts}

module _ (facts : List Facts) (o k d : ℕ) where
  pub numbered : d ≡ first_at facts o → d < max_declarations → Some (ref_to (max_definitions + d) k) ≡ declared_ref facts o k
  unfolding declared_ref
  numbered e h = rw (← e, lt-ltb d max_declarations h)

  pub not-numbered : d ≡ first_at facts o → max_declarations ≤ d → None ≡ declared_ref facts o k
  unfolding declared_ref
  not-numbered e h = rw (← e, le-ltb d max_declarations h)

pub definition : (facts : List Facts) (g p : ℕ) → p ≡ kind_at facts g → ref_to g p ≡ defined_ref facts g
unfolding defined_ref
definition facts g p e = rw e

module _ (facts : List Facts) (x : Answer Operator) (r : Answer Look) where
  pub as-unknown : x ≡ None → r ≡ None → r ≡ operator_ref facts x
  unfolding operator_ref
  as-unknown e p = rw (e, p)

  pub as-constant : (o k : ℕ) → x ≡ Some (Constant o k) → r ≡ declared_ref facts o k → r ≡ operator_ref facts x
  unfolding operator_ref
  as-constant o k e h = rw (e, h)

  pub as-variable : (o : ℕ) → x ≡ Some (Variable o) → r ≡ declared_ref facts o 0 → r ≡ operator_ref facts x
  unfolding operator_ref
  as-variable o e h = rw (e, h)

  pub as-definition : (g : ℕ) (l : Look) → x ≡ Some (Defined g) → l ≡ defined_ref facts g → r ≡ Some l → r ≡ operator_ref facts x
  unfolding operator_ref
  as-definition g l e h p = rw (e, p, h)

pub code_at : (facts : List Facts) (x : Answer ℕ) (r : Answer Look) (g : ℕ) (l : Look) → x ≡ Some g → l ≡ defined_ref facts g → r ≡ Some l → r ≡ code_ref facts x
unfolding code_ref
code_at facts x r g l e h p = rw (e, p, h)

pub code-absent : (facts : List Facts) (x : Answer ℕ) (r : Answer Look) → x ≡ None → r ≡ None → r ≡ code_ref facts x
unfolding code_ref
code-absent facts x r e p = rw (e, p)

module _ (names : List ℕ) (facts : List Facts) (i f : ℕ) (x : Answer Brought) where
  pub as-brought : (b : Brought) (q : Answer ℕ) (r : Answer Look) → x ≡ Some b → r ≡ code_ref facts q → q ≡ as_code (code_under names facts i f (numbers_from b.first b.count))
      → b.first + b.count ≤ max_definitions → r ≡ brought_ref names facts i f x
  unfolding brought_ref
  as-brought b q r e h p l = rw (e, le-leb (b.first + b.count) max_definitions l, ← p) h

  pub not-brought : (b : Brought) → x ≡ Some b → max_definitions < b.first + b.count → None ≡ brought_ref names facts i f x
  unfolding brought_ref
  not-brought b e l = rw (e, lt-leb (b.first + b.count) max_definitions l)

  pub nothing-brought : (r : Answer Look) → x ≡ None → r ≡ None → r ≡ brought_ref names facts i f x
  unfolding brought_ref
  nothing-brought r e p = rw (e, p)

module _ (names : List ℕ) (facts : List Facts) (cs : List ℕ) (t : Token) where
  pub at_name : (n k : ℕ) (x : Answer Operator) (r : Answer Look) → t ≡ Name n k → r ≡ operator_ref facts x → x ≡ operator_in facts (as_code (code_named names n cs))
      → r ≡ look_in names facts cs t
  unfolding look_in
  at_name n k x r e h p = rw (e, ← p) h

  pub at-instance : (i f k : ℕ) (x : Answer Brought) (r : Answer Look) → t ≡ InstanceOperator i f k → r ≡ brought_ref names facts i f x
      → x ≡ brought_in facts (as_code (code_named names i cs)) → r ≡ look_in names facts cs t
  unfolding look_in
  at-instance i f k x r e h p = rw (e, ← p) h

  pub at-parameter : (i : ℕ) → t ≡ Parameter i → None ≡ look_in names facts cs t
  unfolding look_in
  at-parameter i e = rw e

  pub at_bound : (j : ℕ) → t ≡ Bound j → None ≡ look_in names facts cs t
  unfolding look_in
  at_bound j e = rw e

  pub at-built-in : (c : ℕ) → t ≡ BuiltIn c → None ≡ look_in names facts cs t
  unfolding look_in
  at-built-in c e = rw e

  pub at_literal : (v : ℕ) → t ≡ Literal v → None ≡ look_in names facts cs t
  unfolding look_in
  at_literal v e = rw e
