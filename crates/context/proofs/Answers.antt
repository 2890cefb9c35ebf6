-- One lemma for each answer of a lookup, and for each test.
use borrow.Author.Tests.{eq-eqb, le-leb, le-ltb, lt-leb, lt-ltb, ne_eqb}
use mathlib.Core.Bool.{Bool, ◌&&◌, false, true}
use mathlib.Core.List.{List}
use mathlib.Core.Path.{◌∙◌, ◌≡◌, ap, refl, sym}
use lib.Dec.{eqb, leb}
use lib.ListN.{get_or}
use native.Mathlib.Omega.{arith}
use Prim.Native.Nat.{◌*◌, ◌+◌, ◌-◌, ◌<◌, ◌≤◌, ℕ}
use Rattle.context.proofs.Repeats.{found-some}
use Rattle.context.specs.Lookup.{arity_at, as_code, bringing, brought_at, brought_in, code_named, code_under, declared_named, declares_name, defines_name_in, definition_among, instance_among, is_declared, is_instance, operator_at, operator_in, repeated_in, stands_under}
use Rattle.context.specs.Parts.{part, place_of}
use Rattle.context.specs.Entries.{context_codes, instance_kind, variable_kind}
use Rattle.store.specs.Store.{context_slot, count_at, first_at, kind_at, via_at}
use Rattle.store.specs.declared.Facts.{Facts}
use Rattle.limits.specs.Limits.{max_arity, max_definitions}
use Rattle.limits.specs.Sizes.{context_length}
use Rattle.rules.specs.Expression.{first}
use Rattle.theory.specs.Lists.{is_some, numbers_from}
use Rattle.theory.specs.Tree.{count}
use Rattle.std.specs.Prelude.{Option as Answer, Some, None, is_some as found}
use Rattle.context.specs.declared.Operator.{Operator}
use Rattle.context.specs.declared.Operator.TheVariants.{Constant, Variable, Defined}
use Rattle.context.specs.declared.Brought.{Brought}

pub entry_found : (names contexts heads : List ℕ) (m name count : ℕ) (r : Answer ℕ) → count ≡ get_or heads (context_slot m) 0
    → r ≡ as_code (code_named names name (part contexts (m * context_length) (m * context_length + count - m * context_length)))
    → r ≡ as_code (code_named names name (context_codes contexts heads m))
entry_found names contexts heads m name count r e f =
    let d : m * context_length + count - m * context_length ≡ count = omega arith in
    f ∙ ap (λ (k : ℕ). as_code (code_named names name (part contexts (m * context_length) k))) (d ∙ e)

-- a parameter count

pub arity-over : (facts : List Facts) (g k : ℕ) → k ≡ kind_at facts g → max_arity < k → 0 ≡ arity_at facts g
arity-over facts g k e h = rw (← e, lt-ltb max_arity k h) refl

pub arity-within : (facts : List Facts) (g k : ℕ) → k ≡ kind_at facts g → k ≤ max_arity → k ≡ arity_at facts g
arity-within facts g k e h = rw (← e, le-ltb max_arity k h) refl

-- what holds of a part holds of a module's context
region : (P : List ℕ → Bool) (contexts heads : List ℕ) (m count : ℕ) (r : Bool) → count ≡ get_or heads (context_slot m) 0
    → r ≡ P (part contexts (m * context_length) (m * context_length + count - m * context_length)) → r ≡ P (context_codes contexts heads m)
region P contexts heads m count r e f =
    let d : m * context_length + count - m * context_length ≡ count = omega arith in
    f ∙ ap (λ (k : ℕ). P (part contexts (m * context_length) k)) (d ∙ e)

pub repeated-there : (names contexts heads : List ℕ) (m count : ℕ) (r : Bool) → count ≡ get_or heads (context_slot m) 0
    → r ≡ repeated_in names (part contexts (m * context_length) (m * context_length + count - m * context_length)) → r ≡ repeated_in names (context_codes contexts heads m)
repeated-there names contexts heads m count r e f = region (repeated_in names) contexts heads m count r e f

pub instance-there : (facts : List Facts) (contexts heads : List ℕ) (m count : ℕ) (r : Bool) → count ≡ get_or heads (context_slot m) 0
    → r ≡ instance_among facts (part contexts (m * context_length) (m * context_length + count - m * context_length)) → r ≡ instance_among facts (context_codes contexts heads m)
instance-there facts contexts heads m count r e f = region (instance_among facts) contexts heads m count r e f

pub definition-there : (names ds contexts heads : List ℕ) (m count : ℕ) (r : Bool) → count ≡ get_or heads (context_slot m) 0
    → r ≡ definition_among names ds (part contexts (m * context_length) (m * context_length + count - m * context_length)) → r ≡ definition_among names ds (context_codes contexts heads m)
definition-there names ds contexts heads m count r e f = region (definition_among names ds) contexts heads m count r e f

pub declared-there : (names : List ℕ) (facts : List Facts) (contexts heads : List ℕ) (m name count : ℕ) (q : Answer ℕ) → count ≡ get_or heads (context_slot m) 0
    → q ≡ as_code (declared_named names facts name (part contexts (m * context_length) (m * context_length + count - m * context_length)))
    → q ≡ as_code (declared_named names facts name (context_codes contexts heads m))
declared-there names facts contexts heads m name count q e f =
    let d : m * context_length + count - m * context_length ≡ count = omega arith in
    f ∙ ap (λ (k : ℕ). as_code (declared_named names facts name (part contexts (m * context_length) k))) (d ∙ e)

pub between : (names : List ℕ) (facts : List Facts) (i name first count : ℕ) (r : Answer ℕ) → r ≡ as_code (code_under names facts i name (numbers_from first (first + count - first)))
    → r ≡ as_code (code_under names facts i name (numbers_from first count))
between names facts i name first count r f =
    let d : first + count - first ≡ count = omega arith in
    f ∙ ap (λ (k : ℕ). as_code (code_under names facts i name (numbers_from first k))) d

pub module-found : (heads : List ℕ) (name k r : ℕ) → r ≡ 0 + place_of name (part heads 0 (k - 0)) → r ≡ place_of name (part heads 0 k)
module-found heads name k r f =
    let d : k - 0 ≡ k = omega arith in
    let g : 0 + place_of name (part heads 0 k) ≡ place_of name (part heads 0 k) = omega arith in
    f ∙ ap (λ (n : ℕ). 0 + place_of name (part heads 0 n)) d ∙ g

pub as-operator : (facts : List Facts) (o : ℕ) (q w : Answer ℕ) (r : Answer Operator) → q ≡ w → q ≡ Some o → r ≡ operator_at facts o → r ≡ operator_in facts w
unfolding operator_in
as-operator facts o q w r e f g = g ∙ ap (operator_in facts) (sym f ∙ e)

pub no-operator : (facts : List Facts) (q w : Answer ℕ) (r : Answer Operator) → q ≡ w → q ≡ None → r ≡ None → r ≡ operator_in facts w
unfolding operator_in
no-operator facts q w r e f g = g ∙ ap (operator_in facts) (sym f ∙ e)

pub as-brought : (facts : List Facts) (o : ℕ) (q w : Answer ℕ) (r : Answer Brought) → q ≡ w → q ≡ Some o → r ≡ brought_at facts o → r ≡ brought_in facts w
unfolding brought_in
as-brought facts o q w r e f g = g ∙ ap (brought_in facts) (sym f ∙ e)

pub no-brought : (facts : List Facts) (q w : Answer ℕ) (r : Answer Brought) → q ≡ w → q ≡ None → r ≡ None → r ≡ brought_in facts w
unfolding brought_in
no-brought facts q w r e f g = g ∙ ap (brought_in facts) (sym f ∙ e)

-- a declaration of module m is found, or none
module _ (names : List ℕ) (facts : List Facts) (contexts heads : List ℕ) (m name count : ℕ) (q : Answer ℕ) (e : count ≡ get_or heads (context_slot m) 0)
    (f : q ≡ as_code (declared_named names facts name (part contexts (m * context_length) (m * context_length + count - m * context_length)))) where
  pub as-declared : (o : ℕ) (r : Answer Operator) → q ≡ Some o → r ≡ operator_at facts o → r ≡ operator_in facts (as_code (declared_named names facts name (context_codes contexts heads m)))
  as-declared o r h g = as-operator facts o q (as_code (declared_named names facts name (context_codes contexts heads m))) r (declared-there names facts contexts heads m name count q e f) h g

  pub no-declared : (r : Answer Operator) → q ≡ None → r ≡ None → r ≡ operator_in facts (as_code (declared_named names facts name (context_codes contexts heads m)))
  no-declared r h g = no-operator facts q (as_code (declared_named names facts name (context_codes contexts heads m))) r (declared-there names facts contexts heads m name count q e f) h g

module _ (facts : List Facts) (o : ℕ) where
  pub at-defined : o < max_definitions → Some (Defined o) ≡ operator_at facts o
  unfolding operator_at
  at-defined h = rw (lt-ltb o max_definitions h)

  pub at_constant : (k : ℕ) → k ≡ kind_at facts o → max_definitions ≤ o → k < variable_kind → Some (Constant o k) ≡ operator_at facts o
  unfolding operator_at
  at_constant k e h l = rw (le-ltb o max_definitions h, ← e, lt-ltb k variable_kind l)

  pub at-variable : (k : ℕ) → k ≡ kind_at facts o → max_definitions ≤ o → k ≡ variable_kind → Some (Variable o) ≡ operator_at facts o
  unfolding operator_at
  at-variable k e h l = rw (le-ltb o max_definitions h, ← e, l)

  pub at_other : (k : ℕ) → k ≡ kind_at facts o → max_definitions ≤ o → variable_kind ≤ k → (k ≡ variable_kind → ⊥) → None ≡ operator_at facts o
  unfolding operator_at
  at_other k e h l n = rw (le-ltb o max_definitions h, ← e, le-ltb k variable_kind l, ne_eqb k variable_kind n)

  pub not-brought : o < max_definitions → None ≡ brought_at facts o
  unfolding brought_at
  not-brought h = rw (lt-ltb o max_definitions h)

  pub not-instance : (k : ℕ) → k ≡ kind_at facts o → max_definitions ≤ o → k < instance_kind → None ≡ brought_at facts o
  unfolding brought_at
  not-instance k e h l = rw (le-ltb o max_definitions h, ← e, lt-ltb k instance_kind l)

  pub at-instance : (k a b : ℕ) → k ≡ kind_at facts o → a ≡ first_at facts o → b ≡ count_at facts o → max_definitions ≤ o
      → instance_kind ≤ k → Some (bringing a b) ≡ brought_at facts o
  unfolding brought_at
  at-instance k a b e f g h l = rw (le-ltb o max_definitions h, ← e, ← f, ← g, le-ltb k instance_kind l)

  -- tests
  pub definition-undeclared : o < max_definitions → false ≡ is_declared facts o
  definition-undeclared h = rw (lt-leb max_definitions o h) refl

  pub field-declared : (k : ℕ) (r : Bool) → k ≡ kind_at facts o → max_definitions ≤ o → r ≡ leb k variable_kind → r ≡ is_declared facts o
  field-declared k r e h q = rw (le-leb max_definitions o h, ← e) q

  pub definition-no-instance : o < max_definitions → false ≡ is_instance facts o
  definition-no-instance h = rw (lt-leb max_definitions o h) refl

  pub field-instance : (k : ℕ) (r : Bool) → k ≡ kind_at facts o → max_definitions ≤ o → r ≡ leb instance_kind k → r ≡ is_instance facts o
  field-instance k r e h q = rw (le-leb max_definitions o h, ← e) q

module _ (names : List ℕ) (facts : List Facts) (name o : ℕ) where
  pub name-declared : (r q : Bool) (m : ℕ) → q ≡ is_declared facts o → q ≡ true → m ≡ get_or names o 0 → r ≡ eqb name m → r ≡ declares_name names facts name o
  name-declared r q m e f g h = h ∙ ap (eqb name) g ∙ sym (ap (λ (b : Bool). b && eqb name (get_or names o 0)) (sym e ∙ f))

  pub name-undeclared : (q : Bool) → q ≡ is_declared facts o → q ≡ false → false ≡ declares_name names facts name o
  name-undeclared q e f = sym (ap (λ (b : Bool). b && eqb name (get_or names o 0)) (sym e ∙ f))

  pub under-it : (i m k : ℕ) (r : Bool) → k ≡ via_at facts o → i ≡ k → m ≡ get_or names o 0 → r ≡ eqb name m → r ≡ stands_under names facts i name o
  under-it i m k r e f g h =
      h ∙ ap (eqb name) g ∙ sym (ap (λ (b : Bool). b && eqb name (get_or names o 0)) (eq-eqb i (via_at facts o) (f ∙ e)))

  pub under-another : (i k : ℕ) → k ≡ via_at facts o → (i ≡ k → ⊥) → false ≡ stands_under names facts i name o
  under-another i k e f =
      sym (ap (λ (b : Bool). b && eqb name (get_or names o 0)) (ne_eqb i (via_at facts o) (λ (q : i ≡ via_at facts o). f (q ∙ sym e))))

module _ (names ds : List ℕ) (o : ℕ) where
  pub no-definition : max_definitions ≤ o → false ≡ defines_name_in names ds o
  no-definition h = rw (le-ltb o max_definitions h) refl

  pub defined-there : (n : ℕ) (q : Answer ℕ) (r : Bool) → o < max_definitions → n ≡ get_or names o 0 → q ≡ as_code (code_named names n ds) → r ≡ found q → r ≡ defines_name_in names ds o
  defined-there n q r h e f g =
      g ∙ ap found f ∙ found-some (code_named names n ds)
      ∙ sym (rw (lt-ltb o max_definitions h) (ap (λ (x : ℕ). is_some (code_named names x ds)) (sym e)))
