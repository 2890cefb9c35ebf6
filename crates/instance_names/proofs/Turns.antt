-- One lemma for each way through the code, over plain values: limits, clashes, implied names, names written.
use borrow.Author.Tests.{eq-eqb, le-ltb, lt-ltb, ne_eqb}
use mathlib.Core.Bool.{Bool, ◌||◌, false, not, true}
use mathlib.Core.List.{List}
use mathlib.Core.Path.{◌∙◌, ◌≡◌, ap, refl, sym}
use Prim.Native.Nat.{ℕ, zero, suc, ◌+◌, ◌-◌, ◌*◌, ◌≤◌, ◌<◌}
use native.Mathlib.Numerals.{add-one}
use native.Mathlib.Omega.{arith}
use lib.Dec.{ltb}
use lib.ListN.{get_or, length}
use Rattle.std.specs.Prelude.{Option, is_some}
use Rattle.std.specs.List.{list_any, range_with_len}
use Rattle.limits.specs.Limits.{max_arity, max_definitions}
use Rattle.limits.specs.Sizes.{context_length}
use Rattle.theory.specs.Lists.{any}
use Rattle.tokens.specs.Limit.{limit_at}
use Rattle.tokens.specs.Token.{number_at}
use Rattle.tokens.specs.declared.Token.TheVariants.{Name}
use Rattle.context.specs.Lookup.{as_code, code_named, declared_named, definition_among, is_declared, operator_in}
use Rattle.context.specs.Parts.{part}
use Rattle.context.specs.Entries.{context_codes, variable_kind}
use Rattle.store.specs.Store.{context_slot, kind_at, order_slot}
use Rattle.store.specs.declared.Facts.{Facts}
use Rattle.std.specs.Prelude.{Option as Answer, is_none, is_some as found}
use Rattle.context.specs.declared.Operator.{Operator}
use Rattle.context.proofs.Repeats.{found-some}
use Rattle.resolve.specs.Look.{look_in}
use Rattle.resolve.specs.Walk.{wrong_count}
use Rattle.resolve.specs.declared.Look.{Look}
use Rattle.entering.specs.Written.{written_at}
use Rattle.instance_names.specs.Sites.{miscounted_among, unknown_among, answered_arity, answered_some, arity_there, clashes_at, definition_over, definitions_over, implied_miscounted, implied_unknown, is_written, kind_count, module_over, next_start, over_limits, repeated_from, stands, starts, substitution_over, substitutions_over, undeclared_at, undeclared_in}
use Rattle.instance_names.specs.declared.Site.{Site}

-- 8
module _ (names contexts heads : List ℕ) (x : Site) (n : ℕ) where
  pub clash-unnamed : (r : Bool) → n ≡ 0 → r ≡ definition_among names (context_codes contexts heads x.modules) (context_codes contexts heads x.source)
      → r ≡ clashes_at names contexts heads x n
  unfolding clashes_at
  clash-unnamed r e h = rw (eq-eqb n 0 e) h

  pub clash-named : (q : Answer ℕ) (r : Bool) → (n ≡ 0 → ⊥) → q ≡ as_code (code_named names n (context_codes contexts heads x.modules)) → r ≡ found q
      → r ≡ clashes_at names contexts heads x n
  unfolding clashes_at
  clash-named q r e h f = rw (ne_eqb n 0 e) (f ∙ ap found h ∙ found-some (code_named names n (context_codes contexts heads x.modules)))

pub kind-variable : (k : ℕ) → k ≡ variable_kind → 0 ≡ kind_count k
unfolding kind_count
kind-variable k e = rw (eq-eqb k variable_kind e)

pub kind-other : (k : ℕ) → (k ≡ variable_kind → ⊥) → k ≡ kind_count k
unfolding kind_count
kind-other k e = rw (ne_eqb k variable_kind e)

-- a declared name without a substitution
module _ (file names : List ℕ) (facts : List Facts) (x : Site) (o : ℕ) (d : Bool) (e : d ≡ is_declared facts o) where
  pub stands-not : d ≡ false → false ≡ stands file names facts x o
  unfolding stands
  stands-not h = rw (← e, h)

  module _ (h : d ≡ true) (n : ℕ) (named : n ≡ get_or names o 0) (w : Answer ℕ) (written : w ≡ written_at x.count file x.at n) where
    open-stands : not (is_written w) ≡ stands file names facts x o
    unfolding stands
    open-stands = rw (← e, h, ← named, ← written)

    pub stands-unwritten : (r : Bool) → r ≡ is_none w → r ≡ stands file names facts x o
    stands-unwritten r q = q ∙ open-stands

module _ (file names : List ℕ) (facts : List Facts) (contexts heads : List ℕ) (x : Site) (o : ℕ) (d : Bool) (e : d ≡ stands file names facts x o) where
  pub unknown-not : d ≡ false → false ≡ implied_unknown file names facts contexts heads x o
  unfolding implied_unknown
  unknown-not h = rw (← e, h)

  pub miscounted-not : d ≡ false → false ≡ implied_miscounted file names facts contexts heads x o
  unfolding implied_miscounted
  miscounted-not h = rw (← e, h)

  module _ (h : d ≡ true) (n : ℕ) (named : n ≡ get_or names o 0) (l : Answer Look)
      (looked : l ≡ look_in names facts (context_codes contexts heads x.modules) (Name n 0)) (r : Bool) where
    pub unknown-look : r ≡ is_none l → r ≡ implied_unknown file names facts contexts heads x o
    unfolding implied_unknown
    unknown-look q = rw (← e, h, ← named, ← looked) q

    pub miscounted-look : (k kind : ℕ) → k ≡ kind_count kind → kind ≡ kind_at facts o → r ≡ wrong_count k l
        → r ≡ implied_miscounted file names facts contexts heads x o
    unfolding implied_miscounted
    miscounted-look k kind p m q = rw (← e, h, ← named, ← looked, ← m, ← p) q

-- 5
module _ (names : List ℕ) (facts : List Facts) (contexts heads : List ℕ) (x : Site) (n : ℕ) where
  pub arity-absent : x.modules ≤ x.source → 0 ≡ arity_there names facts contexts heads x n
  unfolding arity_there
  arity-absent h = rw (le-ltb x.source x.modules h)

  pub arity-found : (r : ℕ) (o : Answer Operator) → x.source < x.modules
      → o ≡ operator_in facts (as_code (declared_named names facts n (context_codes contexts heads x.source))) → r ≡ answered_arity o
      → r ≡ arity_there names facts contexts heads x n
  unfolding arity_there
  arity-found r o h e q = rw (lt-ltb x.source x.modules h, ← e) q

pub definition-over : (facts : List Facts) (p g k : ℕ) (r : Bool) → k ≡ kind_at facts g → r ≡ ltb max_arity (p + k) → r ≡ definition_over facts p g
unfolding definition_over
definition-over facts p g k r e h = rw (← e) h

twice : (b : Bool) → b ≡ not (not b)
twice true = refl
twice false = refl

module _ (file names : List ℕ) (facts : List Facts) (contexts heads : List ℕ) (x : Site) (at n k : ℕ) (read : n ≡ number_at file at) (arity : k ≡ arity_there names facts contexts heads x n) where
  pub over-arity : max_arity < x.params + k → ltb max_arity (x.params + k) ≡ substitution_over file names facts contexts heads x at
  unfolding substitution_over
  over-arity h = rw (← read, ← arity, lt-ltb max_arity (x.params + k) h)

  pub over-limit : (l : Option ℕ) (r : Bool) → x.params + k ≤ max_arity → l ≡ limit_at file (at + 4) → is_some l ≡ not r
      → r ≡ substitution_over file names facts contexts heads x at
  unfolding substitution_over
  over-limit l r h e q = rw (← read, ← arity, le-ltb max_arity (x.params + k) h, ← e, q) (twice r)

-- a search over places is one over what stands there
pub any-places : (t : ℕ → Bool) (xs : List ℕ) (from n : ℕ) → list_any (λ i. t (get_or xs i 0)) (range_with_len from n) ≡ any t (part xs from n)
unfolding part
any-places t xs from zero = refl
any-places t xs from (suc n) = rw (add-one from) (ap (λ (b : Bool). t (get_or xs from 0) || b) (any-places t xs (suc from) n))

-- a module's codes are a part of the contexts, its definitions of the orders
module _ (file names : List ℕ) (facts : List Facts) (contexts heads : List ℕ) (x : Site) (n : ℕ) (r : Bool) (size : n ≡ get_or heads (context_slot x.source) 0) where
  pub known-there : r ≡ unknown_among file names facts contexts heads x (part contexts (x.source * context_length) (x.source * context_length + n - x.source * context_length))
      → r ≡ unknown_among file names facts contexts heads x (context_codes contexts heads x.source)
  known-there h =
      let d : x.source * context_length + n - x.source * context_length ≡ n = omega arith in
      h ∙ ap (λ (k : ℕ). unknown_among file names facts contexts heads x (part contexts (x.source * context_length) k)) (d ∙ size)

  pub counted-there : r ≡ miscounted_among file names facts contexts heads x (part contexts (x.source * context_length) (x.source * context_length + n - x.source * context_length))
      → r ≡ miscounted_among file names facts contexts heads x (context_codes contexts heads x.source)
  counted-there h =
      let d : x.source * context_length + n - x.source * context_length ≡ n = omega arith in
      h ∙ ap (λ (k : ℕ). miscounted_among file names facts contexts heads x (part contexts (x.source * context_length) k)) (d ∙ size)

module _ (facts : List Facts) (orders heads : List ℕ) (x : Site) (definitions : ℕ) where
  pub module-absent : x.modules ≤ x.source → false ≡ module_over facts orders heads x definitions
  unfolding module_over
  module-absent h = rw (le-ltb x.source x.modules h)

  module _ (here : x.source < x.modules) (n : ℕ) (size : n ≡ get_or heads (order_slot x.source) 0) where
    pub module-many : max_definitions < definitions + n → true ≡ module_over facts orders heads x definitions
    unfolding module_over
    module-many h = rw (lt-ltb x.source x.modules here, ← size, lt-ltb max_definitions (definitions + n) h)

    pub module-defined : (r : Bool) → definitions + n ≤ max_definitions
        → r ≡ definitions_over facts x.params (part orders (x.source * max_definitions) (x.source * max_definitions + n - x.source * max_definitions))
        → r ≡ module_over facts orders heads x definitions
    unfolding module_over
    module-defined r h q =
        let d : x.source * max_definitions + n - x.source * max_definitions ≡ n = omega arith in
        rw (lt-ltb x.source x.modules here, ← size, le-ltb max_definitions (definitions + n) h)
        (q ∙ ap (λ (k : ℕ). definitions_over facts x.params (part orders (x.source * max_definitions) k)) d)

module _ (file names : List ℕ) (facts : List Facts) (contexts orders heads : List ℕ) (x : Site) (definitions : ℕ) where
  pub over-params : max_arity < x.params → true ≡ over_limits file names facts contexts orders heads x definitions
  unfolding over_limits
  over-params h = rw (lt-ltb max_arity x.params h)

  module _ (small : x.params ≤ max_arity) (a : Bool) (first : a ≡ module_over facts orders heads x definitions) where
    pub over-module : a ≡ true → true ≡ over_limits file names facts contexts orders heads x definitions
    unfolding over_limits
    over-module h = rw (le-ltb max_arity x.params small, ← first, h)

    pub over-substitutions : (r : Bool) → a ≡ false → r ≡ substitutions_over file names facts contexts heads x x.count x.at
        → r ≡ over_limits file names facts contexts orders heads x definitions
    unfolding over_limits
    over-substitutions r h q = rw (le-ltb max_arity x.params small, ← first, h) q

-- a turn over substitutions
module _ (t : ℕ → Bool) (file : List ℕ) (count i at : ℕ) (w : Bool) (same : any t (starts (count - i) file at) ≡ w) where
  start-end : count ≤ i → false ≡ w
  unfolding starts
  start-end h = let d : count - i ≡ zero = omega arith in rw d at same

  start-past : i < count → length file < at → false ≡ w
  unfolding starts
  start-past h p = let d : count - i ≡ suc (count - (i + 1)) = omega arith in rw (d, lt-ltb (length file) at p) at same

  start-turn : (b : Bool) (next : ℕ) → i < count → at ≤ length file → t at ≡ b → next ≡ next_start file at
      → b || any t (starts (count - (i + 1)) file next) ≡ w
  unfolding starts
  start-turn b next h p q r =
      let d : count - i ≡ suc (count - (i + 1)) = omega arith in
      rw (r, ← q) (rw (d, le-ltb (length file) at p) at same)

module _ (file names : List ℕ) (facts : List Facts) (contexts heads : List ℕ) (x : Site) (count i at : ℕ) (w : Bool) (same : substitutions_over file names facts contexts heads x (count - i) at ≡ w) where
  pub over-end : count ≤ i → false ≡ w
  unfolding substitutions_over
  over-end h = start-end (substitution_over file names facts contexts heads x) file count i at w same h

  pub over-past : i < count → length file < at → false ≡ w
  unfolding substitutions_over
  over-past h p = start-past (substitution_over file names facts contexts heads x) file count i at w same h p

  pub over-hit : (b : Bool) → i < count → at ≤ length file → b ≡ substitution_over file names facts contexts heads x at → b ≡ true → true ≡ w
  unfolding substitutions_over
  over-hit b h p q z = start-turn (substitution_over file names facts contexts heads x) file count i at w same true (next_start file at) h p (sym q ∙ z) refl

  pub over-next : (b : Bool) (next : ℕ) → i < count → at ≤ length file → b ≡ substitution_over file names facts contexts heads x at → b ≡ false
      → next ≡ next_start file at → substitutions_over file names facts contexts heads x (count - (i + 1)) next ≡ w
  unfolding substitutions_over
  over-next b next h p q z r = start-turn (substitution_over file names facts contexts heads x) file count i at w same false next h p (sym q ∙ z) r

-- 11
module _ (file names : List ℕ) (facts : List Facts) (contexts heads : List ℕ) (x : Site) (at n : ℕ) (o : Answer Operator) (a : Bool) (read : n ≡ number_at file at)
    (found : o ≡ operator_in facts (as_code (declared_named names facts n (context_codes contexts heads x.source)))) (answered : a ≡ answered_some o) where
  pub undeclared-open : not a ≡ undeclared_at file names facts contexts heads x at
  unfolding undeclared_at
  undeclared-open = rw (← read, ← found, ← answered)

module _ (file names : List ℕ) (facts : List Facts) (contexts heads : List ℕ) (x : Site) (count i at : ℕ) (w : Bool) (same : undeclared_in file names facts contexts heads x (count - i) at ≡ w) where
  pub undeclared-end : count ≤ i → false ≡ w
  unfolding undeclared_in
  undeclared-end h = start-end (undeclared_at file names facts contexts heads x) file count i at w same h

  pub undeclared-past : i < count → length file < at → false ≡ w
  unfolding undeclared_in
  undeclared-past h p = start-past (undeclared_at file names facts contexts heads x) file count i at w same h p

  pub undeclared-hit : (b : Bool) → i < count → at ≤ length file → b ≡ undeclared_at file names facts contexts heads x at → b ≡ true → true ≡ w
  unfolding undeclared_in
  undeclared-hit b h p q z = start-turn (undeclared_at file names facts contexts heads x) file count i at w same true (next_start file at) h p (sym q ∙ z) refl

  pub undeclared-next : (b : Bool) (next : ℕ) → i < count → at ≤ length file → b ≡ undeclared_at file names facts contexts heads x at → b ≡ false
      → next ≡ next_start file at → undeclared_in file names facts contexts heads x (count - (i + 1)) next ≡ w
  unfolding undeclared_in
  undeclared-next b next h p q z r = start-turn (undeclared_at file names facts contexts heads x) file count i at w same false next h p (sym q ∙ z) r

module _ (file : List ℕ) (at : ℕ) (w : Bool) where
  pub repeated-end : (left : ℕ) → repeated_from file left at ≡ w → left ≤ 0 → false ≡ w
  unfolding repeated_from
  repeated-end zero e h = e
  repeated-end (suc k) e h = absurd (omega arith)

  pub repeated-past : (left : ℕ) → repeated_from file left at ≡ w → 0 < left → length file < at → false ≡ w
  unfolding repeated_from
  repeated-past zero e h p = absurd (omega arith)
  repeated-past (suc k) e h p = rw (lt-ltb (length file) at p) at e

  repeated-turn : (left next n : ℕ) (y : Answer ℕ) (b : Bool) → repeated_from file left at ≡ w → 0 < left → at ≤ length file → next ≡ next_start file at → n ≡ number_at file at
      → y ≡ written_at (left - 1) file next n → b ≡ is_written y → b || repeated_from file (left - 1) next ≡ w
  unfolding repeated_from
  repeated-turn zero next n y b e h p q r f g = absurd (omega arith)
  repeated-turn (suc k) next n y b e h p q r f g =
      let d : suc k - 1 ≡ k = omega arith in
      let z : b ≡ is_written (written_at k file (next_start file at) (number_at file at)) = g ∙ ap is_written f ∙ rw (d, q, r) refl in
      rw (d, q, z) (rw (le-ltb (length file) at p) at e)

  module _ (left next n : ℕ) (y : Answer ℕ) (b : Bool) (same : repeated_from file left at ≡ w) (more : 0 < left) (here : at ≤ length file) (step : next ≡ next_start file at)
      (read : n ≡ number_at file at) (found : y ≡ written_at (left - 1) file next n) (tested : b ≡ is_written y) where
    pub repeated-hit : b ≡ true → true ≡ w
    repeated-hit h = sym (ap (λ (z : Bool). z || repeated_from file (left - 1) next) h) ∙ repeated-turn left next n y b same more here step read found tested

    pub repeated-next : b ≡ false → repeated_from file (left - 1) next ≡ w
    repeated-next h = sym (ap (λ (z : Bool). z || repeated_from file (left - 1) next) h) ∙ repeated-turn left next n y b same more here step read found tested

pub next_start_lem : (file : List ℕ) (at m : ℕ) → m ≡ number_at file (at + 2) → at + 4 + m ≡ next_start file at
unfolding next_start
next_start_lem file at m e = ap (λ (z : ℕ). at + 4 + z) e
