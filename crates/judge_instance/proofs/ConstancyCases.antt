-- One lemma for each way through the functions that find whether a module is constant.
use borrow.Author.Tests.{le-ltb, lt-ltb}
use mathlib.Core.Bool.{Bool, ◌&&◌, false, not, true}
use mathlib.Core.List.{List}
use mathlib.Core.Path.{◌∙◌, ◌≡◌, ap, refl, sym}
use lib.Dec.{eqb, ltb}
use lib.ListN.{get_or, replicate}
use native.Mathlib.Omega.{arith}
use Prim.Native.Nat.{◌*◌, ◌+◌, ◌-◌, ◌<◌, ◌≤◌, ℕ}
use Rattle.context.specs.Lookup.{is_declared}
use Rattle.context.specs.Parts.{part}
use Rattle.context.specs.Entries.{context_codes, order_of, variable_kind}
use Rattle.store.specs.Store.{context_slot, kind_at, order_slot}
use Rattle.store.specs.declared.Facts.{Facts}
use Rattle.forms.specs.Forms.{level_at}
use Rattle.limits.specs.Limits.{max_definitions}
use Rattle.limits.specs.Sizes.{context_length}
use Rattle.judge_instance.proofs.LevelCases.{eqb-turn}
use Rattle.judge_instance.specs.Constancy.{constant_codes, is_variable_code, uneven_among, uneven_form, variable_among}

-- is_variable
module _ (facts : List Facts) (o : ℕ) (d : Bool) (e : d ≡ is_declared facts o) where
  pub variable-code : (kind : ℕ) (r : Bool) → d ≡ true → kind ≡ kind_at facts o → r ≡ eqb kind 256 → r ≡ is_variable_code facts o
  variable-code kind r t k h = h ∙ ap (λ (n : ℕ). eqb n variable_kind) k ∙ ap (λ (b : Bool). b && eqb (kind_at facts o) variable_kind) (sym (sym e ∙ t))

  pub variable-other : d ≡ false → d ≡ is_variable_code facts o
  variable-other t = t ∙ ap (λ (b : Bool). b && eqb (kind_at facts o) variable_kind) (sym (sym e ∙ t))

-- is_uneven
module _ (words : List ℕ) (g : ℕ) where
  pub uneven-form : (l : ℕ) → g < max_definitions → ((n : ℕ) → l ≡ level_at (get_or words g 0) (replicate n 0)) → not (eqb l 0) ≡ uneven_form words g
  uneven-form l h k = rw (lt-ltb g max_definitions h) (ap not (eqb-turn l 0 ∙ ap (eqb 0) (k 0)))

  pub uneven-other : max_definitions ≤ g → ltb g max_definitions ≡ uneven_form words g
  uneven-other h = let e : false ≡ uneven_form words g = rw (le-ltb g max_definitions h) refl in le-ltb g max_definitions h ∙ e

-- is_constant
module _ (words : List ℕ) (facts : List Facts) (contexts orders heads : List ℕ) (q count : ℕ) (b : Bool) (n : count ≡ get_or heads (context_slot q) 0)
    (e : b ≡ variable_among facts (part contexts (q * context_length) (q * context_length + count - q * context_length))) where
  codes-there : b ≡ variable_among facts (context_codes contexts heads q)
  codes-there =
      let z : q * context_length + count - q * context_length ≡ count = omega arith in
      e ∙ ap (λ (k : ℕ). variable_among facts (part contexts (q * context_length) k)) (z ∙ n)

  pub constant-not : b ≡ true → not b ≡ constant_codes words facts (context_codes contexts heads q) (order_of orders heads q)
  unfolding constant_codes
  constant-not t = ap not t ∙ ap (λ (x : Bool). not x && not (uneven_among words (order_of orders heads q))) (sym (sym codes-there ∙ t))

  pub constant-even : (size : ℕ) (r : Bool) → b ≡ false → size ≡ get_or heads (order_slot q) 0
      → r ≡ uneven_among words (part orders (q * max_definitions) (q * max_definitions + size - q * max_definitions))
      → not r ≡ constant_codes words facts (context_codes contexts heads q) (order_of orders heads q)
  unfolding constant_codes
  constant-even size r t m f =
      let z : q * max_definitions + size - q * max_definitions ≡ size = omega arith in
      ap not (f ∙ ap (λ (k : ℕ). uneven_among words (part orders (q * max_definitions) k)) (z ∙ m))
      ∙ ap (λ (x : Bool). not x && not (uneven_among words (order_of orders heads q))) (sym (sym codes-there ∙ t))
