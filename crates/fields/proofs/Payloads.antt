-- Each way through the code that reads a payload, with the facts that the code has there as premises.
-- Assumes nothing.
use mathlib.Core.Path.{◌≡◌, refl, sym, ◌∙◌}
use mathlib.Core.Bool.{Bool, true, false, cond, not}
use mathlib.Core.List.{List}
use Prim.Native.Nat.{ℕ, zero, suc, ◌+◌, ◌*◌, ◌-◌, ◌/◌, ◌%◌, ◌≤◌, ◌<◌}
use native.Mathlib.Omega.{arith}
use lib.Dec.{eqb}
use lib.ListN.{length, get_or, take, drop}
use borrow.Author.Tests.{lt-ltb, le-ltb, eq-eqb, ne_eqb}
use Rattle.std.specs.Bool.{then_some}
use Rattle.std.specs.Prelude.{Option, None, Some}
use Rattle.tokens.specs.Token.{number_at}
use Rattle.tokens.specs.Expr.{whole_of}
use Rattle.fields.specs.Substitution.{substitutions_fit}
use Rattle.fields.specs.Payload.{parts_of, module_part, variable_part, extends_part, constant_part, definition_part, instance_part, instance_rest, end_part, sole_name, formula_part, assume_part, theorem_part, all_named, lawful_head}
use Rattle.fields.specs.declared.Parts.{Parts}
use Rattle.fields.specs.declared.Parts.TheVariants.{Module, Extends, Constant, Variable, Definition, Instance, EndModule, Assume, Theorem, Cut}

module _ (p : List ℕ) where
  named : (f : ℕ → Parts) (n : ℕ) → sole_name p ≡ Some n → f n ≡ cond (eqb (length p) 2) (cond (eqb (number_at p 0) 0) Cut (f (number_at p 0))) Cut
  unfolding sole_name
  named f n = go (eqb (length p) 2) (eqb (number_at p 0) 0)
    where
      go : (a b : Bool) → cond a (cond b None (Some (number_at p 0))) None ≡ Some n → f n ≡ cond a (cond b Cut (f (number_at p 0))) Cut
      go true false e = let q : number_at p 0 ≡ n = cc in rw q
      go true true e = absurd (let z : ◌≡◌ {A = ℕ} 0 1 = cc in omega arith)
      go false b e = absurd (let z : ◌≡◌ {A = ℕ} 0 1 = cc in omega arith)

  nameless : (f : ℕ → Parts) → sole_name p ≡ None → Cut ≡ cond (eqb (length p) 2) (cond (eqb (number_at p 0) 0) Cut (f (number_at p 0))) Cut
  unfolding sole_name
  nameless f = go (eqb (length p) 2) (eqb (number_at p 0) 0)
    where
      go : (a b : Bool) → cond a (cond b None (Some (number_at p 0))) None ≡ None → Cut ≡ cond a (cond b Cut (f (number_at p 0))) Cut
      go true false e = absurd (let z : ◌≡◌ {A = ℕ} 0 1 = cc in omega arith)
      go true true e = refl
      go false b e = refl

  pub name-there : (n : ℕ) (r : Option ℕ) → length p ≡ 2 → n ≡ number_at p 0 → r ≡ then_some (not (eqb n 0)) n → r ≡ sole_name p
  unfolding sole_name
  name-there n r l e q = q ∙ rw (eq-eqb (length p) 2 l, ← e) (go (eqb n 0))
    where
      go : (b : Bool) → then_some (not b) n ≡ cond b None (Some n)
      go true = refl
      go false = refl

  pub name-size : (length p ≡ 2 → ⊥) → None ≡ sole_name p
  unfolding sole_name
  name-size l = rw (ne_eqb (length p) 2 l)

  module _ (o : Option ℕ) (e : o ≡ sole_name p) where
    pub module-there : (n : ℕ) → o ≡ Some n → Module n ≡ module_part p
    unfolding module_part
    module-there n h = named Module n (sym e ∙ h)

    pub module-cut : o ≡ None → Cut ≡ module_part p
    unfolding module_part
    module-cut h = nameless Module (sym e ∙ h)

    pub variable-there : (n : ℕ) → o ≡ Some n → Variable n ≡ variable_part p
    unfolding variable_part
    variable-there n h = named Variable n (sym e ∙ h)

    pub variable-cut : o ≡ None → Cut ≡ variable_part p
    unfolding variable_part
    variable-cut h = nameless Variable (sym e ∙ h)

  pub constant-there : (n : ℕ) → length p ≡ 3 → n ≡ number_at p 0 → (n ≡ 0 → ⊥) → Constant n (get_or p 2 0) ≡ constant_part p
  unfolding constant_part
  constant-there n l e h = rw (eq-eqb (length p) 3 l, ← e, ne_eqb n 0 h)

  pub constant-zero : (n : ℕ) → length p ≡ 3 → n ≡ number_at p 0 → n ≡ 0 → Cut ≡ constant_part p
  unfolding constant_part
  constant-zero n l e h = rw (eq-eqb (length p) 3 l, ← e, eq-eqb n 0 h)

  pub constant-size : (length p ≡ 3 → ⊥) → Cut ≡ constant_part p
  unfolding constant_part
  constant-size l = rw (ne_eqb (length p) 3 l)

  pub end-there : length p ≡ 0 → EndModule ≡ end_part p
  unfolding end_part
  end-there l = rw (eq-eqb (length p) 0 l)

  pub end-size : (length p ≡ 0 → ⊥) → Cut ≡ end_part p
  unfolding end_part
  end-size l = rw (ne_eqb (length p) 0 l)

  -- names
  name_first : (left at : ℕ) → 0 < left → all_named left p at ≡ cond (eqb (number_at p at) 0) false (all_named (left - 1) p (at + 2))
  unfolding all_named
  name_first zero at l = absurd (omega arith)
  name_first (suc left) at l = let d : suc left - 1 ≡ left = omega arith in rw d

  module _ (k i : ℕ) (v : all_named (k - i) p (2 * i) ≡ all_named k p 0) where
    pub name-zero : (n : ℕ) → i < k → n ≡ number_at p (2 * i) → n ≡ 0 → false ≡ all_named k p 0
    name-zero n l e h = rw (name_first (k - i) (2 * i) (omega arith), ← e, h) at v

    pub name-next : (n : ℕ) → i < k → n ≡ number_at p (2 * i) → (n ≡ 0 → ⊥) → all_named (k - (i + 1)) p (2 * (i + 1)) ≡ all_named k p 0
    name-next n l e h =
        let d : k - (i + 1) ≡ k - i - 1 = omega arith in
        let a : 2 * (i + 1) ≡ 2 * i + 2 = omega arith in
        rw (d, a) (rw (name_first (k - i) (2 * i) (omega arith), ← e, ne_eqb n 0 h) at v)

    pub name-end : k ≤ i → true ≡ all_named k p 0
    unfolding all_named
    name-end l = let d : k - i ≡ 0 = omega arith in rw d at v

  pub extends-none : (base : ℕ) → length p ≡ 0 → Cut ≡ extends_part p base
  unfolding extends_part
  extends-none base l = rw (eq-eqb (length p) 0 l)

  pub extends-odd : (base : ℕ) → (length p ≡ 0 → ⊥) → (length p % 2 ≡ 0 → ⊥) → Cut ≡ extends_part p base
  unfolding extends_part
  extends-odd base l o = rw (ne_eqb (length p) 0 l, ne_eqb (length p % 2) 0 o)

  pub extends-there : (base : ℕ) (w : Bool) → w ≡ all_named (length p / 2) p 0 → (length p ≡ 0 → ⊥) → length p % 2 ≡ 0 → w ≡ true
      → Extends base (length p / 2) ≡ extends_part p base
  unfolding extends_part
  extends-there base w e l o h = rw (ne_eqb (length p) 0 l, eq-eqb (length p % 2) 0 o, ← e, h)

  pub extends-zero : (base : ℕ) (w : Bool) → w ≡ all_named (length p / 2) p 0 → (length p ≡ 0 → ⊥) → length p % 2 ≡ 0 → w ≡ false
      → Cut ≡ extends_part p base
  unfolding extends_part
  extends-zero base w e l o h = rw (ne_eqb (length p) 0 l, eq-eqb (length p % 2) 0 o, ← e, h)

  -- definitions
  pub definition-short : (base : ℕ) → length p < 3 → Cut ≡ definition_part p base
  unfolding definition_part
  definition-short base l = rw (lt-ltb (length p) 3 l)

  pub definition-zero : (base n : ℕ) → 3 ≤ length p → n ≡ number_at p 0 → n ≡ 0 → Cut ≡ definition_part p base
  unfolding definition_part
  definition-zero base n l e h = rw (le-ltb (length p) 3 l, ← e, eq-eqb n 0 h)

  pub definition-there : (base n : ℕ) (w : Bool) → w ≡ whole_of (take (length p - 3) (drop 3 p)) → 3 ≤ length p → n ≡ number_at p 0 → (n ≡ 0 → ⊥) → w ≡ true
      → Definition n (get_or p 2 0) (base + 3) (length p - 3) ≡ definition_part p base
  unfolding definition_part
  definition-there base n w g l e h t = rw (le-ltb (length p) 3 l, ← e, ne_eqb n 0 h, ← g, t)

  pub definition-cut : (base n : ℕ) (w : Bool) → w ≡ whole_of (take (length p - 3) (drop 3 p)) → 3 ≤ length p → n ≡ number_at p 0 → (n ≡ 0 → ⊥) → w ≡ false
      → Cut ≡ definition_part p base
  unfolding definition_part
  definition-cut base n w g l e h t = rw (le-ltb (length p) 3 l, ← e, ne_eqb n 0 h, ← g, t)

  -- instances
  pub instance-short : (base : ℕ) → length p < 6 → Cut ≡ instance_part p base
  unfolding instance_part
  instance-short base l = rw (lt-ltb (length p) 6 l)

  pub instance-zero : (base m : ℕ) → 6 ≤ length p → m ≡ number_at p 3 → m ≡ 0 → Cut ≡ instance_part p base
  unfolding instance_part
  instance-zero base m l e h = rw (le-ltb (length p) 6 l, ← e, eq-eqb m 0 h)

  pub instance-on : (base n m : ℕ) (r : Parts) → r ≡ instance_rest p base n m → 6 ≤ length p → m ≡ number_at p 3 → (m ≡ 0 → ⊥) → n ≡ number_at p 0 → r ≡ instance_part p base
  unfolding instance_part
  instance-on base n m r q l e h g = rw (le-ltb (length p) 6 l, ← e, ne_eqb m 0 h, ← g) q

  pub instance-head : (base n m : ℕ) (w : Bool) → w ≡ lawful_head n (get_or p 2 0) → w ≡ false → Cut ≡ instance_rest p base n m
  unfolding instance_rest
  instance-head base n m w f t = rw (← f, t)

  pub instance-cut : (base n m : ℕ) (w v : Bool) → w ≡ lawful_head n (get_or p 2 0) → v ≡ substitutions_fit (get_or p 5 0) p 6 → w ≡ true → v ≡ false → Cut ≡ instance_rest p base n m
  unfolding instance_rest
  instance-cut base n m w v f d t u = rw (← f, t, ← d, u)

  pub instance-there : (base n m : ℕ) (w v : Bool) → w ≡ lawful_head n (get_or p 2 0) → v ≡ substitutions_fit (get_or p 5 0) p 6 → w ≡ true → v ≡ true
      → Instance n (get_or p 2 0) m (get_or p 5 0) (base + 6) ≡ instance_rest p base n m
  unfolding instance_rest
  instance-there base n m w v f d t u = rw (← f, t, ← d, u)

  -- the tag is one of nine
  pub tag-1 : (tag base : ℕ) (r : Parts) → tag ≡ 1 → r ≡ module_part p → r ≡ parts_of tag p base
  unfolding parts_of
  tag-1 tag base r e q = rw (e, q)

  pub tag-2 : (tag base : ℕ) (r : Parts) → tag ≡ 2 → r ≡ extends_part p base → r ≡ parts_of tag p base
  unfolding parts_of
  tag-2 tag base r e q = rw (e, q)

  pub tag-3 : (tag base : ℕ) (r : Parts) → tag ≡ 3 → r ≡ constant_part p → r ≡ parts_of tag p base
  unfolding parts_of
  tag-3 tag base r e q = rw (e, q)

  pub tag-4 : (tag base : ℕ) (r : Parts) → tag ≡ 4 → r ≡ variable_part p → r ≡ parts_of tag p base
  unfolding parts_of
  tag-4 tag base r e q = rw (e, q)

  pub tag-5 : (tag base : ℕ) (r : Parts) → tag ≡ 5 → r ≡ definition_part p base → r ≡ parts_of tag p base
  unfolding parts_of
  tag-5 tag base r e q = rw (e, q)

  pub tag-6 : (tag base : ℕ) (r : Parts) → tag ≡ 6 → r ≡ instance_part p base → r ≡ parts_of tag p base
  unfolding parts_of
  tag-6 tag base r e q = rw (e, q)

  pub tag-7 : (tag base : ℕ) (r : Parts) → tag ≡ 7 → r ≡ end_part p → r ≡ parts_of tag p base
  unfolding parts_of
  tag-7 tag base r e q = rw (e, q)

  pub tag-8 : (tag base : ℕ) (r : Parts) → tag ≡ 8 → r ≡ formula_part p (Assume base (length p)) → r ≡ parts_of tag p base
  unfolding parts_of assume_part
  tag-8 tag base r e q = rw (e, q)

  pub tag-9 : (tag base : ℕ) (r : Parts) → tag ≡ 9 → r ≡ formula_part p (Theorem base (length p)) → r ≡ parts_of tag p base
  unfolding parts_of theorem_part
  tag-9 tag base r e q = rw (e, q)

  pub tag-other : (tag base : ℕ) → (tag ≡ 1 → ⊥) → (tag ≡ 2 → ⊥) → (tag ≡ 3 → ⊥) → (tag ≡ 4 → ⊥) → (tag ≡ 5 → ⊥) → (tag ≡ 6 → ⊥) → (tag ≡ 7 → ⊥) → (tag ≡ 8 → ⊥) → (tag ≡ 9 → ⊥)
      → Cut ≡ parts_of tag p base
  unfolding parts_of
  tag-other tag base a b c d e f g h i =
      rw (ne_eqb tag 1 a, ne_eqb tag 2 b, ne_eqb tag 3 c, ne_eqb tag 4 d, ne_eqb tag 5 e, ne_eqb tag 6 f, ne_eqb tag 7 g, ne_eqb tag 8 h, ne_eqb tag 9 i)
