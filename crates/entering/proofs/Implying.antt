-- `implied`: numbers of declarations, and the level of an implied substitute.
use mathlib.Core.Path.{◌≡◌, refl, sym, ap, ap₂, ◌∙◌}
use mathlib.Core.Bool.{Bool, true, false}
use mathlib.Core.List.{List, ◌++◌}
use Prim.Native.Nat.{ℕ, ◌+◌, ◌/◌, ◌%◌, ◌^◌, ◌≤◌, ◌<◌}
use native.Mathlib.Omega.{arith}
use borrow.Author.Tests.{lt-ltb, le-ltb, le-leb, lt-leb}
use lib.Bits.{bit_or}
use lib.ListN.{get_or, length}
use Rattle.limits.specs.Limits.{max_arity, max_declarations, max_definitions}
use Rattle.theory.specs.Level.{IsLevel}
use Rattle.theory.specs.Lists.{All, param_levels}
use Rattle.texts.specs.Text.{named}
use Rattle.forms.specs.declared.Led.{Led}
use Rattle.forms.specs.Forms.{Gives, Leads, bits_at, gives, level_at, width}
use Rattle.forms.specs.Labels.{level_of, whole}
use Rattle.forms.proofs.Forms.{bits-base, under_all}
use Rattle.forms.proofs.Laws.{or_assoc, whole-digit}
use Rattle.forms.proofs.Leading.{gives-append, params-length}
use Rattle.levels.specs.Tables.{place_of, scene_of}
use Rattle.levels.proofs.Heads.{same_place}
use Rattle.store.specs.Store.{first_at}
use Rattle.store.specs.declared.Facts.{Facts}
use Rattle.context.specs.Lookup.{is_declared}
use Rattle.std.specs.Prelude.{Option as Answer, Some, None}
use Rattle.context.specs.declared.Operator.{Operator}
use Rattle.context.specs.declared.Operator.TheVariants.{Constant, Variable, Defined}
use Rattle.entering.specs.Implied.{arguments_of, implied_level, number_of, ref_of}

module _ (facts : List Facts) (o : ℕ) where
  pub number-declared : (b : Bool) (d : ℕ) → b ≡ is_declared facts o → b ≡ true → d ≡ first_at facts o → d < max_declarations → d ≡ number_of facts o
  unfolding number_of
  number-declared b d e t q h =
      let z : is_declared facts o ≡ true = sym e ∙ t in
      let l : first_at facts o < max_declarations = omega arith in
      rw (z, lt-ltb (first_at facts o) max_declarations l) q

  pub number-large : (b : Bool) (d : ℕ) → b ≡ is_declared facts o → b ≡ true → d ≡ first_at facts o → max_declarations ≤ d → max_declarations ≡ number_of facts o
  unfolding number_of
  number-large b d e t q h =
      let z : is_declared facts o ≡ true = sym e ∙ t in
      let l : max_declarations ≤ first_at facts o = omega arith in
      rw (z, le-ltb (first_at facts o) max_declarations l) refl

  pub number-other : (b : Bool) → b ≡ is_declared facts o → b ≡ false → max_declarations ≡ number_of facts o
  unfolding number_of
  number-other b e t = let z : is_declared facts o ≡ false = sym e ∙ t in rw z refl

pub arguments-few : (k : ℕ) → k ≤ max_arity → k ≡ arguments_of k
unfolding arguments_of
arguments-few k h = rw (le-leb k max_arity h) refl

pub arguments-none : (k : ℕ) → max_arity < k → 0 ≡ arguments_of k
unfolding arguments_of
arguments-none k h = rw (lt-leb k max_arity h) refl

-- the number for what a name is
module _ (facts : List Facts) (p q : Answer Operator) (e : p ≡ q) where
  pub ref-constant : (o k d r : ℕ) (y : Operator) → p ≡ Some y → y ≡ Constant o k → d ≡ number_of facts o → r ≡ max_definitions + d → r ≡ ref_of facts q
  unfolding ref_of
  ref-constant o k d r y z i n h = h ∙ ap (λ (j : ℕ). max_definitions + j) n ∙ ap (ref_of facts) (sym (z ∙ ap (λ (x : Operator). Some x) i) ∙ e)

  pub ref-variable : (o d r : ℕ) (y : Operator) → p ≡ Some y → y ≡ Variable o → d ≡ number_of facts o → r ≡ max_definitions + d → r ≡ ref_of facts q
  unfolding ref_of
  ref-variable o d r y z i n h = h ∙ ap (λ (j : ℕ). max_definitions + j) n ∙ ap (ref_of facts) (sym (z ∙ ap (λ (x : Operator). Some x) i) ∙ e)

  pub ref-defined : (g : ℕ) (y : Operator) → p ≡ Some y → y ≡ Defined g → g ≡ ref_of facts q
  unfolding ref_of
  ref-defined g y z i = ap (ref_of facts) (sym (z ∙ ap (λ (x : Operator). Some x) i) ∙ e)

  pub ref-unknown : (r : ℕ) → p ≡ None → r ≡ max_definitions + max_declarations → r ≡ ref_of facts q
  unfolding ref_of
  ref-unknown r z h = h ∙ ap (ref_of facts) (sym z ∙ e)

-- what the labels of the name's form make of the instances' parameters and of those in a row
pub implied-gives : (numbers words : List ℕ) (r P p k g w : ℕ) (led all : Led) → g ≡ place_of numbers r → w ≡ get_or words g 0
    → Leads (w % 8) 1 (w / 8) 0 P led → Leads led.form 1 led.labels (P + p) k all → Gives all.form (implied_level numbers words r P p k)
unfolding implied_level level_at bits_at
implied-gives numbers words r P p k g w led all eg ew a b = record { at = λ v h low. ap level_of (bits v h low) ∙ level v }
  where
    row : List ℕ → List ℕ
    row v = param_levels 0 P v ++ param_levels (P + p) k v

    bits : (v : List ℕ) → length v ≤ width → All IsLevel v → bits_at all.form v ≡ bits_at w (row v)
    bits v h low =
        let ps = param_levels 0 P v in
        let qs = param_levels (P + p) k v in
        b.form.at v h low
        ∙ ap₂ bit_or (a.form.at v h low ∙ ap₂ bit_or (bits-base (w % 8) v (omega arith) ∙ whole-digit w) (under_all (w / 8) ps))
        (under_all led.labels qs ∙ ap (λ (x : ℕ). gives x qs) (a.labels ∙ ap (λ (n : ℕ). w / 8 / 8 ^ n) (sym (params-length 0 P v))))
        ∙ or_assoc (whole w) (gives (w / 8) ps) (gives (w / 8 / 8 ^ length ps) qs)
        ∙ ap (bit_or (whole w)) (sym (gives-append (w / 8) ps qs))

    level : (v : List ℕ) → level_at w (row v) ≡ named (scene_of numbers words) r (row v)
    level v = ap (λ (x : ℕ). level_at x (row v)) (ew ∙ ap (λ (i : ℕ). get_or words i 0) eg) ∙ same_place numbers words r (row v)
