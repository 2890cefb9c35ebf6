-- What a step of the cursor tells of the field that stands there.
use borrow.Author.Tests.{eqb-true, ltb-false}
use mathlib.Core.Bool.{false, true}
use mathlib.Core.List.{List}
use mathlib.Core.Path.{◌≡◌, refl}
use Prim.Native.Nat.{ℕ, ◌+◌, ◌-◌, ◌%◌, ◌/◌}
use native.Mathlib.Omega.{arith}
use lib.Dec.{eqb, leb, ltb}
use lib.ListN.{get_or, length, length-drop, length-take}
use Rattle.tokens.proofs.Places.{cases}
use Rattle.tokens.specs.Expr.{whole_of}
use Rattle.tokens.specs.Token.{number_at}
use Rattle.fields.specs.Cursor.{is_cut, is_end, place_of, stays, step_at}
use Rattle.fields.specs.Payload.{all_named, assume_part, constant_part, definition_part, end_part, extends_part, instance_part, instance_rest, lawful_head, module_part, parts_of, theorem_part, variable_part}
use Rattle.fields.specs.Substitution.{part, substitutions_fit}
use Rattle.fields.specs.declared.Cursor.{Cursor}
use Rattle.fields.specs.declared.Parts.TheVariants.{Module, Extends, Constant, Variable, Definition, Instance, EndModule, Assume, Theorem, Cut, EndOfFile}
use Rattle.fields.specs.declared.Parts.{Parts}
use Rattle.fields.specs.declared.FieldStep.{FieldStep}
use Rattle.agree.specs.Parts.{IsField, Reads}
use Rattle.standing.specs.Standing.{Filled}

-- where there is neither the end nor a cut, a field stands
pub is_field : (s : List ℕ) (at next : ℕ) (x : Parts) → is_end x ≡ false → is_cut x ≡ false → Reads s at next x → IsField s at next x
is_field s at next (Module n) a b r = r
is_field s at next (Extends p k) a b r = r
is_field s at next (Constant n k) a b r = r
is_field s at next (Variable n) a b r = r
is_field s at next (Definition n k p l) a b r = r
is_field s at next (Instance n q m k p) a b r = r
is_field s at next EndModule a b r = r
is_field s at next (Assume p l) a b r = r
is_field s at next (Theorem p l) a b r = r
is_field s at next Cut a b r = absurd (let z : ◌≡◌ {A = ℕ} 0 1 = cc in omega arith)
is_field s at next EndOfFile a b r = absurd (let z : ◌≡◌ {A = ℕ} 0 1 = cc in omega arith)

-- a cut
pub is_cut_lem : (s : List ℕ) (at next : ℕ) (x : Parts) → is_cut x ≡ true → Reads s at next x → Reads s at next Cut
is_cut_lem s at next (Module n) a r = absurd (let z : ◌≡◌ {A = ℕ} 0 1 = cc in omega arith)
is_cut_lem s at next (Extends p k) a r = absurd (let z : ◌≡◌ {A = ℕ} 0 1 = cc in omega arith)
is_cut_lem s at next (Constant n k) a r = absurd (let z : ◌≡◌ {A = ℕ} 0 1 = cc in omega arith)
is_cut_lem s at next (Variable n) a r = absurd (let z : ◌≡◌ {A = ℕ} 0 1 = cc in omega arith)
is_cut_lem s at next (Definition n k p l) a r = absurd (let z : ◌≡◌ {A = ℕ} 0 1 = cc in omega arith)
is_cut_lem s at next (Instance n q m k p) a r = absurd (let z : ◌≡◌ {A = ℕ} 0 1 = cc in omega arith)
is_cut_lem s at next EndModule a r = absurd (let z : ◌≡◌ {A = ℕ} 0 1 = cc in omega arith)
is_cut_lem s at next (Assume p l) a r = absurd (let z : ◌≡◌ {A = ℕ} 0 1 = cc in omega arith)
is_cut_lem s at next (Theorem p l) a r = absurd (let z : ◌≡◌ {A = ℕ} 0 1 = cc in omega arith)
is_cut_lem s at next Cut a r = r
is_cut_lem s at next EndOfFile a r = absurd (let z : ◌≡◌ {A = ℕ} 0 1 = cc in omega arith)

pub is-end : (s : List ℕ) (at next : ℕ) (x : Parts) → is_end x ≡ true → Reads s at next x → Reads s at next EndOfFile
is-end s at next (Module n) a r = absurd (let z : ◌≡◌ {A = ℕ} 0 1 = cc in omega arith)
is-end s at next (Extends p k) a r = absurd (let z : ◌≡◌ {A = ℕ} 0 1 = cc in omega arith)
is-end s at next (Constant n k) a r = absurd (let z : ◌≡◌ {A = ℕ} 0 1 = cc in omega arith)
is-end s at next (Variable n) a r = absurd (let z : ◌≡◌ {A = ℕ} 0 1 = cc in omega arith)
is-end s at next (Definition n k p l) a r = absurd (let z : ◌≡◌ {A = ℕ} 0 1 = cc in omega arith)
is-end s at next (Instance n q m k p) a r = absurd (let z : ◌≡◌ {A = ℕ} 0 1 = cc in omega arith)
is-end s at next EndModule a r = absurd (let z : ◌≡◌ {A = ℕ} 0 1 = cc in omega arith)
is-end s at next (Assume p l) a r = absurd (let z : ◌≡◌ {A = ℕ} 0 1 = cc in omega arith)
is-end s at next (Theorem p l) a r = absurd (let z : ◌≡◌ {A = ℕ} 0 1 = cc in omega arith)
is-end s at next Cut a r = absurd (let z : ◌≡◌ {A = ℕ} 0 1 = cc in omega arith)
is-end s at next EndOfFile a r = r

-- The names of an EXTENDS payload fill it; of the other payloads nothing is asked.
module _ (p : List ℕ) (base end : ℕ) (e : base + length p ≡ end) where
  extends-filled : Filled end (extends_part p base)
  unfolding extends_part
  extends-filled =
      cases (Filled end) (eqb (length p) 0) (λ q. tt)
      (λ q. cases (Filled end) (eqb (length p % 2) 0)
      (λ q. cases (Filled end) (all_named (length p / 2) p 0) (λ r. omega (arith, eqb-true (length p % 2) 0 q)) (λ r. tt))
      (λ q. tt))

  module-filled : Filled end (module_part p)
  unfolding module_part
  module-filled = cases (Filled end) (eqb (length p) 2) (λ q. cases (Filled end) (eqb (number_at p 0) 0) (λ r. tt) (λ r. tt)) (λ q. tt)

  variable-filled : Filled end (variable_part p)
  unfolding variable_part
  variable-filled = cases (Filled end) (eqb (length p) 2) (λ q. cases (Filled end) (eqb (number_at p 0) 0) (λ r. tt) (λ r. tt)) (λ q. tt)

  constant-filled : Filled end (constant_part p)
  unfolding constant_part
  constant-filled = cases (Filled end) (eqb (length p) 3) (λ q. cases (Filled end) (eqb (number_at p 0) 0) (λ r. tt) (λ r. tt)) (λ q. tt)

  definition-filled : Filled end (definition_part p base)
  unfolding definition_part
  definition-filled =
      cases (Filled end) (ltb (length p) 3) (λ q. tt)
      (λ q. cases (Filled end) (eqb (number_at p 0) 0) (λ r. tt) (λ r. cases (Filled end) (whole_of (part p 3 (length p - 3))) (λ w. tt) (λ w. tt)))

  instance-filled : Filled end (instance_part p base)
  unfolding instance_part instance_rest
  instance-filled =
      cases (Filled end) (ltb (length p) 6) (λ q. tt)
      (λ q. cases (Filled end) (eqb (number_at p 3) 0) (λ r. tt)
      (λ r. cases (Filled end) (lawful_head (number_at p 0) (get_or p 2 0))
      (λ w. cases (Filled end) (substitutions_fit (get_or p 5 0) p 6) (λ u. tt) (λ u. tt)) (λ w. tt)))

  end-filled : Filled end (end_part p)
  unfolding end_part
  end-filled = cases (Filled end) (eqb (length p) 0) (λ q. tt) (λ q. tt)

  assume-filled : Filled end (assume_part p base)
  unfolding assume_part
  assume-filled = cases (Filled end) (whole_of p) (λ q. tt) (λ q. tt)

  theorem-filled : Filled end (theorem_part p base)
  unfolding theorem_part
  theorem-filled = cases (Filled end) (whole_of p) (λ q. tt) (λ q. tt)

  parts-filled : (tag : ℕ) → Filled end (parts_of tag p base)
  unfolding parts_of
  parts-filled tag =
      cases (Filled end) (eqb tag 1) (λ q. module-filled)
      (λ q. cases (Filled end) (eqb tag 2) (λ q. extends-filled)
      (λ q. cases (Filled end) (eqb tag 3) (λ q. constant-filled)
      (λ q. cases (Filled end) (eqb tag 4) (λ q. variable-filled)
      (λ q. cases (Filled end) (eqb tag 5) (λ q. definition-filled)
      (λ q. cases (Filled end) (eqb tag 6) (λ q. instance-filled)
      (λ q. cases (Filled end) (eqb tag 7) (λ q. end-filled)
      (λ q. cases (Filled end) (eqb tag 8) (λ q. assume-filled)
      (λ q. cases (Filled end) (eqb tag 9) (λ q. theorem-filled) (λ q. tt)))))))))

-- A step to a field: its number, the next one's, and what fills it.
pub record Stepped (c : Cursor) (x : FieldStep) : Type 0 where
  pub number : x.number ≡ c.number
  pub next : is_end x.parts ≡ false → is_cut x.parts ≡ false → x.next.number ≡ c.number + 1
  pub filled : Filled (place_of x.next) x.parts

stayed-end : (c : Cursor) → Stepped c (stays c EndOfFile)
stayed-end c = record { number = refl; next = λ a b. absurd (let z : ◌≡◌ {A = ℕ} 0 1 = cc in omega arith); filled = tt }

stayed-cut : (c : Cursor) → Stepped c (stays c Cut)
stayed-cut c = record { number = refl; next = λ a b. absurd (let z : ◌≡◌ {A = ℕ} 0 1 = cc in omega arith); filled = tt }

pub stepped : (s : List ℕ) (c : Cursor) → Stepped c (step_at s c)
unfolding step_at
stepped s c =
    let at = place_of c in
    let m = number_at s (at + 1) in
    cases (Stepped c) (leb (length s) at) (λ e. stayed-end c)
    (λ e. cases (Stepped c) (ltb (length s - at) 3) (λ e. stayed-cut c)
    (λ e. cases (Stepped c) (ltb (length s - (at + 3)) m) (λ e. stayed-cut c)
    (λ e.
    let l : length (part s (at + 3) m) ≡ m = simp (length-take, length-drop) (omega (arith, ltb-false (length s - (at + 3)) m e)) in
    record {
      number = refl;
      next = λ a b. refl;
      filled = parts-filled (part s (at + 3) m) (at + 3) (c.number + 1 + (c.offset + 2 + m)) (omega arith) (get_or s at 0);
    })))
