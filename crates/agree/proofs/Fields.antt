-- The field that stands at a position of a file is the one that the rules read there.
-- Assumes nothing.
use mathlib.Core.Path.{◌≡◌, refl, sym, ap, ◌∙◌, subst}
use mathlib.Core.List.{List, ◌++◌}
use mathlib.Core.Option.{Option, none, some}
use Prim.Native.Nat.{ℕ, zero, suc, ◌+◌, ◌-◌, ◌≤◌, ◌<◌}
use native.Mathlib.Omega.{arith}
use lib.Dec.{leb, ltb}
use lib.ListN.{length, get_or, drop, length-append, length-drop, drop_of_length-le}
use borrow.Author.Tests.{leb-true, leb-false, ltb-true, ltb-false}
use Rattle.theory.specs.Lists.{map_option}
use Rattle.rules.specs.Bytes.{Read, cut, got, read_some, ◌>>=◌, Whole, sized, reading, empty}
use Rattle.rules.specs.Expression.{expression}
use Rattle.rules.specs.Field.{Field, begin_module, extends, declare_constant, declare_variable, definition, instance, end_module, assume, theorem, name_payload, extends_payload, constant_payload, definition_payload, instance_payload, field_readers, write_field, field}
use Rattle.laws.proofs.Fields.{field_back, field-trip, field-some}
use Rattle.tokens.specs.Token.{number_at}
use Rattle.tokens.proofs.Places.{cases}
use Rattle.tokens.proofs.Writing.{Bytes}
use Rattle.fields.specs.Substitution.{part}
use Rattle.fields.specs.Payload.{parts_of}
use Rattle.fields.specs.Cursor.{place_of, step_at}
use Rattle.fields.specs.declared.Cursor.{Cursor}
use Rattle.fields.specs.declared.FieldStep.{FieldStep}
use Rattle.fields.specs.declared.Parts.{Parts}
use Rattle.fields.specs.declared.Parts.TheVariants.{Module, Extends, Constant, Variable, Definition, Instance, EndModule, Assume, Theorem, Cut, EndOfFile}
use Rattle.agree.specs.Parts.{IsField, Reads}
use Rattle.agree.proofs.Positions.{byte_at, sized-good, sized-over, no_front}
use Rattle.agree.proofs.Payloads.{Told, is_cut_lem, is_field, field_of, told}

-- a field: the tag, the length, the payload
module _ (s : List ℕ) (at : ℕ) (h : Bytes s) (three : at + 3 ≤ length s) where
  abbrev size : ℕ
  size = number_at s (at + 1)

  tag_read : field.read (drop at s) ≡ get_or field_readers (get_or s at 0) (λ r. cut) (drop (at + 1) s)
  tag_read = ap (λ (x : Read ℕ). x >>= λ t r. get_or field_readers t (λ r. cut) r) (byte_at s at h (omega arith))

  through : {A : Type 0} (f : A → Field) (o : Option A) (r : List ℕ) → (read_some o (λ a. got a r) >>= λ a r. got (f a) r) ≡ read_some (map_option f o) (λ x. got x r)
  through f none r = refl
  through f (some a) r = refl

  good : {A : Type 0} (W : Whole A) (f : A → Field) → size ≤ length s - (at + 3)
      → reading (sized W) f (drop (at + 1) s) ≡ read_some (map_option f (W.read (part s (at + 3) size))) (λ x. got x (drop (at + 3 + size) s))
  good {A} W f l =
      let j : at + 1 + 2 ≡ at + 3 = omega arith in
      ap (λ (x : Read A). x >>= λ a r. got (f a) r) (sized-good s (at + 1) h W (omega arith) (rw j l))
      ∙ ap (λ (i : ℕ). read_some (W.read (part s i size)) (λ a. got a (drop (i + size) s)) >>= λ a r. got (f a) r) j
      ∙ through f (W.read (part s (at + 3) size)) (drop (at + 3 + size) s)

  over : {A : Type 0} (W : Whole A) (f : A → Field) → length s - (at + 3) < size → reading (sized W) f (drop (at + 1) s) ≡ cut
  over {A} W f l =
      let j : at + 1 + 2 ≡ at + 3 = omega arith in
      ap (λ (x : Read A). x >>= λ a r. got (f a) r) (sized-over s (at + 1) h W (omega arith) (rw j l))

  payload-good : (t : ℕ) → size ≤ length s - (at + 3)
      → get_or field_readers t (λ r. cut) (drop (at + 1) s) ≡ read_some (field_of t (part s (at + 3) size)) (λ x. got x (drop (at + 3 + size) s))
  payload-good zero l = refl
  payload-good (suc zero) l = good name_payload begin_module l
  payload-good (suc (suc zero)) l = good extends_payload (λ a. extends a.0 a.1) l
  payload-good (suc (suc (suc zero))) l = good constant_payload (λ a. declare_constant a.0 a.1) l
  payload-good (suc (suc (suc (suc zero)))) l = good name_payload declare_variable l
  payload-good (suc (suc (suc (suc (suc zero))))) l = good definition_payload (λ a. definition a.0 a.1.0 a.1.1) l
  payload-good (suc (suc (suc (suc (suc (suc zero)))))) l = good instance_payload (λ a. instance a.0 a.1.0 a.1.1.0 a.1.1.1) l
  payload-good (suc (suc (suc (suc (suc (suc (suc zero))))))) l = good empty (λ u. end_module) l
  payload-good (suc (suc (suc (suc (suc (suc (suc (suc zero)))))))) l = good expression assume l
  payload-good (suc (suc (suc (suc (suc (suc (suc (suc (suc zero))))))))) l = good expression theorem l
  payload-good (suc (suc (suc (suc (suc (suc (suc (suc (suc (suc t)))))))))) l = refl

  payload-over : (t : ℕ) → length s - (at + 3) < size → get_or field_readers t (λ r. cut) (drop (at + 1) s) ≡ cut
  payload-over zero l = refl
  payload-over (suc zero) l = over name_payload begin_module l
  payload-over (suc (suc zero)) l = over extends_payload (λ a. extends a.0 a.1) l
  payload-over (suc (suc (suc zero))) l = over constant_payload (λ a. declare_constant a.0 a.1) l
  payload-over (suc (suc (suc (suc zero)))) l = over name_payload declare_variable l
  payload-over (suc (suc (suc (suc (suc zero))))) l = over definition_payload (λ a. definition a.0 a.1.0 a.1.1) l
  payload-over (suc (suc (suc (suc (suc (suc zero)))))) l = over instance_payload (λ a. instance a.0 a.1.0 a.1.1.0 a.1.1.1) l
  payload-over (suc (suc (suc (suc (suc (suc (suc zero))))))) l = over empty (λ u. end_module) l
  payload-over (suc (suc (suc (suc (suc (suc (suc (suc zero)))))))) l = over expression assume l
  payload-over (suc (suc (suc (suc (suc (suc (suc (suc (suc zero))))))))) l = over expression theorem l
  payload-over (suc (suc (suc (suc (suc (suc (suc (suc (suc (suc t)))))))))) l = refl

is_read : (s : List ℕ) (at next : ℕ) (x : Parts) → IsField s at next x → Reads s at next x
is_read s at next (Module n) f = f
is_read s at next (Extends p k) f = f
is_read s at next (Constant n k) f = f
is_read s at next (Variable n) f = f
is_read s at next (Definition n k p l) f = f
is_read s at next (Instance n q m k p) f = f
is_read s at next EndModule f = f
is_read s at next (Assume p l) f = f
is_read s at next (Theorem p l) f = f
is_read s at next Cut f = absurd f.1
is_read s at next EndOfFile f = absurd f.1

length-read : (s : List ℕ) (at next : ℕ) (f : Field) → at ≤ next → next ≤ length s → field.read (drop at s) ≡ got f (drop next s) → next ≡ at + length (write_field f)
length-read s at next f l k q =
    let e : length (write_field f ++ drop next s) ≡ length (drop at s) = ap length (field_back (drop at s) f (drop next s) q).1 in
    let a : length (write_field f ++ drop next s) ≡ length (write_field f) + length (drop next s) = length-append (write_field f) (drop next s) in
    let b = length-drop next s in
    let c = length-drop at s in
    omega arith

from_told : (s : List ℕ) (at next : ℕ) (x : Parts) (o : Option Field) → at < length s → at ≤ next → next ≤ length s → field.read (drop at s) ≡ read_some o (λ f. got f (drop next s))
    → Told s next x o → Reads s at next x
from_told s at next x o l m k q (is_cut_lem e r) =
    subst (Reads s at next) (sym e) (l, q ∙ ap (λ (o : Option Field). read_some o (λ f. got f (drop next s))) r)
from_told s at next x o l m k q (is_field f t r) =
    let e : field.read (drop at s) ≡ got f (drop next s) = q ∙ ap (λ (o : Option Field). read_some o (λ f. got f (drop next s))) r in
    is_read s at next x (f, t, e, length-read s at next f m k e, k)

-- At every position the answer is what the rules read there.
pub reads : (s : List ℕ) (c : Cursor) → Bytes s → Reads s (place_of c) (place_of (step_at s c).next) (step_at s c).parts
unfolding step_at
reads s c h =
    let at = place_of c in
    let m = number_at s (at + 1) in
    let P : FieldStep → Type 0 = λ x. Reads s at (place_of x.next) x.parts in
    cases P (leb (length s) at)
    (λ e. let l = leb-true (length s) at e in (l, drop_of_length-le s l))
    (λ e. let l = leb-false (length s) at e in
    cases P (ltb (length s - at) 3)
    (λ e. (l, short s at (ltb-true (length s - at) 3 e)))
    (λ e. let k : at + 3 ≤ length s = three s at l (ltb-false (length s - at) 3 e) in
    cases P (ltb (length s - (at + 3)) m)
    (λ e. (l, tag_read s at h k ∙ payload-over s at h k (get_or s at 0) (ltb-true (length s - (at + 3)) m e)))
    (λ e. let r = ltb-false (length s - (at + 3)) m e in
    let q : at + 3 + m ≤ length s = ends s at m k r in
    let x = parts_of (get_or s at 0) (part s (at + 3) m) (at + 3) in
    subst (λ (j : ℕ). Reads s at j x) (gone m)
    (from_told s at (at + 3 + m) x (field_of (get_or s at 0) (part s (at + 3) m)) l (omega arith) q
    (tag_read s at h k ∙ payload-good s at h k (get_or s at 0) r) (told s (at + 3) m h q (get_or s at 0))))))
  where
    short : (s : List ℕ) (at : ℕ) → length s - at < 3 → field.read (drop at s) ≡ cut
    short s at l = no_front field-trip (drop at s) (λ f r g e. few f r (ap length e))
      where
        few : (f : Field) (r : List ℕ) → length (write_field f ++ r) ≡ length (drop at s) → ⊥
        few f r e =
            let a = length-append (write_field f) r in
            let b = length-drop at s in
            let c = field-some f in
            omega arith

    three : (s : List ℕ) (at : ℕ) → at < length s → 3 ≤ length s - at → at + 3 ≤ length s
    three s at l k = omega arith

    ends : (s : List ℕ) (at m : ℕ) → at + 3 ≤ length s → m ≤ length s - (at + 3) → at + 3 + m ≤ length s
    ends s at m k r = omega arith

    gone : (n : ℕ) → place_of c + 3 + n ≡ c.number + 1 + (c.offset + 2 + n)
    gone n = omega arith
