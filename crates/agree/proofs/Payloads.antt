-- The parts of a payload tell of the field that the rules read in it, for each of the nine tags.
-- Assumes nothing.
use mathlib.Core.Path.{◌≡◌, refl, sym, ap, ap₂, ◌∙◌, subst}
use mathlib.Core.Bool.{Bool, true, false, cond, ◌||◌}
use mathlib.Core.List.{List, [], ◌∷◌}
use mathlib.Core.Option.{Option, none, some}
use Prim.Native.Nat.{ℕ, zero, suc, ◌+◌, ◌*◌, ◌-◌, ◌/◌, ◌%◌, ◌≤◌, ◌<◌}
use mathlib.Core.Logic.{◌⊎◌, inl, inr}
use native.Mathlib.Nat.{add-zero}
use native.Mathlib.Omega.{arith}
use lib.Dec.{leb, ltb, eqb}
use lib.ListN.{length, get_or, drop, length-drop}
use lib.Seq.{take_all}
use borrow.Author.Tests.{eqb-true, eqb-false, ltb-true, ltb-false}
use Rattle.theory.specs.Lists.{map_option}
use Rattle.rules.specs.Bytes.{Read, cut, got, given, when, ◌>>=◌, name, read_times, read_up_to, empty}
use Rattle.rules.specs.Expression.{Expression, expression}
use Rattle.rules.specs.Field.{Field, begin_module, extends, declare_constant, declare_variable, definition, instance, end_module, assume, theorem, Substitution, name_payload, extends_payload, constant_payload, definition_payload, instance_payload}
use Rattle.laws.proofs.Formats.{WholeTrip, byte-trip, two-trip, only-trip, just-trip, name-trip, names-trip, pair-trip, rest-trip, counted-trip, empty-trip}
use Rattle.laws.proofs.Expressions.{expression-trip}
use Rattle.tokens.specs.Token.{number_at}
use Rattle.tokens.specs.Expr.{whole_of}
use Rattle.tokens.proofs.Places.{cases}
use Rattle.tokens.proofs.Writing.{Bytes}
use Rattle.fields.specs.Substitution.{part, substitutions_fit}
use Rattle.fields.specs.Payload.{parts_of, module_part, variable_part, extends_part, constant_part, definition_part, instance_part, instance_rest, end_part, assume_part, theorem_part, all_named, lawful_head}
use Rattle.fields.specs.declared.Parts.{Parts}
use Rattle.fields.specs.declared.Parts.TheVariants.{Extends, Definition, Instance, Cut}
use Rattle.agree.specs.Parts.{names_at, Tells}
use Rattle.agree.proofs.Expressions.{whole-read, not-whole}
use Rattle.agree.proofs.Positions.{bytes-part, length_part, two-part, part-part, drop-none, no_name, a-name, byte_at, two_at, name-good, name-bad, no_whole}
use Rattle.agree.proofs.Substitutions.{done, names-part, names-read, names-length, substitution, substitution-trip, AllRead, substitutions, substitutions-part}

-- a payload: a field of which the parts tell, or none
pub data Told (s : List ℕ) (end : ℕ) (x : Parts) (o : Option Field) : Type 0 where
  is_cut_lem : x ≡ Cut → o ≡ none → Told s end x o
  is_field : (f : Field) → Tells s end x f → o ≡ some f → Told s end x o

-- the field of a payload
abbrev pub payloads : List (List ℕ → Option Field)
payloads = (λ p. none)
    ∷ (λ p. map_option begin_module (name_payload.read p))
    ∷ (λ p. map_option (λ a. extends a.0 a.1) (extends_payload.read p))
    ∷ (λ p. map_option (λ a. declare_constant a.0 a.1) (constant_payload.read p))
    ∷ (λ p. map_option declare_variable (name_payload.read p))
    ∷ (λ p. map_option (λ a. definition a.0 a.1.0 a.1.1) (definition_payload.read p))
    ∷ (λ p. map_option (λ a. instance a.0 a.1.0 a.1.1.0 a.1.1.1) (instance_payload.read p))
    ∷ (λ p. map_option (λ u. end_module) (empty.read p))
    ∷ (λ p. map_option assume (expression.read p))
    ∷ (λ p. map_option theorem (expression.read p))
    ∷ []

abbrev pub field_of : ℕ → List ℕ → Option Field
field_of t p = get_or payloads t (λ p. none) p

-- what the rules read of an instance, step by step
abbrev Six : Type 0
Six = ℕ × (ℕ × (ℕ × List Substitution))

abbrev six : ℕ → ℕ → ℕ → List Substitution → Six
six n c m ss = (n, (c, (m, ss)))

abbrev third : ℕ → Read (List Substitution) → Read (ℕ × List Substitution)
third m o = o >>= λ b s. got (m, b) s

abbrev second : ℕ → Read (ℕ × List Substitution) → Read (ℕ × (ℕ × List Substitution))
second c o = o >>= λ b s. got (c, b) s

abbrev first : ℕ → Read (ℕ × (ℕ × List Substitution)) → Read Six
first n o = o >>= λ b s. got (n, b) s

abbrev lawful : Read Six → Read Six
lawful o = o >>= λ a r. given (leb 1 a.0 || eqb a.1.0 0) (got a r)

instance-trip : WholeTrip instance_payload
instance-trip =
    just-trip (only-trip (pair-trip two-trip (pair-trip byte-trip (pair-trip name-trip (counted-trip substitution-trip)))) (λ p. leb 1 p.0 || eqb p.1.0 0))

-- 1 and 4: a name
module _ (p : List ℕ) (h : Bytes p) where
  name-there : length p ≡ 2 → eqb (number_at p 0) 0 ≡ false → name_payload.read p ≡ some (number_at p 0)
  name-there l z = rw (name-good p 0 h (omega arith) z, drop-none p 2 l)

  name-zero : length p ≡ 2 → eqb (number_at p 0) 0 ≡ true → name_payload.read p ≡ none
  name-zero l z = rw (name-bad p 0 h (omega arith) z)

  name-size : (length p ≡ 2 → ⊥) → name_payload.read p ≡ none
  name-size l = no_whole (just-trip name-trip) p (λ a f e. l (sym (ap length e)))

  -- 3: a name and a byte
  pair-there : length p ≡ 3 → eqb (number_at p 0) 0 ≡ false → constant_payload.read p ≡ some (number_at p 0, get_or p 2 0)
  pair-there l z = rw (name-good p 0 h (omega arith) z, byte_at p 2 h (omega arith), drop-none p 3 l)

  pair-zero : length p ≡ 3 → eqb (number_at p 0) 0 ≡ true → constant_payload.read p ≡ none
  pair-zero l z = rw (name-bad p 0 h (omega arith) z)

  pair_size : (length p ≡ 3 → ⊥) → constant_payload.read p ≡ none
  pair_size l = no_whole (just-trip (pair-trip name-trip byte-trip)) p (λ a f e. l (sym (ap length e)))

  told₁ : (s : List ℕ) (end : ℕ) → Told s end (module_part p) (field_of 1 p)
  unfolding module_part
  told₁ s end =
      let P : Parts → Type 0 = λ x. Told s end x (field_of 1 p) in
      cases P (eqb (length p) 2)
      (λ l. cases P (eqb (number_at p 0) 0) (λ z. is_cut_lem refl (ap (map_option begin_module) (name-zero (eqb-true (length p) 2 l) z)))
      (λ z. is_field (begin_module (number_at p 0)) refl (ap (map_option begin_module) (name-there (eqb-true (length p) 2 l) z))))
      (λ l. is_cut_lem refl (ap (map_option begin_module) (name-size (eqb-false (length p) 2 l))))

  told₄ : (s : List ℕ) (end : ℕ) → Told s end (variable_part p) (field_of 4 p)
  unfolding variable_part
  told₄ s end =
      let P : Parts → Type 0 = λ x. Told s end x (field_of 4 p) in
      cases P (eqb (length p) 2)
      (λ l. cases P (eqb (number_at p 0) 0) (λ z. is_cut_lem refl (ap (map_option declare_variable) (name-zero (eqb-true (length p) 2 l) z)))
      (λ z. is_field (declare_variable (number_at p 0)) refl (ap (map_option declare_variable) (name-there (eqb-true (length p) 2 l) z))))
      (λ l. is_cut_lem refl (ap (map_option declare_variable) (name-size (eqb-false (length p) 2 l))))

  told₃ : (s : List ℕ) (end : ℕ) → Told s end (constant_part p) (field_of 3 p)
  unfolding constant_part
  told₃ s end =
      let P : Parts → Type 0 = λ x. Told s end x (field_of 3 p) in
      let f : Option (ℕ × ℕ) → Option Field = map_option (λ a. declare_constant a.0 a.1) in
      cases P (eqb (length p) 3)
      (λ l. cases P (eqb (number_at p 0) 0) (λ z. is_cut_lem refl (ap f (pair-zero (eqb-true (length p) 3 l) z)))
      (λ z. is_field (declare_constant (number_at p 0) (get_or p 2 0)) refl (ap f (pair-there (eqb-true (length p) 3 l) z))))
      (λ l. is_cut_lem refl (ap f (pair_size (eqb-false (length p) 3 l))))

  told₇ : (s : List ℕ) (end : ℕ) → Told s end (end_part p) (field_of 7 p)
  unfolding end_part
  told₇ s end =
      let f : Option (Unit {0}) → Option Field = map_option (λ u. end_module) in
      cases (λ (x : Parts). Told s end x (field_of 7 p)) (eqb (length p) 0)
      (λ l. is_field end_module refl (ap (λ (q : List ℕ). f (empty.read q)) (drop-none p 0 (eqb-true (length p) 0 l))))
      (λ l. is_cut_lem refl (ap f (no_whole empty-trip p (λ a g e. eqb-false (length p) 0 l (sym (ap length e))))))

  -- 2: one or more names
  even : (j : ℕ) → length p ≡ 2 * suc j → extends_payload.read p ≡ when (all_named (suc j) p 0) (some (number_at p 0, names_at p 2 j))
  unfolding all_named
  even j l = go (eqb (number_at p 0) 0) refl (all_named j p 2) (names-read j (length (drop 2 p)) p 2 h (omega arith) (rw (length-drop 2 p) (omega arith)))
    where
      go : (b : Bool) → eqb (number_at p 0) 0 ≡ b → (c : Bool) → read_up_to name (length (drop 2 p)) (drop 2 p) ≡ when c (some (names_at p 2 j))
          → extends_payload.read p ≡ when (cond b false c) (some (number_at p 0, names_at p 2 j))
      go true z c i = rw (name-bad p 0 h (omega arith) z)
      go false z true i = rw (name-good p 0 h (omega arith) z, i)
      go false z false i = rw (name-good p 0 h (omega arith) z, i)

  odd : (length p ≡ 0) ⊎ (length p % 2 ≡ 0 → ⊥) → extends_payload.read p ≡ none
  odd l = no_whole (rest-trip name-trip names-trip) p (λ a f e. go l a (ap length e))
    where
      go : (length p ≡ 0) ⊎ (length p % 2 ≡ 0 → ⊥) → (a : ℕ × List ℕ) → length (extends_payload.write a) ≡ length p → ⊥
      go (inl l) a e = omega arith
      go (inr l) a e = let w = names-length a.1 in l (omega arith)

  -- 5: name, parameter count, expression
  read₅ : 3 ≤ length p → eqb (number_at p 0) 0 ≡ false
      → definition_payload.read p ≡ map_option (λ b. (number_at p 0, b)) (map_option (λ e. (get_or p 2 0, e)) (expression.read (part p 3 (length p - 3))))
  read₅ l z =
      let d : length (drop 3 p) ≤ length p - 3 = rw (length-drop 3 p) (omega arith) in
      rw (name-good p 0 h (omega arith) z, byte_at p 2 h (omega arith), take_all (length p - 3) (drop 3 p) d)

  zero₅ : 3 ≤ length p → eqb (number_at p 0) 0 ≡ true → definition_payload.read p ≡ none
  zero₅ l z = rw (name-bad p 0 h (omega arith) z)

  short₅ : length p < 3 → definition_payload.read p ≡ none
  short₅ l = no_whole (rest-trip name-trip (rest-trip byte-trip expression-trip)) p (λ a f e. go a (ap length e))
    where
      go : (a : ℕ × (ℕ × Expression)) → length (definition_payload.write a) ≡ length p → ⊥
      go a e = omega arith

  -- 6: instance name or 0, parameter count, module name, number of substitutions, substitutions
  finish : (n c m : ℕ) (o : Read (List Substitution)) → done (lawful (first n (second c (third m o)))) ≡ when (leb 1 n || eqb c 0) (map_option (six n c m) (done o))
  finish n c m cut = go (leb 1 n || eqb c 0)
    where
      go : (b : Bool) → none ≡ when b (map_option (six n c m) none)
      go true = refl
      go false = refl
  finish n c m (got ss []) = go (leb 1 n || eqb c 0)
    where
      go : (b : Bool) → done (given b (got (six n c m ss) [])) ≡ when b (some (six n c m ss))
      go true = refl
      go false = refl
  finish n c m (got ss (x ∷ r)) = go (leb 1 n || eqb c 0)
    where
      go : (b : Bool) → done (given b (got (six n c m ss) (x ∷ r))) ≡ when b none
      go true = refl
      go false = refl

  read₆ : 6 ≤ length p → eqb (number_at p 3) 0 ≡ false
      → instance_payload.read p
      ≡ when (leb 1 (number_at p 0) || eqb (get_or p 2 0) 0) (map_option (six (number_at p 0) (get_or p 2 0) (number_at p 3)) (done (read_times substitution (get_or p 5 0) (drop 6 p))))
  read₆ l z =
      rw (two_at p 0 h (omega arith), byte_at p 2 h (omega arith), name-good p 3 h (omega arith) z, byte_at p 5 h (omega arith))
      (finish (number_at p 0) (get_or p 2 0) (number_at p 3) (read_times substitution (get_or p 5 0) (drop 6 p)))

  zero₆ : 6 ≤ length p → eqb (number_at p 3) 0 ≡ true → instance_payload.read p ≡ none
  zero₆ l z = rw (two_at p 0 h (omega arith), byte_at p 2 h (omega arith), name-bad p 3 h (omega arith) z)

  short₆ : length p < 6 → instance_payload.read p ≡ none
  short₆ l = no_whole instance-trip p (λ a f e. go a (ap length e))
    where
      go : (a : ℕ × (ℕ × (ℕ × List Substitution))) → length (instance_payload.write a) ≡ length p → ⊥
      go a e = omega arith

-- with the payload as a part of the file
lawful-head : (n c : ℕ) → lawful_head n c ≡ (leb 1 n || eqb c 0)
lawful-head n c = go (eqb n 0) refl
  where
    go : (b : Bool) → eqb n 0 ≡ b → cond b (eqb c 0) true ≡ (leb 1 n || eqb c 0)
    go true e = ap (λ (x : Bool). x || eqb c 0) (sym (no_name n e))
    go false e = ap (λ (x : Bool). x || eqb c 0) (sym (a-name n e))

module _ (s : List ℕ) (base n : ℕ) (h : Bytes s) (room : base + n ≤ length s) where
  abbrev p : List ℕ
  p = part s base n

  abbrev hp : Bytes p
  hp = bytes-part s base n h

  long : length p ≡ n
  long = length_part s base n room

  told₂ : Told s (base + n) (extends_part p base) (field_of 2 p)
  unfolding extends_part
  told₂ =
      let P : Parts → Type 0 = λ x. Told s (base + n) x (field_of 2 p) in
      let f : Option (ℕ × List ℕ) → Option Field = map_option (λ a. extends a.0 a.1) in
      cases P (eqb (length p) 0) (λ l. is_cut_lem refl (ap f (odd p hp (inl (eqb-true (length p) 0 l)))))
      (λ z. cases P (eqb (length p % 2) 0) (λ l. go (length p / 2) refl (eqb-false (length p) 0 z) (eqb-true (length p % 2) 0 l))
      (λ l. is_cut_lem refl (ap f (odd p hp (inr (eqb-false (length p % 2) 0 l))))))
    where
      there : (j : ℕ) → length p ≡ 2 * suc j → (b : Bool) → extends_payload.read p ≡ when b (some (number_at p 0, names_at p 2 j))
          → Told s (base + n) (cond b (Extends base (suc j)) Cut) (field_of 2 p)
      there j l true q =
          let a : number_at p 0 ≡ number_at s base = two-part s base n 0 (omega (arith, long)) ∙ ap (λ (i : ℕ). number_at s i) (add-zero base) in
          let b : names_at p 2 j ≡ names_at s (base + 2) j = names-part s base n j 2 (omega (arith, long)) in
          let k : suc j - 1 ≡ j = omega arith in
          is_field (extends (number_at p 0) (names_at p 2 j)) (omega arith, ap₂ extends a (b ∙ ap (names_at s (base + 2)) (sym k)))
          (ap (map_option (λ (a : ℕ × List ℕ). extends a.0 a.1)) q)
      there j l false q = is_cut_lem refl (ap (map_option (λ (a : ℕ × List ℕ). extends a.0 a.1)) q)

      go : (k : ℕ) → length p / 2 ≡ k → (length p ≡ 0 → ⊥) → length p % 2 ≡ 0 → Told s (base + n) (cond (all_named k p 0) (Extends base k) Cut) (field_of 2 p)
      go zero e z l = absurd (z (omega arith))
      go (suc j) e z l =
          let m : length p ≡ 2 * suc j = omega arith in
          there j m (all_named (suc j) p 0) (even p hp j m)

  told₅ : Told s (base + n) (definition_part p base) (field_of 5 p)
  unfolding definition_part
  told₅ =
      let P : Parts → Type 0 = λ x. Told s (base + n) x (field_of 5 p) in
      let f : Option (ℕ × (ℕ × Expression)) → Option Field = map_option (λ a. definition a.0 a.1.0 a.1.1) in
      cases P (ltb (length p) 3) (λ l. is_cut_lem refl (ap f (short₅ p hp (ltb-true (length p) 3 l))))
      (λ l. cases P (eqb (number_at p 0) 0) (λ z. is_cut_lem refl (ap f (zero₅ p hp (ltb-false (length p) 3 l) z)))
      (λ z. go (ltb-false (length p) 3 l) (read₅ p hp (ltb-false (length p) 3 l) z) (whole_of (part p 3 (length p - 3))) refl))
    where
      go : 3 ≤ length p → definition_payload.read p ≡ map_option (λ b. (number_at p 0, b)) (map_option (λ e. (get_or p 2 0, e)) (expression.read (part p 3 (length p - 3))))
          → (b : Bool) → whole_of (part p 3 (length p - 3)) ≡ b → Told s (base + n) (cond b (Definition (number_at p 0) (get_or p 2 0) (base + 3) (length p - 3)) Cut) (field_of 5 p)
      go l q true w =
          let e = whole-read (part p 3 (length p - 3)) (bytes-part p 3 (length p - 3) hp) w in
          let c : part p 3 (length p - 3) ≡ part s (base + 3) (length p - 3) = part-part s base n 3 (length p - 3) (omega (arith, long)) in
          is_field (definition (number_at p 0) (get_or p 2 0) e.0) (e.0, (omega (arith, long), ap expression.read (sym c) ∙ e.1), refl) (rw (q, e.1))
      go l q false w = rw (q, not-whole (part p 3 (length p - 3)) (bytes-part p 3 (length p - 3) hp) w) (is_cut_lem refl refl)

  told₆ : Told s (base + n) (instance_part p base) (field_of 6 p)
  unfolding instance_part instance_rest
  told₆ =
      let P : Parts → Type 0 = λ x. Told s (base + n) x (field_of 6 p) in
      let f : Option Six → Option Field = map_option (λ a. instance a.0 a.1.0 a.1.1.0 a.1.1.1) in
      cases P (ltb (length p) 6) (λ l. is_cut_lem refl (ap f (short₆ p hp (ltb-true (length p) 6 l))))
      (λ l. cases P (eqb (number_at p 3) 0) (λ z. is_cut_lem refl (ap f (zero₆ p hp (ltb-false (length p) 6 l) z)))
      (λ z. go (lawful_head (number_at p 0) (get_or p 2 0)) (sym (lawful-head (number_at p 0) (get_or p 2 0))) (ltb-false (length p) 6 l) (read₆ p hp (ltb-false (length p) 6 l) z)))
    where
      subs : (b : Bool) → AllRead p 6 (get_or p 5 0) (read_times substitution (get_or p 5 0) (drop 6 p)) b
          → instance_payload.read p ≡ map_option (six (number_at p 0) (get_or p 2 0) (number_at p 3)) (done (read_times substitution (get_or p 5 0) (drop 6 p)))
          → Told s (base + n) (cond b (Instance (number_at p 0) (get_or p 2 0) (number_at p 3) (get_or p 5 0) (base + 6)) Cut) (field_of 6 p)
      subs true a q =
          is_field (instance (number_at p 0) (get_or p 2 0) (number_at p 3) a.0) (a.0, a.1, substitutions-part s base n room a.0 6 a.2, refl)
          (ap (map_option (λ (a : Six). instance a.0 a.1.0 a.1.1.0 a.1.1.1)) (q ∙ ap (map_option (six (number_at p 0) (get_or p 2 0) (number_at p 3))) a.3))
      subs false a q =
          is_cut_lem refl (ap (map_option (λ (a : Six). instance a.0 a.1.0 a.1.1.0 a.1.1.1)) (q ∙ ap (map_option (six (number_at p 0) (get_or p 2 0) (number_at p 3))) a))

      go : (b : Bool) → (leb 1 (number_at p 0) || eqb (get_or p 2 0) 0) ≡ b → 6 ≤ length p
          → instance_payload.read p ≡ when (leb 1 (number_at p 0) || eqb (get_or p 2 0) 0) (map_option (six (number_at p 0) (get_or p 2 0) (number_at p 3)) (done (read_times substitution (get_or p 5 0) (drop 6 p))))
          → Told s (base + n)
          (cond b (cond (substitutions_fit (get_or p 5 0) p 6) (Instance (number_at p 0) (get_or p 2 0) (number_at p 3) (get_or p 5 0) (base + 6)) Cut) Cut) (field_of 6 p)
      go true e l q =
          subs (substitutions_fit (get_or p 5 0) p 6) (substitutions (get_or p 5 0) p 6 hp l)
          (q ∙ ap (λ (b : Bool). when b (map_option (six (number_at p 0) (get_or p 2 0) (number_at p 3)) (done (read_times substitution (get_or p 5 0) (drop 6 p))))) e)
      go false e l q =
          is_cut_lem refl (ap (map_option (λ (a : Six). instance a.0 a.1.0 a.1.1.0 a.1.1.1))
          (q ∙ ap (λ (b : Bool). when b (map_option (six (number_at p 0) (get_or p 2 0) (number_at p 3)) (done (read_times substitution (get_or p 5 0) (drop 6 p))))) e))

  -- 8 and 9: an expression
  told₈ : Told s (base + n) (assume_part p base) (field_of 8 p)
  unfolding assume_part
  told₈ =
      cases (λ (x : Parts). Told s (base + n) x (field_of 8 p)) (whole_of p)
      (λ w. let e = whole-read p hp w in
      is_field (assume e.0) (e.0, (omega (arith, long), ap (λ (l : ℕ). expression.read (part s base l)) long ∙ e.1), refl) (ap (map_option assume) e.1))
      (λ w. is_cut_lem refl (ap (map_option assume) (not-whole p hp w)))

  told₉ : Told s (base + n) (theorem_part p base) (field_of 9 p)
  unfolding theorem_part
  told₉ =
      cases (λ (x : Parts). Told s (base + n) x (field_of 9 p)) (whole_of p)
      (λ w. let e = whole-read p hp w in
      is_field (theorem e.0) (e.0, (omega (arith, long), ap (λ (l : ℕ). expression.read (part s base l)) long ∙ e.1), refl) (ap (map_option theorem) e.1))
      (λ w. is_cut_lem refl (ap (map_option theorem) (not-whole p hp w)))

  -- a tag that is none of nine
  unknown : (t : ℕ) → eqb t 1 ≡ false → eqb t 2 ≡ false → eqb t 3 ≡ false → eqb t 4 ≡ false → eqb t 5 ≡ false → eqb t 6 ≡ false → eqb t 7 ≡ false
      → eqb t 8 ≡ false → eqb t 9 ≡ false → field_of t p ≡ none
  unknown zero a b c d e f g i j = refl
  unknown (suc zero) a b c d e f g i j = absurd (eqb-false 1 1 a refl)
  unknown (suc (suc zero)) a b c d e f g i j = absurd (eqb-false 2 2 b refl)
  unknown (suc (suc (suc zero))) a b c d e f g i j = absurd (eqb-false 3 3 c refl)
  unknown (suc (suc (suc (suc zero)))) a b c d e f g i j = absurd (eqb-false 4 4 d refl)
  unknown (suc (suc (suc (suc (suc zero))))) a b c d e f g i j = absurd (eqb-false 5 5 e refl)
  unknown (suc (suc (suc (suc (suc (suc zero)))))) a b c d e f g i j = absurd (eqb-false 6 6 f refl)
  unknown (suc (suc (suc (suc (suc (suc (suc zero))))))) a b c d e f g i j = absurd (eqb-false 7 7 g refl)
  unknown (suc (suc (suc (suc (suc (suc (suc (suc zero)))))))) a b c d e f g i j = absurd (eqb-false 8 8 i refl)
  unknown (suc (suc (suc (suc (suc (suc (suc (suc (suc zero))))))))) a b c d e f g i j = absurd (eqb-false 9 9 j refl)
  unknown (suc (suc (suc (suc (suc (suc (suc (suc (suc (suc t)))))))))) a b c d e f g i j = refl

  pub told : (t : ℕ) → Told s (base + n) (parts_of t p base) (field_of t p)
  unfolding parts_of
  told t =
      let P : Parts → Type 0 = λ x. Told s (base + n) x (field_of t p) in
      let at : (k : ℕ) (x : Parts) → Told s (base + n) x (field_of k p) → eqb t k ≡ true → P x =
      λ k x o e. subst (λ (i : ℕ). Told s (base + n) x (field_of i p)) (sym (eqb-true t k e)) o in
      cases P (eqb t 1) (at 1 (module_part p) (told₁ p hp s (base + n)))
      (λ a. cases P (eqb t 2) (at 2 (extends_part p base) told₂)
      (λ b. cases P (eqb t 3) (at 3 (constant_part p) (told₃ p hp s (base + n)))
      (λ c. cases P (eqb t 4) (at 4 (variable_part p) (told₄ p hp s (base + n)))
      (λ d. cases P (eqb t 5) (at 5 (definition_part p base) told₅)
      (λ e. cases P (eqb t 6) (at 6 (instance_part p base) told₆)
      (λ f. cases P (eqb t 7) (at 7 (end_part p) (told₇ p hp s (base + n)))
      (λ g. cases P (eqb t 8) (at 8 (assume_part p base) told₈)
      (λ i. cases P (eqb t 9) (at 9 (theorem_part p base) told₉)
      (λ j. is_cut_lem refl (unknown t a b c d e f g i j))))))))))
