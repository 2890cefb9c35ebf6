-- Nothing is lost in packing: what a caller reads off the number that an operation of the archive hands over is the operation's reply.
use borrow.Author.Tests.{le-ltb, lt-ltb}
use mathlib.Core.Bool.{Bool, false, true}
use mathlib.Core.List.{List, []}
use mathlib.Core.Path.{◌≡◌, refl}
use Prim.Native.Nat.{ℕ, ◌+◌, ◌-◌, ◌*◌, ◌/◌, ◌%◌, ◌^◌, ◌<◌, ◌≤◌}
use native.Mathlib.Omega.{arith}
use lib.ListN.{length}
use Rattle.limits.specs.Limits.{file_bytes}
use Rattle.theory.proofs.ExpandFirst.{eval-good}
use Rattle.theory.proofs.Levels.{levels-kept}
use Rattle.theory.specs.Level.{IsLevel}
use Rattle.theory.specs.Term.{long_way}
use Rattle.rules.specs.Query.{alike_query, body_query, expansion_query, level_query}
use Rattle.rules.specs.Run.{Outcome, file_check, refusal, result}
use Rattle.rules.specs.State.{expansion_of}
use Rattle.laws.specs.Queries.{term_in}
use Rattle.laws.proofs.Outputs.{output-written}
use Rattle.laws.proofs.QueryReplies.{level_replied}
use Rattle.demands.proofs.Places.{alike-place, body-place, check-place, definitions-few, expansion-place, level-place, part-inside}
use Rattle.demands.specs.Archive.{alike_tells, body_tells, check_tells, expand_tells, level_tells}
use Rattle.demands.specs.Packed.{packed, packed_span, packed_truth, unpacked, unpacked_span, unpacked_truth}

-- the number and the place of a refusal, above a bound that 65,536 divides
module _ (top c p : ℕ) (h : p ≤ file_bytes) where
  number-back : (top + 65536 * c + p - top) / 65536 ≡ c
  number-back = omega arith

place-back : (c p : ℕ) → p ≤ file_bytes → (2 ^ 31 + 65536 * c + p) % 65536 ≡ p
place-back c p h = omega arith

far-place-back : (c p : ℕ) → p ≤ file_bytes → (2 ^ 63 + 65536 * c + p) % 65536 ≡ p
far-place-back c p h = omega arith

pub back : (o : Outcome ℕ) → ((n : ℕ) → o ≡ result n → n < 2 ^ 31) → ((c p : ℕ) → o ≡ refusal c p → p ≤ file_bytes) → unpacked (packed o) ≡ o
back (result n) f g = rw (lt-ltb n (2 ^ 31) (f n refl)) refl
back (refusal c p) f g =
    let h = g c p refl in
    rw (le-ltb (2 ^ 31 + 65536 * c + p) (2 ^ 31) (omega arith), number-back (2 ^ 31) c p h, place-back c p h) refl

pub truth-back : (o : Outcome Bool) → ((c p : ℕ) → o ≡ refusal c p → p ≤ file_bytes) → unpacked_truth (packed_truth o) ≡ o
truth-back (result true) g = refl
truth-back (result false) g = refl
truth-back (refusal c p) g =
    let h = g c p refl in
    rw (le-ltb (2 ^ 31 + 65536 * c + p) (2 ^ 31) (omega arith), number-back (2 ^ 31) c p h, place-back c p h) refl

pub span-back : (o : Outcome (ℕ × ℕ)) → ((part : ℕ × ℕ) → o ≡ result part → part.0 + part.1 ≤ file_bytes) → ((c p : ℕ) → o ≡ refusal c p → p ≤ file_bytes)
    → unpacked_span (packed_span o) ≡ o
span-back (result (a, b)) f g =
    let h : a + b ≤ file_bytes = f (a, b) refl in
    let start : (65536 * a + b) / 65536 ≡ a = omega arith in
    let size : (65536 * a + b) % 65536 ≡ b = omega arith in
    rw (lt-ltb (65536 * a + b) (2 ^ 63) (omega arith), start, size) refl
span-back (refusal c p) f g =
    let h = g c p refl in
    rw (le-ltb (2 ^ 63 + 65536 * c + p) (2 ^ 63) (omega arith), number-back (2 ^ 63) c p h, far-place-back c p h) refl

-- THE FIVE OPERATIONS
pub check-told : (file lent : List ℕ) → check_tells file lent ≡ (file_check file lent).reply
check-told file lent = back (file_check file lent).reply (λ n q. omega (arith, definitions-few file lent n q)) (check-place file lent)

pub level-small : (file lent : List ℕ) (m : ℕ) (levels bytes : List ℕ) (l : ℕ) → (level_query file lent m levels bytes).reply ≡ result l → IsLevel l
level-small file lent m levels bytes l e =
    let r = (level_replied file lent m levels bytes l).0 e in
    rw r.long-way (eval-good long_way IsLevel levels-kept levels r.given-levels (expansion_of r.state (term_in r.state m (length levels) bytes r.belongs)) [] tt)

pub level-told : (file lent : List ℕ) (m : ℕ) (levels bytes : List ℕ) → level_tells file lent m levels bytes ≡ (level_query file lent m levels bytes).reply
level-told file lent m levels bytes =
    back (level_query file lent m levels bytes).reply (λ l q. omega (arith, level-small file lent m levels bytes l q)) (level-place file lent m levels bytes)

pub alike-told : (file lent : List ℕ) (g h : ℕ) → alike_tells file lent g h ≡ (alike_query file lent g h).reply
alike-told file lent g h = truth-back (alike_query file lent g h).reply (alike-place file lent g h)

pub body-told : (file lent : List ℕ) (g : ℕ) → body_tells file lent g ≡ (body_query file lent g).reply
body-told file lent g = span-back (body_query file lent g).reply (part-inside file lent g) (body-place file lent g)

pub expand-told : (file lent : List ℕ) (m n : ℕ) (bytes output : List ℕ) → expand_tells file lent m n bytes output ≡ (expansion_query file lent m n bytes output).reply
expand-told file lent m n bytes output =
    back (expansion_query file lent m n bytes output).reply (λ l q. omega (arith, ((output-written file lent m n bytes output l).0 q).in_limit)) (expansion-place file lent m n bytes output)
