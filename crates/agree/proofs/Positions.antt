-- Bytes, names and lengths that stand at a position are those that the rules' formats read there.
-- Assumes nothing.
use mathlib.Core.Path.{◌≡◌, refl, ap, ap₂, ◌∙◌}
use mathlib.Core.Bool.{Bool, true, false}
use mathlib.Core.List.{List, [], ◌∷◌, ◌++◌}
use mathlib.Core.Option.{Option, none, some}
use Prim.Native.Nat.{ℕ, zero, suc, ◌+◌, ◌*◌, ◌-◌, ◌≤◌, ◌<◌}
use native.Mathlib.Numerals.{add-one}
use native.Mathlib.Omega.{arith}
use lib.Dec.{lit<, leb, eqb}
use lib.ListN.{length, get_or, take, drop, length-drop, drop_of_length-le}
use lib.Seq.{drop-cons, drop-drop, take-take, get_or-take, get_or-drop, length-take-le}
use borrow.Author.Tests.{lt-ltb, le-leb, lt-leb, eqb-true, eqb-false}
use Rattle.rules.specs.Bytes.{Read, cut, got, given, read_some, ◌>>=◌, Format, Whole, byte, two, name, sized}
use Rattle.laws.proofs.Formats.{RoundTrip, WholeTrip}
use Rattle.tokens.specs.Token.{number_at}
use Rattle.tokens.proofs.Writing.{Bytes}
use Rattle.fields.specs.Substitution.{part}

-- bytes of a part
pub bytes_drop : (n : ℕ) (s : List ℕ) → Bytes s → Bytes (drop n s)
bytes_drop n s h = λ i. rw (get_or-drop n s i 0) (h (n + i))

pub bytes_take : (n : ℕ) (s : List ℕ) → Bytes s → Bytes (take n s)
bytes_take zero s h = λ i. lit< tt
bytes_take (suc n) [] h = h
bytes_take (suc n) (x ∷ s) h = step (bytes_take n s (λ i. h (suc i)))
  where
    step : Bytes (take n s) → Bytes (x ∷ take n s)
    step k zero = h 0
    step k (suc i) = k i

pub bytes-part : (s : List ℕ) (at n : ℕ) → Bytes s → Bytes (part s at n)
bytes-part s at n h = bytes_take n (drop at s) (bytes_drop at s h)

pub length_part : (s : List ℕ) (at n : ℕ) → at + n ≤ length s → length (part s at n) ≡ n
length_part s at n h = length-take-le n (drop at s) (rw (length-drop at s) (omega arith))

pub get_d_part : (s : List ℕ) (at n i : ℕ) → i < n → get_or (part s at n) i 0 ≡ get_or s (at + i) 0
get_d_part s at n i h = get_or-take n (drop at s) i 0 h ∙ get_or-drop at s i 0

pub two-part : (s : List ℕ) (at n i : ℕ) → i + 2 ≤ n → number_at (part s at n) i ≡ number_at s (at + i)
two-part s at n i h =
    let a : get_or (part s at n) i 0 ≡ get_or s (at + i) 0 = get_d_part s at n i (omega arith) in
    let b : get_or (part s at n) (i + 1) 0 ≡ get_or s (at + (i + 1)) 0 = get_d_part s at n (i + 1) (omega arith) in
    let j : at + (i + 1) ≡ at + i + 1 = omega arith in
    ap₂ (λ (x : ℕ) (y : ℕ). x * 256 + y) a (b ∙ ap (λ (k : ℕ). get_or s k 0) j)

drop-take : (i l n : ℕ) (x : List ℕ) → i + l ≤ n → take l (drop i (take n x)) ≡ take l (drop i x)
drop-take zero l n x h = take-take l n x (omega arith)
drop-take (suc i) l zero x h = absurd (omega arith)
drop-take (suc i) l (suc n) [] h = refl
drop-take (suc i) l (suc n) (a ∷ x) h = drop-take i l n x (omega arith)

pub part-part : (s : List ℕ) (at n i l : ℕ) → i + l ≤ n → part (part s at n) i l ≡ part s (at + i) l
part-part s at n i l h = drop-take i l n (drop at s) h ∙ ap (take l) (drop-drop i at s)

pub drop-none : (p : List ℕ) (n : ℕ) → length p ≡ n → drop n p ≡ []
drop-none p n e = let l : length p ≤ n = omega arith in drop_of_length-le p l

-- the formats of the rules, at a position
pub no_name : (n : ℕ) → eqb n 0 ≡ true → leb 1 n ≡ false
no_name n e = let z = eqb-true n 0 e in lt-leb 1 n (omega arith)

pub a-name : (n : ℕ) → eqb n 0 ≡ false → leb 1 n ≡ true
a-name zero e = absurd (eqb-false 0 0 e refl)
a-name (suc n) e = le-leb 1 (suc n) (omega arith)

two-read : (a b : ℕ) (r : List ℕ) → a < 256 → b < 256 → two.read (a ∷ b ∷ r) ≡ got (a * 256 + b) r
two-read a b r h k =
    let z : 256 * a + b ≡ a * 256 + b = omega arith in
    rw (lt-ltb a 256 h, lt-ltb b 256 k, z)

module _ (p : List ℕ) (at : ℕ) (h : Bytes p) where
  pub byte_at : at + 1 ≤ length p → byte.read (drop at p) ≡ got (get_or p at 0) (drop (at + 1) p)
  byte_at l =
      let e : drop at p ≡ get_or p at 0 ∷ drop (suc at) p = drop-cons p at 0 (omega arith) in
      rw (e, lt-ltb (get_or p at 0) 256 (h at), add-one)

  pub two_at : at + 2 ≤ length p → two.read (drop at p) ≡ got (number_at p at) (drop (at + 2) p)
  two_at l =
      let j : suc at ≡ at + 1 = omega arith in
      let k : suc (at + 1) ≡ at + 2 = omega arith in
      let e : drop at p ≡ get_or p at 0 ∷ drop (suc at) p = drop-cons p at 0 (omega arith) in
      let f : drop (at + 1) p ≡ get_or p (at + 1) 0 ∷ drop (suc (at + 1)) p = drop-cons p (at + 1) 0 (omega arith) in
      let g : drop at p ≡ get_or p at 0 ∷ get_or p (at + 1) 0 ∷ drop (at + 2) p =
      e ∙ ap (λ (i : ℕ). get_or p at 0 ∷ drop i p) j ∙ ap (λ (r : List ℕ). get_or p at 0 ∷ r) (f ∙ ap (λ (i : ℕ). get_or p (at + 1) 0 ∷ drop i p) k) in
      ap two.read g ∙ two-read (get_or p at 0) (get_or p (at + 1) 0) (drop (at + 2) p) (h at) (h (at + 1))

  name-at : at + 2 ≤ length p → name.read (drop at p) ≡ given (leb 1 (number_at p at)) (got (number_at p at) (drop (at + 2) p))
  name-at l = ap (λ (x : Read ℕ). x >>= λ n r. given (leb 1 n) (got n r)) (two_at l)

  pub name-good : at + 2 ≤ length p → eqb (number_at p at) 0 ≡ false → name.read (drop at p) ≡ got (number_at p at) (drop (at + 2) p)
  name-good l e = name-at l ∙ ap (λ (b : Bool). given b (got (number_at p at) (drop (at + 2) p))) (a-name (number_at p at) e)

  pub name-bad : at + 2 ≤ length p → eqb (number_at p at) 0 ≡ true → name.read (drop at p) ≡ cut
  name-bad l e = name-at l ∙ ap (λ (b : Bool). given b (got (number_at p at) (drop (at + 2) p))) (no_name (number_at p at) e)

  -- a length, and a value that fills so many bytes
  pub sized-at : {A : Type 0} (W : Whole A) → at + 2 ≤ length p
      → (sized W).read (drop at p) ≡ given (leb (number_at p at) (length p - (at + 2))) (read_some (W.read (part p (at + 2) (number_at p at))) λ a. got a (drop (at + 2 + number_at p at) p))
  sized-at W l =
      let m = number_at p at in
      let r = drop (at + 2) p in
      ap (λ (x : Read ℕ). x >>= λ n r. given (leb n (length r)) (read_some (W.read (take n r)) λ a. got a (drop n r))) (two_at l)
      ∙ ap (λ (k : ℕ). given (leb m k) (read_some (W.read (take m r)) λ a. got a (drop m r))) (length-drop (at + 2) p)
      ∙ ap (λ (x : List ℕ). given (leb m (length p - (at + 2))) (read_some (W.read (take m r)) λ a. got a x)) (drop-drop m (at + 2) p)

  pub sized-good : {A : Type 0} (W : Whole A) → at + 2 ≤ length p → number_at p at ≤ length p - (at + 2)
      → (sized W).read (drop at p) ≡ read_some (W.read (part p (at + 2) (number_at p at))) λ a. got a (drop (at + 2 + number_at p at) p)
  sized-good W l k =
      sized-at W l
      ∙ ap (λ (b : Bool). given b (read_some (W.read (part p (at + 2) (number_at p at))) λ a. got a (drop (at + 2 + number_at p at) p))) (le-leb (number_at p at) (length p - (at + 2)) k)

  pub sized-over : {A : Type 0} (W : Whole A) → at + 2 ≤ length p → length p - (at + 2) < number_at p at → (sized W).read (drop at p) ≡ cut
  sized-over W l k =
      sized-at W l
      ∙ ap (λ (b : Bool). given b (read_some (W.read (part p (at + 2) (number_at p at))) λ a. got a (drop (at + 2 + number_at p at) p))) (lt-leb (number_at p at) (length p - (at + 2)) k)

-- nothing is read where nothing that is written stands
pub no_whole : {A : Type 0} {W : Whole A} → WholeTrip W → (p : List ℕ) → ((a : A) → W.Fits a → W.write a ≡ p → ⊥) → W.read p ≡ none
no_whole {A} {W} w p h = go (W.read p) refl
  where
    go : (o : Option A) → W.read p ≡ o → W.read p ≡ none
    go none q = q
    go (some a) q = let b = w.write_read p a q in absurd (h a b.0 b.1)

pub no_front : {A : Type 0} {F : Format A} → RoundTrip F → (p : List ℕ) → ((a : A) (r : List ℕ) → F.Fits a → F.write a ++ r ≡ p → ⊥) → F.read p ≡ cut
no_front {A} {F} f p h = go (F.read p) refl
  where
    go : (o : Read A) → F.read p ≡ o → F.read p ≡ cut
    go cut q = q
    go (got a r) q = let b = f.write_read p a r q in absurd (h a r b.0 b.1)
