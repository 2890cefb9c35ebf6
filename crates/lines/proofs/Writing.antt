-- Text after text, and the digits of a number.
use mathlib.Core.Bool.{Bool, cond, false, true}
use mathlib.Core.List.{List, [], ◌∷◌, ◌++◌, append_assoc}
use mathlib.Core.Path.{◌≡◌, ◌∙◌, ap, refl, sym}
use Prim.Native.Nat.{ℕ, zero, suc, ◌+◌, ◌-◌, ◌/◌, ◌%◌, ◌≤◌, ◌<◌}
use native.Mathlib.Nat.{zero-add}
use native.Mathlib.Omega.{arith}
use borrow.Author.Tests.{le-ltb, lt-ltb}
use lib.Dec.{ltb}
use lib.ListN.{drop, length, length-append}
use lib.Seq.{sets, sets-eq}
use Rattle.rules.specs.Listing.{digits}
use Rattle.rules.specs.Run.{overwrite}
use Rattle.lines.specs.Text.{number}
use Rattle.lines.specs.Writes.{Writes}

pub sets_more : (l : List ℕ) (i j : ℕ) (xs ys : List ℕ) → j ≡ i + length xs → sets (sets l i xs) j ys ≡ sets l i (xs ++ ys)
sets_more l i j [] ys e = ap (λ (k : ℕ). sets l k ys) (omega arith)
sets_more l i j (x ∷ xs) ys e = sets_more _ (suc i) j xs ys (omega arith)

pub writes_then : {a b c : List ℕ} {i j k : ℕ} {xs ys : List ℕ} → Writes a b i xs j → Writes b c j ys k → Writes a c i (xs ++ ys) k
writes_then {a} {b} {c} {i} {j} {k} {xs} {ys} u v =
    record {
      same = v.same ∙ ap (λ (l : List ℕ). sets l j ys) u.same ∙ sets_more a i j xs ys u.ends;
      ends = rw length-append (omega (arith, u.ends, v.ends));
    }

pub writes_as : {a b : List ℕ} {i j : ℕ} {xs ys : List ℕ} → Writes a b i xs j → xs ≡ ys → Writes a b i ys j
writes_as {a} {b} {i} {j} u e = record { same = u.same ∙ ap (sets a i) e; ends = u.ends ∙ ap (λ (l : List ℕ). i + length l) e }

-- at the front of a memory
pub writes-front : (a b bs : List ℕ) (r : ℕ) → Writes a b 0 bs r → r ≤ length a → (b ≡ overwrite bs a) × (r ≡ length bs)
writes-front a b bs r u room =
    let z : 0 + length bs ≡ length bs = zero-add (length bs) in
    (u.same ∙ sets-eq bs a 0 (omega (arith, u.ends)) ∙ ap (λ (k : ℕ). bs ++ drop k a) z, u.ends ∙ z)

-- Digits

pub digits-rest : (n k : ℕ) (rest : List ℕ) → digits n k rest ≡ digits n k [] ++ rest
digits-rest zero k rest = refl
digits-rest (suc n) k rest = go (ltb k 10) (digits-rest n (k / 10) ((48 + k % 10) ∷ rest)) (digits-rest n (k / 10) ((48 + k % 10) ∷ []))
  where
    go : (b : Bool) → digits n (k / 10) ((48 + k % 10) ∷ rest) ≡ digits n (k / 10) [] ++ ((48 + k % 10) ∷ rest)
        → digits n (k / 10) ((48 + k % 10) ∷ []) ≡ digits n (k / 10) [] ++ ((48 + k % 10) ∷ [])
        → cond b ((48 + k) ∷ rest) (digits n (k / 10) ((48 + k % 10) ∷ rest)) ≡ cond b ((48 + k) ∷ []) (digits n (k / 10) ((48 + k % 10) ∷ [])) ++ rest
    go true e f = refl
    go false e f = e ∙ sym (append_assoc (digits n (k / 10) []) ((48 + k % 10) ∷ []) rest) ∙ ap (λ (l : List ℕ). l ++ rest) (sym f)

-- what a call for `left` digits leaves and answers
abbrev pub Digits : List ℕ → List ℕ → ℕ → ℕ → ℕ → ℕ → Type 0
Digits a b at left n r = Writes a b at (digits left n []) r × (r ≤ at + left)

pub no-digits : (a : List ℕ) (at left n : ℕ) → left ≡ 0 → Digits a a at left n at
no-digits a at zero n e = (record { same = refl; ends = omega arith }, omega arith)
no-digits a at (suc left) n e = absurd (omega arith)

pub one-digit : (a b : List ℕ) (at left n r : ℕ) → (left ≡ 0 → ⊥) → n < 10 → Writes a b at ((48 + n) ∷ []) r → Digits a b at left n r
one-digit a b at zero n r some l w = absurd (some refl)
one-digit a b at (suc left) n r some l w =
    (writes_as w (sym (ap (λ (t : Bool). cond t ((48 + n) ∷ []) (digits left (n / 10) ((48 + n % 10) ∷ []))) (lt-ltb n 10 l))), omega (arith, w.ends))

pub more-digits : (a b c : List ℕ) (at left n p r : ℕ) → (left ≡ 0 → ⊥) → 10 ≤ n → Digits a b at (left - 1) (n / 10) p → Writes b c p ((48 + n % 10) ∷ []) r → Digits a c at left n r
more-digits a b c at zero n p r some l u w = absurd (some refl)
more-digits a b c at (suc left) n p r some l u w =
    let z : suc left - 1 ≡ left = omega arith in
    let v : Writes a b at (digits left (n / 10) []) p = writes_as u.0 (ap (λ (k : ℕ). digits k (n / 10) []) z) in (
      writes_as (writes_then v w)
          (sym (digits-rest left (n / 10) ((48 + n % 10) ∷ [])) ∙ sym (ap (λ (t : Bool). cond t ((48 + n) ∷ []) (digits left (n / 10) ((48 + n % 10) ∷ []))) (le-ltb n 10 l))),
      omega (arith, w.ends, u.1),
    )

-- A number and the byte after it
pub number_put : (a b c : List ℕ) (at n after p r : ℕ) → Digits a b at 5 n p → Writes b c p (after ∷ []) r → Writes a c at (number n after) r × (r ≤ at + 6)
number_put a b c at n after p r u w = (writes_then u.0 w, omega (arith, w.ends, u.1))
