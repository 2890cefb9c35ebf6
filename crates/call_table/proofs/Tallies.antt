-- How many calls stand in a string, and the calls noted one after another.
use mathlib.Core.Bool.{Bool, cond, false, true}
use mathlib.Core.List.{List, [], ◌++◌, ◌∷◌}
use mathlib.Core.Path.{◌≡◌, ◌∙◌, ap, ap₂, refl, sym}
use borrow.Author.Tests.{eq-eqb, ltb-false, ltb-true}
use lib.Dec.{eqb, ltb}
use native.Mathlib.Nat.{add_assoc, add-zero, zero-add}
use native.Mathlib.Omega.{arith}
use Prim.Native.Nat.{ℕ, ◌+◌, min}
use Rattle.symbols.specs.Symbol.{Symbol, call, calls}
use Rattle.cells.specs.Table.{tally}

pub tally-append : (n : ℕ) (gs hs : List Symbol) → tally n (gs ++ hs) ≡ tally n gs + tally n hs
tally-append n [] hs = sym (zero-add (tally n hs))
tally-append n (g ∷ gs) hs =
    ap (λ (k : ℕ). cond (calls (eqb n) g) 1 0 + k) (tally-append n gs hs) ∙ sym (add_assoc (cond (calls (eqb n) g) 1 0) (tally n gs) (tally n hs))

pub tally-more : (n : ℕ) (gs : List Symbol) (g : Symbol) → tally n (gs ++ (g ∷ [])) ≡ tally n gs + cond (calls (eqb n) g) 1 0
tally-more n gs g =
    tally-append n gs (g ∷ []) ∙ ap (λ (k : ℕ). tally n gs + k) (add-zero (cond (calls (eqb n) g) 1 0))

pub tally-call : (n : ℕ) → ◌≡◌ {A = ℕ} (cond (calls (eqb n) (call n)) 1 0) 1
tally-call n = ap (λ (b : Bool). cond b 1 0) (eq-eqb n n refl)

-- A rank goes up with every call, as long as there are words.
pub rank-more : (called : Bool) (rank known k : ℕ) → rank ≡ min known k
    → cond called (cond (ltb rank known) (rank + 1) rank) rank ≡ min known (k + cond called 1 0)
rank-more true rank known k e = go (ltb rank known) refl
  where
    go : (b : Bool) → ltb rank known ≡ b → cond b (rank + 1) rank ≡ min known (k + 1)
    go true p = let z = ltb-true rank known p in omega arith
    go false p = let z = ltb-false rank known p in omega arith
rank-more false rank known k e = omega arith

abbrev tail : List Symbol → List Symbol
tail [] = []
tail (x ∷ xs) = xs

abbrev head_or : Symbol → List Symbol → Symbol
head_or d [] = d
head_or d (x ∷ xs) = x

-- a call of n is not nothing
counts : (n : ℕ) (f : Symbol) (fs : List Symbol) → call n ≡ f → 0 ≡ tally n (f ∷ fs) → ⊥
counts n f fs e t =
    let one : ◌≡◌ {A = ℕ} (cond (calls (eqb n) f) 1 0) 1 = ap (λ (g : Symbol). cond (calls (eqb n) g) 1 0) (sym e) ∙ tally-call n in
    omega arith

-- There is one call with so many before it.
pub same-call : (n : ℕ) (gs fs hs ks : List Symbol) → gs ++ (call n ∷ hs) ≡ fs ++ (call n ∷ ks) → tally n gs ≡ tally n fs → gs ≡ fs
same-call n [] [] hs ks e t = refl
same-call n [] (f ∷ fs) hs ks e t = absurd (counts n f fs (ap (head_or f) e) t)
same-call n (g ∷ gs) [] hs ks e t = absurd (counts n g gs (sym (ap (head_or g) e)) (sym t))
same-call n (g ∷ gs) (f ∷ fs) hs ks e t =
    let p : g ≡ f = ap (head_or g) e in
    let q : ◌≡◌ {A = ℕ} (cond (calls (eqb n) g) 1 0) (cond (calls (eqb n) f) 1 0) = ap (λ (x : Symbol). cond (calls (eqb n) x) 1 0) p in
    ap₂ (λ (x : Symbol) (xs : List Symbol). x ∷ xs) p (same-call n gs fs hs ks (ap tail e) (omega arith))
