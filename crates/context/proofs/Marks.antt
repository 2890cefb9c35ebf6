-- Lists in which each number stands once, with marks that say what is in them.
use borrow.Author.Tests.{eq-eqb, ne_eqb}
use mathlib.Core.Bool.{Bool, ◌||◌, cond, false, not, or_assoc, or-false, true}
use mathlib.Core.List.{List, [], ◌++◌, ◌∷◌}
use mathlib.Core.Path.{◌∙◌, ◌≡◌, ap, ap₂, refl, sym}
use lib.Dec.{eqb}
use lib.ListN.{get_or, length, length-append, length-replicate, length-set, replicate, set}
use lib.Seq.{get_or-set_other, get_or-set_same}
use native.Mathlib.Decide.{ℕ_discrete}
use native.Mathlib.Nat.{le_of_suc-le-suc}
use native.Mathlib.Omega.{arith}
use Prim.Native.Nat.{◌+◌, ◌<◌, ◌≤◌, suc, zero, ℕ}
use Rattle.context.specs.Joining.{Below, Marked, unset}
use Rattle.context.specs.Parts.{part}
use Rattle.theory.proofs.Form.{at}
use Rattle.theory.specs.Lists.{any}

pub part-below : (base : ℕ) (xs ys : List ℕ) → Below base xs ys → (at n : ℕ) → at + n ≤ base → part ys at n ≡ part xs at n
unfolding part
part-below base xs ys h at zero l = refl
part-below base xs ys h at (suc n) l = ap₂ ◌∷◌ (h.same at (omega arith)) (part-below base xs ys h (suc at) n (omega arith))

pub below-refl : (base : ℕ) (xs : List ℕ) → Below base xs xs
below-refl base xs = record { same = λ j h. refl }

pub below_set : (base : ℕ) (xs : List ℕ) (n x : ℕ) → Below base xs (set xs (base + n) x)
below_set base xs n x = record { same = λ j h. get_or-set_other xs (base + n) j x 0 (λ (e : j ≡ base + n). omega arith) }

pub below-trans : (base : ℕ) (xs ys zs : List ℕ) → Below base xs ys → Below base ys zs → Below base xs zs
below-trans base xs ys zs h k = record { same = λ j l. k.same j l ∙ h.same j l }

pub unset_set : (ms : List ℕ) (i : ℕ) → i < length ms → get_or ms i 0 ≡ 0 → suc (unset (set ms i 1)) ≡ unset ms
unfolding unset
unset_set [] i h e = absurd (omega arith)
unset_set (m ∷ ms) zero h e = rw e refl
unset_set (m ∷ ms) (suc i) h e = go (eqb m 0) (unset_set ms i (le_of_suc-le-suc h) e)
  where
    go : (b : Bool) → suc (unset (set ms i 1)) ≡ unset ms → suc (cond b (suc (unset (set ms i 1))) (unset (set ms i 1))) ≡ cond b (suc (unset ms)) (unset ms)
    go true q = ap suc q
    go false q = q

pub unset-replicate : (n : ℕ) → unset (replicate n 0) ≡ n
unfolding unset
unset-replicate zero = refl
unset-replicate (suc n) = ap suc (unset-replicate n)

get_d-zeros : (n i : ℕ) → ◌≡◌ {A = ℕ} (get_or (replicate n 0) i 0) 0
get_d-zeros zero i = refl
get_d-zeros (suc n) zero = refl
get_d-zeros (suc n) (suc i) = get_d-zeros n i

-- cleared marks are those of the empty list
pub marked_empty : (n : ℕ) → Marked (replicate n 0) []
marked_empty n =
    record { says = λ o. rw (get_d-zeros n o) refl; full = let l : length {A = ℕ} (replicate n 0) ≡ n = length-replicate {A = ℕ} n 0 in omega (arith, unset-replicate n) }

-- what is not marked has room
pub marked-room : (marks l : List ℕ) (x : ℕ) → Marked marks l → x < length marks → get_or marks x 0 ≡ 0 → length l < length marks
marked-room marks l x h k e = omega (arith, h.full, unset_set marks x k e)

member-snoc : (o x : ℕ) (l : List ℕ) → any (eqb o) (l ++ (x ∷ [])) ≡ any (eqb o) l || eqb o x
member-snoc o x [] = or-false (eqb o x)
member-snoc o x (y ∷ l) = ap (◌||◌ (eqb o y)) (member-snoc o x l) ∙ sym (or_assoc (eqb o y) (any (eqb o) l) (eqb o x))

pub marked-push : (marks l : List ℕ) (x : ℕ) → Marked marks l → x < length marks → get_or marks x 0 ≡ 0 → Marked (set marks x 1) (l ++ (x ∷ []))
marked-push marks l x h k e = record {
  says = λ o. go o (ℕ_discrete o x);
  full =
      let a : length (l ++ (x ∷ [])) ≡ length l + 1 = length-append l (x ∷ []) in
      let b : length (set marks x 1) ≡ length marks = length-set marks x 1 in
      omega (arith, h.full, unset_set marks x k e);
}
  where
    go : (o : ℕ) → Dec (o ≡ x) → any (eqb o) (l ++ (x ∷ [])) ≡ not (eqb (get_or (set marks x 1) o 0) 0)
    go o (yes q) =
        rw q (member-snoc x x l ∙ ap₂ ◌||◌ (h.says x ∙ ap (λ (y : ℕ). not (eqb y 0)) e) (eq-eqb x x refl)
        ∙ sym (ap (λ (y : ℕ). not (eqb y 0)) (get_or-set_same marks x 1 0 k)))
    go o (no q) =
        member-snoc o x l ∙ ap₂ ◌||◌ (h.says o) (ne_eqb o x q) ∙ or_nothing (not (eqb (get_or marks o 0) 0))
        ∙ sym (ap (λ (y : ℕ). not (eqb y 0)) (get_or-set_other marks x o 1 0 q))
      where
        or_nothing : (b : Bool) → b || false ≡ b
        or_nothing true = refl
        or_nothing false = refl
