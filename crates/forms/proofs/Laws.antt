-- Laws of labels and of levels as bits, each by one computed test.
use mathlib.Core.Path.{◌≡◌, refl, sym, ap, ap₂, ◌∙◌}
use Prim.Native.Nat.{ℕ, zero, suc, ◌+◌, ◌*◌, ◌/◌, ◌%◌, ◌≤◌, ◌<◌, max}
use native.Mathlib.Nat.{mod-lt, zero-lt-suc}
use native.Mathlib.Omega.{arith}
use lib.Arith.{bin_ind, digits_div, digits_mod}
use lib.Bits.{bit_or, or_mod, or_step}
use Rattle.forms.specs.Labels.{after, after3, coded, level_of, under, under3, whole}
use mathlib.Core.List.{List, [], ◌∷◌}
use lib.Dec.{leb, leb→le}
use lib.ListN.{get_or}
use Rattle.rows.proofs.Columns.{below_at}
use Rattle.forms.proofs.Finite.{same, same₂, same₃}

abbrev level_list : List ℕ
level_list = 0 ∷ 1 ∷ 2 ∷ 2 ∷ 3 ∷ 3 ∷ 4 ∷ 4 ∷ []

-- ---- the union of bits

odd-lt : (a b : ℕ) → max (a % 2) (b % 2) < 2
odd-lt a b = omega (arith, mod-lt a (zero-lt-suc 1), mod-lt b (zero-lt-suc 1))

or-half : (a b : ℕ) → bit_or a b / 2 ≡ bit_or (a / 2) (b / 2)
or-half a b = ap (λ (x : ℕ). x / 2) (or_step a b) ∙ digits_div (bit_or (a / 2) (b / 2)) (odd-lt a b)

or-odd : (a b : ℕ) → bit_or a b % 2 ≡ max (a % 2) (b % 2)
or-odd a b = ap (λ (x : ℕ). x % 2) (or_step a b) ∙ digits_mod (bit_or (a / 2) (b / 2)) (odd-lt a b)

max_assoc : (a b c : ℕ) → max (max a b) c ≡ max a (max b c)
max_assoc a b c = omega arith

pub or_assoc : (a b c : ℕ) → bit_or (bit_or a b) c ≡ bit_or a (bit_or b c)
or_assoc =
    bin_ind (λ (a : ℕ). (b c : ℕ) → bit_or (bit_or a b) c ≡ bit_or a (bit_or b c)) (λ b c. refl)
    (λ a ih b c. or_step (bit_or a b) c
    ∙ ap₂ (λ (x y : ℕ). x * 2 + y)
    (ap (λ (x : ℕ). bit_or x (c / 2)) (or-half a b) ∙ ih (b / 2) (c / 2) ∙ ap (bit_or (a / 2)) (sym (or-half b c)))
    (ap (λ (x : ℕ). max x (c % 2)) (or-odd a b) ∙ max_assoc (a % 2) (b % 2) (c % 2) ∙ ap (max (a % 2)) (sym (or-odd b c)))
    ∙ sym (or_step a (bit_or b c)))

low : (a : ℕ) → a % 8 < 8
low a = mod-lt a (zero-lt-suc 7)

-- ---- labels

pub under-or : (l x y : ℕ) → under l (bit_or x y) ≡ bit_or (under l x) (under l y)
unfolding under
under-or l x y =
    ap (under3 (l % 8)) (or_mod x y 3)
    ∙ same₃ 8 8 8 (λ l x y. under3 l (bit_or x y)) (λ l x y. bit_or (under3 l x) (under3 l y)) tt (l % 8) (x % 8) (y % 8) (low l) (low x) (low y)

pub under-both : (l m x : ℕ) → under (bit_or l m) x ≡ bit_or (under l x) (under m x)
unfolding under
under-both l m x =
    ap (λ (k : ℕ). under3 k (x % 8)) (or_mod l m 3)
    ∙ same₃ 8 8 8 (λ l m x. under3 (bit_or l m) x) (λ l m x. bit_or (under3 l x) (under3 m x)) tt (l % 8) (m % 8) (x % 8) (low l) (low m) (low x)

pub under-after : (l m x : ℕ) → under l (under m x) ≡ under (after l m) x
unfolding under after
under-after l m x =
    same₃ 8 8 8 (λ l m x. under3 l (under3 m x % 8)) (λ l m x. under3 (after3 l m % 8) x) tt (l % 8) (m % 8) (x % 8) (low l) (low m) (low x)

pub under_none : (x : ℕ) → under 0 x ≡ 0
unfolding under
under_none x = same 8 (λ x. under3 0 x) (λ x. 0) tt (x % 8) (low x)

pub under-zero : (l : ℕ) → under l 0 ≡ 0
unfolding under
under-zero l = same 8 (λ l. under3 l 0) (λ l. 0) tt (l % 8) (low l)

mod-twice : (a : ℕ) → a % 8 % 8 ≡ a % 8
mod-twice a = omega arith

-- only the lowest digit of a label counts
pub under-digit : (l x : ℕ) → under (l % 8) x ≡ under l x
unfolding under
under-digit l x = ap (λ (k : ℕ). under3 k (x % 8)) (mod-twice l)

pub after-digit : (l m : ℕ) → after l (m % 8) ≡ after l m
unfolding after
after-digit l m = ap (after3 (l % 8)) (mod-twice m)

pub under-free : (l x : ℕ) → l % 8 ≡ 0 → under l x ≡ 0
under-free l x h = sym (under-digit l x) ∙ ap (λ (k : ℕ). under k x) h ∙ under_none x

-- ---- bits of levels

pub whole-or : (a b : ℕ) → whole (bit_or a b) ≡ bit_or (whole a) (whole b)
unfolding whole level_of
whole-or a b =
    ap (λ (x : ℕ). coded (get_or level_list x 0)) (or_mod a b 3)
    ∙ same₂ 8 8 (λ a b. coded (get_or level_list (bit_or a b) 0)) (λ a b. bit_or (coded (get_or level_list a 0)) (coded (get_or level_list b 0))) tt (a % 8) (b % 8) (low a) (low b)

pub whole-free : (a : ℕ) → a % 8 ≡ 0 → whole a ≡ 0
unfolding whole level_of
whole-free a h = ap (λ (x : ℕ). coded (get_or level_list x 0)) h

pub whole-digit : (a : ℕ) → whole (a % 8) ≡ whole a
unfolding whole level_of
whole-digit a = ap (λ (x : ℕ). coded (get_or level_list x 0)) (mod-twice a)

pub whole-whole : (a : ℕ) → whole (whole a) ≡ whole a
unfolding whole level_of
whole-whole a =
    same 8 (λ a. coded (get_or level_list (coded (get_or level_list a 0) % 8) 0)) (λ a. coded (get_or level_list a 0)) tt (a % 8) (low a)

pub whole-under : (l x : ℕ) → whole (under l x) ≡ under l (whole x)
unfolding whole level_of under
whole-under l x =
    same₂ 8 8 (λ l x. coded (get_or level_list (under3 l x % 8) 0)) (λ l x. under3 l (coded (get_or level_list x 0) % 8)) tt (l % 8) (x % 8) (low l) (low x)

pub whole-coded : (l : ℕ) → whole (coded l) ≡ coded l
unfolding whole level_of
whole-coded zero = refl
whole-coded (suc zero) = refl
whole-coded (suc (suc zero)) = refl
whole-coded (suc (suc (suc zero))) = refl
whole-coded (suc (suc (suc (suc n)))) = refl

pub coded-level : (b : ℕ) → coded (level_of b) ≡ whole b
unfolding whole
coded-level b = refl

pub level-coded : (l : ℕ) → l ≤ 4 → level_of (coded l) ≡ l
unfolding level_of
level-coded l h = same 5 (λ l. get_or level_list (coded l % 8) 0) (λ l. l) tt l (omega arith)

pub level-low : (b : ℕ) → level_of b ≤ 4
unfolding level_of
level-low b = leb→le (get_or level_list (b % 8) 0) 4 (below_at (λ b. leb (get_or level_list b 0) 4) 8 (b % 8) tt (low b))

pub level-whole : (b : ℕ) → level_of (whole b) ≡ level_of b
unfolding whole
level-whole b = level-coded (level_of b) (level-low b)

-- under no mask a level is itself
pub under-plain : (l : ℕ) → under 1 (coded l) ≡ coded l
unfolding under
under-plain zero = refl
under-plain (suc zero) = refl
under-plain (suc (suc zero)) = refl
under-plain (suc (suc (suc zero))) = refl
under-plain (suc (suc (suc (suc n)))) = refl
