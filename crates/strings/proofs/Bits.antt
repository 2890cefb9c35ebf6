-- The bits of the parameters that occur, put together symbol by symbol.
-- Assumes nothing.
use mathlib.Core.Bool.{Bool, ◌||◌, cond, false, true}
use mathlib.Core.List.{List, [], ◌++◌, ◌∷◌, append_assoc, append-nil}
use mathlib.Core.Path.{◌≡◌, ap, refl, sym, ◌∙◌}
use Prim.Native.Nat.{ℕ, zero, suc, ◌%◌, ◌*◌, ◌+◌, ◌/◌, ◌^◌, ◌≤◌, ◌<◌}
use native.Mathlib.Omega.{arith}
use lib.Bits.{bit_or, or_step, or_zero_r}
use lib.Dec.{eqb, ltb}
use borrow.Author.Tests.{eq-eqb, ltb-false, ltb-true, ne_eqb}
use Rattle.symbols.specs.Spell.{max_params, occurring}
use Rattle.symbols.specs.Symbol.{Symbol, begin, call, code, end, is_par, name, number, par, sees, var}
use Rattle.strings.specs.Read.{bit_of, index_bit}

-- the bits of a string's parameters put to those of others
abbrev pub marks : ℕ → List Symbol → ℕ
marks m [] = m
marks m (g ∷ gs) = marks (bit_or m (bit_of g)) gs

sees-last : (k : ℕ) (g : Symbol) (hs : List Symbol) → sees k (hs ++ (g ∷ [])) ≡ (is_par k g || sees k hs)
sees-last k g [] = refl
sees-last k g (h ∷ hs) = ap (◌||◌ (is_par k h)) (sees-last k g hs) ∙ swap (is_par k h) (is_par k g) (sees k hs)
  where
    swap : (a b c : Bool) → (a || (b || c)) ≡ (b || (a || c))
    swap true true c = refl
    swap true false c = refl
    swap false b c = refl

-- a symbol that is none of the parameters
occurring-other : (f k : ℕ) (g : Symbol) (hs : List Symbol) → ((i : ℕ) → k ≤ i → i < k + f → is_par i g ≡ false) → occurring f k (hs ++ (g ∷ [])) ≡ occurring f k hs
occurring-other zero k g hs h = refl
occurring-other (suc f) k g hs h =
    let first : sees k (hs ++ (g ∷ [])) ≡ sees k hs = sees-last k g hs ∙ ap (λ (b : Bool). b || sees k hs) (h k (omega arith) (omega arith)) in
    rw (first, occurring-other f (suc k) g hs (λ i p q. h i (omega arith) (omega arith))) refl

-- two numbers of bits, digit by digit
or_digits : (c x i : ℕ) → c ≤ 1 → bit_or (c + 2 * x) (2 ^ suc i) ≡ c + 2 * bit_or x (2 ^ i)
or_digits c x i h =
    let half : (c + 2 * x) / 2 ≡ x = omega arith in
    let even : 2 ^ suc i / 2 ≡ 2 ^ i = omega arith in
    let low : (c + 2 * x) % 2 ≡ c = omega arith in
    let none : 2 ^ suc i % 2 ≡ 0 = omega arith in
    or_step (c + 2 * x) (2 ^ suc i) ∙ (rw (half, even, low, none) (omega arith))

or-one : (c x : ℕ) → c ≤ 1 → bit_or (c + 2 * x) 1 ≡ 1 + 2 * x
or-one c x h =
    let half : (c + 2 * x) / 2 ≡ x = omega arith in
    let low : (c + 2 * x) % 2 ≡ c = omega arith in
    or_step (c + 2 * x) 1 ∙ (rw (half, low, or_zero_r x) (omega arith))

bit-low : (b : Bool) → cond b 1 0 ≤ 1
bit-low true = omega arith
bit-low false = omega arith

-- one parameter more
occurring-last : (f k i : ℕ) (hs : List Symbol) → i < f → bit_or (occurring f k hs) (2 ^ i) ≡ occurring f k (hs ++ (par (k + i) ∷ []))
occurring-last zero k i hs h = absurd (omega arith)
occurring-last (suc f) k zero hs h =
    let here : eqb k (k + 0) ≡ true = eq-eqb k (k + 0) (omega arith) in
    let first : sees k (hs ++ (par (k + 0) ∷ [])) ≡ true = sees-last k (par (k + 0)) hs ∙ ap (λ (b : Bool). b || sees k hs) here in
    let rest : occurring f (suc k) (hs ++ (par (k + 0) ∷ [])) ≡ occurring f (suc k) hs = occurring-other f (suc k) (par (k + 0)) hs (λ i p q. ne_eqb i (k + 0) (λ e. omega arith)) in
    or-one (cond (sees k hs) 1 0) (occurring f (suc k) hs) (bit-low (sees k hs)) ∙ (rw (first, rest) refl)
occurring-last (suc f) k (suc i) hs h =
    let there : eqb k (k + suc i) ≡ false = ne_eqb k (k + suc i) (λ e. omega arith) in
    let first : sees k (hs ++ (par (k + suc i) ∷ [])) ≡ sees k hs = sees-last k (par (k + suc i)) hs ∙ ap (λ (b : Bool). b || sees k hs) there in
    let place : suc k + i ≡ k + suc i = omega arith in
    let rest : bit_or (occurring f (suc k) hs) (2 ^ i) ≡ occurring f (suc k) (hs ++ (par (k + suc i) ∷ [])) =
    occurring-last f (suc k) i hs (omega arith) ∙ ap (λ (j : ℕ). occurring f (suc k) (hs ++ (par j ∷ []))) place in
    or_digits (cond (sees k hs) 1 0) (occurring f (suc k) hs) i (bit-low (sees k hs)) ∙ (rw (rest, first) refl)

module _ (hs : List Symbol) where
  -- a symbol that is no parameter
  no-mark : (g : Symbol) → ((i : ℕ) → is_par i g ≡ false) → bit_or (occurring max_params 0 hs) 0 ≡ occurring max_params 0 (hs ++ (g ∷ []))
  no-mark g h = or_zero_r (occurring max_params 0 hs) ∙ sym (occurring-other max_params 0 g hs (λ i p q. h i))

  par-mark : (i : ℕ) → bit_or (occurring max_params 0 hs) (index_bit i) ≡ occurring max_params 0 (hs ++ (par i ∷ []))
  par-mark i = go (ltb i max_params) refl
    where
      go : (b : Bool) → ltb i max_params ≡ b → bit_or (occurring max_params 0 hs) (cond b (2 ^ i) 0) ≡ occurring max_params 0 (hs ++ (par i ∷ []))
      go true p =
          let z : 0 + i ≡ i = omega arith in
          occurring-last max_params 0 i hs (ltb-true i max_params p) ∙ ap (λ (j : ℕ). occurring max_params 0 (hs ++ (par j ∷ []))) z
      go false p =
          or_zero_r (occurring max_params 0 hs)
          ∙ sym (occurring-other max_params 0 (par i) hs (λ j q r. ne_eqb j i (λ e. omega (arith, ltb-false i max_params p))))

  mark : (g : Symbol) → bit_or (occurring max_params 0 hs) (bit_of g) ≡ occurring max_params 0 (hs ++ (g ∷ []))
  mark (par i) = par-mark i
  mark (var j) = no-mark (var j) (λ i. refl)
  mark (name x k) = no-mark (name x k) (λ i. refl)
  mark (code c) = no-mark (code c) (λ i. refl)
  mark (number v) = no-mark (number v) (λ i. refl)
  mark (call n) = no-mark (call n) (λ i. refl)
  mark begin = no-mark begin (λ i. refl)
  mark end = no-mark end (λ i. refl)

marked : (hs gs : List Symbol) → marks (occurring max_params 0 hs) gs ≡ occurring max_params 0 (hs ++ gs)
marked hs [] = ap (occurring max_params 0) (sym (append-nil hs))
marked hs (g ∷ gs) = ap (λ (m : ℕ). marks m gs) (mark hs g) ∙ marked (hs ++ (g ∷ [])) gs ∙ ap (occurring max_params 0) (append_assoc hs (g ∷ []) gs)

-- from none on they are those of the parameters that occur
pub marks-all : (gs : List Symbol) → marks 0 gs ≡ occurring max_params 0 gs
marks-all gs = marked [] gs
