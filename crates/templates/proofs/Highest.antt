-- The highest number that a string calls: how the code finds it, and what it says.
use mathlib.Core.Bool.{Bool, ◌||◌, false, true}
use mathlib.Core.List.{List, [], ◌∷◌}
use mathlib.Core.Path.{◌≡◌, ap, refl}
use borrow.Author.Tests.{eq-eqb, leb-false, lt-leb}
use lib.Dec.{eqb, leb}
use lib.ListN.{length}
use native.Mathlib.Decide.{dec_lt}
use native.Mathlib.Omega.{arith}
use Prim.Native.Nat.{◌+◌, ◌<◌, ◌≤◌, max, min, suc, ℕ}
use Rattle.symbols.specs.Symbol.{Symbol, begin, call, calls, code, end, name, number, par, var}
use Rattle.theory.proofs.Lists.{never}
use Rattle.theory.specs.Lists.{any}
use Rattle.strings.proofs.Reading.{string-done, string-step}
use Rattle.strings.specs.Read.{is_far, string_at, symbol_at, symbol_of, width_of}
use Rattle.strings.specs.declared.Sign.{Sign}
use Rattle.strings.specs.declared.Sign.TheVariants.{Call}
use Rattle.templates.specs.Highest.{highest_number, number_called}
use Rattle.templates.specs.Shaped.{shape_count}

pub called-small : (g : Symbol) → is_far g ≡ false → number_called g ≤ shape_count
called-small (par i) e = omega arith
called-small (var j) e = omega arith
called-small (name x k) e = omega arith
called-small (code c) e = omega arith
called-small (number v) e = omega arith
called-small (call n) e = omega (arith, leb-false 1280 n e)
called-small begin e = omega arith
called-small end e = omega arith

module _ (s : List ℕ) (n i e : ℕ) (m : e ≡ min n (length s)) where
  pub highest-turn : (g : Symbol) (w most d most' x : ℕ) → i < e → g ≡ symbol_at s i → w ≡ width_of g → d ≡ number_called g → most' ≡ max most d
      → max most (highest_number (string_at s i n)) ≡ x → max most' (highest_number (string_at s (i + w) n)) ≡ x
  highest-turn g w most d most' x h r k p q v =
      let next : string_at s i n ≡ g ∷ string_at s (i + w) n = string-step s i n g w (omega arith) r k in
      let z = rw next at v in
      omega arith

  pub highest-end : (most x : ℕ) → e ≤ i → max most (highest_number (string_at s i n)) ≡ x → most ≡ x
  highest-end most x h v =
      let z = rw (string-done s i n (omega arith)) at v in
      omega arith

-- nothing from the highest number on is called
called-none : (g : Symbol) (k : ℕ) → number_called g ≤ k → calls (λ n. leb k n) g ≡ false
called-none (par i) k h = refl
called-none (var j) k h = refl
called-none (name x y) k h = refl
called-none (code c) k h = refl
called-none (number v) k h = refl
called-none (call n) k h = lt-leb k n (omega arith)
called-none begin k h = refl
called-none end k h = refl

pub highest-none : (gs : List Symbol) (k : ℕ) → highest_number gs ≤ k → any (calls (λ n. leb k n)) gs ≡ false
highest-none [] k h = refl
highest-none (g ∷ gs) k h = rw (called-none g k (omega arith)) (highest-none gs k (omega arith))

called-low : (g : Symbol) (k : ℕ) → calls (λ n. leb k n) g ≡ false → number_called g ≤ k
called-low (par i) k e = omega arith
called-low (var j) k e = omega arith
called-low (name x y) k e = omega arith
called-low (code c) k e = omega arith
called-low (number v) k e = omega arith
called-low (call n) k e = omega (arith, leb-false k n e)
called-low begin k e = omega arith
called-low end k e = omega arith

or-false : (a b : Bool) → (a || b) ≡ false → (a ≡ false) × (b ≡ false)
or-false true b e = never e
or-false false b e = (refl, e)

pub highest-low : (gs : List Symbol) (k : ℕ) → any (calls (λ n. leb k n)) gs ≡ false → highest_number gs ≤ k
highest-low [] k e = omega arith
highest-low (g ∷ gs) k e =
    let z = or-false (calls (λ n. leb k n) g) (any (calls (λ n. leb k n)) gs) e in
    omega (arith, called-low g k z.0, highest-low gs k z.1)

-- the highest number is called
called-there : (g : Symbol) (k : ℕ) → number_called g ≡ suc k → calls (eqb k) g ≡ true
called-there (par i) k e = absurd (omega arith)
called-there (var j) k e = absurd (omega arith)
called-there (name x y) k e = absurd (omega arith)
called-there (code c) k e = absurd (omega arith)
called-there (number v) k e = absurd (omega arith)
called-there (call n) k e = eq-eqb k n (omega arith)
called-there begin k e = absurd (omega arith)
called-there end k e = absurd (omega arith)

or_right : (a b : Bool) → b ≡ true → (a || b) ≡ true
or_right true b e = refl
or_right false b e = e

pub highest-there : (gs : List Symbol) (k : ℕ) → highest_number gs ≡ suc k → any (calls (eqb k)) gs ≡ true
highest-there [] k e = absurd (omega arith)
highest-there (g ∷ gs) k e = go (dec_lt k (number_called g)) (highest-there gs k)
  where
    go : Dec (k < number_called g) → (highest_number gs ≡ suc k → any (calls (eqb k)) gs ≡ true) → any (calls (eqb k)) (g ∷ gs) ≡ true
    go (yes l) f = rw (called-there g k (omega arith))
    go (no l) f = or_right (calls (eqb k) g) (any (calls (eqb k)) gs) (f (omega arith))

-- the arm of a call
pub called-arm : (g : Sign) (n r : ℕ) → g ≡ Call n → r ≡ n + 1 → r ≡ number_called (symbol_of g)
called-arm g n r e q =
    let z : number_called (symbol_of g) ≡ suc n = ap (λ (y : Sign). number_called (symbol_of y)) e in
    omega arith

pub most-small : (g : Symbol) (most d most' : ℕ) → is_far g ≡ false → d ≡ number_called g → most' ≡ max most d → most ≤ shape_count → most' ≤ shape_count
most-small g most d most' f e q l = omega (arith, called-small g f)
