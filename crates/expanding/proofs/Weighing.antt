-- What the symbols of a string weigh, added up from the first to the last.
use mathlib.Core.List.{List}
use mathlib.Core.Path.{◌≡◌}
use lib.ListN.{length}
use native.Mathlib.Omega.{arith}
use Prim.Native.Nat.{◌+◌, ◌<◌, ◌≤◌, min, ℕ}
use Rattle.strings.proofs.Reading.{string-done, string-step}
use Rattle.strings.specs.Read.{string_at, symbol_at, width_of}
use Rattle.symbols.proofs.Sizes.{by_two}
use Rattle.symbols.specs.Symbol.{Symbol, begin, call, code, end, name, number, par, var}
use Rattle.symbols.specs.Weight.{symbol_weight, weight}

module _ (s : List ℕ) (n i e : ℕ) (m : e ≡ min n (length s)) where
  pub weight-turn : (g : Symbol) (w : ℕ) → i < e → g ≡ symbol_at s i → w ≡ width_of g → (q d x : ℕ) → d ≡ symbol_weight by_two g
      → q + weight by_two (string_at s i n) ≡ x → q + d + weight by_two (string_at s (i + w) n) ≡ x
  weight-turn g w h r k q d x p v = let z = rw (string-step s i n g w (omega arith) r k) at v in omega arith

  pub weight-end : (q x : ℕ) → e ≤ i → q + weight by_two (string_at s i n) ≡ x → q ≡ x
  weight-end q x h v = let z = rw (string-done s i n (omega arith)) at v in omega arith

-- no symbol weighs more than it takes
weight-less : (g : Symbol) → symbol_weight by_two g ≤ width_of g
weight-less (par i) = omega arith
weight-less (var j) = omega arith
weight-less (name x k) = omega arith
weight-less (code c) = omega arith
weight-less (number v) = omega arith
weight-less (call n) = omega arith
weight-less begin = omega arith
weight-less end = omega arith

pub weight-within : (g : Symbol) (q i d w : ℕ) → d ≡ symbol_weight by_two g → w ≡ width_of g → q ≤ i → q + d ≤ i + w
weight-within g q i d w p k h = omega (arith, weight-less g)
