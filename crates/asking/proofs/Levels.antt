-- One of the levels given is none: what is left to look at decides.
use borrow.Author.Tests.{le-leb, lt-leb}
use mathlib.Core.Bool.{Bool, false, true, ◌||◌}
use mathlib.Core.List.{List, [], ◌∷◌}
use mathlib.Core.Path.{◌∙◌, ◌≡◌, ap, refl, sym}
use Prim.Native.Nat.{ℕ, suc, ◌+◌, ◌<◌, ◌≤◌}
use native.Mathlib.Numerals.{add-one}
use native.Mathlib.Omega.{arith}
use lib.Dec.{leb}
use lib.ListN.{drop, drop_of_length-le, get_or, length}
use lib.Seq.{drop-cons}
use Rattle.std.specs.List.{list_any}
use Rattle.limits.specs.Limits.{level_count}
use Rattle.theory.specs.Lists.{any}

pub any-same : (p : ℕ → Bool) (xs : List ℕ) → list_any p xs ≡ any p xs
any-same p [] = refl
any-same p (x ∷ xs) = ap (λ (b : Bool). p x || b) (any-same p xs)

-- from entry i on
abbrev pub above_from : List ℕ → ℕ → Bool
above_from levels i = list_any (λ l. leb level_count l) (drop i levels)

module _ (levels : List ℕ) (i : ℕ) (w : Bool) (same : above_from levels i ≡ w) where
  here : i < length levels → above_from levels i ≡ leb level_count (get_or levels i 0) || above_from levels (suc i)
  here h = ap (list_any (λ l. leb level_count l)) (drop-cons levels i 0 h)

  pub above-found : i < length levels → level_count ≤ get_or levels i 0 → true ≡ w
  above-found h k = sym (here h ∙ rw (le-leb level_count (get_or levels i 0) (omega arith)) refl) ∙ same

  pub above-next : i < length levels → get_or levels i 0 < level_count → above_from levels (i + 1) ≡ w
  above-next h k = rw (add-one i) (sym (here h ∙ rw (lt-leb level_count (get_or levels i 0) (omega arith)) refl) ∙ same)

  pub above-none : length levels ≤ i → false ≡ w
  above-none h = sym (ap (list_any (λ l. leb level_count l)) (drop_of_length-le levels {i = i} h)) ∙ same
