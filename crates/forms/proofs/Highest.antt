-- L5's highest of levels is the union of their bits.
use mathlib.Core.Path.{◌≡◌, sym, ap, ap₂, ◌∙◌}
use mathlib.Core.List.{List, ◌∷◌}
use Prim.Native.Nat.{ℕ, zero, suc, ◌-◌, ◌≤◌, ◌<◌}
use native.Mathlib.Omega.{arith}
use lib.Bits.{bit_or, or_comm}
use lib.ListN.{get_or}
use Rattle.theory.specs.Level.{IsLevel, highest}
use Rattle.theory.specs.Lists.{All, param_levels}
use Rattle.theory.specs.Lattice.{higher}
use Rattle.theory.proofs.Lattice.{highest-cons}
use Rattle.theory.proofs.Lists.{get_d-all}
use Rattle.theory.proofs.Levels.{highest-level}
use Rattle.forms.specs.Labels.{coded, level_of, under, whole}
use Rattle.forms.specs.Forms.{Gives, GivesBits, bits_at, level_at}
use Rattle.forms.proofs.Finite.{same₂}
use Rattle.forms.proofs.Laws.{level-coded, under-plain}
use Rattle.forms.proofs.Forms.{bits-base}

higher-coded : (l m : ℕ) → IsLevel l → IsLevel m → coded (higher l m) ≡ bit_or (coded l) (coded m)
higher-coded l m h k = same₂ 5 5 (λ l m. coded (higher l m)) (λ l m. bit_or (coded l) (coded m)) tt l m (omega arith) (omega arith)

pub highest-coded : (l : ℕ) (ls : List ℕ) → All IsLevel (l ∷ ls) → coded (highest (l ∷ ls)) ≡ bit_or (coded l) (coded (highest ls))
highest-coded l ls a = ap coded (highest-cons l ls a.0 a.1) ∙ higher-coded l (highest ls) a.0 (highest-level ls a.1)

-- a parameter's level is a level, also past the end
pub low-param : (i : ℕ) (v : List ℕ) → All IsLevel v → IsLevel (get_or v i 0)
low-param i v a = get_d-all IsLevel v i 0 a (omega arith)

pub low-params : (i k : ℕ) (v : List ℕ) → All IsLevel v → All IsLevel (param_levels i k v)
low-params i zero v a = tt
low-params i (suc k) v a = (low-param i v a, low-params (suc i) k v a)

-- the arguments from i on are in the form
pub record Joined (k form i : ℕ) : Type 0 where
  pub up_to : i ≤ k
  pub same : GivesBits form (λ v. coded (highest (param_levels i (k - i) v)))

pub joined-start : (k : ℕ) → Joined k 0 k
unfolding whole level_of
joined-start k = record { up_to = omega arith; same = record { at = λ v h _. none v } }
  where
    none : (v : List ℕ) → bits_at 0 v ≡ coded (highest (param_levels k (k - k) v))
    none v =
        let z : k - k ≡ 0 = omega arith in
        bits-base 0 v (omega arith) ∙ sym (ap (λ (x : ℕ). coded (highest (param_levels k x v))) z)

pub joined-turn : (k form i j more : ℕ) → Joined k form i → 0 < i → j ≡ i - 1 → GivesBits more (λ v. bit_or (bits_at form v) (under 1 (coded (get_or v j 0)))) → Joined k more j
joined-turn k form i j more inv h e g = record { up_to = omega (arith, inv.up_to); same = record { at = λ v l a. g.at v l a ∙ ap₂ bit_or (inv.same.at v l a) (under-plain (get_or v j 0)) ∙ turn v a } }
  where
    turn : (v : List ℕ) → All IsLevel v → bit_or (coded (highest (param_levels i (k - i) v))) (coded (get_or v j 0)) ≡ coded (highest (param_levels j (k - j) v))
    turn v a =
        let n : k - j ≡ suc (k - i) = omega (arith, inv.up_to) in
        let s : suc j ≡ i = omega arith in
        or_comm (coded (highest (param_levels i (k - i) v))) (coded (get_or v j 0))
        ∙ ap (bit_or (coded (get_or v j 0))) (ap (λ (x : ℕ). coded (highest (param_levels x (k - i) v))) (sym s))
        ∙ sym (highest-coded (get_or v j 0) (param_levels (suc j) (k - i) v) (low-param j v a, low-params (suc j) (k - i) v a))
        ∙ sym (ap (λ (x : ℕ). coded (highest (param_levels j x v))) n)

pub joined_end : (k form i : ℕ) → Joined k form i → i ≤ 0 → Gives form (λ v. highest (param_levels 0 k v))
unfolding level_at
joined_end k form i inv h = record { at = λ v l a. ap level_of (inv.same.at v l a) ∙ level-coded (highest (param_levels i (k - i) v)) (highest-level (param_levels i (k - i) v) (low-params i (k - i) v a)) ∙ whole_row v }
  where
    whole_row : (v : List ℕ) → highest (param_levels i (k - i) v) ≡ highest (param_levels 0 k v)
    whole_row v =
        let z : i ≡ 0 = omega arith in
        let n : k - i ≡ k = omega arith in
        ap₂ (λ (x y : ℕ). highest (param_levels x y v)) z n
