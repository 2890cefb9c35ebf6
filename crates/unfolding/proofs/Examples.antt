-- Strings, shapes and a replacement by computation: 0(p) == p', 1(p, q) == q, 2(p, q, r) == \E x : 0(r) = x, where 1 is passed over and p and q of 2 are dropped.
use mathlib.Core.List.{List, [], ◌∷◌}
use mathlib.Core.Path.{◌≡◌, refl}
use Prim.Native.Nat.{ℕ, zero, suc, ◌+◌}
use Rattle.symbols.specs.Spell.{alone_shape, mask_of, shape_of, spell}
use Rattle.symbols.specs.Symbol.{Symbol, begin, call, code, end, name, par, strip, var}
use Rattle.theory.specs.Level.{row}
use Rattle.theory.specs.Term.{Term, bound, builtin, constant, declared, defined, param}
use Rattle.theory.specs.Tree.{◌▹◌, node, ⟨⟩}
use Rattle.unfolding.specs.Replace.{replace_all}
use Rattle.unfolding.specs.Right.{picked}

abbrev p : ℕ → Term
p i = node (param i) ⟨⟩

abbrev text₀ : Term
text₀ = node (builtin 112) (p 0 ▹ ⟨⟩)

abbrev text₂ : Term
text₂ = node (builtin 128) (node (builtin 48) (node (defined 0) (p 2 ▹ ⟨⟩) ▹ node (bound 0) ⟨⟩ ▹ ⟨⟩) ▹ ⟨⟩)

abbrev σ : ℕ → ℕ
σ zero = 1
σ (suc zero) = alone_shape + 1
σ (suc (suc n)) = 4

pub shapes : shape_of (spell σ text₀) ∷ shape_of (spell σ (p 1)) ∷ shape_of (spell σ text₂) ∷ mask_of (alone_shape + 1) ∷ [] ≡ 1 ∷ (alone_shape + 1) ∷ 4 ∷ 2 ∷ []
unfolding row
shapes = refl

-- a parameter put in by two calls, the second of which drops its first argument: the arguments that occur are summed
pub sums : picked 5 (10 ∷ 20 ∷ 30 ∷ []) ∷ picked 4 (10 ∷ 20 ∷ []) ∷ [] ≡ 40 ∷ 0 ∷ []
sums = refl

-- 2(c, d, 1(x, 2(c, d, q))) over p, q: c, d and x do not stand in the string, nor does the call of 1
abbrev c : ℕ → Term
c x = node (declared (constant 0) x) ⟨⟩

abbrev nested : Term
nested = node (defined 2) (c 7 ▹ c 8 ▹ node (defined 1) (c 9 ▹ node (defined 2) (c 7 ▹ c 8 ▹ p 1 ▹ ⟨⟩) ▹ ⟨⟩) ▹ ⟨⟩)

pub string : spell σ nested ≡ call 2 ∷ call 2 ∷ par 1 ∷ []
unfolding row
string = refl

-- every call of 2 replaced, the inner one under the binder of the outer
pub after-2 : spell σ (replace_all 2 text₂ nested)
    ≡ code 128 ∷ begin ∷ code 48 ∷ call 0 ∷ code 128 ∷ begin ∷ code 48 ∷ call 0 ∷ par 1 ∷ var 0 ∷ end ∷ var 0 ∷ end ∷ []
unfolding row
after-2 = refl

-- then of 1, which changes nothing in the string, and of 0; the shape stays
pub after-all : strip (spell σ (replace_all 0 text₀ (replace_all 1 (p 1) (replace_all 2 text₂ nested))))
    ≡ 4 ∷ 128 ∷ 4 ∷ 48 ∷ 4 ∷ 112 ∷ 4 ∷ 128 ∷ 4 ∷ 48 ∷ 4 ∷ 112 ∷ 0 ∷ 1 ∷ 1 ∷ 0 ∷ 0 ∷ 1 ∷ 0 ∷ 0 ∷ []
unfolding row
after-all = refl

pub same_shape : shape_of (spell σ nested) ∷ shape_of (spell σ (replace_all 2 text₂ nested)) ∷ [] ≡ 2 ∷ 2 ∷ []
unfolding row
same_shape = refl
