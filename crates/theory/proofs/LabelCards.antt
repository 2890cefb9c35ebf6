-- Cards of one parameter and of two, tried at every base, label and level.
use mathlib.Core.Bool.{Bool, ◌&&◌, cond, not}
use mathlib.Core.List.{[], ◌∷◌}
use mathlib.Core.Path.{◌≡◌}
use lib.Dec.{T, eqb, eqb→eq, leb}
use Prim.Native.Nat.{ℕ}
use Rattle.theory.proofs.Finite.{◌implies◌, at_level, at-levels, at_levels, modus}
use Rattle.theory.proofs.Labels.{Label, act, at_label, at_labels}
use Rattle.theory.proofs.LinearProbes.{one, two}
use Rattle.theory.proofs.Lists.{and_parts}
use Rattle.theory.specs.Card.{clashes, mask_of, takes, weighs}
use Rattle.theory.specs.Lattice.{higher}
use Rattle.theory.specs.Level.{IsLevel, incorrect, mixes, verdict}
use Rattle.theory.specs.Lists.{any}

-- at every base and label, and so of a test of one level more, and of a label and two levels more
abbrev Tried : (ℕ → Label → Bool) → Type 0
Tried p = T (at_levels λ b. at_labels λ w. p b w)

tried : (p : ℕ → Label → Bool) → Tried p → (b : ℕ) (w : Label) → IsLevel b → T (p b w)
tried p t b w h = at_label (p b) (at_level (λ b. at_labels λ w. p b w) t b h) w

-- One parameter

abbrev pub taken₁ : ℕ → Label → ℕ → Bool
taken₁ b w l = takes 1 (one b w) 0 l

abbrev pub weight₁ : ℕ → Label → Bool
weight₁ b w = weighs 1 (one b w) 0

abbrev pub mask₁ : ℕ → Label → ℕ
mask₁ b w = mask_of 1 (one b w) 0

-- a level that is taken adds itself if it is weighted, else nothing
pub adds : (b : ℕ) (w : Label) (l : ℕ) → IsLevel b → IsLevel l → T (taken₁ b w l) → higher b (act w l) ≡ higher b (cond (weight₁ b w) l 0)
adds b w l h i t =
    eqb→eq (higher b (act w l)) (higher b (cond (weight₁ b w) l 0)) (modus (taken₁ b w l) _ (at_level (p b w) (tried (λ b w. at_levels (p b w)) tt b w h) l i) t)
  where
    p : ℕ → Label → ℕ → Bool
    p b w l = taken₁ b w l implies eqb (higher b (act w l)) (higher b (cond (weight₁ b w) l 0))

-- and does not mix with the base
pub base-apart : (b : ℕ) (w : Label) (l : ℕ) → IsLevel b → IsLevel l → T (taken₁ b w l) → T (weight₁ b w) → T (not (mixes (b ∷ l ∷ [])))
base-apart b w l h i t u = modus (weight₁ b w) _ (modus (taken₁ b w l) _ (at_level (p b w) (tried (λ b w. at_levels (p b w)) tt b w h) l i) t) u
  where
    p : ℕ → Label → ℕ → Bool
    p b w l = taken₁ b w l implies weight₁ b w implies not (mixes (b ∷ l ∷ []))

pub six-masks : (b : ℕ) (w : Label) → IsLevel b → T (any (eqb (mask₁ b w)) (31 ∷ 15 ∷ 7 ∷ 11 ∷ 3 ∷ 0 ∷ []))
six-masks b w h = tried (λ b w. any (eqb (mask₁ b w)) (31 ∷ 15 ∷ 7 ∷ 11 ∷ 3 ∷ 0 ∷ [])) tt b w h

-- the mask is 0 where the base is 4, and there only
pub nothing-taken : (b : ℕ) (w : Label) → IsLevel b → T (eqb (mask₁ b w) 0) → b ≡ incorrect
nothing-taken b w h t = eqb→eq b 4 (modus (eqb (mask₁ b w) 0) (eqb b 4) (tried (λ b w. eqb (mask₁ b w) 0 implies eqb b 4) tt b w h) t)

pub all-refused : (w : Label) → mask₁ incorrect w ≡ 0
all-refused w = eqb→eq (mask₁ 4 w) 0 (at_label (λ w. eqb (mask₁ 4 w) 0) tt w)

-- it is 31 where the parameter adds nothing at any level, the base not being 4, and there only
pub adds-nothing : (b : ℕ) (w : Label) → IsLevel b → T (eqb (mask₁ b w) 31) → T (not (eqb b 4)) × ((l : ℕ) → IsLevel l → act w l ≡ 0)
adds-nothing b w h t =
    let r = and_parts (not (eqb b 4)) _ (modus (eqb (mask₁ b w) 31) _ (tried (λ b w. eqb (mask₁ b w) 31 implies (not (eqb b 4) && at_levels λ l. eqb (act w l) 0)) tt b w h) t) in
    (r.0, λ l i. eqb→eq (act w l) 0 (at_level (λ l. eqb (act w l) 0) r.1 l i))

pub all-taken : (b : ℕ) (w : Label) → IsLevel b → T (not (eqb b 4)) → T (at_levels λ l. eqb (higher b (act w l)) b) → mask₁ b w ≡ 31
all-taken b w h t u =
    let same = at_levels λ l. eqb (higher b (act w l)) b in
    let all = eqb (mask₁ b w) 31 in
    eqb→eq (mask₁ b w) 31
    (modus same all (modus (not (eqb b 4)) (same implies all) (tried (λ b w. not (eqb b 4) implies (at_levels λ l. eqb (higher b (act w l)) b) implies eqb (mask₁ b w) 31) tt b w h) t) u)

-- beside a base of 2 or more nothing weighs
pub weighs-nothing : (b : ℕ) (w : Label) → IsLevel b → T (leb 2 b) → T (not (weight₁ b w))
weighs-nothing b w h t = modus (leb 2 b) (not (weight₁ b w)) (tried (λ b w. leb 2 b implies not (weight₁ b w)) tt b w h) t

-- Two parameters

abbrev pub clash₂ : ℕ → Label → Label → Bool
clash₂ b w u = clashes 2 (two b w u) 0 1

tried₂ : (p : ℕ → Label → Label → ℕ → ℕ → Bool) → T (at_levels λ b. at_labels λ w. at_labels λ u. at_levels λ l. at_levels λ k. p b w u l k)
    → (b : ℕ) (w u : Label) (l k : ℕ) → IsLevel b → IsLevel l → IsLevel k → T (p b w u l k)
tried₂ p t b w u l k h i j = at-levels (p b w u) (at_label (λ u. at_levels λ l. at_levels λ k. p b w u l k) (tried (λ b w. at_labels λ u. at_levels λ l. at_levels λ k. p b w u l k) t b w h) u) l k i j

-- both levels are taken and weighted
abbrev pub heeded₂ : ℕ → Label → Label → ℕ → ℕ → Bool
heeded₂ b w u l k = (taken₁ b w l && weight₁ b w) && (taken₁ b u k && weight₁ b u)

-- a 2 and a 3 that are so clash
pub clash-set : (b : ℕ) (w u : Label) (l k : ℕ) → IsLevel b → IsLevel l → IsLevel k → T (mixes (l ∷ k ∷ [])) → T (heeded₂ b w u l k) → T (clash₂ b w u)
clash-set b w u l k h i j m t =
    modus (heeded₂ b w u l k) (clash₂ b w u) (modus (mixes (l ∷ k ∷ [])) (heeded₂ b w u l k implies clash₂ b w u) (tried₂ p tt b w u l k h i j) m) t
  where
    p : ℕ → Label → Label → ℕ → ℕ → Bool
    p b w u l k = mixes (l ∷ k ∷ []) implies heeded₂ b w u l k implies clash₂ b w u

-- where a pair clashes, a 2 and a 3 make 4, whichever way round
pub clash-makes-4 : (b : ℕ) (w u : Label) (l k : ℕ) → IsLevel b → IsLevel l → IsLevel k → T (mixes (l ∷ k ∷ [])) → T (clash₂ b w u) → incorrect ≡ two b w u (l ∷ k ∷ [])
clash-makes-4 b w u l k h i j m t =
    let four = verdict (two b w u (l ∷ k ∷ [])) in
    eqb→eq 4 (two b w u (l ∷ k ∷ [])) (modus (clash₂ b w u) four (modus (mixes (l ∷ k ∷ [])) (clash₂ b w u implies four) (tried₂ p tt b w u l k h i j) m) t)
  where
    p : ℕ → Label → Label → ℕ → ℕ → Bool
    p b w u l k = mixes (l ∷ k ∷ []) implies clash₂ b w u implies verdict (two b w u (l ∷ k ∷ []))

-- beside a base of 2 or more no two clash
pub clash-nothing : (b : ℕ) (w u : Label) → IsLevel b → T (leb 2 b) → T (not (clash₂ b w u))
clash-nothing b w u h t =
    modus (leb 2 b) (not (clash₂ b w u)) (at_label (λ u. leb 2 b implies not (clash₂ b w u)) (tried (λ b w. at_labels λ u. leb 2 b implies not (clash₂ b w u)) tt b w h) u) t
