-- Causes in their order: the first that holds.
use mathlib.Core.Bool.{Bool, cond, false, true}
use mathlib.Core.List.{List, [], ◌∷◌}
use mathlib.Core.Option.{Option, some}
use mathlib.Core.Path.{◌∙◌, ◌≡◌, ap₂, refl}
use lib.Dec.{T, ltb, ltb→lt}
use lib.ListN.{drop, take}
use native.Mathlib.Omega.{arith}
use Prim.Native.Nat.{suc, zero, ℕ}
use Rattle.theory.specs.Lists.{All, every}
use Rattle.theory.proofs.Lists.{every-all}
use Rattle.rules.specs.Judge.{Cause, first_cause}
use Rattle.laws.proofs.Causes.{NoneHolds}
use Rattle.judge_plain.specs.Judges.{cause_number}

-- the answer 0 says that none holds: every cause has a number above 0
none_of : (cs : List Cause) → All (λ c. T (ltb 0 c.0)) cs → cause_number (first_cause cs) ≡ 0 → NoneHolds cs
none_of [] h e = tt
none_of (c ∷ cs) h e = go c.1 refl e (none_of cs h.1)
  where
    go : (b : Bool) → c.1 ≡ b → cause_number (cond b (some c.0) (first_cause cs)) ≡ 0 → (cause_number (first_cause cs) ≡ 0 → NoneHolds cs) → NoneHolds (c ∷ cs)
    go true p q below = absurd (omega (arith, ltb→lt 0 c.0 h.0))
    go false p q below = (p, below q)

pub none-numbered : (cs : List Cause) → T (every (λ (c : Cause). ltb 0 c.0) cs) → cause_number (first_cause cs) ≡ 0 → NoneHolds cs
none-numbered cs h e = none_of cs (every-all (λ (c : Cause). ltb 0 c.0) cs h) e

-- and if none of the first i holds, the first of the others is the first of all
pub first-after : (i : ℕ) (cs : List Cause) → NoneHolds (take i cs) → first_cause cs ≡ first_cause (drop i cs)
first-after zero cs h = refl
first-after (suc i) [] h = refl
first-after (suc i) (c ∷ cs) h = rw h.0 (first-after i cs h.1)

-- the first cause of the first i, if one of them holds, is the first of all
pub first_of : (i : ℕ) (cs : List Cause) → (cause_number (first_cause (take i cs)) ≡ 0 → ⊥) → cause_number (first_cause (take i cs)) ≡ cause_number (first_cause cs)
first_of zero cs n = absurd (n refl)
first_of (suc i) [] n = refl
first_of (suc i) (c ∷ cs) n = go c.1 n (first_of i cs)
  where
    go : (b : Bool) → (cause_number (cond b (some c.0) (first_cause (take i cs))) ≡ 0 → ⊥)
        → ((cause_number (first_cause (take i cs)) ≡ 0 → ⊥) → cause_number (first_cause (take i cs)) ≡ cause_number (first_cause cs))
        → cause_number (cond b (some c.0) (first_cause (take i cs))) ≡ cause_number (cond b (some c.0) (first_cause cs))
    go true m below = refl
    go false m below = below m

-- Two lists with the same numbers whose tests say the same, each as long as none before it holds. A line a cause.
abbrev pub Same : List Cause → List Cause → Type 0
Same [] [] = Unit {0}
Same [] (d ∷ ds) = ⊥
Same (c ∷ cs) [] = ⊥
Same (c ∷ cs) (d ∷ ds) = (c.0 ≡ d.0) × (c.1 ≡ d.1) × (c.1 ≡ false → Same cs ds)

pub same_first : (cs ds : List Cause) → Same cs ds → first_cause cs ≡ first_cause ds
same_first [] [] h = refl
same_first [] (d ∷ ds) h = absurd h
same_first (c ∷ cs) [] h = absurd h
same_first (c ∷ cs) (d ∷ ds) h =
    go c.1 (λ e. same_first cs ds (h.2 e)) ∙ ap₂ (λ (n : ℕ) (b : Bool). cond b (some n) (first_cause ds)) h.0 h.1
  where
    go : (b : Bool) → (b ≡ false → first_cause cs ≡ first_cause ds) → ◌≡◌ {A = Option ℕ} (cond b (some c.0) (first_cause cs)) (cond b (some c.0) (first_cause ds))
    go true f = refl
    go false f = f refl
