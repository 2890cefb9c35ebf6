-- Causes that were found, by their numbers.
use mathlib.Core.Path.{◌∙◌, ◌≡◌, ap}
use native.Mathlib.Omega.{arith}
use Prim.Native.Nat.{◌<◌, ℕ}
use Rattle.context.specs.declared.Counts.{Counts}
use Rattle.judge_plain.specs.Causes.{number, refusal}
use Rattle.judge_plain.specs.declared.Judged.{Judged}
use Rattle.judge_plain.specs.declared.Phase.{Phase}
use Rattle.judge_plain.specs.declared.Cause.TheVariants.{AssumptionNotConstant, IllLevelled, LimitPassed, Malformed, Miscounted, Mixed, ModuleNameUsed, ModuleNotEnded, NamedInstance, NameTaken, NameUnknown, OutOfOrder, SubstituteUnlawful, WrongSubstitution}
use Rattle.judge_plain.specs.declared.Cause.{Cause}

positive : (x : Cause) → 0 < number x
positive Malformed = omega arith
positive OutOfOrder = omega arith
positive LimitPassed = omega arith
positive ModuleNameUsed = omega arith
positive ModuleNotEnded = omega arith
positive NameTaken = omega arith
positive NameUnknown = omega arith
positive Miscounted = omega arith
positive WrongSubstitution = omega arith
positive IllLevelled = omega arith
positive AssumptionNotConstant = omega arith
positive SubstituteUnlawful = omega arith
positive NamedInstance = omega arith
positive Mixed = omega arith

-- a cause was found: its number is not 0
pub err-some : (x : Cause) {n : ℕ} → n ≡ number x → n ≡ 0 → ⊥
err-some x e z = omega (arith, positive x)

pub refused-by : {r : Judged} {n w : ℕ} {p : Phase} {c : Counts} → r ≡ refusal n p c → n ≡ w → r ≡ refusal w p c
refused-by {p = p} {c = c} e h = e ∙ ap (λ (k : ℕ). refusal k p c) h
