-- What each judge asks, from what is under way.
use mathlib.Core.List.{List, [], ◌∷◌}
use mathlib.Core.Path.{◌≡◌}
use Prim.Native.Nat.{ℕ, ◌+◌, ◌*◌, ◌≤◌, ◌<◌}
use native.Mathlib.Omega.{arith}
use lib.ListN.{length}
use Rattle.limits.specs.Limits.{file_bytes, max_modules}
use Rattle.rules.specs.Field.{Substitution}
use Rattle.agree.specs.Parts.{SubstitutionsAt}
use Rattle.fields.specs.Substitution.{next_substitution}
use Rattle.fields.specs.declared.Parts.{Parts}
use Rattle.fields.specs.declared.Parts.TheVariants.{Extends, Definition, Instance, EndModule, Cut, EndOfFile}
use Rattle.store.specs.declared.Store.{Store}
use Rattle.context.specs.declared.Counts.{Counts}
use Rattle.levels.specs.Tables.{table_words}
use Rattle.judge_plain.proofs.Lifted.{end-room}
use Rattle.judge_plain.proofs.Premises.{ready}
use Rattle.judge_plain.specs.Causes.{end_cause}
use Rattle.judge_plain.specs.Extending.{Ready}
use Rattle.judge_plain.specs.declared.Phase.{Phase}
use Rattle.standing.specs.Standing.{Roomy, Underway, underway}
use Rattle.standing.proofs.Advancing.{roomy}

-- substitutions stand before their end
pub substitutions-rise : (file : List ℕ) (at end : ℕ) (ss : List Substitution) → SubstitutionsAt file at end ss → at ≤ end
substitutions-rise file at end [] e = omega arith
substitutions-rise file at end (x ∷ xs) (a, b, l, r) = omega (arith, substitutions-rise file (next_substitution file at) end xs r)

module _ (file : List ℕ) (v : Store) (c : Counts) (p : Phase) (refs words : List ℕ) where
  abbrev Now : Parts → Type 0
  Now x = Underway file v c p refs words x

  pub underway-roomy : (x : Parts) → Now x → Roomy v c
  underway-roomy x (underway fs s rs f stands at) = roomy file fs s rs v c p refs words stands x f at

  pub underway-words : (x : Parts) → Now x → length words ≡ table_words
  underway-words x (underway fs s rs f stands at) = stands.words_size

  -- where the texts stand
  pub definition-inside : (n k at l : ℕ) → Now (Definition n k at l) → at + l ≤ file_bytes
  definition-inside n k at l (underway fs s rs f stands there) = let e = there.tells.1.0 in omega (arith, there.inside, there.short)

  pub instance-inside : (n k m i at : ℕ) → Now (Instance n k m i at) → at ≤ file_bytes
  instance-inside n k m i at (underway fs s rs f stands there) =
      omega (arith, substitutions-rise file at there.end there.tells.0 there.tells.2, there.inside, there.short)

  -- end_field and extends_field
  pub end-asks : Now EndModule → end_cause p ≡ 0 → c.modules < max_modules
  end-asks (underway fs s rs f stands at) z = end-room v c s stands.holds p stands.phase stands.within z

  pub extends-inside : (at k : ℕ) → Now (Extends at k) → (1 ≤ k) × (at + 2 * k ≤ file_bytes)
  extends-inside at k (underway fs s rs f stands there) = (there.tells.0, omega (arith, there.filled, there.inside, there.short))

  pub extends-ready : (x : Parts) → Now x → Ready v p c
  extends-ready x (underway fs s rs f stands at) = ready v p c s stands.holds stands.phase stands.good stands.fresh

  -- no field
  pub no_cut : Now Cut → ⊥
  no_cut (underway fs s rs f stands at) = at.tells

  pub no_end : Now EndOfFile → ⊥
  no_end (underway fs s rs f stands at) = at.tells
