-- What an answer means for the rules' state.
use Rattle.std.proofs.Math.Option.{Option, none, some}
use Rattle.std.specs.Prelude.{◌≡◌, ℕ}
use Rattle.rules.specs.Add.{add}
use Rattle.rules.specs.Field.{Field}
use Rattle.rules.specs.Judge.{judge}
use Rattle.rules.specs.State.{State, begun, inside, outside}
use Rattle.rules.specs.State as rules
use Rattle.context.specs.Holds.{Holds}
use Rattle.store.specs.declared.Store.{Store}
use Rattle.judge_plain.specs.declared.Judged.{Judged}
use Rattle.judge_plain.specs.declared.Phase.{Phase}
use Rattle.judge_plain.specs.declared.Phase.TheVariants.{Begun, Inside, Outside}

-- the phase of the rules
abbrev pub phase_of : Phase → rules.Phase
phase_of Outside = outside
phase_of Begun = begun
phase_of Inside = inside

-- a cause by its number, 0 for none
abbrev pub cause_number : Option ℕ → ℕ
cause_number none = 0
cause_number (some c) = c

-- The answer is the rules' first cause of the field; and if none holds, the store shows the state with the field added.
pub record Judges (v : Store) (r : Judged) (s : State) (f : Field) : Type 0 where
  pub cause : r.cause ≡ cause_number (judge s f)
  pub holds : r.cause ≡ 0 → Holds v r.counts (add s f)
  pub phase : r.cause ≡ 0 → phase_of r.phase ≡ (add s f).phase
