-- The causes of an INSTANCE field in their order: the first seven, then the others.
use mathlib.Core.List.{List}
use mathlib.Core.Path.{◌≡◌}
use lib.ListN.{drop, take}
use Prim.Native.Nat.{ℕ}
use Rattle.instance_names.proofs.InOrder.{first-after, none-numbered}
use Rattle.judge_plain.specs.Judges.{cause_number}
use Rattle.laws.proofs.Causes.{NoneHolds}
use Rattle.rules.specs.Field.{Substitution, instance}
use Rattle.rules.specs.Judge.{Cause, causes, first_cause, judge}
use Rattle.rules.specs.State.{State}
use Rattle.judge_instance.specs.Cleared.{Cleared}

module _ (s : State) (n p m : ℕ) (ss : List Substitution) where
  abbrev cs : List Cause
  cs = causes s (instance n p m ss)

  names-none : cause_number (first_cause (take 7 (causes s (instance n p m ss)))) ≡ 0 → NoneHolds (take 7 cs)
  names-none e = none-numbered (take 7 cs) tt e

  pub cleared : cause_number (first_cause (take 7 (causes s (instance n p m ss)))) ≡ 0 → Cleared s p m ss
  cleared e =
      let h = names-none e in
      record { limited = h.1.0; known = h.1.1.1.1.0; counted = h.1.1.1.1.1.0 }

  -- if none of the first seven holds, the others are left
  pub after-names : cause_number (first_cause (take 7 (causes s (instance n p m ss)))) ≡ 0 → judge s (instance n p m ss) ≡ first_cause (drop 7 (causes s (instance n p m ss)))
  after-names e = first-after 7 cs (names-none e)
