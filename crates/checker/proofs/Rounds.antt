-- The loop over the fields, round by round.
use mathlib.Core.List.{List}
use mathlib.Core.Path.{◌≡◌, subst, subst⁻¹}
use Prim.Native.Nat.{ℕ, ◌-◌, ◌<◌}
use native.Mathlib.Omega.{arith}
use lib.ListN.{length}
use Rattle.limits.specs.Limits.{file_bytes}
use Rattle.fields.specs.Cursor.{place_of}
use Rattle.fields.specs.declared.Cursor.{Cursor}
use Rattle.store.specs.Store.{empty}
use Rattle.store.specs.declared.Store.{Store}
use Rattle.context.specs.Entries.{no_counts}
use Rattle.context.specs.declared.Counts.{Counts}
use Rattle.levels.specs.Tables.{table_words}
use Rattle.judge_plain.specs.declared.Phase.TheVariants.{Outside}
use Rattle.checker.specs.Settles.{Midway, Settles}
use Rattle.checker.specs.Turned.{Turned}
use Rattle.checker.specs.declared.judging.Next.{Next}
use Rattle.refusals.specs.declared.Refusal.{Refusal}
use Rattle.std.specs.declared.ops.ControlFlow.TheVariants.{Continue, Break}
use Rattle.std.specs.declared.ops.ControlFlow.{ControlFlow}
use Rattle.std.specs.Prelude.{Result}
use Rattle.checker.proofs.Turns.{midway_start}

pub begins : (file refs words : List ℕ) (v : Store) (at : Cursor) (c : Counts) → v ≡ empty → length refs ≡ file_bytes → length words ≡ table_words
    → at ≡ record { number = 0; offset = 0 } → c ≡ no_counts → Midway file at v c Outside refs words
begins file refs words v at c e a b f g =
    subst⁻¹ (λ (u : Store). Midway file at u c Outside refs words) e
    (subst⁻¹ (λ (y : Cursor). Midway file y empty c Outside refs words) f
    (subst⁻¹ (λ (n : Counts). Midway file (record { number = 0; offset = 0 }) empty n Outside refs words) g (midway_start file refs words a b)))

module _ (file : List ℕ) (at : Cursor) (v : Store) (refs words : List ℕ) (t : ControlFlow (Result Counts Refusal) Next) (x : Turned file at v refs words t) where
  pub settled : (r : Result Counts Refusal) → t ≡ Break r → Settles file v refs words r
  settled r e = subst (Turned file at v refs words) e x

  module _ (n : Next) (e : t ≡ Continue n) where
    after : Turned file at v refs words (Continue n)
    after = subst (Turned file at v refs words) e x

    pub goes_on : Midway file n.at v n.counts n.phase refs words
    goes_on = after.0

    pub less : length file - place_of n.at < length file - place_of at
    less = omega (arith, after.1, after.2)
