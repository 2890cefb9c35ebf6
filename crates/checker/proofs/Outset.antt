-- Before the first field nothing was added.
use mathlib.Core.List.{List, []}
use mathlib.Core.Path.{◌≡◌, refl}
use Prim.Native.Nat.{ℕ}
use native.Mathlib.Omega.{arith}
use lib.ListN.{length}
use Rattle.limits.specs.Limits.{file_bytes}
use Rattle.rules.specs.State.{start}
use Rattle.laws.proofs.Invariant.{good_start}
use Rattle.laws.proofs.LevelCorrect.{level-correct-start}
use Rattle.laws.proofs.Origins.{no_fields}
use Rattle.laws.proofs.Within.{within-start}
use Rattle.worlds.proofs.Depth.{depths-start}
use Rattle.worlds.proofs.Fields.{worlds-start}
use Rattle.context.proofs.Adds.{hold-start}
use Rattle.store.specs.Store.{empty}
use Rattle.context.specs.Entries.{no_counts}
use Rattle.resolve.proofs.Numbers.{no-declarations}
use Rattle.levels.specs.Tables.{table_words}
use Rattle.judge_plain.proofs.Premises.{fresh_start}
use Rattle.judge_plain.specs.declared.Phase.TheVariants.{Outside}
use Rattle.standing.specs.Standing.{Standing}

pub standing-start : (file refs words : List ℕ) → length refs ≡ file_bytes → length words ≡ table_words
    → Standing file [] start [] empty no_counts Outside refs words
standing-start file refs words a b =
    record {
      holds = hold-start;
      phase = refl;
      declares = no-declarations empty.facts no_counts refl;
      codes = record { named = λ i l. absurd (omega arith); kind = λ i l. absurd (omega arith); code = λ i l. absurd (omega arith); few = λ i l. absurd (omega arith) };
      forms = record { definitions = λ g us l n e. absurd (omega arith); declarations = λ g us l n e. absurd (omega arith) };
      chained = record { each = λ D l. absurd (omega arith) };
      early = λ i l. absurd (omega arith);
      refs_size = a;
      words_size = b;
      inside = omega arith;
      apart = omega arith;
      origins = no_fields;
      good = good_start;
      level_correct = level-correct-start;
      within = within-start;
      fresh = fresh_start;
      worlds = worlds-start;
      paths = record { short = tt; current = tt; ended = tt };
      covered = record { all = λ D l. absurd (omega arith); current = tt; ended = tt };
      depths = depths-start;
    }
