use Prim.Native.Nat.{◌-◌}
use lib.ListN.{length}
use Rattle.fields.specs.Cursor.{place_of}
use Rattle.checker.specs.Settles.{Midway}
use Rattle.checker.proofs.judging.judge_fields.Given as goal

abbrev pub invariant-fields : goal.invariant-fields
invariant-fields l = Midway l.file l.at l.store l.c l.phase l.refs l.words

abbrev pub decreases-fields : goal.decreases-fields
decreases-fields l =
    length l.file - place_of l.at
