-- What a turn of the loop over the fields gives.
use Rattle.std.specs.Prelude.{Result, Ok, cond, List, ℕ, ◌≤◌, ◌<◌, eqb, length}
use Rattle.std.specs.declared.ops.ControlFlow.TheVariants.{Continue, Break}
use Rattle.std.specs.declared.ops.ControlFlow.{ControlFlow}
use Rattle.fields.specs.Cursor.{place_of}
use Rattle.fields.specs.declared.Cursor.{Cursor}
use Rattle.fields.specs.declared.FieldStep.{FieldStep}
use Rattle.store.specs.declared.Store.{Store}
use Rattle.context.specs.declared.Counts.{Counts}
use Rattle.judge_plain.specs.declared.Judged.{Judged}
use Rattle.judge_plain.specs.declared.Phase.TheVariants.{Begun, Inside, Outside}
use Rattle.judge_plain.specs.declared.Phase.{Phase}
use Rattle.checker.specs.Settles.{Midway, Settles}
use Rattle.checker.specs.declared.judging.Next.{Next}
use Rattle.refusals.specs.declared.Refusal.{Refusal}
use Rattle.refusals.specs.Outcomes.{refused}

-- at the end of a file with those counts: "file ends inside a module", at "the number of fields"
abbrev pub end_reply : Phase → Counts → ℕ → Result Counts Refusal
end_reply Outside c p = Ok c
end_reply Begun c p = refused 4 p
end_reply Inside c p = refused 4 p

-- after a field was judged
abbrev pub turn_of : Judged → FieldStep → ControlFlow (Result Counts Refusal) Next
turn_of j x = cond (eqb j.cause 0) (Continue (record { at = x.next; phase = j.phase; counts = j.counts })) (Break (refused j.cause x.number))

-- the file is settled, or a further field stands
abbrev pub Turned : List ℕ → Cursor → Store → List ℕ → List ℕ → ControlFlow (Result Counts Refusal) Next → Type 0
Turned file at v refs words (Break r) = Settles file v refs words r
Turned file at v refs words (Continue n) =
    Midway file n.at v n.counts n.phase refs words × (place_of at < place_of n.at) × (place_of n.at ≤ length file)
