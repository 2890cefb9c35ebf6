-- The text of a file that was judged, from the store.
use Rattle.std.specs.Prelude.{Err, List, Ok, Result, ℕ}
use Rattle.context.specs.declared.Counts.{Counts}
use Rattle.refusals.specs.declared.Refusal.{Refusal}
use Rattle.lines.specs.Text.{refusal_text, text_of}
use Rattle.store.specs.declared.Facts.{Facts}

abbrev pub reply_text : List ℕ → List Facts → List ℕ → Result Counts Refusal → List ℕ
reply_text names facts words (Ok c) = text_of names facts words c.definitions
reply_text names facts words (Err r) = refusal_text r.cause r.place
