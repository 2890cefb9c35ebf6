-- The file judged, and the expression expanded: the reply, the memory and the output are the rules'.
use mathlib.Core.Bool.{false, true}
use mathlib.Core.List.{List}
use mathlib.Core.Path.{◌∙◌, ◌≡◌, ap, ap₂, refl, subst, sym}
use Prim.Native.Nat.{ℕ, ◌≤◌, ◌<◌}
use lib.ListN.{length, replicate}
use Rattle.limits.specs.Limits.{card_memory_bytes, file_bytes}
use Rattle.rules.specs.Bytes.{is_empty}
use Rattle.rules.specs.Query.{ExpansionAnswer, expansion_reply, output_after}
use Rattle.rules.specs.Run.{Answer, Outcome, after_check, and_then, overwrite, refusal, result}
use Rattle.store.specs.declared.Store.{Store}
use Rattle.context.specs.declared.Counts.{Counts}
use Rattle.judge_plain.specs.declared.Phase.TheVariants.{Outside}
use Rattle.checker.proofs.Answers.{reached-answer, refused-answer, short-answer, wrong-size-answer}
use Rattle.checker.specs.Reply.{answer}
use Rattle.checker.specs.Settles.{Concludes, Leaves, Reaches, Settles, wrong_size}
use Rattle.expanding.specs.Asks.{RepliesOf}
use Rattle.expanding.specs.Reports.{Reports}
use Rattle.refusals.specs.Outcomes.{outcome_of, refused}
use Rattle.refusals.specs.declared.Refusal.{Refusal}
use Rattle.cards.specs.Cards.{cards_of}
use Rattle.std.specs.Prelude.{Result, Ok, Err}
use Rattle.queries.specs.Expanding.{Expanding}
use Rattle.queries.specs.Reply.{expansion_answer}

-- what is replied and written, by the rules' outcome
abbrev length_of : Outcome (List ℕ) → Outcome ℕ
length_of x = and_then x (λ bytes. result (length bytes))

reported : (x : Outcome (List ℕ)) (r : Result ℕ Refusal) (out out' : List ℕ) → Reports x r out out' → (outcome_of r ≡ length_of x) × (out' ≡ output_after x out)
reported x (Ok n) out out' (bytes, e, l, w) = (ap result l ∙ ap length_of (sym e), w ∙ ap (λ (y : Outcome (List ℕ)). output_after y out) (sym e))
reported x (Err r) out out' (e, w) = (ap length_of (sym e), w ∙ ap (λ (y : Outcome (List ℕ)). output_after y out) (sym e))

module _ (m n : ℕ) (expr file before out : List ℕ) where
  abbrev as_whole : Answer (List ℕ) → ExpansionAnswer
  as_whole a = expansion_answer (length_of a.reply) a.memory (output_after a.reply out)

  answered : (x : Outcome (List ℕ)) (r : Result ℕ Refusal) (after out' : List ℕ) → answer x after ≡ after_check file before (expansion_reply m n expr (length out)) → Reports x r out out'
      → Expanding file before m n expr out r after out'
  answered x r after out' e reports =
      let y = reported x r out out' reports in
      ap₂ (λ (o : Outcome ℕ) (w : List ℕ). expansion_answer o after w) y.0 y.1 ∙ ap as_whole e

  pub expand-short : length before < card_memory_bytes → Expanding file before m n expr out (refused 1 0) before out
  expand-short l = answered (refusal 1 0) (refused 1 0) before out (short-answer (expansion_reply m n expr (length out)) file before l) (refl, refl)

  pub expand-wrong-size : (after : List ℕ) → card_memory_bytes ≤ length before → wrong_size file ≡ true → after ≡ overwrite (replicate card_memory_bytes 0) before
      → Expanding file before m n expr out (refused 2 0) after out
  expand-wrong-size after room wrong e =
      answered (refusal 2 0) (refused 2 0) after out (wrong-size-answer (expansion_reply m n expr (length out)) file before after room wrong e) (refl, refl)

  module _ (v : Store) (refs words : List ℕ) (judged : Result Counts Refusal) (after : List ℕ) (room : card_memory_bytes ≤ length before)
      (some : is_empty file ≡ false) (fits : length file ≤ file_bytes) (x : Concludes file v refs words judged before after) where
    pub expand-answered : (c : Counts) (r : Result ℕ Refusal) (out' : List ℕ) → judged ≡ Ok c → RepliesOf file refs v c m n expr r out out'
        → Expanding file before m n expr out r after out'
    expand-answered c r out' e y =
        let z : Reaches file v c refs words = subst (Settles file v refs words) e x.settles in
        let l : after ≡ overwrite (cards_of v.facts words c.definitions) before = subst (λ (j : Result Counts Refusal). Leaves v.facts words j before after) e x.leaves in
        answered (expansion_reply m n expr (length out) z.state) r after out'
        (reached-answer (expansion_reply m n expr (length out)) file before after v c refs words
        (expansion_reply m n expr (length out) z.state) room some fits z l refl)
        (y.reply z.fields z.state z.rows Outside words z.stands)

    pub expand-refused : (y : Refusal) → judged ≡ Err y → Expanding file before m n expr out (Err y) after out
    expand-refused y e =
        answered (refusal y.cause y.place) (Err y) after out
        (refused-answer (expansion_reply m n expr (length out)) file before after y.cause y.place room some fits (subst (Settles file v refs words) e x.settles)
        (subst (λ (j : Result Counts Refusal). Leaves v.facts words j before after) e x.leaves))
        (refl, refl)
