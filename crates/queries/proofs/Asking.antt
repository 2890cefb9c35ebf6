-- The file judged, and the question answered: the reply and the memory are the rules'.
use mathlib.Core.Bool.{Bool, false, true}
use mathlib.Core.List.{List}
use mathlib.Core.Path.{◌∙◌, ◌≡◌, ap, refl, subst}
use Prim.Native.Nat.{ℕ, ◌≤◌, ◌<◌}
use lib.ListN.{length, replicate}
use Rattle.limits.specs.Limits.{card_memory_bytes, file_bytes, max_definitions, max_modules}
use Rattle.rules.specs.Bytes.{is_empty}
use Rattle.rules.specs.Query.{alike_query, body_query, level_query}
use Rattle.rules.specs.Run.{Outcome, overwrite, refusal}
use Rattle.store.specs.declared.Store.{Store}
use Rattle.context.specs.declared.Counts.{Counts}
use Rattle.judge_plain.specs.declared.Phase.TheVariants.{Outside}
use Rattle.checker.proofs.Answers.{memory-filled, reached-answer, refused-answer, short-answer, wrong-size-answer}
use Rattle.checker.specs.Reply.{answer}
use Rattle.checker.specs.Settles.{Concludes, Leaves, Reaches, Settles, wrong_size}
use Rattle.queries.specs.Question.{Answers, Value, alike_in, body_in, level_in, outcome_in, reply_of}
use Rattle.queries.specs.Replies.{Replies}
use Rattle.queries.specs.declared.Question.TheVariants.{Alike, Body, Level}
use Rattle.queries.specs.declared.Question.{Question}
use Rattle.queries.specs.declared.Answer.{Answer}
use Rattle.refusals.specs.Outcomes.{outcome_of, refused}
use Rattle.refusals.specs.declared.Refusal.{Refusal}
use Rattle.cards.specs.Cards.{cards_of}
use Rattle.std.specs.Prelude.{Result, Ok, Err}

-- a refusal is one whatever was asked
refused-in : (q : Question) (y : Refusal) → outcome_in q (Err y) ≡ refusal y.cause y.place
refused-in (Level m) y = refl
refused-in (Alike g h) y = refl
refused-in (Body g) y = refl

module _ (q : Question) (expr levels file before : List ℕ) where
  pub ask-short : length before < card_memory_bytes → Answers q file before expr levels (refused 1 0) before
  ask-short l = ap (λ (o : Outcome (Value q)). answer o before) (refused-in q (record { cause = 1; place = 0 })) ∙ short-answer (reply_of q expr levels) file before l

  pub ask-wrong-size : (after : List ℕ) → card_memory_bytes ≤ length before → wrong_size file ≡ true → after ≡ overwrite (replicate card_memory_bytes 0) before
      → Answers q file before expr levels (refused 2 0) after
  ask-wrong-size after room wrong e =
      ap (λ (o : Outcome (Value q)). answer o after) (refused-in q (record { cause = 2; place = 0 }))
      ∙ wrong-size-answer (reply_of q expr levels) file before after room wrong e

  module _ (v : Store) (refs words : List ℕ) (judged : Result Counts Refusal) (after : List ℕ) (room : card_memory_bytes ≤ length before)
      (some : is_empty file ≡ false) (fits : length file ≤ file_bytes) (x : Concludes file v refs words judged before after) where
    pub ask-answered : (c : Counts) (r : Result Answer Refusal) → judged ≡ Ok c → Replies q v words after c expr levels r → Answers q file before expr levels r after
    ask-answered c r e y =
        let z : Reaches file v c refs words = subst (Settles file v refs words) e x.settles in
        let l : after ≡ overwrite (cards_of v.facts words c.definitions) before = subst (λ (j : Result Counts Refusal). Leaves v.facts words j before after) e x.leaves in
        reached-answer (reply_of q expr levels) file before after v c refs words (outcome_in q r) room some fits z l
        (y.reply file z.fields z.state z.rows Outside refs before z.stands (memory-filled file before after v c refs words z l))

    pub ask-refused : (y : Refusal) → judged ≡ Err y → Answers q file before expr levels (Err y) after
    ask-refused y e =
        ap (λ (o : Outcome (Value q)). answer o after) (refused-in q y)
        ∙ refused-answer (reply_of q expr levels) file before after y.cause y.place room some fits (subst (Settles file v refs words) e x.settles)
        (subst (λ (j : Result Counts Refusal). Leaves v.facts words j before after) e x.leaves)

-- what was counted in a file that is accepted
pub bounded : (file : List ℕ) (v : Store) (refs words : List ℕ) (judged : Result Counts Refusal) (before after : List ℕ)
    → Concludes file v refs words judged before after → (c : Counts) → judged ≡ Ok c → (c.modules ≤ max_modules) × (c.definitions ≤ max_definitions)
bounded file v refs words judged before after x c e =
    let z : Reaches file v c refs words = subst (Settles file v refs words) e x.settles in
    (z.stands.holds.sized.modules, z.stands.holds.sized.definitions)

-- each query's own answer
pub level-answered : (m : ℕ) (expr levels file before : List ℕ) (r : Result Answer Refusal) (after : List ℕ) (a : Result ℕ Refusal) → Answers (Level m) file before expr levels r after → outcome_of a ≡ level_in r
    → answer (outcome_of a) after ≡ level_query file before m levels expr
level-answered m expr levels file before r after a x e = ap (λ (o : Outcome ℕ). answer o after) e ∙ x

pub alike-answered : (g h : ℕ) (expr levels file before : List ℕ) (r : Result Answer Refusal) (after : List ℕ) (a : Result Bool Refusal) → Answers (Alike g h) file before expr levels r after → outcome_of a ≡ alike_in r
    → answer (outcome_of a) after ≡ alike_query file before g h
alike-answered g h expr levels file before r after a x e = ap (λ (o : Outcome Bool). answer o after) e ∙ x

pub body-answered : (g : ℕ) (expr levels file before : List ℕ) (r : Result Answer Refusal) (after : List ℕ) (a : Result (ℕ × ℕ) Refusal) → Answers (Body g) file before expr levels r after → outcome_of a ≡ body_in r
    → answer (outcome_of a) after ≡ body_query file before g
body-answered g expr levels file before r after a x e = ap (λ (o : Outcome (ℕ × ℕ)). answer o after) e ∙ x
