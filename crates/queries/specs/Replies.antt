-- What the reply to a question is, by the store that shows the state of an accepted file.
use Rattle.std.specs.Prelude.{Result, Ok, Bool, cond, true, ◌&&◌, List, ◌≡◌, ℕ, zero, suc, ◌+◌, ◌*◌, eqb, leb, get_or}
use Rattle.limits.specs.Limits.{card_bytes}
use Rattle.rules.specs.Field.{Field}
use Rattle.rules.specs.Run.{memory_after, result}
use Rattle.rules.specs.State.{State}
use Rattle.worlds.specs.Rows.{Row}
use Rattle.store.specs.Store.{count_at, first_at}
use Rattle.store.specs.declared.Store.{Store}
use Rattle.store.specs.declared.Facts.{Facts}
use Rattle.context.specs.declared.Counts.{Counts}
use Rattle.judge_plain.specs.declared.Phase.{Phase}
use Rattle.standing.specs.Standing.{Standing}
use Rattle.queries.specs.declared.Question.{Question}
use Rattle.queries.specs.declared.Answer.TheVariants.{Compared, Located}
use Rattle.queries.specs.declared.Answer.{Answer}
use Rattle.refusals.specs.Outcomes.{refused}
use Rattle.refusals.specs.declared.Refusal.{Refusal}
use Rattle.queries.specs.Question.{outcome_in, reply_of}

-- k bytes from the i-th after p are those from the i-th after q
unfoldable pub same_from : List ℕ → ℕ → ℕ → ℕ → ℕ → Bool
same_from m p q i zero = true
same_from m p q i (suc k) = eqb (get_or m (p + i) 0) (get_or m (q + i) 0) && same_from m p q (suc i) k

-- "parameter counts and cards agree": byte 0 of a card is the count
abbrev pub like_at : List ℕ → ℕ → ℕ → Bool
like_at cards g h = same_from cards (card_bytes * g) (card_bytes * h) 0 card_bytes

-- of n definitions, 17 being "no such module or definition"
unfoldable pub alike_at : List ℕ → ℕ → ℕ → ℕ → Result Answer Refusal
alike_at cards n g h = cond (leb n g) (refused 17 0) (cond (leb n h) (refused 17 0) (Ok (Compared (like_at cards g h))))

unfoldable pub body_at : List Facts → ℕ → ℕ → Result Answer Refusal
body_at facts n g = cond (leb n g) (refused 17 0) (Ok (Located (first_at facts g) (count_at facts g)))

-- The reply to a question is the rules', if the store and the counts show a state that some fields lead to, and the cards are filled.
pub record Replies (q : Question) (v : Store) (words cards : List ℕ) (c : Counts) (expr levels : List ℕ) (r : Result Answer Refusal) : Type 0 where
  pub reply : (file : List ℕ) (fs : List Field) (s : State) (rs : List Row) (p : Phase) (refs before : List ℕ)
      → Standing file fs s rs v c p refs words → cards ≡ memory_after (result s) before
      → outcome_in q r ≡ reply_of q expr levels s
