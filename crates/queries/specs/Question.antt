-- What each question asks of the rules, and what a reply to it says. Definitions only.
use Rattle.std.specs.Prelude.{Result, Ok, Err, Bool, List, ◌≡◌, ℕ}
use Rattle.rules.specs.Query.{alike_reply, body_reply, level_reply}
use Rattle.rules.specs.Run.{Outcome, after_check, refusal, result}
use Rattle.rules.specs.State.{State}
use Rattle.checker.specs.Reply.{answer}
use Rattle.queries.specs.declared.Question.TheVariants.{Alike, Body, Level}
use Rattle.queries.specs.declared.Question.{Question}
use Rattle.queries.specs.declared.Answer.{Answer}
use Rattle.queries.specs.declared.Answer.TheVariants.{Compared, Levelled, Located}
use Rattle.refusals.specs.declared.Refusal.{Refusal}

-- what a question is answered with
abbrev pub Value : Question → Type 0
Value (Level m) = ℕ
Value (Alike g h) = Bool
Value (Body g) = ℕ × ℕ

-- the rules' reply in the state that an accepted file leads to
abbrev pub reply_of : (q : Question) → List ℕ → List ℕ → State → Outcome (Value q)
reply_of (Level m) expr levels s = level_reply m levels expr s
reply_of (Alike g h) expr levels s = alike_reply g h s
reply_of (Body g) expr levels s = body_reply g s

-- a reply as an outcome of each question; one to another question is none of its own, and so a refusal by cause 0, which there is not
abbrev pub level_in : Result Answer Refusal → Outcome ℕ
level_in (Ok (Levelled l)) = result l
level_in (Ok (Compared b)) = refusal 0 0
level_in (Ok (Located a n)) = refusal 0 0
level_in (Err r) = refusal r.cause r.place

abbrev pub alike_in : Result Answer Refusal → Outcome Bool
alike_in (Ok (Levelled l)) = refusal 0 0
alike_in (Ok (Compared b)) = result b
alike_in (Ok (Located a n)) = refusal 0 0
alike_in (Err r) = refusal r.cause r.place

abbrev pub body_in : Result Answer Refusal → Outcome (ℕ × ℕ)
body_in (Ok (Levelled l)) = refusal 0 0
body_in (Ok (Compared b)) = refusal 0 0
body_in (Ok (Located a n)) = result (a, n)
body_in (Err r) = refusal r.cause r.place

abbrev pub outcome_in : (q : Question) → Result Answer Refusal → Outcome (Value q)
outcome_in (Level m) r = level_in r
outcome_in (Alike g h) r = alike_in r
outcome_in (Body g) r = body_in r

-- The reply to a question and the lent memory after it are the rules'.
abbrev pub Answers : Question → List ℕ → List ℕ → List ℕ → List ℕ → Result Answer Refusal → List ℕ → Type 0
Answers q file before expr levels r after = answer (outcome_in q r) after ≡ after_check file before (reply_of q expr levels)
