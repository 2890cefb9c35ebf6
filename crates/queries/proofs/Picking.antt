-- The replies from the store, case by case as the code goes.
use borrow.Author.Tests.{le-leb, lt-leb}
use mathlib.Core.Bool.{Bool, cond}
use mathlib.Core.List.{List}
use mathlib.Core.Path.{◌∙◌, ◌≡◌, ap, ap₂, sym}
use Prim.Native.Nat.{ℕ, ◌≤◌, ◌<◌}
use lib.Dec.{leb}
use Rattle.store.specs.Store.{count_at, first_at}
use Rattle.store.specs.declared.Facts.{Facts}
use Rattle.queries.specs.Replies.{alike_at, body_at, like_at}
use Rattle.queries.specs.declared.Answer.TheVariants.{Compared, Located}
use Rattle.queries.specs.declared.Answer.{Answer}
use Rattle.refusals.specs.Outcomes.{refused}
use Rattle.refusals.specs.declared.Refusal.{Refusal}
use Rattle.std.specs.Prelude.{Result, Ok}

abbrev compared : Bool → Result Answer Refusal
compared b = Ok (Compared b)

abbrev located : ℕ → ℕ → Result Answer Refusal
located a n = Ok (Located a n)

module _ (cards : List ℕ) where
  abbrev alike_by : ℕ → ℕ → Bool → Bool → Result Answer Refusal
  alike_by g h a b = cond a (refused 17 0) (cond b (refused 17 0) (Ok (Compared (like_at cards g h))))

  pub no-first : (n g h : ℕ) → n ≤ g → refused 17 0 ≡ alike_at cards n g h
  unfolding alike_at
  no-first n g h l = sym (ap (λ (x : Bool). alike_by g h x (leb n h)) (le-leb n g l))

  pub no_second : (n g h : ℕ) → g < n → n ≤ h → refused 17 0 ≡ alike_at cards n g h
  unfolding alike_at
  no_second n g h k l = sym (ap₂ (alike_by g h) (lt-leb n g k) (le-leb n h l))

  pub both : (n g h : ℕ) (b : Bool) → g < n → h < n → b ≡ like_at cards g h → Ok (Compared b) ≡ alike_at cards n g h
  unfolding alike_at
  both n g h b k l e = ap compared e ∙ sym (ap₂ (alike_by g h) (lt-leb n g k) (lt-leb n h l))

module _ (facts : List Facts) where
  pub no_body : (n g : ℕ) → n ≤ g → refused 17 0 ≡ body_at facts n g
  unfolding body_at
  no_body n g l = sym (ap (λ (x : Bool). cond x (refused 17 0) (Ok (Located (first_at facts g) (count_at facts g)))) (le-leb n g l))

  pub one-body : (n g a b u v : ℕ) → g < n → u ≡ first_at facts g → a ≡ u → v ≡ count_at facts g → b ≡ v
      → Ok (Located a b) ≡ body_at facts n g
  unfolding body_at
  one-body n g a b u v l p x q y =
      ap₂ located (x ∙ p) (y ∙ q)
      ∙ sym (ap (λ (x : Bool). cond x (refused 17 0) (Ok (Located (first_at facts g) (count_at facts g)))) (lt-leb n g l))
