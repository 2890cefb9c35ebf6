-- The replies from the store are the rules', where it shows a state.
use borrow.Author.Tests.{le-ltb, leb-false, leb-true, lt-ltb}
use mathlib.Core.Bool.{Bool, cond, false, true, ◌&&◌}
use mathlib.Core.List.{List}
use mathlib.Core.Path.{◌∙◌, ◌≡◌, ap, ap₂, refl, subst⁻¹, sym}
use Prim.Native.Nat.{ℕ, ◌+◌, ◌*◌, ◌<◌}
use native.Mathlib.Nat.{zero-add}
use native.Mathlib.Omega.{arith}
use lib.Dec.{eqb, leb, ltb}
use lib.ListN.{get_or, length}
use Rattle.limits.specs.Limits.{card_bytes}
use Rattle.theory.specs.Card.{card_of}
use Rattle.theory.specs.Lists.{same_numbers}
use Rattle.rules.specs.Field.{Field}
use Rattle.rules.specs.Query.{alike, alike_reply, body_reply}
use Rattle.rules.specs.Run.{Outcome, and_then, card, memory_after, refusal, result}
use Rattle.rules.specs.State.{Added, State, card_level, definition_at, params_of}
use Rattle.laws.proofs.Memory.{card-at, card-size}
use Rattle.worlds.specs.Rows.{Row}
use Rattle.store.specs.Store.{count_at, first_at}
use Rattle.store.specs.declared.Store.{Store}
use Rattle.context.specs.declared.Counts.{Counts}
use Rattle.judge_plain.specs.declared.Phase.{Phase}
use Rattle.standing.specs.Standing.{Standing}
use Rattle.asking.specs.Asks.{Asks}
use Rattle.refusals.specs.Outcomes.{outcome_of, refused}
use Rattle.refusals.specs.declared.Refusal.{Refusal}
use Rattle.std.specs.Prelude.{Result, Ok}
use Rattle.queries.specs.Question.{alike_in, body_in, level_in}
use Rattle.queries.specs.Replies.{Replies, alike_at, body_at, like_at, same_from}
use Rattle.queries.specs.declared.Question.TheVariants.{Alike, Body, Level}
use Rattle.queries.specs.declared.Question.{Question}
use Rattle.queries.specs.declared.Answer.TheVariants.{Compared, Located}
use Rattle.queries.specs.declared.Answer.{Answer}
use Rattle.queries.proofs.SameCards.{same_lists}

-- the rules' replies, by whether the definitions are there
abbrev alike_by : State → ℕ → ℕ → Bool → Bool → Outcome Bool
alike_by s g h a b = and_then (cond a (result g) (refusal 17 0)) λ g. and_then (cond b (result h) (refusal 17 0)) λ h. result (alike s g h)

abbrev body_by : State → ℕ → Bool → Outcome (ℕ × ℕ)
body_by s g a = and_then (cond a (result g) (refusal 17 0)) λ g. result ((definition_at s g).body_start, (definition_at s g).body_length)

-- cards that agree agree in byte 0, "the parameter count"
counts-too : (n m : ℕ) (f g : List ℕ → ℕ) → same_numbers (card_of n f) (card_of m g) ≡ (eqb n m && same_numbers (card_of n f) (card_of m g))
unfolding card_of
counts-too n m f g = twice (eqb n m) _
  where
    twice : (a b : Bool) → (a && b) ≡ (a && (a && b))
    twice true b = refl
    twice false b = refl

module _ (file : List ℕ) (fs : List Field) (s : State) (rs : List Row) (v : Store) (c : Counts) (p : Phase) (refs words : List ℕ)
    (stands : Standing file fs s rs v c p refs words) where
  counted : c.definitions ≡ length s.definitions
  counted = stands.holds.definitions

  card-there : (cards before : List ℕ) → cards ≡ memory_after (result s) before → (g : ℕ) → g < length s.definitions → (j : ℕ) → j < length (card s g)
      → get_or cards (card_bytes * g + (0 + j)) 0 ≡ get_or (card s g) j 0
  card-there cards before e g l j k =
      ap₂ (λ (m : List ℕ) (i : ℕ). get_or m (card_bytes * g + i) 0) e (zero-add j)
      ∙ card-at s stands.within before g j l (omega (arith, card-size s stands.within g l))

  like-shown : (cards before : List ℕ) → cards ≡ memory_after (result s) before → (g h : ℕ) → g < c.definitions → h < c.definitions
      → like_at cards g h ≡ alike s g h
  like-shown cards before e g h l k =
      let a : g < length s.definitions = omega (arith, counted) in
      let b : h < length s.definitions = omega (arith, counted) in
      let x = card-size s stands.within g a in
      let y = card-size s stands.within h b in
      ap (same_from cards (card_bytes * g) (card_bytes * h) 0) (sym x)
      ∙ same_lists cards (card_bytes * g) (card_bytes * h) 0 (card s g) (card s h) (x ∙ sym y) (card-there cards before e g a) (card-there cards before e h b)
      ∙ counts-too (params_of s g) (params_of s h) (card_level s g) (card_level s h)

  -- ALIKE
  pub alike-shown : (cards before : List ℕ) → cards ≡ memory_after (result s) before → (g h : ℕ) → alike_in (alike_at cards c.definitions g h) ≡ alike_reply g h s
  unfolding alike_at
  alike-shown cards before e g h = go (leb c.definitions g) (leb c.definitions h) refl refl
    where
      go : (a b : Bool) → leb c.definitions g ≡ a → leb c.definitions h ≡ b
          → alike_in (cond a (refused 17 0) (cond b (refused 17 0) (Ok (Compared (like_at cards g h))))) ≡ alike_reply g h s
      go true b u w =
          let l : ltb g (length s.definitions) ≡ false = le-ltb g (length s.definitions) (omega (arith, counted, leb-true c.definitions g u)) in
          sym (ap (λ (x : Bool). alike_by s g h x (ltb h (length s.definitions))) l)
      go false true u w =
          let l : ltb g (length s.definitions) ≡ true = lt-ltb g (length s.definitions) (omega (arith, counted, leb-false c.definitions g u)) in
          let k : ltb h (length s.definitions) ≡ false = le-ltb h (length s.definitions) (omega (arith, counted, leb-true c.definitions h w)) in
          sym (ap₂ (alike_by s g h) l k)
      go false false u w =
          let a = leb-false c.definitions g u in
          let b = leb-false c.definitions h w in
          let l : ltb g (length s.definitions) ≡ true = lt-ltb g (length s.definitions) (omega (arith, counted)) in
          let k : ltb h (length s.definitions) ≡ true = lt-ltb h (length s.definitions) (omega (arith, counted)) in
          ap result (like-shown cards before e g h a b) ∙ sym (ap₂ (alike_by s g h) l k)

  -- BODY. Of a brought definition the store keeps the original's.
  pub body-shown : (g : ℕ) → body_in (body_at v.facts c.definitions g) ≡ body_reply g s
  unfolding body_at
  body-shown g = go (leb c.definitions g) refl
    where
      go : (a : Bool) → leb c.definitions g ≡ a → body_in (cond a (refused 17 0) (Ok (Located (first_at v.facts g) (count_at v.facts g)))) ≡ body_reply g s
      go true u = sym (ap (body_by s g) (le-ltb g (length s.definitions) (omega (arith, counted, leb-true c.definitions g u))))
      go false u =
          let a = leb-false c.definitions g u in
          ap (λ (d : Added). result (d.body_start, d.body_length)) (stands.holds.described g a)
          ∙ sym (ap (body_by s g) (lt-ltb g (length s.definitions) (omega (arith, counted))))

-- by the question
module _ (q : Question) (v : Store) (words cards : List ℕ) (c : Counts) (expr levels : List ℕ) (r : Result Answer Refusal) where
  pub levelled : (m : ℕ) (a : Result ℕ Refusal) → q ≡ Level m → Asks v words c m levels expr a → level_in r ≡ outcome_of a
      → Replies q v words cards c expr levels r
  levelled m a e x f =
      subst⁻¹ (λ (y : Question). Replies y v words cards c expr levels r) e
      (record { reply = λ file fs s rs p refs before stands filled. f ∙ x.reply file fs s rs p refs stands })

  pub compared : (g h : ℕ) → q ≡ Alike g h → r ≡ alike_at cards c.definitions g h → Replies q v words cards c expr levels r
  compared g h e f =
      subst⁻¹ (λ (y : Question). Replies y v words cards c expr levels r) e
      (record {
        reply = λ file fs s rs p refs before stands filled.
            ap alike_in f ∙ alike-shown file fs s rs v c p refs words stands cards before filled g h;
      })

  pub located : (g : ℕ) → q ≡ Body g → r ≡ body_at v.facts c.definitions g → Replies q v words cards c expr levels r
  located g e f =
      subst⁻¹ (λ (y : Question). Replies y v words cards c expr levels r) e
      (record {
        reply = λ file fs s rs p refs before stands filled.
            ap body_in f ∙ body-shown file fs s rs v c p refs words stands g;
      })
