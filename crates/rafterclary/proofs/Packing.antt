-- Replies are small enough to be packed, and packed they are the rules'.
use mathlib.Core.Bool.{Bool, cond}
use mathlib.Core.List.{List}
use mathlib.Core.Path.{◌∙◌, ◌≡◌, ap, refl, subst, sym}
use Prim.Native.Nat.{ℕ, ◌+◌, ◌*◌, ◌≤◌}
use native.Mathlib.Omega.{arith}
use Rattle.limits.specs.Limits.{file_bytes}
use Rattle.rules.specs.Query.{alike_query, body_query, level_query}
use Rattle.rules.specs.Run.{Answer, Outcome, file_check, refusal, result}
use Rattle.checker.specs.Reply.{answer, answer_of}
use Rattle.refusals.specs.Outcomes.{outcome_of}
use Rattle.refusals.specs.declared.Refusal.{Refusal}
use Rattle.std.specs.Prelude.{Result, Ok, Err}
use Rattle.demands.proofs.Places.{alike-place, body-place, check-place, definitions-few, level-place, part-inside}
use Rattle.demands.specs.Packed.{packed, packed_span, packed_truth}
use Rattle.rafterclary.specs.Packable.{FewBytes, InFile, Packable}

-- what is known of an outcome's result and of its place
pub packable : {A : Type 0} (P : A → Type 0) (o : Outcome A) → ((a : A) → o ≡ result a → P a) → ((c p : ℕ) → o ≡ refusal c p → p ≤ file_bytes) → Packable P o
packable P (result a) f g = f a refl
packable P (refusal c p) f g = g c p refl

module _ {A : Type 0} (o : Outcome A) (after : List ℕ) (x : Answer A) (e : answer o after ≡ x) where
  replied : o ≡ x.reply
  replied = ap (λ (y : Answer A). y.reply) e

  left : after ≡ x.memory
  left = ap (λ (y : Answer A). y.memory) e

-- CHECK
module _ (file memory after : List ℕ) (r : Result ℕ Refusal) (e : answer_of r after ≡ file_check file memory) where
  pub check-packable : Packable FewBytes (outcome_of r)
  check-packable =
      packable FewBytes (outcome_of r) (λ n q. omega (arith, definitions-few file memory n (sym (replied (outcome_of r) after (file_check file memory) e) ∙ q)))
      (λ c p q. check-place file memory c p (sym (replied (outcome_of r) after (file_check file memory) e) ∙ q))

  pub check-packed : (n : ℕ) → n ≡ packed (outcome_of r) → n ≡ packed (file_check file memory).reply
  check-packed n q = q ∙ ap packed (replied (outcome_of r) after (file_check file memory) e)

  pub check-left : after ≡ (file_check file memory).memory
  check-left = left (outcome_of r) after (file_check file memory) e

-- LEVEL
module _ (file memory after : List ℕ) (m : ℕ) (ls bytes : List ℕ) (r : Result ℕ Refusal) (e : answer (outcome_of r) after ≡ level_query file memory m ls bytes) where
  pub level-packable : Packable (λ l. Unit {0}) (outcome_of r)
  level-packable =
      packable (λ l. Unit {0}) (outcome_of r) (λ l q. tt)
      (λ c p q. level-place file memory m ls bytes c p (sym (replied (outcome_of r) after (level_query file memory m ls bytes) e) ∙ q))

  pub level-packed : (n : ℕ) → n ≡ packed (outcome_of r) → n ≡ packed (level_query file memory m ls bytes).reply
  level-packed n q = q ∙ ap packed (replied (outcome_of r) after (level_query file memory m ls bytes) e)

  pub level-left : after ≡ (level_query file memory m ls bytes).memory
  level-left = left (outcome_of r) after (level_query file memory m ls bytes) e

-- ALIKE
module _ (file memory after : List ℕ) (g h : ℕ) (r : Result Bool Refusal) (e : answer (outcome_of r) after ≡ alike_query file memory g h) where
  pub alike-packable : Packable (λ b. Unit {0}) (outcome_of r)
  alike-packable =
      packable (λ b. Unit {0}) (outcome_of r) (λ b q. tt)
      (λ c p q. alike-place file memory g h c p (sym (replied (outcome_of r) after (alike_query file memory g h) e) ∙ q))

  pub alike-packed : (n : ℕ) → n ≡ packed_truth (outcome_of r) → n ≡ packed_truth (alike_query file memory g h).reply
  alike-packed n q = q ∙ ap packed_truth (replied (outcome_of r) after (alike_query file memory g h) e)

  pub alike-left : after ≡ (alike_query file memory g h).memory
  alike-left = left (outcome_of r) after (alike_query file memory g h) e

-- BODY
module _ (file memory after : List ℕ) (g : ℕ) (r : Result (ℕ × ℕ) Refusal) (e : answer (outcome_of r) after ≡ body_query file memory g) where
  pub body-packable : Packable InFile (outcome_of r)
  body-packable =
      packable InFile (outcome_of r) (λ x q. part-inside file memory g x (sym (replied (outcome_of r) after (body_query file memory g) e) ∙ q))
      (λ c p q. body-place file memory g c p (sym (replied (outcome_of r) after (body_query file memory g) e) ∙ q))

  pub body-packed : (n : ℕ) → n ≡ packed_span (outcome_of r) → n ≡ packed_span (body_query file memory g).reply
  body-packed n q = q ∙ ap packed_span (replied (outcome_of r) after (body_query file memory g) e)

  pub body-left : after ≡ (body_query file memory g).memory
  body-left = left (outcome_of r) after (body_query file memory g) e

-- by the reply of each operation
module _ {A : Type 0} (P : A → Type 0) (r : Result A Refusal) (s : Packable P (outcome_of r)) where
  pub kept : (a : A) → r ≡ Ok a → P a
  kept a e = subst (λ (y : Result A Refusal). Packable P (outcome_of y)) e s

  pub near : (y : Refusal) → r ≡ Err y → y.place ≤ file_bytes
  near y e = subst (λ (y : Result A Refusal). Packable P (outcome_of y)) e s

module _ (r : Result ℕ Refusal) (k : ℕ) where
  pub result-packed : (n : ℕ) → r ≡ Ok n → k ≡ n → k ≡ packed (outcome_of r)
  result-packed n e q = q ∙ ap (λ (y : Result ℕ Refusal). packed (outcome_of y)) (sym e)

  pub refusal-packed : (y : Refusal) → r ≡ Err y → k ≡ 2147483648 + 65536 * y.cause + y.place → k ≡ packed (outcome_of r)
  refusal-packed y e q = q ∙ ap (λ (y : Result ℕ Refusal). packed (outcome_of y)) (sym e)

module _ (r : Result Bool Refusal) (k : ℕ) where
  pub alike-result : (b : Bool) → r ≡ Ok b → k ≡ cond b 1 0 → k ≡ packed_truth (outcome_of r)
  alike-result b e q = q ∙ ap (λ (y : Result Bool Refusal). packed_truth (outcome_of y)) (sym e)

  pub alike-refusal : (y : Refusal) → r ≡ Err y → k ≡ 2147483648 + 65536 * y.cause + y.place → k ≡ packed_truth (outcome_of r)
  alike-refusal y e q = q ∙ ap (λ (y : Result Bool Refusal). packed_truth (outcome_of y)) (sym e)

module _ (r : Result (ℕ × ℕ) Refusal) (k : ℕ) where
  pub body-result : (a n : ℕ) → r ≡ Ok (a, n) → k ≡ 65536 * a + n → k ≡ packed_span (outcome_of r)
  body-result a n e q = q ∙ ap (λ (y : Result (ℕ × ℕ) Refusal). packed_span (outcome_of y)) (sym e)

  pub body-refusal : (y : Refusal) → r ≡ Err y → k ≡ 9223372036854775808 + 65536 * y.cause + y.place → k ≡ packed_span (outcome_of r)
  body-refusal y e q = q ∙ ap (λ (y : Result (ℕ × ℕ) Refusal). packed_span (outcome_of y)) (sym e)
