-- A text that was read is judged as the rules judge its expression, and its form gives the level that the rules give.
use borrow.Author.Tests.{eq-eqb, ne_eqb}
use mathlib.Core.Bool.{Bool, cond, false, true}
use mathlib.Core.List.{List}
use mathlib.Core.Option.{some}
use mathlib.Core.Path.{◌∙◌, ◌≡◌, ap, ap₂, refl, sym}
use Prim.Native.Nat.{ℕ, ◌+◌, ◌≤◌}
use native.Mathlib.Decide.{ℕ_discrete}
use native.Mathlib.Omega.{arith}
use lib.Dec.{eqb}
use lib.ListN.{length, length-replicate, replicate}
use Rattle.std.specs.Prelude.{None, Some, is_none}
use Rattle.limits.specs.Limits.{file_bytes, max_arity, max_nesting}
use Rattle.theory.specs.Expand.{arities_of}
use Rattle.theory.specs.Lists.{All}
use Rattle.theory.specs.Term.{Term, WellFormed}
use Rattle.theory.specs.Level.{IsLevel}
use Rattle.theory.proofs.Lists.{replicate-all}
use Rattle.rules.specs.Expression.{Expression, expression, over_limit}
use Rattle.rules.specs.Field.{Field}
use Rattle.rules.specs.Judge.{miscounted, not_level_correct, unknown}
use Rattle.rules.specs.State.{State, here, level_of, resolve, templates_of, zeros}
use Rattle.laws.proofs.Expressions.{expression-back}
use Rattle.laws.proofs.Invariant.{clear_in}
use Rattle.tokens.specs.Expr.{expr_at}
use Rattle.tokens.specs.Limit.{kept_of, limit_at}
use Rattle.tokens.proofs.Nesting.{limited}
use Rattle.tokens.proofs.Writing.{Bytes}
use Rattle.fields.specs.Substitution.{part}
use Rattle.agree.proofs.Limits.{limits-agree}
use Rattle.forms.specs.Forms.{level_at}
use Rattle.context.specs.Entries.{codes_of}
use Rattle.store.specs.declared.Store.{Store}
use Rattle.context.specs.declared.Counts.{Counts}
use Rattle.levels.specs.Tables.{scene_of}
use Rattle.resolve.proofs.Law.{Right}
use Rattle.resolve.proofs.Numbers.{declarations_of}
use Rattle.text_levels.proofs.OwnWorld.{own-level}
use Rattle.worlds.specs.Rows.{Row}
use Rattle.judge_plain.specs.declared.Phase.{Phase}
use Rattle.standing.specs.Shown.{TextShown}
use Rattle.standing.specs.Standing.{Standing, itselves}
use Rattle.judge_texts.specs.Texts.{Texted, last_cause, text_cause}
use Rattle.judge_texts.specs.declared.Text.{Text}
use Rattle.standing.proofs.TextShown.{text-right, text-shown}

-- 5: the limits
pub limit-law : (file : List ℕ) (at l : ℕ) (e : Expression) → at + l ≤ length file → expression.read (part file at l) ≡ some e → is_none (limit_at file at) ≡ over_limit e
limit-law file at l e room q = ap is_none (sym (limited file at (kept_of (expr_at max_nesting file at)) refl) ∙ limits-agree file at l e room q) ∙ go (over_limit e)
  where
    go : (b : Bool) → is_none (cond b None (Some (at + l))) ≡ b
    go true = refl
    go false = refl

turned-test : (k l : ℕ) → eqb l k ≡ eqb k l
turned-test k l = go (ℕ_discrete l k)
  where
    go : Dec (l ≡ k) → eqb l k ≡ eqb k l
    go (yes e) = eq-eqb l k e ∙ sym (eq-eqb k l (sym e))
    go (no n) = ne_eqb l k n ∙ sym (ne_eqb k l (λ e. n (sym e)))

-- The text is the expression e of l bytes at a position, over n parameters; it keeps the limits, and was read.
module _ (file : List ℕ) (fs : List Field) (s : State) (rs : List Row) (v : Store) (c : Counts) (p : Phase) (refs words : List ℕ)
    (stands : Standing file fs s rs v c p refs words) (bytes : Bytes file) (short : length file ≤ file_bytes)
    (at l : ℕ) (e : Expression) (room : at + l ≤ length file) (q : expression.read (part file at l) ≡ some e) (kept : over_limit e ≡ false)
    (n : ℕ) (small : n ≤ max_arity) (refs' : List ℕ) (t : Text) (x : Texted v.names v.facts (codes_of v c.modules) file words n at refs refs' t) where
  abbrev u : Term
  u = resolve s (here s) e

  wide : at + l ≤ length refs
  wide = omega (arith, stands.refs_size)

  pub text-law : Right s (here s) (declarations_of fs) n file max_nesting at l e refs refs' t.unknown t.miscounted t.next
  text-law =
      text-right v c s stands.holds fs stands.declares stands.origins stands.good file bytes at l e room q kept n refs refs' wide t.unknown t.miscounted t.next x.looks

  module _ (known : t.unknown ≡ false) (counted : t.miscounted ≡ false) where
    pub text-there : TextShown file refs' (declarations_of fs) (at + l) at u
    text-there =
        text-shown v c s stands.holds fs stands.declares stands.origins stands.good file bytes at l e room q kept n refs refs' wide t.unknown t.miscounted t.next x.looks
        known

    formed : WellFormed (arities_of (templates_of s)) n 0 u
    formed =
        clear_in s (here s) n e stands.good.sound stands.good.current.0 (expression-back (part file at l) e q).0 (sym text-law.cause-9 ∙ known)
        (sym text-law.cause-10 ∙ counted)

    -- its form gives the level by the rules
    pub form-law : (ls : List ℕ) → length ls ≡ n → All IsLevel ls → level_at t.form ls ≡ level_of s ls u
    form-law ls size a =
        let y = text-there in
        x.form.level y.text y.next y.stands ls (omega arith) a
        ∙ own-level refs' (declarations_of fs) (scene_of itselves words) s stands.good stands.forms n ls (omega arith) a y.text u
        y.below y.same formed

    pub level-law : t.level ≡ level_of s (zeros n) u
    level-law = x.level n ∙ form-law (replicate n 0) (length-replicate n 0) (replicate-all IsLevel n 0 (omega arith))

  -- 9, 10, 12
  pub text-cause-law : text_cause t ≡ cond (unknown s (here s) n e) 9 (cond (miscounted s (here s) e) 10 (cond (not_level_correct s n e) 12 0))
  unfolding text_cause
  text-cause-law = go t.unknown refl t.miscounted refl
    where
      go : (a : Bool) → t.unknown ≡ a → (b : Bool) → t.miscounted ≡ b
          → ◌≡◌ {A = ℕ} (cond a 9 (cond b 10 (cond (eqb t.level 4) 12 0))) (cond (unknown s (here s) n e) 9 (cond (miscounted s (here s) e) 10 (cond (not_level_correct s n e) 12 0)))
      go true h b k = rw (sym text-law.cause-9 ∙ h) refl
      go false h true k = rw (sym text-law.cause-9 ∙ h, sym text-law.cause-10 ∙ k) refl
      go false h false k =
          rw (sym text-law.cause-9 ∙ h, sym text-law.cause-10 ∙ k)
          (ap (λ (b : Bool). cond b 12 0) (ap (λ (y : ℕ). eqb y 4) (level-law h k) ∙ turned-test 4 (level_of s (zeros n) u)))

  -- a text without these causes has no unknown name and no wrong count
  pub text-clear : text_cause t ≡ 0 → (t.unknown ≡ false) × (t.miscounted ≡ false)
  unfolding text_cause
  text-clear z = go t.unknown refl t.miscounted refl z
    where
      go : (a : Bool) → t.unknown ≡ a → (b : Bool) → t.miscounted ≡ b → ◌≡◌ {A = ℕ} (cond a 9 (cond b 10 (cond (eqb t.level 4) 12 0))) 0
          → (t.unknown ≡ false) × (t.miscounted ≡ false)
      go true h b k z = absurd (omega arith)
      go false h true k z = absurd (omega arith)
      go false h false k z = (h, k)

  -- of a formula: 13 where the level must be 0
  pub last-cause-law : (strict : Bool)
      → last_cause strict t
      ≡ cond (unknown s (here s) n e) 9 (cond (miscounted s (here s) e) 10 (cond (not_level_correct s n e) 12 (cond strict (cond (eqb 0 (level_of s (zeros n) u)) 0 13) 0)))
  unfolding last_cause text_cause
  last-cause-law strict = flat t.unknown t.miscounted (eqb t.level 4) strict (cond (eqb t.level 0) 0 13) ∙ go t.unknown refl t.miscounted refl
    where
      flat : (a b d strict : Bool) (k : ℕ)
          → ◌≡◌ {A = ℕ} (cond (eqb (cond a 9 (cond b 10 (cond d 12 0))) 0) (cond strict k 0) (cond a 9 (cond b 10 (cond d 12 0))))
          (cond a 9 (cond b 10 (cond d 12 (cond strict k 0))))
      flat true b d strict k = refl
      flat false true d strict k = refl
      flat false false true strict k = refl
      flat false false false strict k = refl

      go : (a : Bool) → t.unknown ≡ a → (b : Bool) → t.miscounted ≡ b
          → ◌≡◌ {A = ℕ} (cond a 9 (cond b 10 (cond (eqb t.level 4) 12 (cond strict (cond (eqb t.level 0) 0 13) 0))))
          (cond (unknown s (here s) n e) 9 (cond (miscounted s (here s) e) 10 (cond (not_level_correct s n e) 12 (cond strict (cond (eqb 0 (level_of s (zeros n) u)) 0 13) 0))))
      go true h b k = rw (sym text-law.cause-9 ∙ h) refl
      go false h true k = rw (sym text-law.cause-9 ∙ h, sym text-law.cause-10 ∙ k) refl
      go false h false k =
          rw (sym text-law.cause-9 ∙ h, sym text-law.cause-10 ∙ k)
          (ap₂ (λ (b d : Bool). cond b 12 (cond strict (cond d 0 13) 0)) (ap (λ (y : ℕ). eqb y 4) (level-law h k) ∙ turned-test 4 (level_of s (zeros n) u))
          (ap (λ (y : ℕ). eqb y 0) (level-law h k) ∙ turned-test 0 (level_of s (zeros n) u)))
