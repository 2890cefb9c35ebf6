-- Each reply of the expansion query is the rules'.
use Rattle.std.specs.Prelude.{None, Result}
use borrow.Author.Tests.{le-ltb, lt-ltb, ltb-false}
use mathlib.Core.Bool.{Bool, cond, false, not, true}
use mathlib.Core.List.{List, [], ◌∷◌}
use mathlib.Core.Option.{Option, some}
use mathlib.Core.Path.{◌∙◌, ◌≡◌, ap, ap₂, refl, subst, sym}
use Prim.Native.Nat.{ℕ, ◌+◌, ◌<◌, ◌≤◌}
use native.Mathlib.Omega.{arith}
use lib.Dec.{eqb}
use lib.ListN.{length}
use Rattle.std.specs.Prelude.{is_none}
use Rattle.store.specs.declared.Store.{Store}
use Rattle.limits.specs.Limits.{max_arity, max_nesting}
use Rattle.theory.specs.Term.{Term}
use Rattle.rules.specs.Expression.{Expression, expression, over_arity, over_limit}
use Rattle.rules.specs.Field.{Field}
use Rattle.rules.specs.Judge.{first_cause, miscounted, unknown}
use Rattle.rules.specs.Query.{expansion_bytes_of, or_no_such, read_in, unless_cause, unless_longer}
use Rattle.rules.specs.Run.{Outcome, and_then, refusal}
use Rattle.rules.specs.State.{Module, State, resolve}
use Rattle.tokens.specs.Expr.{expr_at, whole_of}
use Rattle.tokens.specs.Limit.{kept_of, limit_at}
use Rattle.tokens.proofs.Nesting.{limited}
use Rattle.tokens.proofs.Writing.{Bytes}
use Rattle.agree.specs.Folds.{searching}
use Rattle.agree.proofs.Expressions.{whole-agrees, whole-read}
use Rattle.context.specs.Holds.{module_no}
use Rattle.context.specs.Parts.{part, place_of}
use Rattle.context.specs.Entries.{codes_of}
use Rattle.context.specs.declared.Counts.{Counts}
use Rattle.resolve.specs.Walk.{miscounted_in}
use Rattle.resolve.specs.declared.Looked.{Looked}
use Rattle.skimming.specs.Skims.{Skimmed, Skims}
use Rattle.skimming.proofs.Ends.{kept_whole}
use Rattle.skimming.proofs.Keeping.{kept-passed}
use Rattle.worlds.specs.Rows.{Row}
use Rattle.judge_plain.specs.declared.Phase.{Phase}
use Rattle.standing.specs.Standing.{Standing}
use Rattle.asking.specs.Asks.{NamesAsked, limit_cause, name_cause}
use Rattle.asking.proofs.Judging.{asked-right, limit-law}
use Rattle.asking.proofs.Noting.{kept-asked}
use Rattle.asking.proofs.Replies.{found-module, no-module, none-spelt}
use Rattle.templates.specs.Taking.{work_bytes}
use Rattle.query_strings.specs.Read.{QueryKept}
use Rattle.query_strings.specs.declared.Queried.{Queried}
use Rattle.expanding.proofs.Asked.{text, text-formed, text-found, text-low, text-term}
use Rattle.expanding.specs.Asks.{RepliesIn, RepliesOf, RepliesTo, read_cause}
use Rattle.expanding.specs.Reports.{Reports}
use Rattle.refusals.specs.declared.Refusal.{Refusal}
use Rattle.refusals.specs.Outcomes.{refused}

-- the causes of a query, in their order
module _ (b d u w : Bool) (p : ℕ) (t : Term) (f : Term → Outcome (List ℕ)) where
  abbrev InOrder : Outcome (List ℕ)
  InOrder = and_then (unless_cause (first_cause ((3, false) ∷ (5, b) ∷ (5, d) ∷ (9, u) ∷ (10, w) ∷ [])) p t) f

abbrev limits : Bool → Bool → ℕ
limits b d = cond b 5 (cond d 5 0)

abbrev names-wrong : Bool → Bool → ℕ
names-wrong u w = cond u 9 (cond w 10 0)

first-limits : (b d u w : Bool) (p : ℕ) (t : Term) (f : Term → Outcome (List ℕ)) → (limits b d ≡ 0 → ⊥) → InOrder b d u w p t f ≡ refusal (limits b d) p
first-limits true d u w p t f h = refl
first-limits false true u w p t f h = refl
first-limits false false u w p t f h = absurd (h refl)

no-limit : (b d : Bool) → limits b d ≡ 0 → (b ≡ false) × (d ≡ false)
no-limit true d h = absurd (omega arith)
no-limit false true h = absurd (omega arith)
no-limit false false h = (refl, refl)

then-names : (u w : Bool) (p : ℕ) (t : Term) (f : Term → Outcome (List ℕ)) → (names-wrong u w ≡ 0 → ⊥) → InOrder false false u w p t f ≡ refusal (names-wrong u w) p
then-names true w p t f h = refl
then-names false true p t f h = refl
then-names false false p t f h = absurd (h refl)

no_names : (u w : Bool) → names-wrong u w ≡ 0 → (u ≡ false) × (w ≡ false)
no_names true w h = absurd (omega arith)
no_names false true h = absurd (omega arith)
no_names false false h = (refl, refl)

limit-some : (expr : List ℕ) → limit_cause expr ≡ 0 → ⊥
unfolding limit_cause
limit-some expr z = go (whole_of expr) z
  where
    go : (b : Bool) → ◌≡◌ {A = ℕ} (cond b 5 3) 0 → ⊥
    go true e = omega arith
    go false e = omega arith

module _ (n : ℕ) (expr : List ℕ) (bytes : Bytes expr) where
  -- causes 3 and 5 of the bytes and the number of parameters; 0 if none holds
  bytes_cause : ℕ
  bytes_cause = cond (whole_of expr) (limits (over_arity n) (is_none (limit_at expr 0))) 3

  bytes-law : (e : Expression) → whole_of expr ≡ true → expression.read expr ≡ some e → bytes_cause ≡ limits (over_arity n) (over_limit e)
  unfolding bytes_cause
  bytes-law e h q = rw (h, limit-law expr e q) refl

  bytes-none : whole_of expr ≡ false → bytes_cause ≡ 3
  unfolding bytes_cause
  bytes-none h = rw h refl

  bytes-many : max_arity < n → bytes_cause ≡ limit_cause expr
  unfolding bytes_cause limit_cause
  bytes-many h = rw (lt-ltb max_arity n h) refl

  bytes-few : n ≤ max_arity → bytes_cause ≡ cond (whole_of expr) (cond (is_none (limit_at expr 0)) 5 0) 3
  unfolding bytes_cause
  bytes-few h = rw (le-ltb max_arity n h) refl

  -- without these causes, an expression is spelt that keeps the limits, over at most eight parameters
  clear-spelt : bytes_cause ≡ 0 → (e : Expression) × (expression.read expr ≡ some e) × (limits (over_arity n) (over_limit e) ≡ 0)
  clear-spelt z = go (whole_of expr) refl
    where
      go : (b : Bool) → whole_of expr ≡ b → (e : Expression) × (expression.read expr ≡ some e) × (limits (over_arity n) (over_limit e) ≡ 0)
      go true h = let r = whole-read expr bytes h in (r.0, r.1, sym (bytes-law r.0 h r.1) ∙ z)
      go false h = absurd (omega (arith, bytes-none h))

-- The reply in a module m that is ended.
module _ (file refs : List ℕ) (v : Store) (c : Counts) (m n : ℕ) (expr : List ℕ) (bytes : Bytes expr) (out : List ℕ) where
  abbrev End : State → Term → Outcome (List ℕ)
  End s t = unless_longer (expansion_bytes_of s t) (length out)

  abbrev Reply : State → Option Expression → Outcome (List ℕ)
  Reply s o = and_then (read_in s (module_no s m) [] n o) (End s)

  -- 3 and 5
  reply-bytes : (r : ℕ) → r ≡ bytes_cause n expr bytes → (r ≡ 0 → ⊥)
      → RepliesIn file refs v c m n expr (refused r c.fields) out out
  reply-bytes r is-r h = record { reply = λ fs s rs p words stands ended. (go s stands.holds.fields (whole_of expr) refl, refl) }
    where
      go : (s : State) → c.fields ≡ s.fields → (b : Bool) → whole_of expr ≡ b → Reply s (expression.read expr) ≡ refusal r c.fields
      go s f false e =
          ap (Reply s) (none-spelt (expression.read expr) (sym (whole-agrees expr bytes) ∙ e)) ∙ sym (ap₂ refusal (is-r ∙ bytes-none n expr bytes e) f)
      go s f true e =
          let y = whole-read expr bytes e in
          let law = is-r ∙ bytes-law n expr bytes y.0 e y.1 in
          ap (Reply s) y.1
          ∙ first-limits (over_arity n) (over_limit y.0) (unknown s (module_no s m).context n y.0) (miscounted s (module_no s m).context y.0) s.fields
          (resolve s (module_no s m).context y.0) (End s) (λ z. h (law ∙ z))
          ∙ sym (ap₂ refusal law f)

  module _ (clear : bytes_cause n expr bytes ≡ 0) (k : ℕ) (asked : NamesAsked v.names v.facts (codes_of v m) n (expr_at max_nesting expr 0) k) where
    spelt : (e : Expression) × (expression.read expr ≡ some e) × (limits (over_arity n) (over_limit e) ≡ 0)
    spelt = clear-spelt n expr bytes clear

    causes : (over_arity n ≡ false) × (over_limit spelt.0 ≡ false)
    causes = no-limit (over_arity n) (over_limit spelt.0) spelt.2

    module _ (fs : List Field) (s : State) (rs : List Row) (p : Phase) (words : List ℕ)
        (stands : Standing file fs s rs v c p refs words) (ended : m < c.modules) where
      names-law : k ≡ names-wrong (unknown s (module_no s m).context n spelt.0) (miscounted s (module_no s m).context spelt.0)
      unfolding name_cause
      names-law =
          let right = asked-right file fs s rs v c p refs words stands m ended expr bytes spelt.0 spelt.1 causes.1 n k
          asked in
          asked.cause ∙ ap₂ names-wrong right.cause-9 right.cause-10

      as-causes : Reply s (expression.read expr)
          ≡ InOrder false false (unknown s (module_no s m).context n spelt.0) (miscounted s (module_no s m).context spelt.0) s.fields
          (resolve s (module_no s m).context spelt.0) (End s)
      as-causes =
          ap (Reply s) spelt.1
          ∙ ap₂
          (λ (x y : Bool). InOrder x y (unknown s (module_no s m).context n spelt.0) (miscounted s (module_no s m).context spelt.0) s.fields
          (resolve s (module_no s m).context spelt.0) (End s))
          causes.0 causes.1

      -- 9 and 10
      names-refused : (k ≡ 0 → ⊥) → Reply s (expression.read expr) ≡ refusal k c.fields
      names-refused h =
          as-causes
          ∙ then-names (unknown s (module_no s m).context n spelt.0) (miscounted s (module_no s m).context spelt.0) s.fields
          (resolve s (module_no s m).context spelt.0) (End s) (λ z. h (names-law ∙ z))
          ∙ sym (ap₂ refusal names-law stands.holds.fields)

      -- no cause
      no-cause : k ≡ 0 → Reply s (expression.read expr) ≡ End s (resolve s (module_no s m).context spelt.0)
      no-cause z =
          let f = no_names (unknown s (module_no s m).context n spelt.0) (miscounted s (module_no s m).context spelt.0) (sym names-law ∙ z) in
          as-causes
          ∙ ap₂ (λ (x y : Bool). InOrder false false x y s.fields (resolve s (module_no s m).context spelt.0) (End s)) f.0 f.1

      answers : k ≡ 0 → (asked.unknown ≡ false) × (asked.miscounted ≡ false)
      unfolding name_cause
      answers z = no_names asked.unknown asked.miscounted (sym asked.cause ∙ z)

      few : n ≤ max_arity
      few = ltb-false max_arity n causes.0

      whole : k ≡ 0 → (r : Result ℕ Refusal) (out' : List ℕ) → RepliesTo file refs v c m expr r out out'
          → Reports (End s (resolve s (module_no s m).context spelt.0)) r out out'
      whole z r out' to =
          let a = answers z in
          let term = text-term file fs s rs v c p refs words stands m ended expr bytes spelt.0 spelt.1 causes.1 n k asked a.0 in
          let formed = text-formed file fs s rs v c p refs words stands m ended expr bytes spelt.0 spelt.1 causes.1 n k asked a.0 a.1 in
          subst (λ (t : Term). Reports (End s t) r out out') term
          (to.reply fs s rs p words stands (text file fs s rs v c p refs words stands m ended expr bytes spelt.0 spelt.1 causes.1 n k asked)
          (0 + length expr) (text-found file fs s rs v c p refs words stands m ended expr bytes spelt.0 spelt.1 causes.1 n k asked)
          (text-low file fs s rs v c p refs words stands m ended expr bytes spelt.0 spelt.1 causes.1 n k asked) n few (rw term formed))

    reply-names : (k ≡ 0 → ⊥) → RepliesIn file refs v c m n expr (refused k c.fields) out out
    reply-names h = record { reply = λ fs s rs p words stands ended. (names-refused fs s rs p words stands ended h, refl) }

    reply-whole : k ≡ 0 → (r : Result ℕ Refusal) (out' : List ℕ) → RepliesTo file refs v c m expr r out out'
        → RepliesIn file refs v c m n expr r out out'
    reply-whole z r out' to =
        record {
          reply = λ fs s rs p words stands ended.
              subst (λ (x : Outcome (List ℕ)). Reports x r out out') (sym (no-cause fs s rs p words stands ended z)) (whole fs s rs p words stands ended z r out' to);
        }

  -- a ninth parameter is 5
  pub reply-many : max_arity < n → (r : ℕ) → r ≡ limit_cause expr
      → RepliesIn file refs v c m n expr (refused r c.fields) out out
  reply-many h r e = reply-bytes r (e ∙ sym (bytes-many n expr bytes h)) (λ z. limit-some expr (sym e ∙ z))

  -- what was read
  module _ (few : n ≤ max_arity) where
    passed : (kept : Bool) (l : Looked) → Skims v.names v.facts (codes_of v m) n 0 (expr_at max_nesting expr 0) kept l → is_none (limit_at expr 0) ≡ not kept
    passed kept l h =
        ap is_none (sym (limited expr 0 (kept_of (expr_at max_nesting expr 0)) refl))
        ∙ kept-passed (searching (miscounted_in v.names v.facts (codes_of v m))) 0 (expr_at max_nesting expr 0) kept l.miscounted l.next h.miscounted

    pub reply-passed : Skimmed v.names v.facts (codes_of v m) n 0 (expr_at max_nesting expr 0) None → (r : ℕ) → r ≡ limit_cause expr
        → RepliesIn file refs v c m n expr (refused r c.fields) out out
    unfolding limit_cause
    reply-passed h r e =
        let l : Looked = record { next = 0; unknown = false; miscounted = false } in
        reply-bytes r (e ∙ sym (bytes-few n expr bytes few ∙ rw (passed false l (h l)) refl)) (λ z. limit-some expr (sym e ∙ z))

    module _ (shapes a : List ℕ) (q : Queried) (read : QueryKept expr v.names v.facts (codes_of v m) v.declared shapes n a work_bytes q) where
      ends : whole_of expr ≡ eqb q.looked.next (length expr)
      ends =
          kept_whole (searching (miscounted_in v.names v.facts (codes_of v m))) 0 expr true q.looked.miscounted q.looked.next
          read.skims.miscounted refl

      bytes_read : bytes_cause n expr bytes ≡ cond (eqb q.looked.next (length expr)) 0 3
      bytes_read = bytes-few n expr bytes few ∙ rw (passed true q.looked read.skims, ends) refl

      asked : (k : ℕ) → k ≡ name_cause q.looked.unknown q.looked.miscounted → NamesAsked v.names v.facts (codes_of v m) n (expr_at max_nesting expr 0) k
      asked k e =
          kept-asked v.names v.facts (codes_of v m) n expr true q.looked.unknown q.looked.miscounted q.looked.next read.skims.unknown
          read.skims.miscounted refl k e

      pub reply-cause : (r : ℕ) → r ≡ read_cause expr q → (r ≡ 0 → ⊥) → RepliesIn file refs v c m n expr (refused r c.fields) out out
      unfolding read_cause
      reply-cause r is-r h = go (eqb q.looked.next (length expr)) refl
        where
          go : (w : Bool) → eqb q.looked.next (length expr) ≡ w → RepliesIn file refs v c m n expr (refused r c.fields) out out
          go true w = reply-names (bytes_read ∙ rw w refl) r (asked r (is-r ∙ rw w refl)) h
          go false w =
              let e : read_cause expr q ≡ 3 = rw w refl in
              reply-bytes r (is-r ∙ e ∙ sym (bytes_read ∙ rw w refl)) h

      -- no cause
      pub reply-clear : read_cause expr q ≡ 0 → (r : Result ℕ Refusal) (out' : List ℕ) → RepliesTo file refs v c m expr r out out'
          → RepliesIn file refs v c m n expr r out out'
      unfolding read_cause
      reply-clear z r out' to = go (eqb q.looked.next (length expr)) refl
        where
          go : (w : Bool) → eqb q.looked.next (length expr) ≡ w → RepliesIn file refs v c m n expr r out out'
          go true w = reply-whole (bytes_read ∙ rw w refl) 0 (asked 0 (sym z ∙ rw w refl)) refl r out' to
          go false w = absurd (let y : ◌≡◌ {A = ℕ} 3 0 = sym (rw w refl) ∙ z in omega arith)

-- The reply by a module's name.
module _ (file refs : List ℕ) (v : Store) (c : Counts) (m n : ℕ) (expr out : List ℕ) (q : ℕ)
    (place : q ≡ place_of m (part v.heads 0 c.modules)) where
  abbrev ByModule : State → Option Module → Outcome (List ℕ)
  ByModule s o = and_then (and_then (or_no_such o) (λ M. read_in s M [] n (expression.read expr))) (λ t. unless_longer (expansion_bytes_of s t) (length out))

  -- 17
  pub reply-no-module : c.modules ≤ q → RepliesOf file refs v c m n expr (refused 17 0) out out
  reply-no-module h =
      record {
        reply = λ fs s rs p words stands. (ap (ByModule s) (no-module v c s stands.holds m q place h), refl);
      }

  -- the reply in the module found
  pub reply-there : (r : Result ℕ Refusal) (out' : List ℕ) → q < c.modules → RepliesIn file refs v c q n expr r out out'
      → RepliesOf file refs v c m n expr r out out'
  reply-there r out' ended a =
      record {
        reply = λ fs s rs p words stands.
            subst (λ (x : Outcome (List ℕ)). Reports x r out out')
            (sym (ap (ByModule s) (found-module v c s stands.holds m q place ended)))
            (a.reply fs s rs p words stands ended);
      }
