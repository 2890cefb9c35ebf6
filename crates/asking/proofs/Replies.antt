-- Each reply of the level query is the rules'.
use Rattle.std.specs.Prelude.{Option as Answer, None, Some, Result, Ok}
use borrow.Author.Tests.{leb-false, ltb-false}
use mathlib.Core.Bool.{Bool, cond, false, not, true}
use mathlib.Core.List.{List, [], ◌∷◌}
use mathlib.Core.Option.{Option, none, some}
use mathlib.Core.Path.{◌∙◌, ◌≡◌, ap, ap₂, refl, subst, sym}
use Prim.Native.Nat.{ℕ, zero, suc, ◌<◌, ◌≤◌}
use native.Mathlib.Omega.{arith}
use lib.Dec.{eqb, leb, ltb}
use lib.ListN.{get_or-append, get_or, get_elem?, length}
use Rattle.std.specs.Prelude.{is_none}
use Rattle.limits.specs.Limits.{level_count, max_arity, max_nesting}
use Rattle.theory.specs.Lists.{All, any, is_some}
use Rattle.theory.specs.Term.{Term}
use Rattle.theory.specs.Level.{IsLevel}
use Rattle.theory.proofs.Lists.{any_false, map-all, never}
use Rattle.rules.specs.Expression.{Expression, expression, over_arity, over_limit}
use Rattle.rules.specs.Field.{Field}
use Rattle.rules.specs.Judge.{first_cause, miscounted, unknown}
use Rattle.rules.specs.Query.{or_no_such, read_in, unless_cause}
use Rattle.rules.specs.Run.{Outcome, and_then, refusal, result}
use Rattle.rules.specs.State.{Module, State, level_of, module_named, no_module, resolve}
use Rattle.tokens.specs.Expr.{expr_at, whole_of}
use Rattle.tokens.specs.Fold.{Algebra}
use Rattle.tokens.specs.Limit.{kept_of, limit_at}
use Rattle.tokens.proofs.Nesting.{limited}
use Rattle.tokens.proofs.Writing.{Bytes}
use Rattle.agree.proofs.Expressions.{whole-agrees, whole-read}
use Rattle.agree.specs.Folds.{searching}
use Rattle.forms.specs.Forms.{level_at}
use Rattle.resolve.specs.Walk.{unknown_in}
use Rattle.levels.specs.Walk.{TextForm}
use Rattle.context.specs.Holds.{Holds, module_no}
use Rattle.context.specs.Parts.{part, place_of}
use Rattle.context.specs.Entries.{context_codes}
use Rattle.store.specs.declared.Store.{Store}
use Rattle.store.specs.declared.Facts.{Facts}
use Rattle.context.specs.declared.Counts.{Counts}
use Rattle.context.proofs.Lookups.{module-law}
use Rattle.worlds.specs.Rows.{Row}
use Rattle.judge_plain.specs.declared.Phase.{Phase}
use Rattle.standing.specs.Standing.{Standing}
use Rattle.asking.specs.Asks.{Asks, AsksIn, NamesAsked, kept_reply, levels_cause, limit_cause, name_cause, reply_of}
use Rattle.asking.specs.Walk.{Judged, names_in}
use Rattle.asking.specs.declared.Walked.{Walked}
use Rattle.refusals.specs.declared.Refusal.{Refusal}
use Rattle.refusals.specs.Outcomes.{refused}
use Rattle.asking.proofs.Judging.{asked-level, asked-right, limit-law}
use Rattle.resolve.specs.declared.Looked.{Looked}
use Rattle.skimming.specs.Skims.{Skims}
use Rattle.skimming.proofs.Ends.{kept_whole}
use Rattle.skimming.proofs.Keeping.{kept-passed}
use Rattle.asking.proofs.Noting.{names-asked}

-- the module at a place of those ended
there : (ms : List Module) (i : ℕ) → i < length ms → get_elem? ms i ≡ some (get_or ms i no_module)
there [] i k = absurd (omega arith)
there (M ∷ ms) zero k = refl
there (M ∷ ms) (suc i) k = there ms i (omega arith)

not_there : (ms : List Module) (i : ℕ) → length ms ≤ i → get_elem? ms i ≡ none
not_there [] i k = refl
not_there (M ∷ ms) zero k = absurd (omega arith)
not_there (M ∷ ms) (suc i) k = not_there ms i (omega arith)

module _ (v : Store) (c : Counts) (s : State) (holds : Holds v c s) (m q : ℕ) (place : q ≡ place_of m (part v.heads 0 c.modules)) where
  pub found-module : q < c.modules → module_named s m ≡ some (module_no s q)
  found-module h =
      let l : q < length s.ended = omega (arith, holds.modules) in
      module-law v c s holds m ∙ ap (get_elem? s.ended) (sym place) ∙ there s.ended q l
      ∙ ap some (sym (get_or-append s.ended (s.current ∷ []) no_module q l))

  pub no-module : c.modules ≤ q → module_named s m ≡ none
  no-module h = module-law v c s holds m ∙ ap (get_elem? s.ended) (sym place) ∙ not_there s.ended q (omega (arith, holds.modules))

-- the causes of a query, in their order
module _ (a b d u w : Bool) (p : ℕ) (t : Term) (f : Term → Outcome ℕ) where
  abbrev Whole : Outcome ℕ
  Whole = and_then (unless_cause (first_cause ((3, a) ∷ (5, b) ∷ (5, d) ∷ (9, u) ∷ (10, w) ∷ [])) p t) f

abbrev three : Bool → Bool → Bool → ℕ
three a b d = cond a 3 (cond b 5 (cond d 5 0))

abbrev two : Bool → Bool → ℕ
two u w = cond u 9 (cond w 10 0)

first_three : (a b d u w : Bool) (p : ℕ) (t : Term) (f : Term → Outcome ℕ) → (three a b d ≡ 0 → ⊥) → refusal (three a b d) p ≡ Whole a b d u w p t f
first_three true b d u w p t f h = refl
first_three false true d u w p t f h = refl
first_three false false true u w p t f h = refl
first_three false false false u w p t f h = absurd (h refl)

none-of-three : (a b d : Bool) → three a b d ≡ 0 → (a ≡ false) × (b ≡ false) × (d ≡ false)
none-of-three true b d h = absurd (omega arith)
none-of-three false true d h = absurd (omega arith)
none-of-three false false true h = absurd (omega arith)
none-of-three false false false h = (refl, refl, refl)

last-two : (a b d u w : Bool) (p : ℕ) (t : Term) (f : Term → Outcome ℕ) → three a b d ≡ 0 → (two u w ≡ 0 → ⊥) → refusal (two u w) p ≡ Whole a b d u w p t f
last-two true b d u w p t f z h = absurd (omega arith)
last-two false true d u w p t f z h = absurd (omega arith)
last-two false false true u w p t f z h = absurd (omega arith)
last-two false false false true w p t f z h = refl
last-two false false false false true p t f z h = refl
last-two false false false false false p t f z h = absurd (h refl)

none_of_two : (u w : Bool) → two u w ≡ 0 → (u ≡ false) × (w ≡ false)
none_of_two true w h = absurd (omega arith)
none_of_two false true h = absurd (omega arith)
none_of_two false false h = (refl, refl)

none_at_all : (a b d u w : Bool) (p : ℕ) (t : Term) (f : Term → Outcome ℕ) → three a b d ≡ 0 → two u w ≡ 0 → f t ≡ Whole a b d u w p t f
none_at_all true b d u w p t f z h = absurd (omega arith)
none_at_all false true d u w p t f z h = absurd (omega arith)
none_at_all false false true u w p t f z h = absurd (omega arith)
none_at_all false false false true w p t f z h = absurd (omega arith)
none_at_all false false false false true p t f z h = absurd (omega arith)
none_at_all false false false false false p t f z h = refl

-- what is not an expression is read as none
pub none-spelt : (o : Option Expression) → is_some o ≡ false → o ≡ none
none-spelt none h = refl
none-spelt (some e) h = never h

-- causes 3 and 5 of the bytes and the levels given; 0 if none holds
reading_cause : List ℕ → List ℕ → ℕ
reading_cause levels expr =
    cond (whole_of expr) (three (any (λ l. leb level_count l) levels) (ltb max_arity (length levels)) (is_none (limit_at expr 0))) 3

module _ (levels expr : List ℕ) (bytes : Bytes expr) where
  -- of an expression that is spelt
  reading-law : (e : Expression) → whole_of expr ≡ true → expression.read expr ≡ some e
      → reading_cause levels expr ≡ three (any (λ l. leb level_count l) levels) (over_arity (length levels)) (over_limit e)
  unfolding reading_cause
  reading-law e h q = rw (h, limit-law expr e q) refl

  reading-none : whole_of expr ≡ false → reading_cause levels expr ≡ 3
  unfolding reading_cause
  reading-none h = rw h refl

  -- without these causes, an expression is spelt that keeps the limits, and the levels are levels of at most eight parameters
  clear-spelt : reading_cause levels expr ≡ 0 → (e : Expression) × (expression.read expr ≡ some e)
      × (three (any (λ l. leb level_count l) levels) (over_arity (length levels)) (over_limit e) ≡ 0)
  clear-spelt z = go (whole_of expr) refl
    where
      go : (b : Bool) → whole_of expr ≡ b → (e : Expression) × (expression.read expr ≡ some e)
          × (three (any (λ l. leb level_count l) levels) (over_arity (length levels)) (over_limit e) ≡ 0)
      go true h = let r = whole-read expr bytes h in (r.0, r.1, sym (reading-law r.0 h r.1) ∙ z)
      go false h = absurd (omega (arith, reading-none h))

  are-levels : any (λ l. leb level_count l) levels ≡ false → All IsLevel levels
  are-levels h =
      map-all (λ l. leb level_count l ≡ false) IsLevel (λ l e. let k : l < level_count = leb-false level_count l e in omega arith) levels
      (any_false (λ l. leb level_count l) levels h)

-- what the levels tell of them, and what is left
abbrev told : Bool → Bool → Bool → ℕ
told a b d = cond b 3 (cond d (cond a 5 3) 0)

module _ (levels expr : List ℕ) where
  levels-tell : (levels_cause levels expr ≡ 0 → ⊥) → reading_cause levels expr ≡ levels_cause levels expr
  unfolding levels_cause limit_cause reading_cause
  levels-tell z = go (whole_of expr) (any (λ l. leb level_count l) levels) (ltb max_arity (length levels)) (is_none (limit_at expr 0)) z
    where
      go : (a b d x : Bool) → (told a b d ≡ 0 → ⊥) → cond a (three b d x) 3 ≡ told a b d
      go true true d x h = refl
      go false true d x h = refl
      go true false true x h = refl
      go false false true x h = refl
      go a false false x h = absurd (h refl)

  few-right : levels_cause levels expr ≡ 0 → (any (λ l. leb level_count l) levels ≡ false) × (ltb max_arity (length levels) ≡ false)
  unfolding levels_cause limit_cause
  few-right z = go (whole_of expr) (any (λ l. leb level_count l) levels) (ltb max_arity (length levels)) z
    where
      go : (a b d : Bool) → told a b d ≡ 0 → (b ≡ false) × (d ≡ false)
      go a true d h = absurd (omega arith)
      go true false true h = absurd (omega arith)
      go false false true h = absurd (omega arith)
      go a false false h = (refl, refl)

  bytes_left : levels_cause levels expr ≡ 0 → reading_cause levels expr ≡ cond (whole_of expr) (cond (is_none (limit_at expr 0)) 5 0) 3
  unfolding reading_cause
  bytes_left z = let f = few-right z in rw (f.0, f.1) refl

-- The reply in a module m that is ended.
module _ (v : Store) (words : List ℕ) (m fields : ℕ) (levels expr : List ℕ) (bytes : Bytes expr) where
  abbrev names : List ℕ
  names = v.names

  abbrev facts : List Facts
  facts = v.facts

  abbrev contexts : List ℕ
  contexts = v.contexts

  abbrev heads : List ℕ
  heads = v.heads

  abbrev End : State → Term → Outcome ℕ
  End s t = result (level_of s levels t)

  as_read : (s : State) (o : Option Expression) → expression.read expr ≡ o
      → and_then (read_in s (module_no s m) levels (length levels) o) (End s) ≡ and_then (read_in s (module_no s m) levels (length levels) (expression.read expr)) (End s)
  as_read s o e = ap (λ (o : Option Expression). and_then (read_in s (module_no s m) levels (length levels) o) (End s)) (sym e)

  -- 3 and 5
  reply-reading : (r : ℕ) → r ≡ reading_cause levels expr → (r ≡ 0 → ⊥) → AsksIn v words m fields levels expr (refused r fields)
  reply-reading r is-r h = record { reply = λ file fs s rs c p refs stands ended e. go s (e ∙ stands.holds.fields) (whole_of expr) refl }
    where
      go : (s : State) → fields ≡ s.fields → (b : Bool) → whole_of expr ≡ b
          → refusal r fields ≡ and_then (read_in s (module_no s m) levels (length levels) (expression.read expr)) (End s)
      go s f false e =
          ap₂ refusal (is-r ∙ reading-none levels expr bytes e) f
          ∙ as_read s none (none-spelt (expression.read expr) (sym (whole-agrees expr bytes) ∙ e))
      go s f true e =
          let y = whole-read expr bytes e in
          let law = is-r ∙ reading-law levels expr bytes y.0 e y.1 in
          ap₂ refusal law f
          ∙ first_three (any (λ l. leb level_count l) levels) (over_arity (length levels)) (over_limit y.0)
          (unknown s (module_no s m).context (length levels) y.0) (miscounted s (module_no s m).context y.0) s.fields
          (resolve s (module_no s m).context y.0) (End s) (λ z. h (law ∙ z))
          ∙ as_read s (some y.0) y.1

  module _ (clear : reading_cause levels expr ≡ 0) (k : ℕ)
      (asked : NamesAsked names facts (context_codes contexts heads m) (length levels) (expr_at max_nesting expr 0) k) where
    spelt : (e : Expression) × (expression.read expr ≡ some e) × (three (any (λ l. leb level_count l) levels) (over_arity (length levels)) (over_limit e) ≡ 0)
    spelt = clear-spelt levels expr bytes clear

    causes : (any (λ l. leb level_count l) levels ≡ false) × (over_arity (length levels) ≡ false) × (over_limit spelt.0 ≡ false)
    causes = none-of-three (any (λ l. leb level_count l) levels) (over_arity (length levels)) (over_limit spelt.0) spelt.2

    names-law : (file : List ℕ) (fs : List Field) (s : State) (rs : List Row) (c : Counts) (p : Phase) (refs : List ℕ)
        → Standing file fs s rs v c p refs words → m < c.modules
        → k ≡ two (unknown s (module_no s m).context (length levels) spelt.0) (miscounted s (module_no s m).context spelt.0)
    unfolding name_cause
    names-law file fs s rs c p refs stands ended =
        let right = asked-right file fs s rs v c p refs words stands m ended expr bytes spelt.0 spelt.1
        causes.2 (length levels) k asked in
        asked.cause ∙ ap₂ two right.cause-9 right.cause-10

    -- 9 and 10
    reply-names : (k ≡ 0 → ⊥) → AsksIn v words m fields levels expr (refused k fields)
    reply-names h = record {
      reply = λ file fs s rs c p refs stands ended f.
          let law = names-law file fs s rs c p refs stands ended in
          ap₂ refusal law (f ∙ stands.holds.fields)
          ∙ last-two (any (λ l. leb level_count l) levels) (over_arity (length levels)) (over_limit spelt.0)
          (unknown s (module_no s m).context (length levels) spelt.0) (miscounted s (module_no s m).context spelt.0) s.fields
          (resolve s (module_no s m).context spelt.0) (End s) spelt.2 (λ z. h (law ∙ z))
          ∙ as_read s (some spelt.0) spelt.1;
    }

    few-levels : length levels ≤ max_arity
    few-levels = ltb-false max_arity (length levels) causes.1

    answers : k ≡ 0 → (asked.unknown ≡ false) × (asked.miscounted ≡ false)
    unfolding name_cause
    answers z = none_of_two asked.unknown asked.miscounted (sym asked.cause ∙ z)

    -- the level
    reply-level : k ≡ 0 → (form : ℕ) → TextForm (names_in names facts (context_codes contexts heads m) words expr) expr 0 form
        → AsksIn v words m fields levels expr (Ok (level_at form levels))
    reply-level z form shown = record {
      reply = λ file fs s rs c p refs stands ended _.
          let a = answers z in
          let law = asked-level file fs s rs v c p refs words stands m ended expr bytes spelt.0 spelt.1
          causes.2 (length levels) k asked a.0 a.1 levels form shown refl few-levels (are-levels levels expr bytes causes.0) in
          ap result law
          ∙ none_at_all (any (λ l. leb level_count l) levels) (over_arity (length levels)) (over_limit spelt.0)
          (unknown s (module_no s m).context (length levels) spelt.0) (miscounted s (module_no s m).context spelt.0) s.fields
          (resolve s (module_no s m).context spelt.0) (End s) spelt.2 (sym (names-law file fs s rs c p refs stands ended) ∙ z)
          ∙ as_read s (some spelt.0) spelt.1;
    }

  -- by the levels alone
  pub reply-levels : (r : ℕ) → r ≡ levels_cause levels expr → (r ≡ 0 → ⊥) → AsksIn v words m fields levels expr (refused r fields)
  reply-levels r is-r h = reply-reading r (is-r ∙ sym (levels-tell levels expr (λ z. h (is-r ∙ z)))) h

  module _ (clear : levels_cause levels expr ≡ 0) where
    abbrev Shown : Answer Walked → Type 0
    Shown w = Judged names facts (context_codes contexts heads m) words (length levels) expr w

    abbrev G : Algebra ℕ Bool Bool
    G = searching (unknown_in names facts (context_codes contexts heads m) (length levels))

    passed : (kept : Bool) (l : Looked) → Skims names facts (context_codes contexts heads m) (length levels) 0 (expr_at max_nesting expr 0) kept l
        → is_none (limit_at expr 0) ≡ not kept
    passed kept l h =
        ap is_none (sym (limited expr 0 (kept_of (expr_at max_nesting expr 0)) refl))
        ∙ kept-passed G 0 (expr_at max_nesting expr 0) kept l.unknown l.next h.unknown

    -- a walk that passes a limit
    reading-passed : Shown None → reading_cause levels expr ≡ limit_cause expr
    unfolding limit_cause
    reading-passed h =
        let l : Looked = record { next = 0; unknown = false; miscounted = false } in
        bytes_left levels expr clear ∙ rw (passed false l (h l)) refl

    -- a walk that keeps them
    module _ (w : Walked) (judged : Shown (Some w)) where
      reading-kept : reading_cause levels expr ≡ cond (eqb w.looked.next (length expr)) 0 3
      reading-kept =
          bytes_left levels expr clear
          ∙ rw (passed true w.looked judged.causes, kept_whole G 0 expr true w.looked.unknown w.looked.next judged.causes.unknown refl) refl

      asked : (k : ℕ) → k ≡ name_cause w.looked.unknown w.looked.miscounted
          → NamesAsked names facts (context_codes contexts heads m) (length levels) (expr_at max_nesting expr 0) k
      asked k e = names-asked names facts (context_codes contexts heads m) words (length levels) expr w judged k e

      reply-all-kept : reading_cause levels expr ≡ 0 → AsksIn v words m fields levels expr (kept_reply levels w fields)
      unfolding kept_reply name_cause
      reply-all-kept z = go w.looked.unknown refl w.looked.miscounted refl
        where
          go : (u : Bool) → w.looked.unknown ≡ u → (d : Bool) → w.looked.miscounted ≡ d
              → AsksIn v words m fields levels expr (cond u (refused 9 fields) (cond d (refused 10 fields) (Ok (level_at w.form levels))))
          go true eu d ed = reply-names z 9 (asked 9 (rw eu refl)) (λ z. omega arith)
          go false eu true ed = reply-names z 10 (asked 10 (rw (eu, ed) refl)) (λ z. omega arith)
          go false eu false ed =
              reply-level z 0 (asked 0 (rw (eu, ed) refl)) refl w.form judged.level

    some-cause : limit_cause expr ≡ 0 → ⊥
    unfolding limit_cause
    some-cause z = go (whole_of expr) z
      where
        go : (b : Bool) → ◌≡◌ {A = ℕ} (cond b 5 3) 0 → ⊥
        go true h = omega arith
        go false h = omega arith

    pub reply-walked : (w : Answer Walked) → Shown w → (r : Result ℕ Refusal) → r ≡ reply_of levels expr w fields → AsksIn v words m fields levels expr r
    unfolding reply_of
    reply-walked None h r q = subst (AsksIn v words m fields levels expr) (sym q) (reply-reading (limit_cause expr) (sym (reading-passed h)) some-cause)
    reply-walked (Some w) h r q = subst (AsksIn v words m fields levels expr) (sym q) (go (eqb w.looked.next (length expr)) refl)
      where
        go : (b : Bool) → eqb w.looked.next (length expr) ≡ b → AsksIn v words m fields levels expr (cond b (kept_reply levels w fields) (refused 3 fields))
        go true e = reply-all-kept w h (reading-kept w h ∙ rw e refl)
        go false e = reply-reading 3 (sym (reading-kept w h ∙ rw e refl)) (λ z. omega arith)

-- The reply by a module's name n.
module _ (v : Store) (words : List ℕ) (c : Counts) (n : ℕ) (levels expr : List ℕ) (q : ℕ) (place : q ≡ place_of n (part v.heads 0 c.modules)) where
  -- 17
  pub reply-no-module : c.modules ≤ q → Asks v words c n levels expr (refused 17 0)
  reply-no-module h = record {
    reply = λ file fs s rs p refs stands.
        ap (λ (o : Option Module). and_then (and_then (or_no_such o) (λ M. read_in s M levels (length levels) (expression.read expr))) (λ t. result (level_of s levels t)))
        (sym (no-module v c s stands.holds n q place h));
  }

  -- the reply in the module found
  pub reply-there : (r : Result ℕ Refusal) → q < c.modules → AsksIn v words q c.fields levels expr r
      → Asks v words c n levels expr r
  reply-there r ended a = record {
    reply = λ file fs s rs p refs stands.
        a.reply file fs s rs c p refs stands ended refl
        ∙ ap (λ (o : Option Module). and_then (and_then (or_no_such o) (λ M. read_in s M levels (length levels) (expression.read expr))) (λ t. result (level_of s levels t)))
        (sym (found-module v c s stands.holds n q place ended));
  }
