-- Definitions: the answer is the rules', and a lawful definition stands with what stood.
use borrow.Author.Tests.{le-leb, le-ltb, lt-leb, lt-ltb, ltb-false, ltb-true}
use mathlib.Core.Bool.{Bool, ◌||◌, cond, false, true}
use mathlib.Core.List.{List, [], ◌++◌, ◌∷◌, append-nil}
use mathlib.Core.Logic.{◌⊎◌, inl}
use mathlib.Core.Option.{none, some}
use mathlib.Core.Path.{◌∙◌, ◌≡◌, ap, ap₂, refl, subst, sym}
use Prim.Native.Nat.{ℕ, ◌+◌, ◌<◌, ◌≤◌}
use native.Mathlib.Decide.{dec_lt}
use native.Mathlib.Omega.{arith}
use lib.Dec.{leb, ltb}
use lib.ListN.{get_or, length}
use lib.Seq.{get_or_at}
use Rattle.std.specs.Prelude.{is_none}
use Rattle.limits.specs.Limits.{max_arity, max_definitions}
use Rattle.theory.specs.Expand.{Definition as Meaning}
use Rattle.theory.specs.Lists.{is_some}
use Rattle.theory.specs.Term.{Term}
use Rattle.rules.specs.Add.{add, own_one}
use Rattle.rules.specs.Expression.{Expression, expression, over_arity, over_limit}
use Rattle.rules.specs.Field.{Field, definition}
use Rattle.rules.specs.Judge.{first_cause, judge, miscounted, not_level_correct, out_of_order, too_many_definitions, unknown}
use Rattle.rules.specs.State.{Added, State, definition_at, here, in_context, no_definition, resolve}
use Rattle.fields.specs.Substitution.{part}
use Rattle.fields.specs.declared.Parts.TheVariants.{Definition}
use Rattle.tokens.specs.Limit.{limit_at}
use Rattle.texts.specs.Text.{Declarations}
use Rattle.forms.specs.Forms.{form_at, stored as stored_form}
use Rattle.context.proofs.Adds.{adds-definition, hold-store}
use Rattle.context.proofs.Judging.{here-law}
use Rattle.context.specs.Holds.{Holds, Linked}
use Rattle.context.specs.Lookup.{code_named}
use Rattle.context.specs.Entries.{after_definitions, codes_of, defining, own_row}
use Rattle.store.specs.Store.{first_at, link_at, source_at}
use Rattle.store.specs.declared.Store.{Store}
use Rattle.context.specs.declared.Counts.{Counts}
use Rattle.levels.specs.Tables.{scene_of}
use Rattle.resolve.proofs.Numbers.{declarations_of, declares-other}
use Rattle.text_levels.proofs.OwnWorld.{Shows}
use Rattle.worlds.specs.Rows.{Row, no_row, rows_after}
use Rattle.worlds.proofs.Steps.{own_row as own_world}
use Rattle.judge_plain.proofs.Lifted.{order-law}
use Rattle.judge_plain.proofs.Premises.{no-cause-left}
use Rattle.judge_plain.specs.Causes.{refusal}
use Rattle.judge_plain.specs.Judges.{cause_number}
use Rattle.judge_plain.specs.declared.Judged.{Judged}
use Rattle.judge_plain.specs.declared.Phase.{Phase}
use Rattle.judge_plain.specs.declared.Phase.TheVariants.{Inside}
use Rattle.standing.specs.Chained.{Chained, Own, Through}
use Rattle.standing.specs.Grows.{Grows, RowsKept}
use Rattle.standing.specs.Standing.{Advances, AtField, DeclaredCodes, Judging, Standing, itselves}
use Rattle.standing.proofs.Advancing.{declarations-same, few-declared, grows, numbers-kept, room, stands_after, still-codes}
use Rattle.standing.proofs.Growth.{new-definition, rows-stored}
use Rattle.standing.proofs.Links.{chained-kept, rows-counted}
use Rattle.standing.proofs.Texts.{SameBelow, same-below, text-kept}
use Rattle.judge_texts.specs.Texts.{Defining, Finished, Stored, Texted, added, definition_cause, stopped, text_cause, walked, wrong}
use Rattle.judge_texts.specs.declared.Text.{Text}
use Rattle.judge_texts.proofs.Answers.{define-lawful}
use Rattle.judge_texts.proofs.FormulaLaws.{read_length}
use Rattle.judge_texts.proofs.NewForm.{shows-new, words-length}
use Rattle.judge_texts.proofs.Reading.{form-law, limit-law, text-cause-law, text-clear, text-law, text-there}

-- one more than so many is over the limit
over-law : (n k : ℕ) → leb n k ≡ ltb n (k + 1)
over-law n k = go (dec_lt k n)
  where
    go : Dec (k < n) → leb n k ≡ ltb n (k + 1)
    go (yes h) = lt-leb n k h ∙ sym (le-ltb n (k + 1) (omega arith))
    go (no h) = let l : n ≤ k = omega arith in le-leb n k l ∙ sym (lt-ltb n (k + 1) (omega arith))

-- the first three causes, the second being one of three tests
stop-causes : (a b d f g : Bool) (k : ℕ) → (◌≡◌ {A = ℕ} (cond a 4 (cond b 5 (cond d 5 (cond f 5 (cond g 8 0))))) 0 → ⊥)
    → ◌≡◌ {A = ℕ} (cond a 4 (cond b 5 (cond d 5 (cond f 5 (cond g 8 0))))) (cond a 4 (cond (b || d || f) 5 (cond g 8 k)))
stop-causes true b d f g k h = refl
stop-causes false true d f g k h = refl
stop-causes false false true f g k h = refl
stop-causes false false false true g k h = refl
stop-causes false false false false true k h = refl
stop-causes false false false false false k h = absurd (h refl)

pass-causes : (a b d f g : Bool) (k : ℕ) → ◌≡◌ {A = ℕ} (cond a 4 (cond b 5 (cond d 5 (cond f 5 (cond g 8 0))))) 0
    → ◌≡◌ {A = ℕ} k (cond a 4 (cond (b || d || f) 5 (cond g 8 k)))
pass-causes true b d f g k h = absurd (omega arith)
pass-causes false true d f g k h = absurd (omega arith)
pass-causes false false true f g k h = absurd (omega arith)
pass-causes false false false true g k h = absurd (omega arith)
pass-causes false false false false true k h = absurd (omega arith)
pass-causes false false false false false k h = refl

six-causes : (a b d f g h : Bool) → cause_number (first_cause ((4, a) ∷ (5, b) ∷ (8, d) ∷ (9, f) ∷ (10, g) ∷ (12, h) ∷ []))
    ≡ cond a 4 (cond b 5 (cond d 8 (cond f 9 (cond g 10 (cond h 12 0)))))
six-causes true b d f g h = refl
six-causes false true d f g h = refl
six-causes false false true f g h = refl
six-causes false false false true g h = refl
six-causes false false false false true h = refl
six-causes false false false false false true = refl
six-causes false false false false false false = refl

-- a definition field of the expression e, its text of l bytes at a position
module _ (file : List ℕ) (fs : List Field) (s : State) (rs : List Row) (v : Store) (c : Counts) (p : Phase) (refs words : List ℕ)
    (stands : Standing file fs s rs v c p refs words) (name params at l : ℕ) (e : Expression)
    (field : AtField file s (Definition name params at l) (definition name params e)) (here-at : at + l ≡ field.end) (q : expression.read (part file at l) ≡ some e)
    (v' : Store) (refs' words' : List ℕ) (r : Judged) where
  abbrev f : Field
  f = definition name params e

  abbrev u : Term
  u = resolve s (here s) e

  abbrev rest : ℕ
  rest = cond (unknown s (here s) params e) 9 (cond (miscounted s (here s) e) 10 (cond (not_level_correct s params e) 12 0))

  abbrev w : ℕ
  w = definition_cause p c v.names v.contexts v.heads file name params at

  inside : at + l ≤ length file
  inside = omega (arith, field.inside)

  size : length (expression.write e) ≡ l
  size = read_length file at l e inside q

  begins : s.bytes + 6 ≡ at
  begins = omega (arith, field.ends, size, here-at)

  ends : (add s f).bytes ≡ at + l
  ends = omega (arith, field.ends, here-at)

  law : cause_number (judge s f)
      ≡ cond (out_of_order s.phase f) 4 (cond (too_many_definitions s 1 || over_arity params || over_limit e) 5 (cond (in_context name (here s)) 8 rest))
  law =
      six-causes (out_of_order s.phase f) (too_many_definitions s 1 || over_arity params || over_limit e) (in_context name (here s)) (unknown s (here s) params e)
      (miscounted s (here s) e) (not_level_correct s params e)

  first_three : w
      ≡ cond (out_of_order s.phase f) 4 (cond (too_many_definitions s 1) 5 (cond (over_arity params) 5 (cond (over_limit e) 5 (cond (in_context name (here s)) 8 0))))
  unfolding definition_cause
  first_three =
      ap₂ (λ (a b : Bool). cond a 4 (cond b 5 (cond (ltb max_arity params) 5 (cond (is_none (limit_at file at)) 5 (cond (is_some (code_named v.names name (codes_of v c.modules))) 8 0)))))
      (order-law p s stands.phase f) (over-law max_definitions c.definitions ∙ ap (λ (m : ℕ). ltb max_definitions (m + 1)) stands.holds.definitions)
      ∙ ap₂ (λ (a b : Bool). cond (out_of_order s.phase f) 4 (cond (too_many_definitions s 1) 5 (cond (over_arity params) 5 (cond a 5 (cond b 8 0)))))
      (limit-law file at l e inside q) (here-law v c s stands.holds name)

  stop-law : (w ≡ 0 → ⊥) → w ≡ cause_number (judge s f)
  stop-law h =
      first_three ∙ stop-causes (out_of_order s.phase f) (too_many_definitions s 1) (over_arity params) (over_limit e) (in_context name (here s)) rest (λ z. h (first_three ∙ z)) ∙ sym law

  pass-law : w ≡ 0 → rest ≡ cause_number (judge s f)
  pass-law z = pass-causes (out_of_order s.phase f) (too_many_definitions s 1) (over_arity params) (over_limit e) (in_context name (here s)) rest (sym first_three ∙ z) ∙ sym law

  -- 4, 5 and 8 do not hold, and the text was read
  module _ (z : w ≡ 0) (t : Text) (x : Texted v.names v.facts (codes_of v c.modules) file words params at refs refs' t) where
    few : c.definitions < max_definitions
    few = (define-lawful p c v.names v.contexts v.heads file name params at z).0

    small : params ≤ max_arity
    small = (define-lawful p c v.names v.contexts v.heads file name params at z).1

    kept : over_limit e ≡ false
    kept = sym (limit-law file at l e inside q) ∙ (define-lawful p c v.names v.contexts v.heads file name params at z).2

    text-causes : text_cause t ≡ cause_number (judge s f)
    text-causes =
        text-cause-law file fs s rs v c p refs words stands field.bytes field.short at l e inside q kept params small refs' t x ∙ pass-law z

    -- nor 9, 10 and 12
    module _ (clear : text_cause t ≡ 0) (st : Stored v v' c name params at l) (kw : words' ≡ stored_form words c.definitions t.form)
        (kf : form_at words' c.definitions ≡ t.form) where
      lawful : judge s f ≡ none
      lawful = no-cause-left s f (sym text-causes ∙ clear)

      clean : (t.unknown ≡ false) × (t.miscounted ≡ false)
      clean = text-clear file fs s rs v c p refs words stands field.bytes field.short at l e inside q kept params small refs' t x clear

      holds' : Holds v' (after_definitions 1 c) (add s f)
      holds' =
          hold-store (defining v c name (own_row c.definitions params (s.bytes + 6) (length (expression.write e)))) v' (after_definitions 1 c) (after_definitions 1 c) (add s f)
          (adds-definition v c s stands.holds (room file fs s rs v c p refs words stands (Definition name params at l) f field) few name params e) refl
          (st ∙ ap₂ (λ (a b : ℕ). defining v c name (own_row c.definitions params a b)) (sym begins) (sym size))

      same_codes : v'.declared ≡ v.declared
      same_codes = ap (λ (w : Store). w.declared) st

      rows : RowsKept v c v'
      rows =
          rows-stored v c v' c.definitions name (own_row c.definitions params at l) (new-definition c c.definitions (omega arith) few) (ap (λ (w : Store). w.names) st) (ap (λ (w : Store). w.facts) st)

      grown : Grows v c v' (after_definitions 1 c)
      grown = grows file fs s rs v c p refs words stands (Definition name params at l) f field lawful v' (after_definitions 1 c) Inside refs' holds' refl rows

      more : declarations_of (fs ++ (f ∷ [])) ≡ declarations_of fs ++ []
      more = declarations-same fs f refl

      decls : declarations_of (fs ++ (f ∷ [])) ≡ declarations_of fs
      decls = more ∙ append-nil (declarations_of fs)

      shows' : Shows (scene_of itselves words') (declarations_of fs ++ []) (add s f)
      shows' =
          let n = stands.holds.definitions in
          shows-new s (add s f) (own_one s name params e) params u refl refl (omega (arith, few)) words words' t.form stands.words_size
          (kw ∙ ap (λ (g : ℕ). stored_form words g t.form) n) (subst (λ (g : ℕ). form_at words' g ≡ t.form) n kf) (declarations_of fs) stands.forms
          (λ us h a. form-law file fs s rs v c p refs words stands field.bytes field.short at l e inside q kept params small refs' t x clean.0 clean.1 us
          (h ∙ ap (λ (d : Added). d.params) (get_or_at s.definitions (own_one s name params e) [] no_definition (length s.definitions) refl)) a)

      same : SameBelow s.bytes refs refs'
      same i h =
          (text-law file fs s rs v c p refs words stands field.bytes field.short at l e inside q kept params small refs' t x).before i (omega (arith, begins))

      -- the new definition is an own one, its text where the store says
      new-own : (D : ℕ) → c.definitions ≡ D → Own v' file refs' (declarations_of fs ++ []) (add s f) (add s f).bytes (get_or (rows_after s rs f) D no_row) D
      new-own D d =
          let there : length s.definitions ≡ D = sym stands.holds.definitions ∙ d in
          let is : definition_at (add s f) D ≡ own_one s name params e = get_or_at s.definitions (own_one s name params e) [] no_definition D there in
          let linked = subst (λ (m : Meaning). Linked D m (source_at v'.facts D) (link_at v'.facts D)) (ap (λ (a : Added). a.meaning) is) (holds'.linked D (omega arith)) in
          let first : first_at v'.facts D ≡ at = ap (λ (a : Added). a.body_start) (holds'.described D (omega arith) ∙ is) ∙ begins in
          let text = text-there file fs s rs v c p refs words stands field.bytes field.short at l e inside q kept params small refs' t x clean.0 clean.1 in
          record {
            row = get_or_at rs (own_world (length s.definitions)) [] no_row D (rows-counted v c s rs stands.holds stands.worlds ∙ d) ∙ ap own_world there;
            unlinked = linked.1;
            text = rw (first, is)
                (text-kept refs' refs' (declarations_of fs) [] file (at + l) (add s f).bytes at u text (same-below (at + l) refs') (omega (arith, ends)));
          }

      chained' : Chained v' (after_definitions 1 c) file refs' (declarations_of fs ++ []) (add s f) (rows_after s rs f) (add s f).bytes
      chained' = record { each = λ D h. go D h (ltb D c.definitions) refl }
        where
          go : (D : ℕ) → D < c.definitions + 1 → (b : Bool) → ltb D c.definitions ≡ b
              → Own v' file refs' (declarations_of fs ++ []) (add s f) (add s f).bytes (get_or (rows_after s rs f) D no_row) D
              ⊎ Through v' (after_definitions 1 c) file refs' (declarations_of fs ++ []) (rows_after s rs f) (add s f).bytes (get_or (rows_after s rs f) D no_row) D
          go D h true k =
              chained-kept v c s v' (after_definitions 1 c) stands.holds grown file refs refs' (declarations_of fs) [] s.bytes (add s f).bytes
              (few-declared file fs s rs v c p refs words stands) same (omega (arith, ends, begins)) (add s f) (own_one s name params e ∷ []) rs
              (own_world (length s.definitions) ∷ []) refl (rows-counted v c s rs stands.holds stands.worlds) stands.chained D (ltb-true D c.definitions k)
          go D h false k = let n : c.definitions ≤ D = ltb-false D c.definitions k in inl (new-own D (omega arith))

      all-stands : Standing file (fs ++ (f ∷ [])) (add s f) (rows_after s rs f) v' (after_definitions 1 c) Inside refs' words'
      all-stands =
          stands_after file fs s rs v c p refs words stands (Definition name params at l) f field lawful v' (after_definitions 1 c) Inside refs' holds' refl words'
          (declares-other v.facts v'.facts c (after_definitions 1 c) fs f stands.declares (numbers-kept file fs s rs v c p refs words stands v' rows) refl refl)
          (subst (λ (d : Declarations). DeclaredCodes v' d v'.declared) (sym decls)
          (still-codes file fs s rs v c p refs words stands (Definition name params at l) f field lawful v' (after_definitions 1 c) Inside refs' holds' refl rows same_codes))
          (λ d h. rw same_codes (let k = stands.early d (subst (λ (y : Declarations). d < length y) decls h) in omega arith))
          (subst (λ (d : Declarations). Shows (scene_of itselves words') d (add s f)) (sym more) shows')
          (subst (λ (d : Declarations). Chained v' (after_definitions 1 c) file refs' d (add s f) (rows_after s rs f) (add s f).bytes) (sym more) chained')
          ((text-law file fs s rs v c p refs words stands field.bytes field.short at l e inside q kept params small refs' t x).size ∙ stands.refs_size)
          (words-length s (add s f) (own_one s name params e) params u refl refl (omega (arith, few, stands.holds.definitions)) words words' t.form stands.words_size
          (kw ∙ ap (λ (g : ℕ). stored_form words g t.form) stands.holds.definitions) (subst (λ (g : ℕ). form_at words' g ≡ t.form) stands.holds.definitions kf))

    finished-advances : Finished v v' words words' p c name params at l t r → Advances file fs s rs f r v' refs' words'
    finished-advances (wrong h y) =
        let k : r.cause ≡ text_cause t = ap (λ (j : Judged). j.cause) y in
        record { cause = k ∙ text-causes; stands = λ g. absurd (h (sym k ∙ g)) }
    finished-advances (added clear y st kw kf) =
        let k : r.cause ≡ 0 = ap (λ (j : Judged). j.cause) y in
        record {
          cause = k ∙ sym clear ∙ text-causes;
          stands = λ g.
              subst (λ (j : Judged). Standing file (fs ++ (f ∷ [])) (add s f) (rows_after s rs f) v' j.counts j.phase refs' words') (sym y) (all-stands clear st kw kf);
        }

  definition-advances : Defining v v' file words words' refs refs' p c name params at l r → Advances file fs s rs f r v' refs' words'
  definition-advances (stopped h y) =
      let k : r.cause ≡ w = ap (λ (j : Judged). j.cause) y in
      record { cause = k ∙ stop-law h; stands = λ g. absurd (h (sym k ∙ g)) }
  definition-advances (walked z t x y) = finished-advances z t x y

-- A definition field is judged as the rules judge it.
module _ (file : List ℕ) (v v' : Store) (c : Counts) (p : Phase) (refs refs' words words' : List ℕ) (name params at l : ℕ) (r : Judged) where
  pub definition-judging : Defining v v' file words words' refs refs' p c name params at l r
      → Judging file (Definition name params at l) v v' c p r refs refs' words words'
  definition-judging y = record { advances = λ fs s rs f stands field. go fs s rs f stands field field.tells.0 field.tells.1.0 field.tells.1.1 field.tells.2 }
    where
      go : (fs : List Field) (s : State) (rs : List Row) (f : Field) (stands : Standing file fs s rs v c p refs words)
          (field : AtField file s (Definition name params at l) f) (e : Expression) → at + l ≡ field.end → expression.read (part file at l) ≡ some e
          → f ≡ definition name params e → Advances file fs s rs f r v' refs' words'
      go fs s rs f stands field e b q same =
          subst (λ (f : Field). (field : AtField file s (Definition name params at l) f) → at + l ≡ field.end → Advances file fs s rs f r v' refs' words') (sym same)
          (λ field b. definition-advances file fs s rs v c p refs words stands name params at l e field b q v' refs' words' r y) field b

  pub stopped-judging : (cause : ℕ) → cause ≡ definition_cause p c v.names v.contexts v.heads file name params at → (cause ≡ 0 → ⊥) → r ≡ refusal cause p c
      → Judging file (Definition name params at l) v v' c p r refs refs' words words'
  stopped-judging cause first h e = definition-judging (stopped (λ z. h (first ∙ z)) (e ∙ ap (λ (w : ℕ). refusal w p c) first))
