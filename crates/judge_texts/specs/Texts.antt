-- What the judging functions answer and leave, over the store.
use Rattle.std.specs.Prelude.{Bool, cond, List, ◌≡◌, ℕ, eqb, leb, ltb, replicate, is_none}
use Rattle.limits.specs.Limits.{max_arity, max_definitions, max_nesting}
use Rattle.theory.specs.Lists.{is_some}
use Rattle.tokens.specs.Expr.{expr_at}
use Rattle.tokens.specs.Limit.{limit_at}
use Rattle.forms.specs.Forms.{form_at, level_at, stored as stored_form}
use Rattle.context.specs.Lookup.{code_named}
use Rattle.context.specs.Entries.{after_definitions, after_field, codes_of, context_codes, defining, own_row}
use Rattle.store.specs.declared.Store.{Store}
use Rattle.store.specs.declared.Facts.{Facts}
use Rattle.context.specs.declared.Counts.{Counts}
use Rattle.resolve.specs.Walk.{Looks}
use Rattle.levels.specs.Tables.{names_of}
use Rattle.levels.specs.Walk.{TextForm}
use Rattle.judge_plain.specs.Causes.{answer, early, judged, refusal}
use Rattle.judge_plain.specs.declared.Judged.{Judged}
use Rattle.judge_plain.specs.declared.Phase.{Phase}
use Rattle.judge_plain.specs.declared.Phase.TheVariants.{Inside}
use Rattle.standing.specs.Standing.{itselves}
use Rattle.judge_texts.specs.declared.Text.{Text}

-- a text read in a context given by its codes: its names are noted, and its form is that of the module that is open
pub record Texted (names : List ℕ) (facts : List Facts) (cs file words : List ℕ) (params at : ℕ) (refs refs' : List ℕ) (t : Text) : Type 0 where
  pub looks : Looks names facts cs params 0 (expr_at max_nesting file at) refs refs' t.unknown t.miscounted t.next
  pub form : TextForm (names_of refs' itselves words 0) file at t.form
  pub level : (n : ℕ) → t.level ≡ level_at t.form (replicate n 0)

-- 9, 10, 12
unfoldable pub text_cause : Text → ℕ
text_cause t = cond t.unknown 9 (cond t.miscounted 10 (cond (eqb t.level 4) 12 0))

-- ASSUME and THEOREM: 4 and 5; then those of the text, and 13 where the level must be 0
unfoldable pub formula_cause : Phase → ℕ → List ℕ → ℕ → ℕ
formula_cause p tag file at = cond (early p tag) 4 (cond (is_none (limit_at file at)) 5 0)

unfoldable pub last_cause : Bool → Text → ℕ
last_cause strict t = cond (eqb (text_cause t) 0) (cond strict (cond (eqb t.level 0) 0 13) 0) (text_cause t)

-- a formula judged
pub data Formula (names : List ℕ) (facts : List Facts) (cs file words refs refs' : List ℕ) (p : Phase) (c : Counts) (tag : ℕ) (strict : Bool) (at : ℕ) (r : Judged) : Type 0 where
  halted : (formula_cause p tag file at ≡ 0 → ⊥) → r ≡ refusal (formula_cause p tag file at) p c → Formula names facts cs file words refs refs' p c tag strict at r
  weighed : formula_cause p tag file at ≡ 0 → (t : Text) → Texted names facts cs file words 0 at refs refs' t → r ≡ answer (last_cause strict t) p c Inside (after_field c)
      → Formula names facts cs file words refs refs' p c tag strict at r

-- a definition: 4, 5, 8; then those of its text
unfoldable pub definition_cause : Phase → Counts → List ℕ → List ℕ → List ℕ → List ℕ → ℕ → ℕ → ℕ → ℕ
definition_cause p c names contexts heads file name params at =
    cond (early p 5) 4
    (cond (leb max_definitions c.definitions) 5
    (cond (ltb max_arity params) 5
    (cond (is_none (limit_at file at)) 5 (cond (is_some (code_named names name (context_codes contexts heads c.modules))) 8 0))))

-- what a definition leaves
abbrev pub Stored : Store → Store → Counts → ℕ → ℕ → ℕ → ℕ → Type 0
Stored v v' c name params at len = v' ≡ defining v c name (own_row c.definitions params at len)

-- what is left to judge of a definition whose text was read, and what it leaves
pub data Finished (v v' : Store) (words words' : List ℕ) (p : Phase) (c : Counts) (name params at len : ℕ) (t : Text) (r : Judged) : Type 0 where
  wrong : (text_cause t ≡ 0 → ⊥) → r ≡ refusal (text_cause t) p c → Finished v v' words words' p c name params at len t r
  added : text_cause t ≡ 0 → r ≡ judged 0 Inside (after_definitions 1 c) → Stored v v' c name params at len → words' ≡ stored_form words c.definitions t.form
      → form_at words' c.definitions ≡ t.form → Finished v v' words words' p c name params at len t r

-- a definition judged
pub data Defining (v v' : Store) (file words words' refs refs' : List ℕ) (p : Phase) (c : Counts) (name params at len : ℕ) (r : Judged) : Type 0 where
  stopped : (definition_cause p c v.names v.contexts v.heads file name params at ≡ 0 → ⊥)
      → r ≡ refusal (definition_cause p c v.names v.contexts v.heads file name params at) p c
      → Defining v v' file words words' refs refs' p c name params at len r
  walked : definition_cause p c v.names v.contexts v.heads file name params at ≡ 0 → (t : Text)
      → Texted v.names v.facts (codes_of v c.modules) file words params at refs refs' t → Finished v v' words words' p c name params at len t r
      → Defining v v' file words words' refs refs' p c name params at len r
