-- What the judging functions answer, one way through each at a time, over plain values.
use borrow.Author.Tests.{le-leb, le-ltb, leb-false, lt-leb, lt-ltb, ltb-false, ne_eqb}
use mathlib.Core.Bool.{Bool, cond, false, not, true}
use mathlib.Core.List.{List}
use mathlib.Core.Path.{◌∙◌, ◌≡◌, ap, refl, subst, sym}
use Prim.Native.Nat.{ℕ, ◌<◌, ◌≤◌}
use native.Mathlib.Omega.{arith}
use lib.Dec.{leb, ltb}
use lib.ListN.{get_or, length}
use Rattle.std.specs.Prelude.{Option, is_none, is_some as found}
use Rattle.limits.specs.Limits.{max_arity, max_definitions}
use Rattle.limits.specs.Sizes.{context_length}
use Rattle.tokens.specs.Limit.{limit_at}
use Rattle.forms.specs.Forms.{form_at, stored as stored_form}
use Rattle.forms.proofs.Tables.{load_same}
use Rattle.context.proofs.Repeats.{found-some}
use Rattle.context.specs.Lookup.{as_code, code_named}
use Rattle.context.specs.Entries.{after_definitions, after_field, codes_of, context_codes}
use Rattle.store.specs.Store.{context_slot, order_slot}
use Rattle.store.specs.declared.Store.{Store}
use Rattle.store.specs.declared.Facts.{Facts}
use Rattle.theory.specs.Lists.{is_some}
use Rattle.context.specs.declared.Counts.{Counts}
use Rattle.judge_plain.specs.Causes.{answer, early, judged, refusal}
use Rattle.judge_plain.specs.declared.Judged.{Judged}
use Rattle.judge_plain.specs.declared.Phase.{Phase}
use Rattle.judge_plain.specs.declared.Phase.TheVariants.{Inside}
use Rattle.levels.specs.Tables.{names_of, table_words}
use Rattle.levels.specs.Walk.{TextForm}
use Rattle.standing.specs.Standing.{Roomy, itselves}
use Rattle.judge_texts.specs.Texts.{Defining, Finished, Formula, Stored, Texted, added, definition_cause, formula_cause, halted, last_cause, text_cause, walked, weighed, wrong}
use Rattle.judge_texts.specs.declared.Text.{Text}

-- the causes of a text
module _ (t : Text) where
  pub text-unknown : t.unknown ≡ true → 9 ≡ text_cause t
  unfolding text_cause
  text-unknown e = rw e refl

  pub text-miscounted : t.unknown ≡ false → t.miscounted ≡ true → 10 ≡ text_cause t
  unfolding text_cause
  text-miscounted e f = rw (e, f) refl

  pub text-wrong : t.unknown ≡ false → t.miscounted ≡ false → t.level ≡ 4 → 12 ≡ text_cause t
  unfolding text_cause
  text-wrong e f g = rw (e, f, g) refl

  pub text-lawful : t.unknown ≡ false → t.miscounted ≡ false → (t.level ≡ 4 → ⊥) → 0 ≡ text_cause t
  unfolding text_cause
  text-lawful e f g = rw (e, f, ne_eqb t.level 4 g) refl

  module _ (strict : Bool) (cause : ℕ) (first : cause ≡ text_cause t) where
    pub last-text : (cause ≡ 0 → ⊥) → cause ≡ last_cause strict t
    unfolding last_cause
    last-text h = rw (← first, ne_eqb cause 0 h) refl

    pub last-strict : cause ≡ 0 → strict ≡ true → (t.level ≡ 0 → ⊥) → 13 ≡ last_cause strict t
    unfolding last_cause
    last-strict e s h = rw (← first, e, s, ne_eqb t.level 0 h) refl

    pub last-zero : cause ≡ 0 → strict ≡ true → t.level ≡ 0 → 0 ≡ last_cause strict t
    unfolding last_cause
    last-zero e s h = rw (← first, e, s, h) refl

    pub last-loose : cause ≡ 0 → strict ≡ false → 0 ≡ last_cause strict t
    unfolding last_cause
    last-loose e s = rw (← first, e, s) refl

-- 4 and 5 of a formula
module _ (p : Phase) (tag : ℕ) (file : List ℕ) (at : ℕ) (a : Bool) (first : a ≡ early p tag) where
  pub formula-early : a ≡ true → 4 ≡ formula_cause p tag file at
  unfolding formula_cause
  formula-early e = rw (← first, e) refl

  module _ (l : Option ℕ) (limit : l ≡ limit_at file at) (b : Bool) (second : found l ≡ not b) where
    pub formula-over : a ≡ false → b ≡ true → 5 ≡ formula_cause p tag file at
    unfolding formula_cause
    formula-over e f = rw (← first, e, ← limit, second, f) refl

    pub formula-kept : a ≡ false → b ≡ false → 0 ≡ formula_cause p tag file at
    unfolding formula_cause
    formula-kept e f = rw (← first, e, ← limit, second, f) refl

-- a formula judged
module _ (names : List ℕ) (facts : List Facts) (cs file words refs refs' : List ℕ) (p : Phase) (c : Counts) (tag : ℕ) (strict : Bool) (at : ℕ) (r : Judged) (cause : ℕ)
    (first : cause ≡ formula_cause p tag file at) where
  pub formula-stopped : (cause ≡ 0 → ⊥) → r ≡ refusal cause p c → Formula names facts cs file words refs refs' p c tag strict at r
  formula-stopped h e = halted (λ z. h (first ∙ z)) (e ∙ ap (λ (w : ℕ). refusal w p c) first)

  pub formula-walked : cause ≡ 0 → (t : Text) → Texted names facts cs file words 0 at refs refs' t → (w : ℕ) → w ≡ last_cause strict t
      → r ≡ answer w p c Inside (after_field c) → Formula names facts cs file words refs refs' p c tag strict at r
  formula-walked z t x w e f = weighed (sym first ∙ z) t x (f ∙ ap (λ (w : ℕ). answer w p c Inside (after_field c)) e)

-- 4, 5 and 8 of a definition
module _ (p : Phase) (c : Counts) (names contexts heads file : List ℕ) (name params at : ℕ) (a : Bool) (first : a ≡ early p 5) where
  pub define-early : a ≡ true → 4 ≡ definition_cause p c names contexts heads file name params at
  unfolding definition_cause
  define-early e = rw (← first, e) refl

  pub define-many : a ≡ false → max_definitions ≤ c.definitions → 5 ≡ definition_cause p c names contexts heads file name params at
  unfolding definition_cause
  define-many e h = rw (← first, e, le-leb max_definitions c.definitions h) refl

  pub define-wide : a ≡ false → c.definitions < max_definitions → max_arity < params → 5 ≡ definition_cause p c names contexts heads file name params at
  unfolding definition_cause
  define-wide e h k = rw (← first, e, lt-leb max_definitions c.definitions h, lt-ltb max_arity params k) refl

  module _ (few : c.definitions < max_definitions) (small : params ≤ max_arity) (l : Option ℕ) (limit : l ≡ limit_at file at) (b : Bool) (second : found l ≡ not b) where
    pub define-over : a ≡ false → b ≡ true → 5 ≡ definition_cause p c names contexts heads file name params at
    unfolding definition_cause
    define-over e f = rw (← first, e, lt-leb max_definitions c.definitions few, le-ltb max_arity params small, ← limit, second, f) refl

    module _ (q : Option ℕ) (looked : q ≡ as_code (code_named names name (context_codes contexts heads c.modules))) (d : Bool) (there : d ≡ found q) where
      known : is_some (code_named names name (context_codes contexts heads c.modules)) ≡ d
      known = sym (there ∙ ap found looked ∙ found-some (code_named names name (context_codes contexts heads c.modules)))

      pub define-there : a ≡ false → b ≡ false → d ≡ true → 8 ≡ definition_cause p c names contexts heads file name params at
      unfolding definition_cause
      define-there e f k =
          rw (← first, e, lt-leb max_definitions c.definitions few, le-ltb max_arity params small, ← limit, second, f, known ∙ k)
          refl

      pub define-free : a ≡ false → b ≡ false → d ≡ false → 0 ≡ definition_cause p c names contexts heads file name params at
      unfolding definition_cause
      define-free e f k =
          rw (← first, e, lt-leb max_definitions c.definitions few, le-ltb max_arity params small, ← limit, second, f, known ∙ k)
          refl

-- a definition without these causes keeps the limits
module _ (p : Phase) (c : Counts) (names contexts heads file : List ℕ) (name params at : ℕ) where
  pub define-lawful : definition_cause p c names contexts heads file name params at ≡ 0 → (c.definitions < max_definitions) × (params ≤ max_arity) × (is_none (limit_at file at) ≡ false)
  unfolding definition_cause
  define-lawful e = go (early p 5) (leb max_definitions c.definitions) refl (ltb max_arity params) refl (is_none (limit_at file at)) refl _ e
    where
      go : (a b : Bool) → leb max_definitions c.definitions ≡ b → (d : Bool) → ltb max_arity params ≡ d → (l : Bool) → is_none (limit_at file at) ≡ l → (x : ℕ)
          → ◌≡◌ {A = ℕ} (cond a 4 (cond b 5 (cond d 5 (cond l 5 x)))) 0 → (c.definitions < max_definitions) × (params ≤ max_arity) × (is_none (limit_at file at) ≡ false)
      go true b q d k l m x z = absurd (omega arith)
      go false true q d k l m x z = absurd (omega arith)
      go false false q true k l m x z = absurd (omega arith)
      go false false q false k true m x z = absurd (omega arith)
      go false false q false k false m x z = (leb-false max_definitions c.definitions q, ltb-false max_arity params k, m)

  pub define-few : definition_cause p c names contexts heads file name params at ≡ 0 → c.definitions < max_definitions
  define-few e = (define-lawful e).0

-- room for one definition more
module _ (v : Store) (c : Counts) (roomy : Roomy v c) (few : c.definitions < max_definitions) where
  pub room-context : get_or v.heads (context_slot c.modules) 0 < context_length
  room-context = omega (arith, roomy.context_room 1 (omega arith))

  pub room-order : get_or v.heads (order_slot c.modules) 0 < max_definitions
  room-order = omega (arith, roomy.order_room 1 (omega arith))

pub judged-counts : (d d' : Counts) → d' ≡ d → judged 0 Inside d' ≡ judged 0 Inside d
judged-counts d d' e = ap (judged 0 Inside) e

-- a definition judged by its text
module _ (v v' : Store) (words words' : List ℕ) (p : Phase) (c : Counts) (name params at len : ℕ) (t : Text) (r : Judged) (cause : ℕ) (first : cause ≡ text_cause t) where
  pub finish-wrong : (cause ≡ 0 → ⊥) → r ≡ refusal cause p c → Finished v v' words words' p c name params at len t r
  finish-wrong h e = wrong (λ z. h (first ∙ z)) (e ∙ ap (λ (w : ℕ). refusal w p c) first)

  pub finish-added : cause ≡ 0 → r ≡ judged 0 Inside (after_definitions 1 c) → Stored v v' c name params at len → words' ≡ stored_form words c.definitions t.form
      → length words ≡ table_words → c.definitions < max_definitions → Finished v v' words words' p c name params at len t r
  finish-added z e s w l h =
      added (sym first ∙ z) e s w (ap (λ (k : List ℕ). form_at k c.definitions) w ∙ load_same words c.definitions t.form (omega arith))

-- a table of numbers that is the identity
pub own-numbers : (refs numbers words s : List ℕ) (P at : ℕ) (f : ℕ) → numbers ≡ itselves → TextForm (names_of refs numbers words P) s at f → TextForm (names_of refs itselves words P) s at f
own-numbers refs numbers words s P at f e h = subst (λ (x : List ℕ). TextForm (names_of refs x words P) s at f) e h

-- a definition of which only the text was left
pub define-walked : (v v' : Store) (file words words' refs refs' : List ℕ) (p : Phase) (c : Counts) (name params at len : ℕ) (r : Judged)
    → definition_cause p c v.names v.contexts v.heads file name params at ≡ 0 → (t : Text)
    → Texted v.names v.facts (codes_of v c.modules) file words params at refs refs' t → Finished v v' words words' p c name params at len t r
    → Defining v v' file words words' refs refs' p c name params at len r
define-walked v v' file words words' refs refs' p c name params at len r h t x f = walked h t x f
