-- What the judging functions answer, one way through each at a time, over plain values.
use borrow.Author.Tests.{le-leb, le-ltb, leb-false, lt-leb, lt-ltb, ltb-false, ne_eqb}
use mathlib.Core.Bool.{Bool, cond, false, not, true}
use mathlib.Core.List.{List}
use mathlib.Core.Path.{◌∙◌, ◌≡◌, ap, refl, sym}
use lib.Dec.{eqb, leb, ltb}
use native.Mathlib.Omega.{arith}
use Prim.Native.Nat.{◌<◌, ◌≤◌, ℕ}
use Rattle.std.specs.Prelude.{Option as Answer, is_some as found}
use Rattle.theory.specs.Lists.{is_some}
use Rattle.context.specs.declared.Counts.{Counts}
use Rattle.context.proofs.Repeats.{found-some}
use Rattle.context.specs.Lookup.{as_code, code_named}
use Rattle.context.specs.Parts.{part, place_of}
use Rattle.context.specs.Entries.{codes_of}
use Rattle.judge_plain.specs.Causes.{answer, declaration_cause, early, end_cause, judged, kept, module_cause, refusal}
use Rattle.judge_plain.specs.declared.Judged.{Judged}
use Rattle.judge_plain.specs.declared.Phase.TheVariants.{Begun, Inside, Outside}
use Rattle.judge_plain.specs.declared.Phase.{Phase}
use Rattle.store.specs.declared.Store.{Store}
use Rattle.limits.specs.Limits.{max_arity, max_declarations, max_modules}

-- a cause was found: nothing changes
pub kept-before : (cause w : ℕ) (before after : Store) → cause ≡ w → (cause ≡ 0 → ⊥) → before ≡ kept w before after
unfolding kept
kept-before cause w before after e h = rw (← e, ne_eqb cause 0 h) refl

pub answer-refused : (cause w : ℕ) (r : Judged) (p q : Phase) (c d : Counts) → cause ≡ w → (cause ≡ 0 → ⊥) → r ≡ refusal cause p c → r ≡ answer w p c q d
unfolding answer
answer-refused cause w r p q c d e h k = rw (← e, ne_eqb cause 0 h) k

-- none was
pub kept-after : (cause w : ℕ) (now before after : Store) → cause ≡ w → cause ≡ 0 → now ≡ after → now ≡ kept w before after
unfolding kept
kept-after cause w now before after e h k = rw (← e, h) k

pub answer-taken : (cause w : ℕ) (p q : Phase) (c d d' : Counts) → cause ≡ w → cause ≡ 0 → d' ≡ d → judged 0 q d' ≡ answer w p c q d
unfolding answer
answer-taken cause w p q c d d' e h k = rw (← e, h) (ap (judged 0 q) k)

-- a declaration's name is in the context, or not
module _ (p : Phase) (c : Counts) (v : Store) (tag arity name : ℕ) (a : Bool) (first : a ≡ early p tag) (in_order : a ≡ false)
    (few : c.declarations < max_declarations) (small : arity ≤ max_arity) (q : Answer ℕ)
    (looked : q ≡ as_code (code_named v.names name (codes_of v c.modules))) (b : Bool) (there : b ≡ found q) where
  known : is_some (code_named v.names name (codes_of v c.modules)) ≡ b
  known = sym (there ∙ ap found looked ∙ found-some (code_named v.names name (codes_of v c.modules)))

  pub name-there : b ≡ true → 8 ≡ declaration_cause p c v tag arity name
  unfolding declaration_cause
  name-there e =
      rw (← first, in_order, lt-leb max_declarations c.declarations few, le-ltb max_arity arity small, known ∙ e)

  pub name_free : b ≡ false → 0 ≡ declaration_cause p c v tag arity name
  unfolding declaration_cause
  name_free e =
      rw (← first, in_order, lt-leb max_declarations c.declarations few, le-ltb max_arity arity small, known ∙ e)

-- the order of fields, by the phase
pub early-outside : (p : Phase) (tag : ℕ) → p ≡ Outside → not (eqb tag 1) ≡ early p tag
early-outside p tag e = rw e refl

pub early-begun : (p : Phase) (tag : ℕ) → p ≡ Begun → ltb tag 2 ≡ early p tag
early-begun p tag e = rw e refl

pub early-inside : (p : Phase) (tag : ℕ) → p ≡ Inside → ltb tag 3 ≡ early p tag
early-inside p tag e = rw e refl

-- a module field
module _ (p : Phase) (modules : ℕ) (heads : List ℕ) (name : ℕ) (a : Bool) (first : a ≡ early p 1) where
  pub module-early : a ≡ true → 4 ≡ module_cause p modules heads name
  unfolding module_cause
  module-early e = rw (← first, e)

  pub module-over : a ≡ false → max_modules ≤ modules → 5 ≡ module_cause p modules heads name
  unfolding module_cause
  module-over e h = rw (← first, e, le-leb max_modules modules h)

  module _ (q : ℕ) (found : q ≡ place_of name (part heads 0 modules)) where
    pub module-used : a ≡ false → modules < max_modules → q < modules → 6 ≡ module_cause p modules heads name
    unfolding module_cause
    module-used e h l = rw (← first, e, lt-leb max_modules modules h, ← found, lt-ltb q modules l)

    pub module-free : a ≡ false → modules < max_modules → modules ≤ q → 0 ≡ module_cause p modules heads name
    unfolding module_cause
    module-free e h l = rw (← first, e, lt-leb max_modules modules h, ← found, le-ltb q modules l)

-- an end of module
pub end-early : (p : Phase) (a : Bool) → a ≡ early p 7 → a ≡ true → 4 ≡ end_cause p
unfolding end_cause
end-early p a first e = rw (← first, e)

pub end-lawful : (p : Phase) (a : Bool) → a ≡ early p 7 → a ≡ false → 0 ≡ end_cause p
unfolding end_cause
end-lawful p a first e = rw (← first, e)

-- a declaration
module _ (p : Phase) (c : Counts) (v : Store) (tag arity name : ℕ) (a : Bool) (first : a ≡ early p tag) where
  pub declaration-early : a ≡ true → 4 ≡ declaration_cause p c v tag arity name
  unfolding declaration_cause
  declaration-early e = rw (← first, e)

  pub declaration-over : a ≡ false → max_declarations ≤ c.declarations → 5 ≡ declaration_cause p c v tag arity name
  unfolding declaration_cause
  declaration-over e h = rw (← first, e, le-leb max_declarations c.declarations h)

  pub arity-over : a ≡ false → c.declarations < max_declarations → max_arity < arity → 5 ≡ declaration_cause p c v tag arity name
  unfolding declaration_cause
  arity-over e h l = rw (← first, e, lt-leb max_declarations c.declarations h, lt-ltb max_arity arity l)

-- a lawful declaration is within the limits
module _ (p : Phase) (c : Counts) (v : Store) (tag arity name : ℕ) where
  declaration-lawful : declaration_cause p c v tag arity name ≡ 0 → (c.declarations < max_declarations) × (arity ≤ max_arity)
  unfolding declaration_cause
  declaration-lawful e = go (early p tag) (leb max_declarations c.declarations) refl (ltb max_arity arity) refl _ e
    where
      go : (a b : Bool) → leb max_declarations c.declarations ≡ b → (d : Bool) → ltb max_arity arity ≡ d → (x : ℕ) → ◌≡◌ {A = ℕ} (cond a 4 (cond b 5 (cond d 5 x))) 0
          → (c.declarations < max_declarations) × (arity ≤ max_arity)
      go true b q d l x z = absurd (omega arith)
      go false true q d l x z = absurd (omega arith)
      go false false q true l x z = absurd (omega arith)
      go false false q false l x z = (leb-false max_declarations c.declarations q, ltb-false max_arity arity l)

  pub declaration-small : declaration_cause p c v tag arity name ≡ 0 → arity ≤ max_arity
  declaration-small e = (declaration-lawful e).1

  pub declaration-few : declaration_cause p c v tag arity name ≡ 0 → c.declarations < max_declarations
  declaration-few e = (declaration-lawful e).0

pub few-by-cause : (cause : ℕ) (p : Phase) (c : Counts) (v : Store) (tag arity name : ℕ) → cause ≡ declaration_cause p c v tag arity name
    → cause ≡ 0 → c.declarations < max_declarations
few-by-cause cause p c v tag arity name e h = declaration-few p c v tag arity name (sym e ∙ h)

-- in a module fewer than all modules are ended
pub fewer-ended : (cause w m : ℕ) → cause ≡ w → cause ≡ 0 → (w ≡ 0 → m < max_modules) → m < max_modules
fewer-ended cause w m e h k = k (sym e ∙ h)
