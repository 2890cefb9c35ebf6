-- The causes over the store are the rules' causes, and what the functions leave shows the state with the field added.
use borrow.Author.Tests.{le-leb, le-ltb, lt-leb, lt-ltb, ne_eqb}
use mathlib.Core.Bool.{Bool, ◌||◌, cond, false, true}
use mathlib.Core.List.{List, [], ◌∷◌}
use mathlib.Core.Option.{some}
use mathlib.Core.Path.{◌∙◌, ◌≡◌, ap, ap₂, refl, subst, sym}
use lib.Dec.{eqb, leb, ltb}
use lib.ListN.{get_elem?, length}
use native.Mathlib.Decide.{dec_lt, ℕ_discrete}
use native.Mathlib.Omega.{arith}
use Prim.Native.Nat.{◌+◌, ◌<◌, ◌≤◌, suc, zero, ℕ}
use Rattle.context.proofs.Adds.{adds_constant, adds-end, adds-module, adds-variable, hold-store}
use Rattle.context.proofs.Judging.{here-law}
use Rattle.context.proofs.Lookups.{module-law}
use Rattle.context.specs.Holds.{Holds}
use Rattle.context.specs.Lookup.{code_named}
use Rattle.context.specs.Parts.{part, place_of}
use Rattle.context.specs.Entries.{after_declaration, after_end, after_field, begun, codes_of, declaring, variable_kind}
use Rattle.store.specs.declared.Store.{Store}
use Rattle.context.specs.declared.Counts.{Counts}
use Rattle.judge_plain.proofs.Answers.{declaration-small}
use Rattle.judge_plain.specs.Causes.{answer, declaration_cause, early, end_cause, judged, kept, module_cause}
use Rattle.judge_plain.specs.Judges.{Judges, cause_number, phase_of}
use Rattle.judge_plain.specs.declared.Judged.{Judged}
use Rattle.judge_plain.specs.declared.Phase.TheVariants.{Begun, Inside, Outside}
use Rattle.judge_plain.specs.declared.Phase.{Phase}
use Rattle.laws.proofs.Within.{Within, opened}
use Rattle.limits.specs.Limits.{max_arity, max_declarations, max_modules}
use Rattle.limits.specs.Sizes.{max_fields}
use Rattle.rules.specs.Add.{add}
use Rattle.rules.specs.Expression.{over_arity}
use Rattle.rules.specs.Field.{Field, begin_module, declare_constant, declare_variable, end_module, tag}
use Rattle.rules.specs.Judge.{Cause, first_cause, judge, out_of_order}
use Rattle.rules.specs.State.{Module, State, here, in_context, module_named}
use Rattle.theory.specs.Lists.{is_some}

-- 4
pub order-law : (p : Phase) (s : State) → phase_of p ≡ s.phase → (f : Field) → early p (tag f) ≡ out_of_order s.phase f
order-law p s e f = go p ∙ ap (λ q. out_of_order q f) e
  where
    go : (p : Phase) → early p (tag f) ≡ out_of_order (phase_of p) f
    go Outside = refl
    go Begun = refl
    go Inside = refl

-- one more than so many is over the limit
over-law : (n k : ℕ) → leb n k ≡ ltb n (k + 1)
over-law n k = go (dec_lt k n)
  where
    go : Dec (k < n) → leb n k ≡ ltb n (k + 1)
    go (yes h) = lt-leb n k h ∙ sym (le-ltb n (k + 1) (omega arith))
    go (no h) = let l : n ≤ k = omega arith in le-leb n k l ∙ sym (lt-ltb n (k + 1) (omega arith))

-- a cause tested first
pub number-first : (b : Bool) (n : ℕ) (cs : List Cause) → cause_number (cond b (some n) (first_cause cs)) ≡ cond b n (cause_number (first_cause cs))
number-first true n cs = refl
number-first false n cs = refl

-- two tests of one cause
cond-or : (a b : Bool) (x y : ℕ) → cond a x (cond b x y) ≡ cond (a || b) x y
cond-or true b x y = refl
cond-or false b x y = refl

or-none : (a : Bool) → a || false ≡ a
or-none true = refl
or-none false = refl

-- three causes in a row
pub three : (a a' b b' d d' : Bool) (i j k : ℕ) → a ≡ a' → b ≡ b' → d ≡ d'
    → cond a i (cond b j (cond d k 0)) ≡ cause_number (first_cause ((i, a') ∷ (j, b') ∷ (k, d') ∷ []))
three a a' b b' d d' i j k e f g = rw (e, f, g) (go a' b' d')
  where
    go : (a b d : Bool) → cond a i (cond b j (cond d k 0)) ≡ cause_number (first_cause ((i, a) ∷ (j, b) ∷ (k, d) ∷ []))
    go true b d = refl
    go false true d = refl
    go false false true = refl
    go false false false = refl

-- what is there is found below the length
some_at : (ms : List Module) (i : ℕ) → i < length ms → is_some (get_elem? ms i) ≡ true
some_at [] i h = absurd (omega arith)
some_at (M ∷ ms) zero h = refl
some_at (M ∷ ms) (suc i) h = some_at ms i (omega arith)

none-at : (ms : List Module) (i : ℕ) → length ms ≤ i → is_some (get_elem? ms i) ≡ false
none-at [] i h = refl
none-at (M ∷ ms) zero h = absurd (omega arith)
none-at (M ∷ ms) (suc i) h = none-at ms i (omega arith)

there-law : (ms : List Module) (i : ℕ) → is_some (get_elem? ms i) ≡ ltb i (length ms)
there-law ms i = go (dec_lt i (length ms))
  where
    go : Dec (i < length ms) → is_some (get_elem? ms i) ≡ ltb i (length ms)
    go (yes h) = some_at ms i h ∙ sym (lt-ltb i (length ms) h)
    go (no h) = let l : length ms ≤ i = omega arith in none-at ms i l ∙ sym (le-ltb i (length ms) l)

-- a cause that is counted 0 is none
taken : (cause w : ℕ) (p q : Phase) (c d : Counts) (r : Judged) → r ≡ answer w p c q d → r.cause ≡ w
unfolding answer
taken cause w p q c d r e = ap (λ (x : Judged). x.cause) e ∙ go (ℕ_discrete w 0)
  where
    go : Dec (w ≡ 0) → (cond (eqb w 0) (judged 0 q d) (judged w p c)).cause ≡ w
    go (yes z) = rw z refl
    go (no z) = rw (ne_eqb w 0 z) refl

lawful : (w : ℕ) (p q : Phase) (c d : Counts) (r : Judged) → r ≡ answer w p c q d → w ≡ 0 → r ≡ judged 0 q d
unfolding answer
lawful w p q c d r e z = e ∙ rw z refl

changed : (w : ℕ) (now before after : Store) → now ≡ kept w before after → w ≡ 0 → now ≡ after
unfolding kept
changed w now before after e z = e ∙ rw z refl

-- a field judged: where no cause holds, the store is the one after it
pub judges : (w : ℕ) (p q : Phase) (c d : Counts) (r : Judged) (s : State) (f : Field) (u : Store) → r ≡ answer w p c q d → w ≡ cause_number (judge s f)
    → (w ≡ 0 → Holds u d (add s f)) → phase_of q ≡ (add s f).phase → Judges u r s f
judges w p q c d r s f u e law holds phase =
    let k = taken 0 w p q c d r e in
    record {
      cause = k ∙ law;
      holds = λ z. let y : w ≡ 0 = sym k ∙ z in subst (λ (x : Counts). Holds u x (add s f)) (sym (ap (λ (x : Judged). x.counts) (lawful w p q c d r e y))) (holds y);
      phase = λ z. let y : w ≡ 0 = sym k ∙ z in ap (λ (x : Judged). phase_of x.phase) (lawful w p q c d r e y) ∙ phase;
    }

-- 6, and 7 where it is not so
pub ended-law : (v : Store) (c : Counts) (s : State) → Holds v c s → (n : ℕ) → ltb (place_of n (part v.heads 0 c.modules)) c.modules ≡ is_some (module_named s n)
ended-law v c s holds n =
    ap (ltb (place_of n (part v.heads 0 c.modules))) holds.modules
    ∙ sym (ap is_some (module-law v c s holds n) ∙ there-law s.ended (place_of n (part v.heads 0 c.modules)))

module _ (v : Store) (c : Counts) (s : State) (holds : Holds v c s) (p : Phase) (phase : phase_of p ≡ s.phase) where
  pub module-cause-law : (n : ℕ) → module_cause p c.modules v.heads n ≡ cause_number (judge s (begin_module n))
  unfolding module_cause
  module-cause-law n =
      let f = begin_module n in
      three (early p 1) _ (leb max_modules c.modules) _ (ltb (place_of n (part v.heads 0 c.modules)) c.modules) _ 4 5 6
      (order-law p s phase f) (over-law max_modules c.modules ∙ ap (λ (m : ℕ). ltb max_modules (m + 1)) holds.modules) (ended-law v c s holds n)

  pub end-cause-law : end_cause p ≡ cause_number (judge s end_module)
  unfolding end_cause
  end-cause-law = rw (order-law p s phase end_module) (sym (number-first (out_of_order s.phase end_module) 4 []))

  declared-law : (f : Field) (k n : ℕ) (b : Bool) → b ≡ ltb max_arity k
      → declaration_cause p c v (tag f) k n
      ≡ cause_number (first_cause ((4, out_of_order s.phase f) ∷ (5, ltb max_declarations (s.declarations + 1) || b) ∷ (8, in_context n (here s)) ∷ []))
  unfolding declaration_cause
  declared-law f k n b e =
      ap (cond (early p (tag f)) 4) (cond-or (leb max_declarations c.declarations) (ltb max_arity k) 5 _)
      ∙ three (early p (tag f)) _ (leb max_declarations c.declarations || ltb max_arity k) _ (is_some (code_named v.names n (codes_of v c.modules))) _ 4 5 8
      (order-law p s phase f)
      (ap₂ ◌||◌ (over-law max_declarations c.declarations ∙ ap (λ (m : ℕ). ltb max_declarations (m + 1)) holds.declarations) (sym e)) (here-law v c s holds n)

  pub constant-cause-law : (n k : ℕ) → declaration_cause p c v 3 k n ≡ cause_number (judge s (declare_constant n k))
  constant-cause-law n k = declared-law (declare_constant n k) k n (over_arity k) refl

  pub variable-cause-law : (n : ℕ) → declaration_cause p c v 4 0 n ≡ cause_number (judge s (declare_variable n))
  variable-cause-law n =
      declared-law (declare_variable n) 0 n false refl
      ∙ ap (λ (b : Bool). cause_number (first_cause ((4, out_of_order s.phase (declare_variable n)) ∷ (5, b) ∷ (8, in_context n (here s)) ∷ []))) (or-none (ltb max_declarations (s.declarations + 1)))

  -- an end of module in its order stands in a module, which counts
  pub end-room : Within s → end_cause p ≡ 0 → c.modules < max_modules
  unfolding end_cause
  end-room within z = let o : opened s.phase ≡ 1 = subst (λ q. opened q ≡ 1) phase (go p z) in omega (arith, within.modules, holds.modules)
    where
      go : (p : Phase) → ◌≡◌ {A = ℕ} (cond (early p 7) 4 0) 0 → opened (phase_of p) ≡ 1
      go Outside e = absurd (omega arith)
      go Begun e = refl
      go Inside e = refl

  -- what the functions leave
  module _ (room : c.fields < max_fields) (r : Judged) where
    pub module-field-law : (n : ℕ) (v' : Store) → r ≡ answer (module_cause p c.modules v.heads n) p c Begun (after_field c)
        → v' ≡ kept (module_cause p c.modules v.heads n) v (begun v c.modules n) → Judges v' r s (begin_module n)
    module-field-law n v' e h =
        let w = module_cause p c.modules v.heads n in
        judges w p Begun c (after_field c) r s (begin_module n) v' e (module-cause-law n)
        (λ z. hold-store (begun v c.modules n) v' (after_field c) (after_field c) (add s (begin_module n)) (adds-module v c s holds room n) refl
        (changed w v' v (begun v c.modules n) h z)) refl

    pub end-field-law : Within s → (v' : Store) → r ≡ answer (end_cause p) p c Outside (after_end c) → v' ≡ kept (end_cause p) v (begun v (c.modules + 1) 0) → Judges v' r s end_module
    end-field-law within v' e h =
        judges (end_cause p) p Outside c (after_end c) r s end_module v' e end-cause-law
        (λ z. hold-store (begun v (c.modules + 1) 0) v' (after_end c) (after_end c) (add s end_module) (adds-end v c s holds room (end-room within z)) refl
        (changed (end_cause p) v' v (begun v (c.modules + 1) 0) h z)) refl

    declared-field : (tag k kind n : ℕ) (v' : Store) (f : Field) → declaration_cause p c v tag k n ≡ cause_number (judge s f)
        → (declaration_cause p c v tag k n ≡ 0 → Holds (declaring v c kind n) (after_declaration c) (add s f)) → phase_of Inside ≡ (add s f).phase
        → r ≡ answer (declaration_cause p c v tag k n) p c Inside (after_declaration c) → v' ≡ kept (declaration_cause p c v tag k n) v (declaring v c kind n) → Judges v' r s f
    declared-field tag k kind n v' f law added later e h =
        let w = declaration_cause p c v tag k n in
        judges w p Inside c (after_declaration c) r s f v' e law
        (λ z. hold-store (declaring v c kind n) v' (after_declaration c) (after_declaration c) (add s f) (added z) refl (changed w v' v (declaring v c kind n) h z)) later

    pub constant-field-law : (n k : ℕ) (v' : Store) → r ≡ answer (declaration_cause p c v 3 k n) p c Inside (after_declaration c)
        → v' ≡ kept (declaration_cause p c v 3 k n) v (declaring v c k n) → Judges v' r s (declare_constant n k)
    constant-field-law n k v' =
        declared-field 3 k k n v' (declare_constant n k) (constant-cause-law n k) (λ z. adds_constant v c s holds room n k (omega (arith, declaration-small p c v 3 k n z))) refl

    pub variable-field-law : (n : ℕ) (v' : Store) → r ≡ answer (declaration_cause p c v 4 0 n) p c Inside (after_declaration c)
        → v' ≡ kept (declaration_cause p c v 4 0 n) v (declaring v c variable_kind n) → Judges v' r s (declare_variable n)
    variable-field-law n v' = declared-field 4 0 variable_kind n v' (declare_variable n) (variable-cause-law n) (λ z. adds-variable v c s holds room n) refl
