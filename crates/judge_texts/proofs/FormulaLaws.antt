-- ASSUME and THEOREM: the answer is the rules', and what stood stands with the field read.
use mathlib.Core.Bool.{Bool, cond, false, not, true}
use mathlib.Core.List.{List, [], ◌++◌, ◌∷◌}
use mathlib.Core.Option.{none, some}
use mathlib.Core.Path.{◌∙◌, ◌≡◌, ap, ap₂, refl, subst, sym}
use Prim.Native.Nat.{ℕ, ◌+◌, ◌-◌, ◌≤◌}
use native.Mathlib.Omega.{arith}
use lib.Dec.{eqb}
use lib.ListN.{drop, length, length-drop}
use lib.Seq.{length-take-le}
use Rattle.rules.specs.Add.{add}
use Rattle.rules.specs.Expression.{Expression, expression, over_limit}
use Rattle.rules.specs.Field.{Field, assume, tag, theorem}
use Rattle.rules.specs.Judge.{Cause, first_cause, judge, miscounted, not_constant_level, not_level_correct, out_of_order, unknown}
use Rattle.rules.specs.State.{State, here, level_of, resolve}
use Rattle.laws.proofs.Expressions.{expression-back}
use Rattle.laws.proofs.Origins.{declaration}
use Rattle.fields.specs.Substitution.{part}
use Rattle.fields.specs.declared.Parts.{Parts}
use Rattle.fields.specs.declared.Parts.TheVariants.{Assume, Theorem}
use Rattle.context.proofs.Adds.{adds-assume, adds-theorem}
use Rattle.context.specs.Holds.{Holds}
use Rattle.context.specs.Entries.{after_field, codes_of}
use Rattle.store.specs.declared.Store.{Store}
use Rattle.context.specs.declared.Counts.{Counts}
use Rattle.worlds.specs.Rows.{Row, new_rows}
use Rattle.judge_plain.proofs.Lifted.{judges, order-law}
use Rattle.judge_plain.proofs.Premises.{no-cause-left}
use Rattle.judge_plain.specs.Judges.{cause_number, phase_of}
use Rattle.judge_plain.specs.declared.Judged.{Judged}
use Rattle.judge_plain.specs.declared.Phase.{Phase}
use Rattle.judge_plain.specs.declared.Phase.TheVariants.{Inside}
use Rattle.standing.specs.Standing.{Advances, AtField, Judging, Standing}
use Rattle.standing.proofs.Advancing.{room, stands-quiet}
use Rattle.standing.proofs.Growth.{rows_same}
use Rattle.judge_texts.specs.Texts.{Formula, formula_cause, halted, last_cause, weighed}
use Rattle.judge_texts.proofs.Reading.{last-cause-law, limit-law, text-law}

-- an expression that is read in l bytes is written in l bytes
pub read_length : (file : List ℕ) (at l : ℕ) (e : Expression) → at + l ≤ length file → expression.read (part file at l) ≡ some e → length (expression.write e) ≡ l
read_length file at l e h q =
    let d : length (drop at file) ≡ length file - at = length-drop at file in
    ap length (expression-back (part file at l) e q).1 ∙ length-take-le l (drop at file) (omega arith)

-- a stop by the first two causes
two-causes : (a b : Bool) (k : ℕ) → (◌≡◌ {A = ℕ} (cond a 4 (cond b 5 0)) 0 → ⊥) → ◌≡◌ {A = ℕ} (cond a 4 (cond b 5 0)) (cond a 4 (cond b 5 k))
two-causes true b k h = refl
two-causes false true k h = refl
two-causes false false k h = absurd (h refl)

no-causes : (a b : Bool) (k : ℕ) → ◌≡◌ {A = ℕ} (cond a 4 (cond b 5 0)) 0 → (a ≡ false) × (b ≡ false) × (◌≡◌ {A = ℕ} k (cond a 4 (cond b 5 k)))
no-causes true b k h = absurd (omega arith)
no-causes false true k h = absurd (omega arith)
no-causes false false k h = (refl, refl, refl)

-- a formula e of l bytes at a position, of the field f, which is judged by tag and strictness
module _ (file : List ℕ) (fs : List Field) (s : State) (rs : List Row) (v : Store) (c : Counts) (p : Phase) (refs words : List ℕ)
    (stands : Standing file fs s rs v c p refs words) (x : Parts) (f : Field) (field : AtField file s x f)
    (at l : ℕ) (e : Expression) (here-at : at + l ≡ field.end) (q : expression.read (part file at l) ≡ some e) (strict : Bool)
    (law : cause_number (judge s f)
    ≡ cond (out_of_order s.phase f) 4 (cond (over_limit e) 5
    (cond (unknown s (here s) 0 e) 9 (cond (miscounted s (here s) e) 10 (cond (not_level_correct s 0 e) 12 (cond strict (cond (eqb 0 (level_of s [] (resolve s (here s) e))) 0 13) 0))))))
    (begins : s.bytes ≤ at) (adds : Holds v (after_field c) (add s f)) (later : phase_of Inside ≡ (add s f).phase)
    (none-declared : declaration f ≡ none) (no_rows : new_rows s rs f ≡ []) (none-defined : (add s f).definitions ≡ s.definitions ++ [])
    (refs' : List ℕ) (r : Judged) where
  rest : ℕ
  rest = cond (unknown s (here s) 0 e) 9 (cond (miscounted s (here s) e) 10 (cond (not_level_correct s 0 e) 12 (cond strict (cond (eqb 0 (level_of s [] (resolve s (here s) e))) 0 13) 0)))

  inside : at + l ≤ length file
  inside = omega (arith, field.inside)

  first_two : formula_cause p (tag f) file at ≡ cond (out_of_order s.phase f) 4 (cond (over_limit e) 5 0)
  unfolding formula_cause
  first_two = ap₂ (λ (a b : Bool). cond a 4 (cond b 5 0)) (order-law p s stands.phase f) (limit-law file at l e inside q)

  formula-advances : Formula v.names v.facts (codes_of v c.modules) file words refs refs' p c (tag f) strict at r → Advances file fs s rs f r v refs' words
  unfolding rest
  formula-advances (halted h y) =
      let k : r.cause ≡ formula_cause p (tag f) file at = ap (λ (j : Judged). j.cause) y in
      record {
        cause = k ∙ first_two ∙ two-causes (out_of_order s.phase f) (over_limit e) rest (λ z. h (first_two ∙ z)) ∙ sym law;
        stands = λ z. absurd (h (sym k ∙ z));
      }
  formula-advances (weighed z t w y) =
      let n = no-causes (out_of_order s.phase f) (over_limit e) rest (sym first_two ∙ z) in
      let right = text-law file fs s rs v c p refs words stands field.bytes field.short at l e inside q n.1 0 (omega arith) refs' t w in
      let last = last-cause-law file fs s rs v c p refs words stands field.bytes field.short at l e inside q n.1 0 (omega arith) refs' t w strict in
      let j = judges (last_cause strict t) p Inside c (after_field c) r s f v y (last ∙ n.2 ∙ sym law) (λ _. adds) later in
      record {
        cause = j.cause;
        stands = λ k. stands-quiet file fs s rs v c p refs words stands x f field (no-cause-left s f (sym j.cause ∙ k)) v r.counts r.phase refs' (j.holds k) (j.phase k)
            (rows_same v c v refl refl) refl none-declared no_rows none-defined (λ i h. right.before i (omega arith)) (right.size ∙ stands.refs_size);
      }

-- the causes of a formula, by their numbers
five-causes : (a b d f g : Bool) (k : ℕ) (cs : List Cause) → cause_number (first_cause cs) ≡ k
    → cause_number (first_cause ((4, a) ∷ (5, b) ∷ (9, d) ∷ (10, f) ∷ (12, g) ∷ cs)) ≡ cond a 4 (cond b 5 (cond d 9 (cond f 10 (cond g 12 k))))
five-causes true b d f g k cs e = refl
five-causes false true d f g k cs e = refl
five-causes false false true f g k cs e = refl
five-causes false false false true g k cs e = refl
five-causes false false false false true k cs e = refl
five-causes false false false false false k cs e = e

thirteen : (b : Bool) → cause_number (first_cause ((13, not b) ∷ [])) ≡ cond b 0 13
thirteen true = refl
thirteen false = refl

module _ (file : List ℕ) (v : Store) (c : Counts) (p : Phase) (refs refs' words : List ℕ) (at l : ℕ) (r : Judged) where
  -- an ASSUME field
  pub assume-judging : Formula v.names v.facts (codes_of v c.modules) file words refs refs' p c 8 true at r
      → Judging file (Assume at l) v v c p r refs refs' words words
  assume-judging y = record { advances = λ fs s rs f stands field. go fs s rs f stands field field.tells.0 field.tells.1.0 field.tells.1.1 field.tells.2 }
    where
      at-assume : (fs : List Field) (s : State) (rs : List Row) (stands : Standing file fs s rs v c p refs words) (e : Expression)
          (field : AtField file s (Assume at l) (assume e)) → at + l ≡ field.end → expression.read (part file at l) ≡ some e
          → Advances file fs s rs (assume e) r v refs' words
      at-assume fs s rs stands e field b q =
          let size = read_length file at l e (omega (arith, field.inside)) q in
          formula-advances file fs s rs v c p refs words stands (Assume at l) (assume e) field at l e b q true
          (five-causes (out_of_order s.phase (assume e)) (over_limit e) (unknown s (here s) 0 e) (miscounted s (here s) e) (not_level_correct s 0 e) _ ((13, not_constant_level s e) ∷ [])
          (thirteen (eqb 0 (level_of s [] (resolve s (here s) e)))))
          (omega (arith, field.ends)) (adds-assume v c s stands.holds (room file fs s rs v c p refs words stands (Assume at l) (assume e) field) e) refl refl refl refl refs' r y

      go : (fs : List Field) (s : State) (rs : List Row) (f : Field) (stands : Standing file fs s rs v c p refs words) (field : AtField file s (Assume at l) f)
          (e : Expression) → at + l ≡ field.end → expression.read (part file at l) ≡ some e → f ≡ assume e → Advances file fs s rs f r v refs' words
      go fs s rs f stands field e b q same =
          subst (λ (f : Field). (field : AtField file s (Assume at l) f) → at + l ≡ field.end → Advances file fs s rs f r v refs' words) (sym same)
          (λ field b. at-assume fs s rs stands e field b q) field b

  -- a THEOREM field
  pub theorem-judging : Formula v.names v.facts (codes_of v c.modules) file words refs refs' p c 9 false at r
      → Judging file (Theorem at l) v v c p r refs refs' words words
  theorem-judging y = record { advances = λ fs s rs f stands field. go fs s rs f stands field field.tells.0 field.tells.1.0 field.tells.1.1 field.tells.2 }
    where
      at-theorem : (fs : List Field) (s : State) (rs : List Row) (stands : Standing file fs s rs v c p refs words) (e : Expression)
          (field : AtField file s (Theorem at l) (theorem e)) → at + l ≡ field.end → expression.read (part file at l) ≡ some e
          → Advances file fs s rs (theorem e) r v refs' words
      at-theorem fs s rs stands e field b q =
          let size = read_length file at l e (omega (arith, field.inside)) q in
          formula-advances file fs s rs v c p refs words stands (Theorem at l) (theorem e) field at l e b q false
          (five-causes (out_of_order s.phase (theorem e)) (over_limit e) (unknown s (here s) 0 e) (miscounted s (here s) e) (not_level_correct s 0 e) 0 [] refl)
          (omega (arith, field.ends)) (adds-theorem v c s stands.holds (room file fs s rs v c p refs words stands (Theorem at l) (theorem e) field) e) refl refl refl refl refs' r y

      go : (fs : List Field) (s : State) (rs : List Row) (f : Field) (stands : Standing file fs s rs v c p refs words) (field : AtField file s (Theorem at l) f)
          (e : Expression) → at + l ≡ field.end → expression.read (part file at l) ≡ some e → f ≡ theorem e → Advances file fs s rs f r v refs' words
      go fs s rs f stands field e b q same =
          subst (λ (f : Field). (field : AtField file s (Theorem at l) f) → at + l ≡ field.end → Advances file fs s rs f r v refs' words) (sym same)
          (λ field b. at-theorem fs s rs stands e field b q) field b
