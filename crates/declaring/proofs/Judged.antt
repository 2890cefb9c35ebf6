-- From the contracts of crate judge_plain to what each function of this crate promises.
use borrow.Author.Tests.{eqb-true}
use mathlib.Core.Bool.{Bool, cond, false, true}
use mathlib.Core.List.{List, [], ◌++◌, ◌∷◌}
use mathlib.Core.Path.{◌∙◌, ◌≡◌, ap, refl, subst, sym}
use Prim.Native.Nat.{ℕ, ◌+◌, ◌<◌}
use native.Mathlib.Omega.{arith}
use lib.Dec.{eqb}
use lib.ListN.{get_or}
use Rattle.limits.specs.Limits.{max_declarations, max_definitions}
use Rattle.limits.specs.Sizes.{context_length}
use Rattle.theory.specs.Term.{Kind, constant, kind_arity, variable}
use Rattle.rules.specs.Add.{add}
use Rattle.rules.specs.Field.{Field}
use Rattle.rules.specs.Judge.{judge}
use Rattle.rules.specs.State.{State}
use Rattle.worlds.specs.Rows.{Row, rows_after}
use Rattle.fields.specs.declared.Parts.{Parts}
use Rattle.fields.specs.declared.Parts.TheVariants.{Constant, Variable}
use Rattle.context.specs.Entries.{after_declaration, declaring, variable_kind}
use Rattle.store.specs.Store.{context_slot}
use Rattle.store.specs.declared.Store.{Store}
use Rattle.context.specs.declared.Counts.{Counts}
use Rattle.entering.specs.Itself.{Put, itself_level}
use Rattle.entering.proofs.Outset.{kind_number}
use Rattle.judge_plain.specs.Causes.{answer, declaration_cause, judged, kept}
use Rattle.judge_plain.specs.Judges.{cause_number}
use Rattle.judge_plain.specs.declared.Judged.{Judged}
use Rattle.judge_plain.specs.declared.Phase.{Phase}
use Rattle.judge_plain.specs.declared.Phase.TheVariants.{Inside}
use Rattle.judge_plain.proofs.Answers.{declaration-few, declaration-small}
use Rattle.judge_plain.proofs.Lifted.{constant-cause-law, variable-cause-law}
use Rattle.judge_plain.proofs.Premises.{no-cause-left}
use Rattle.standing.specs.Standing.{AtField, Judging, Roomy, Standing}
use Rattle.declaring.proofs.Keeping.{declared-stands, field_of}

-- an answer and the store by the cause
taken : (w : ℕ) (p q : Phase) (c d : Counts) (r : Judged) → r ≡ answer w p c q d → r.cause ≡ w
unfolding answer
taken w p q c d r e = ap (λ (x : Judged). x.cause) e ∙ go (eqb w 0) refl
  where
    go : (b : Bool) → eqb w 0 ≡ b → (cond b (judged 0 q d) (judged w p c)).cause ≡ w
    go true z = sym (eqb-true w 0 z)
    go false z = refl

lawful : (w : ℕ) (p q : Phase) (c d : Counts) (r : Judged) → r ≡ answer w p c q d → w ≡ 0 → r ≡ judged 0 q d
unfolding answer
lawful w p q c d r e z = e ∙ rw z refl

changed : (w : ℕ) (v' before after : Store) → v' ≡ kept w before after → w ≡ 0 → v' ≡ after
unfolding kept
changed w v' before after e z = e ∙ rw z refl

pub context_room : (v : Store) (c : Counts) → Roomy v c → get_or v.heads (context_slot c.modules) 0 < context_length
context_room v c h = omega (arith, h.context_room 0 (omega (arith, h.definitions)))

-- a lawful declaration is not one too many
pub few-lawful : (p : Phase) (c : Counts) (v : Store) (tag arity name : ℕ) (r : Judged)
    → r ≡ answer (declaration_cause p c v tag arity name) p c Inside (after_declaration c) → r.cause ≡ 0 → c.declarations < max_declarations
few-lawful p c v tag arity name r e z =
    declaration-few p c v tag arity name (sym (taken (declaration_cause p c v tag arity name) p Inside c (after_declaration c) r e) ∙ z)

-- the parts of a declaration's field, and what its function asks of its tag and argument count
abbrev parts_of : Kind → ℕ → Parts
parts_of (constant k) n = Constant n k
parts_of variable n = Variable n

abbrev tag_of : Kind → ℕ
tag_of (constant k) = 3
tag_of variable = 4

told : (file : List ℕ) (s : State) (k : Kind) (n : ℕ) (f : Field) → AtField file s (parts_of k n) f → f ≡ field_of k n
told file s (constant k) n f at = at.tells
told file s variable n f at = at.tells

module _ (v v' : Store) (p : Phase) (c : Counts) (r : Judged) (k : Kind) (n : ℕ) where
  abbrev w : ℕ
  w = declaration_cause p c v (tag_of k) (kind_arity k) n

  cause-law : (file : List ℕ) (fs : List Field) (s : State) (rs : List Row) (refs words : List ℕ) → Standing file fs s rs v c p refs words
      → w ≡ cause_number (judge s (field_of k n))
  cause-law file fs s rs refs words st = by k
    where
      by : (k : Kind) → declaration_cause p c v (tag_of k) (kind_arity k) n ≡ cause_number (judge s (field_of k n))
      by (constant k) = constant-cause-law v c s st.holds p st.phase n k
      by variable = variable-cause-law v c s st.holds p st.phase n

  module _ (answered : r ≡ answer w p c Inside (after_declaration c)) (file refs words : List ℕ) where
    -- refused: nothing has to stand
    refused-judging : (r.cause ≡ 0 → ⊥) → Judging file (parts_of k n) v v' c p r refs refs words words
    refused-judging holds-one = record {
      advances = λ fs s rs f st at. record {
        cause = taken w p Inside c (after_declaration c) r answered ∙ cause-law file fs s rs refs words st
            ∙ ap (λ (g : Field). cause_number (judge s g)) (sym (told file s k n f at));
        stands = λ z. absurd (holds-one z);
      };
    }

    -- lawful: all stands with the field read
    module _ (roomy : Roomy v c) (changes : v' ≡ kept w v (declaring v c (kind_number k) n)) (zero-cause : r.cause ≡ 0) (words' : List ℕ)
        (put : Put (itself_level (kind_number k)) words words' (max_definitions + c.declarations)) where
      none-holds : w ≡ 0
      none-holds = sym (taken w p Inside c (after_declaration c) r answered) ∙ zero-cause

      stands-there : (fs : List Field) (s : State) (rs : List Row) → Standing file fs s rs v c p refs words → AtField file s (parts_of k n) (field_of k n)
          → Standing file (fs ++ (field_of k n ∷ [])) (add s (field_of k n)) (rows_after s rs (field_of k n)) v' r.counts r.phase refs words'
      stands-there fs s rs st at =
          let t : Standing file (fs ++ (field_of k n ∷ [])) (add s (field_of k n)) (rows_after s rs (field_of k n)) (declaring v c (kind_number k) n) (after_declaration c) Inside refs words'
          = declared-stands file fs s rs v c p refs words st k n words' roomy.fields (declaration-few p c v (tag_of k) (kind_arity k) n none-holds)
          (declaration-small p c v (tag_of k) (kind_arity k) n none-holds) put
          (no-cause-left s (field_of k n) (sym (cause-law file fs s rs refs words st) ∙ none-holds)) (parts_of k n) at in
          subst (λ (x : Judged). Standing file (fs ++ (field_of k n ∷ [])) (add s (field_of k n)) (rows_after s rs (field_of k n)) v' x.counts x.phase refs words')
          (sym (lawful w p Inside c (after_declaration c) r answered none-holds))
          (subst (λ (x : Store). Standing file (fs ++ (field_of k n ∷ [])) (add s (field_of k n)) (rows_after s rs (field_of k n)) x (after_declaration c) Inside refs words')
          (sym (changed w v' v (declaring v c (kind_number k) n) changes none-holds)) t)

      lawful-judging : Judging file (parts_of k n) v v' c p r refs refs words words'
      lawful-judging = record {
        advances = λ fs s rs f st at.
            let e : f ≡ field_of k n = told file s k n f at in
            record {
              cause = taken w p Inside c (after_declaration c) r answered ∙ cause-law file fs s rs refs words st
                  ∙ ap (λ (g : Field). cause_number (judge s g)) (sym e);
              stands = λ z. subst (λ (g : Field). Standing file (fs ++ (g ∷ [])) (add s g) (rows_after s rs g) v' r.counts r.phase refs words') (sym e)
                  (stands-there fs s rs st (subst (AtField file s (parts_of k n)) e at));
            };
      }

-- Each function, where a cause holds and where none does.
module _ (v v' : Store) (p : Phase) (c : Counts) (r : Judged) where
  abbrev constant_cause : ℕ → ℕ → ℕ
  constant_cause k n = declaration_cause p c v 3 k n

  abbrev variable_cause : ℕ → ℕ
  variable_cause n = declaration_cause p c v 4 0 n

  pub constant-refused : (k n : ℕ) (words : List ℕ) → r ≡ answer (constant_cause k n) p c Inside (after_declaration c) → (r.cause ≡ 0 → ⊥)
      → (file refs : List ℕ) → Judging file (Constant n k) v v' c p r refs refs words words
  constant-refused k n words e holds-one file refs = refused-judging v v' p c r (constant k) n e file refs words holds-one

  pub variable-refused : (n : ℕ) (words : List ℕ) → r ≡ answer (variable_cause n) p c Inside (after_declaration c) → (r.cause ≡ 0 → ⊥)
      → (file refs : List ℕ) → Judging file (Variable n) v v' c p r refs refs words words
  variable-refused n words e holds-one file refs = refused-judging v v' p c r variable n e file refs words holds-one

  pub constant-lawful : (k n : ℕ) (words words' : List ℕ) → r ≡ answer (constant_cause k n) p c Inside (after_declaration c)
      → v' ≡ kept (constant_cause k n) v (declaring v c k n) → Roomy v c → r.cause ≡ 0 → Put (itself_level k) words words' (max_definitions + c.declarations)
      → (file refs : List ℕ) → Judging file (Constant n k) v v' c p r refs refs words words'
  constant-lawful k n words words' e changes roomy z put file refs = lawful-judging v v' p c r (constant k) n e file refs words roomy changes z words' put

  pub variable-lawful : (n : ℕ) (words words' : List ℕ) → r ≡ answer (variable_cause n) p c Inside (after_declaration c)
      → v' ≡ kept (variable_cause n) v (declaring v c variable_kind n) → Roomy v c → r.cause ≡ 0 → Put (itself_level variable_kind) words words' (max_definitions + c.declarations)
      → (file refs : List ℕ) → Judging file (Variable n) v v' c p r refs refs words words'
  variable-lawful n words words' e changes roomy z put file refs = lawful-judging v v' p c r variable n e file refs words roomy changes z words' put
