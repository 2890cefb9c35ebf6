-- One field after another: what the loop over the fields knows before each.
use borrow.Author.Tests.{eq-eqb, eqb-true}
use mathlib.Core.Bool.{Bool, cond, false, true}
use mathlib.Core.List.{List, [], ◌++◌, ◌∷◌}
use mathlib.Core.Option.{Option, none, some}
use mathlib.Core.Path.{◌∙◌, ◌≡◌, ap, refl, subst, subst⁻¹, sym}
use Prim.Native.Nat.{ℕ, suc, ◌+◌, ◌≤◌, ◌<◌}
use native.Mathlib.Omega.{arith}
use lib.Dec.{eqb}
use lib.ListN.{drop, get_or, length}
use lib.Seq.{drop-cons}
use Rattle.limits.specs.Limits.{file_bytes}
use Rattle.theory.proofs.Lists.{never}
use Rattle.rules.specs.Add.{add}
use Rattle.rules.specs.Bytes.{cut, got}
use Rattle.rules.specs.Field.{Field, assume, begin_module, declare_constant, declare_variable, definition, end_module, extends, field, instance, theorem, write_field}
use Rattle.rules.specs.Judge.{judge}
use Rattle.rules.specs.Run.{end_in, judge_file, refusal}
use Rattle.rules.specs.State as rules
use Rattle.rules.specs.State.{State, start}
use Rattle.laws.proofs.Fields.{field_back, field-some}
use Rattle.laws.proofs.Running.{run, run-cut, run_end, run-next, run-refused}
use Rattle.worlds.specs.Rows.{rows_after}
use Rattle.tokens.proofs.Writing.{Bytes}
use Rattle.fields.specs.Cursor.{is_cut, is_end, place_of, step_at}
use Rattle.fields.specs.declared.Cursor.{Cursor}
use Rattle.fields.specs.declared.FieldStep.{FieldStep}
use Rattle.agree.proofs.Fields.{reads}
use Rattle.agree.specs.Parts.{IsField}
use Rattle.store.specs.Store.{empty}
use Rattle.store.specs.declared.Store.{Store}
use Rattle.context.specs.Entries.{no_counts}
use Rattle.context.specs.declared.Counts.{Counts}
use Rattle.levels.specs.Tables.{table_words}
use Rattle.judge_plain.proofs.Premises.{no-cause-left}
use Rattle.judge_plain.specs.Judges.{cause_number, phase_of}
use Rattle.judge_plain.specs.declared.Judged.{Judged}
use Rattle.judge_plain.specs.declared.Phase.TheVariants.{Begun, Inside, Outside}
use Rattle.judge_plain.specs.declared.Phase.{Phase}
use Rattle.standing.specs.Standing.{AtField, Judging, Standing, Underway, underway}
use Rattle.checker.specs.Settles.{Midway, Settles, midway}
use Rattle.checker.specs.Turned.{Turned, end_reply, turn_of}
use Rattle.checker.specs.declared.judging.Next.{Next}
use Rattle.refusals.specs.declared.Refusal.{Refusal}
use Rattle.refusals.specs.Outcomes.{refused}
use Rattle.std.specs.declared.ops.ControlFlow.TheVariants.{Continue, Break}
use Rattle.std.specs.declared.ops.ControlFlow.{ControlFlow}
use Rattle.std.specs.Prelude.{Result}
use Rattle.checker.proofs.Outset.{standing-start}
use Rattle.checker.proofs.Steps.{is_cut_lem, is-end, is_field, stepped}

pub midway_start : (file refs words : List ℕ) → length refs ≡ file_bytes → length words ≡ table_words
    → Midway file (record { number = 0; offset = 0 }) empty no_counts Outside refs words
unfolding run
midway_start file refs words a b = midway [] start [] (standing-start file refs words a b) refl refl refl

bytes-more : (s : State) (f : Field) → (add s f).bytes ≡ s.bytes + length (write_field f)
bytes-more s (begin_module n) = refl
bytes-more s (extends m ms) = refl
bytes-more s (declare_constant n k) = refl
bytes-more s (declare_variable n) = refl
bytes-more s (definition n p e) = refl
bytes-more s (instance n p m ss) = refl
bytes-more s end_module = refl
bytes-more s (assume e) = refl
bytes-more s (theorem e) = refl

fields-more : (s : State) (f : Field) → (add s f).fields ≡ s.fields + 1
fields-more s (begin_module n) = omega arith
fields-more s (extends m ms) = omega arith
fields-more s (declare_constant n k) = omega arith
fields-more s (declare_variable n) = omega arith
fields-more s (definition n p e) = omega arith
fields-more s (instance n p m ss) = omega arith
fields-more s end_module = omega arith
fields-more s (assume e) = omega arith
fields-more s (theorem e) = omega arith

-- At a cursor of a file that is not too long.
module _ (file : List ℕ) (at : Cursor) (known : Bytes file) (short : length file ≤ file_bytes) where
  -- the field there
  abbrev Found : Type 0
  Found = IsField file (place_of at) (place_of (step_at file at).next) (step_at file at).parts

  found : is_end (step_at file at).parts ≡ false → is_cut (step_at file at).parts ≡ false → Found
  found a b = is_field file (place_of at) (place_of (step_at file at).next) (step_at file at).parts a b (reads file at known)

  pub steps_on : is_end (step_at file at).parts ≡ false → is_cut (step_at file at).parts ≡ false
      → (place_of at < place_of (step_at file at).next) × (place_of (step_at file at).next ≤ length file)
  steps_on a b = let (f, t, e, n, i) = found a b in (omega (arith, field-some f), i)

  at_field : (s : State) → place_of at ≡ s.bytes → (w : Found) → AtField file s (step_at file at).parts w.0
  at_field s p w =
      record {
        end = place_of (step_at file at).next;
        tells = w.1;
        filled = (stepped file at).filled;
        ends = w.3 ∙ ap (λ (n : ℕ). n + length (write_field w.0)) p;
        inside = w.4;
        fits = (field_back (drop (place_of at) file) w.0 (drop (place_of (step_at file at).next) file) w.2).0;
        bytes = known;
        short = short;
      }

  module _ {v : Store} {c : Counts} {p : Phase} {refs words : List ℕ} where
    pub asks : Midway file at v c p refs words → (x : FieldStep) → x ≡ step_at file at → is_end x.parts ≡ false → is_cut x.parts ≡ false
        → Underway file v c p refs words x.parts
    asks (midway fs s rs stands place number same) x e a b =
        let w = found (subst (λ (y : FieldStep). is_end y.parts ≡ false) e a) (subst (λ (y : FieldStep). is_cut y.parts ≡ false) e b) in
        subst (λ (y : FieldStep). Underway file v c p refs words y.parts) (sym e) (underway fs s rs w.0 stands (at_field s place w))

    pub turn : {v' : Store} {refs' words' : List ℕ} → Midway file at v c p refs words → (x : FieldStep) → x ≡ step_at file at
        → is_end x.parts ≡ false → is_cut x.parts ≡ false → (r : Judged)
        → Judging file x.parts v v' c p r refs refs' words words' → r.cause ≡ 0
        → Midway file x.next v' r.counts r.phase refs' words'
    turn {v'} {refs'} {words'} (midway fs s rs stands place number same) x e a b r j z =
        let a' = subst (λ (y : FieldStep). is_end y.parts ≡ false) e a in
        let b' = subst (λ (y : FieldStep). is_cut y.parts ≡ false) e b in
        let w = found a' b' in
        let f : Field = w.0 in
        let next = (step_at file at).next in
        let k = (subst (λ (y : FieldStep). Judging file y.parts v v' c p r refs refs' words words') e j).advances fs s rs f stands (at_field s place w) in
        let clear : judge s f ≡ none = no-cause-left s f (sym k.cause ∙ z) in
        let there : place_of next ≡ (add s f).bytes = w.3 ∙ ap (λ (n : ℕ). n + length (write_field f)) place ∙ sym (bytes-more s f) in
        let onward : run (drop s.bytes file) s ≡ run (drop (add s f).bytes file) (add s f) =
        run-next (drop s.bytes file) s f (drop (add s f).bytes file)
        (subst (λ (n : ℕ). field.read (drop n file) ≡ got f (drop (add s f).bytes file)) place
        (subst (λ (n : ℕ). field.read (drop (place_of at) file) ≡ got f (drop n file)) there w.2)) clear in
        subst (λ (y : FieldStep). Midway file y.next v' r.counts r.phase refs' words') (sym e)
        (midway (fs ++ (f ∷ [])) (add s f) (rows_after s rs f) (k.stands z) there
        ((stepped file at).next a' b' ∙ ap (λ (n : ℕ). n + 1) number ∙ sym (fields-more s f)) (same ∙ onward))

    pub turned_down : {v' : Store} {refs' words' : List ℕ} → Midway file at v c p refs words → (x : FieldStep) → x ≡ step_at file at
        → is_end x.parts ≡ false → is_cut x.parts ≡ false → (r : Judged)
        → Judging file x.parts v v' c p r refs refs' words words' → (r.cause ≡ 0 → ⊥)
        → judge_file file ≡ refusal r.cause x.number
    turned_down {v'} {refs'} {words'} (midway fs s rs stands place number same) x e a b r j z =
        let a' = subst (λ (y : FieldStep). is_end y.parts ≡ false) e a in
        let b' = subst (λ (y : FieldStep). is_cut y.parts ≡ false) e b in
        let w = found a' b' in
        let f : Field = w.0 in
        let k = (subst (λ (y : FieldStep). Judging file y.parts v v' c p r refs refs' words words') e j).advances fs s rs f stands (at_field s place w) in
        let some-cause : judge s f ≡ some r.cause = caused (judge s f) r.cause k.cause z in
        same
        ∙ run-refused (drop s.bytes file) s f (drop (place_of (step_at file at).next) file) r.cause
        (subst (λ (n : ℕ). field.read (drop n file) ≡ got f (drop (place_of (step_at file at).next) file)) place w.2) some-cause
        ∙ ap (refusal r.cause) (sym number ∙ sym (stepped file at).number ∙ sym (ap (λ (y : FieldStep). y.number) e))
      where
        caused : (o : Option ℕ) (n : ℕ) → n ≡ cause_number o → (n ≡ 0 → ⊥) → o ≡ some n
        caused none n q h = absurd (h q)
        caused (some d) n q h = ap {B = Option ℕ} some (sym q)

    pub cut_short : Midway file at v c p refs words → (x : FieldStep) → x ≡ step_at file at → is_cut x.parts ≡ true → judge_file file ≡ refusal 3 x.number
    cut_short (midway fs s rs stands place number same) x e a =
        let r = is_cut_lem file (place_of at) (place_of (step_at file at).next) (step_at file at).parts (subst (λ (y : FieldStep). is_cut y.parts ≡ true) e a) (reads file at known) in
        let l : s.bytes < length file = subst (λ (n : ℕ). n < length file) place r.0 in
        let d = drop-cons file s.bytes 0 l in
        same ∙ ap (λ (bs : List ℕ). run bs s) d
        ∙ run-cut (get_or file s.bytes 0) (drop (suc s.bytes) file) s
        (subst (λ (bs : List ℕ). field.read bs ≡ cut) d (subst (λ (n : ℕ). field.read (drop n file) ≡ cut) place r.1))
        ∙ ap (refusal 3) (sym number ∙ sym (stepped file at).number ∙ sym (ap (λ (y : FieldStep). y.number) e))

    pub ends : Midway file at v c p refs words → (x : FieldStep) → x ≡ step_at file at → is_end x.parts ≡ true
        → Settles file v refs words (end_reply p c x.number)
    ends (midway fs s rs stands place number same) x e a =
        let r = is-end file (place_of at) (place_of (step_at file at).next) (step_at file at).parts (subst (λ (y : FieldStep). is_end y.parts ≡ true) e a) (reads file at known) in
        let over : judge_file file ≡ end_in s.phase s = same ∙ ap (λ (bs : List ℕ). run bs s) (subst (λ (n : ℕ). drop n file ≡ []) place r.1) ∙ run_end s in
        let n : s.fields ≡ x.number = sym number ∙ sym (stepped file at).number ∙ sym (ap (λ (y : FieldStep). y.number) e) in
        go p stands.phase stands over n
      where
        go : (q : Phase) → phase_of q ≡ s.phase → Standing file fs s rs v c q refs words → judge_file file ≡ end_in s.phase s → s.fields ≡ x.number
            → Settles file v refs words (end_reply q c x.number)
        go Outside q there over n =
            record { fields = fs; state = s; rows = rs; stands = there; accepted = over ∙ ap (λ (y : rules.Phase). end_in y s) (sym q) }
        go Begun q there over n = over ∙ ap (λ (y : rules.Phase). end_in y s) (sym q) ∙ ap (refusal 4) n
        go Inside q there over n = over ∙ ap (λ (y : rules.Phase). end_in y s) (sym q) ∙ ap (refusal 4) n

    -- so much for one turn
    pub settled_end : Midway file at v c p refs words → (x : FieldStep) → x ≡ step_at file at → (b : Bool) → b ≡ is_end x.parts → b ≡ true
        → (y : Result Counts Refusal) → y ≡ end_reply p c x.number → Settles file v refs words y
    settled_end m x e b a z y q = subst⁻¹ (Settles file v refs words) q (ends m x e (sym a ∙ z))

    pub settled-cut : Midway file at v c p refs words → (x : FieldStep) → x ≡ step_at file at → (b : Bool) → b ≡ is_cut x.parts → b ≡ true
        → judge_file file ≡ refusal 3 x.number
    settled-cut m x e b a z = cut_short m x e (sym a ∙ z)

    pub turned : {v' : Store} {refs' words' : List ℕ} → Midway file at v c p refs words → (x : FieldStep) → x ≡ step_at file at
        → (a b : Bool) → a ≡ is_end x.parts → a ≡ false → b ≡ is_cut x.parts → b ≡ false → (r : Judged)
        → Judging file x.parts v v' c p r refs refs' words words' → (t : ControlFlow (Result Counts Refusal) Next) → t ≡ turn_of r x
        → Turned file at v' refs' words' t
    turned {v'} {refs'} {words'} m x e a b i i' k k' r j t w = subst⁻¹ (Turned file at v' refs' words') w (go (eqb r.cause 0) refl)
      where
        onward : FieldStep → Next
        onward y = record { at = y.next; phase = r.phase; counts = r.counts }

        go : (d : Bool) → eqb r.cause 0 ≡ d
            → Turned file at v' refs' words' (cond {A = ControlFlow (Result Counts Refusal) Next} d (Continue (onward x)) (Break (refused r.cause x.number)))
        go true d =
            let further = subst⁻¹ (λ (y : FieldStep). (place_of at < place_of y.next) × (place_of y.next ≤ length file)) e
            (steps_on (subst (λ (y : FieldStep). is_end y.parts ≡ false) e (sym i ∙ i')) (subst (λ (y : FieldStep). is_cut y.parts ≡ false) e (sym k ∙ k'))) in
            (turn m x e (sym i ∙ i') (sym k ∙ k') r j (eqb-true r.cause 0 d), further.0, further.1)
        go false d = turned_down m x e (sym i ∙ i') (sym k ∙ k') r j (λ (q : r.cause ≡ 0). never (sym (eq-eqb r.cause 0 q) ∙ d))
