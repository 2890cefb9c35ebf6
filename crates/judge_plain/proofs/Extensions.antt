-- EXTENDS judged: each way through, and what it means for the rules' state.
use mathlib.Core.Bool.{Bool, cond, false, not, true}
use mathlib.Core.List.{List, [], ◌∷◌, map}
use mathlib.Core.Path.{◌∙◌, ◌≡◌, ap, refl, subst, subst⁻¹, sym}
use lib.Dec.{ltb}
use lib.ListN.{length, length-replicate, replicate}
use native.Mathlib.Omega.{arith}
use Prim.Native.Nat.{◌+◌, ◌-◌, ◌<◌, ◌≤◌, ℕ}
use Rattle.agree.specs.Parts.{names_at}
use Rattle.context.proofs.Extends.{adds-extends}
use Rattle.context.proofs.Judging.{any-each, repeated-law}
use Rattle.context.proofs.Lookups.{current-no}
use Rattle.context.proofs.Marks.{marked_empty}
use Rattle.context.specs.Holds.{Holds}
use Rattle.context.specs.Lookup.{repeated_in}
use Rattle.context.specs.Parts.{part, place_of}
use Rattle.context.specs.Entries.{after_field, codes_of, entry_at}
use Rattle.store.specs.declared.Store.{Store}
use Rattle.context.specs.declared.Counts.{Counts}
use Rattle.judge_plain.proofs.Joins.{names-turn}
use Rattle.judge_plain.proofs.Lifted.{ended-law, order-law, three}
use Rattle.judge_plain.specs.Causes.{early, joined_answer, judged, refusal}
use Rattle.judge_plain.specs.Extending.{Extending, Joinable, Joined, Ready, Startable, extends_cause, is_ready, may_start, missing_in, with_open}
use Rattle.judge_plain.specs.Judges.{Judges, cause_number, phase_of}
use Rattle.judge_plain.specs.declared.Judged.{Judged}
use Rattle.judge_plain.specs.declared.Phase.TheVariants.{Begun, Inside, Outside}
use Rattle.judge_plain.specs.declared.Phase.{Phase}
use Rattle.limits.specs.Limits.{max_definitions}
use Rattle.limits.specs.Sizes.{max_fields}
use Rattle.rules.specs.Add.{add, extended_module}
use Rattle.rules.specs.Field.{Field, extends}
use Rattle.rules.specs.Judge.{extended_context, judge, not_ended}
use Rattle.rules.specs.State.{Entry, Module, State, here, same_name}
use Rattle.theory.proofs.Lists.{never}
use Rattle.theory.specs.Lists.{any, repeats}
use Rattle.tokens.specs.Token.{number_at}

-- 7
pub missing-law : (v : Store) (c : Counts) (s : State) → Holds v c s → (ns : List ℕ) → missing_in v.heads c.modules ns ≡ any (not_ended s) ns
unfolding missing_in
missing-law v c s holds ns =
    any-each (λ n. not (ltb (place_of n (part v.heads 0 c.modules)) c.modules)) (not_ended s) (λ n. ap not (ended-law v c s holds n)) ns

-- the marks of an empty module are cleared ones

map-none : (f : ℕ → Entry) (xs : List ℕ) → map f xs ≡ [] → xs ≡ []
map-none f [] e = refl
map-none f (x ∷ xs) e = absurd (let z : ◌≡◌ {A = ℕ} 0 1 = cc in omega arith)

begun-only : (p : Phase) → early p 2 ≡ false → p ≡ Begun
begun-only Outside e = never e
begun-only Begun e = refl
begun-only Inside e = never e

-- no cause of the first two
no-cause : (p : Phase) (modules : ℕ) (heads ns : List ℕ) → extends_cause p modules heads ns ≡ 0 → (early p 2 ≡ false) × (missing_in heads modules ns ≡ false)
unfolding extends_cause
no-cause p modules heads ns e = go (early p 2) (missing_in heads modules ns) e
  where
    go : (a b : Bool) → ◌≡◌ {A = ℕ} (cond a 4 (cond b 7 0)) 0 → (a ≡ false) × (b ≡ false)
    go true b z = absurd (omega arith)
    go false true z = absurd (omega arith)
    go false false z = (refl, refl)

pub startable : (v : Store) (p : Phase) (c : Counts) (ms : List ℕ) (cause : ℕ) → Ready v p c → cause ≡ extends_cause p c.modules v.heads ms → cause ≡ 0 → Startable v c ms
startable v p c ms cause (is_ready s holds listed fresh) e f =
    let none = no-cause p c.modules v.heads ms (sym e ∙ f) in
    let empty = fresh (begun-only p none.0) in
    let shown = holds.shown c.modules (omega arith) ∙ current-no v c s holds in
    may_start s holds listed (sym (missing-law v c s holds ms) ∙ none.1)
    (map-none (entry_at v.names v.facts) (codes_of v c.modules) (ap (λ (M : Module). M.context) shown ∙ empty.0))
    (ap (λ (M : Module). M.definitions) shown ∙ empty.1)

pub cleared : (v : Store) (marks tally : List ℕ) (c : Counts) (ms : List ℕ) → Startable v c ms → marks ≡ replicate (max_definitions + c.fields) 0
    → tally ≡ replicate c.definitions 0 → Joinable v marks tally c ms
cleared v marks tally c ms (may_start s holds listed found no-codes no-numbers) e f = record {
  s = s;
  holds = holds;
  listed = listed;
  found = found;
  marked = rw (no-codes, e) (marked_empty (max_definitions + c.fields));
  tallied = rw (no-numbers, f) (marked_empty c.definitions);
  marks_size = ap length e ∙ length-replicate {A = ℕ} (max_definitions + c.fields) 0;
  tally_size = ap length f ∙ length-replicate {A = ℕ} c.definitions 0;
}

-- a cause holds
refuses : (n : ℕ) → 0 < n → (p : Phase) (c : Counts) (r : Judged) (s : State) (f : Field) (u : Store) → r ≡ refusal n p c → n ≡ cause_number (judge s f) → Judges u r s f
refuses n h p c r s f u e law =
    let k : r.cause ≡ n = ap (λ (x : Judged). x.cause) e in
    record { cause = k ∙ law; holds = λ (z : r.cause ≡ 0). absurd (omega arith); phase = λ (z : r.cause ≡ 0). absurd (omega arith) }

module _ (v : Store) (p : Phase) (c : Counts) (a : Bool) (first : a ≡ early p 2) where
  -- the three causes
  cause-law : (s : State) → phase_of p ≡ s.phase → (m : ℕ) (ms : List ℕ)
      → cond a 4 (cond (any (not_ended s) (m ∷ ms)) 7 (cond (repeats same_name (extended_context s (m ∷ ms) (here s))) 8 0)) ≡ cause_number (judge s (extends m ms))
  cause-law s phase m ms = three a _ (any (not_ended s) (m ∷ ms)) _ (repeats same_name (extended_context s (m ∷ ms) (here s))) _ 4 7 8 (first ∙ order-law p s phase (extends m ms)) refl refl

  extends-early : (m : ℕ) (ms : List ℕ) (r : Judged) → a ≡ true → r ≡ refusal 4 p c → Extending v v p c r m ms
  extends-early m ms r e f =
      let k : r.cause ≡ 4 = ap (λ (x : Judged). x.cause) f in
      record {
        judges = λ s h q. refuses 4 (omega arith) p c r s (extends m ms) _ f (rw e at (cause-law s q m ms));
        joined = λ (g : r.cause ≡ 4 → ⊥) (h : r.cause ≡ 7 → ⊥). absurd (g k);
        same = λ g h. refl;
        frame = refl;
      }

  module _ (in_order : a ≡ false) (file : List ℕ) (at count : ℕ) (some-names : 1 ≤ count) (b : Bool) (second : b ≡ missing_in v.heads c.modules (names_at file at count)) where
    listed : names_at file at count ≡ number_at file at ∷ names_at file (at + 2) (count - 1)
    listed = names-turn file at count (count - 1) (omega arith)

    missing-now : (s : State) → Holds v c s → b ≡ any (not_ended s) (number_at file at ∷ names_at file (at + 2) (count - 1))
    missing-now s h = second ∙ missing-law v c s h (names_at file at count) ∙ ap (any (not_ended s)) listed

    cause-now : (s : State) → Holds v c s → phase_of p ≡ s.phase
        → cond b 7 (cond (repeats same_name (extended_context s (number_at file at ∷ names_at file (at + 2) (count - 1)) (here s))) 8 0)
        ≡ cause_number (judge s (extends (number_at file at) (names_at file (at + 2) (count - 1))))
    cause-now s h q =
        ap (λ (x : Bool). cond x 7 (cond (repeats same_name (extended_context s (number_at file at ∷ names_at file (at + 2) (count - 1)) (here s))) 8 0)) (missing-now s h)
        ∙ (rw in_order at (cause-law s q (number_at file at) (names_at file (at + 2) (count - 1))))

    extends-missing : (r : Judged) → b ≡ true → r ≡ refusal 7 p c
        → Extending v v p c r (number_at file at) (names_at file (at + 2) (count - 1))
    extends-missing r e f =
        let k : r.cause ≡ 7 = ap (λ (x : Judged). x.cause) f in
        record {
          judges = λ s h q. refuses 7 (omega arith) p c r s (extends (number_at file at) (names_at file (at + 2) (count - 1))) _ f (rw e at (cause-now s h q));
          joined = λ (g : r.cause ≡ 4 → ⊥) (h : r.cause ≡ 7 → ⊥). absurd (h k);
          same = λ g h. refl;
          frame = refl;
        }

    module _ (all-ended : b ≡ false) (v' : Store) (j : Joined v v' c (names_at file at count)) where
      joined-now : Joined v v' c (number_at file at ∷ names_at file (at + 2) (count - 1))
      joined-now = subst (Joined v v' c) listed j

      module _ (d : Bool) (third : d ≡ repeated_in v'.names (codes_of v' c.modules)) (r : Judged) where
        -- 8
        repeated-now : (s : State) → Holds v c s
            → d ≡ repeats same_name (extended_context s (number_at file at ∷ names_at file (at + 2) (count - 1)) (here s))
        repeated-now s h =
            let t = with_open s (extended_module s (number_at file at ∷ names_at file (at + 2) (count - 1))) in
            let k = joined-now.shows s h in
            third ∙ repeated-law v' c t k c.modules (omega arith) ∙ ap (λ (M : Module). repeats same_name M.context) (current-no v' c t k)

        cause-last : (s : State) → Holds v c s → phase_of p ≡ s.phase
            → cond d 8 0 ≡ cause_number (judge s (extends (number_at file at) (names_at file (at + 2) (count - 1))))
        cause-last s h q = ap (λ (x : Bool). cond x 8 0) (repeated-now s h) ∙ (rw all-ended at (cause-now s h q))

        extends-repeated : d ≡ true → r ≡ refusal 8 p c
            → Extending v v' p c r (number_at file at) (names_at file (at + 2) (count - 1))
        extends-repeated e f =
            let k : r.cause ≡ 8 = ap (λ (x : Judged). x.cause) f in
            record {
              judges = λ s h q. refuses 8 (omega arith) p c r s (extends (number_at file at) (names_at file (at + 2) (count - 1))) _ f (rw e at (cause-last s h q));
              joined = λ g h. joined-now;
              same = λ (g : r.cause ≡ 0 → ⊥) (h : r.cause ≡ 8 → ⊥). absurd (h k);
              frame = j.frame;
            }

        extends-added : d ≡ false → r ≡ judged 0 Inside (after_field c) → c.fields < max_fields
            → Extending v v' p c r (number_at file at) (names_at file (at + 2) (count - 1))
        extends-added e f room =
            let k : r.cause ≡ 0 = ap (λ (x : Judged). x.cause) f in
            record {
              judges = λ s h q. record {
                cause = k ∙ (rw e at (cause-last s h q));
                holds = λ z. subst⁻¹ (λ (x : Counts). Holds v' x (add s (extends (number_at file at) (names_at file (at + 2) (count - 1)))))
                    (ap (λ (x : Judged). x.counts) f)
                    (adds-extends v' c s (number_at file at) (names_at file (at + 2) (count - 1)) (joined-now.shows s h) room);
                phase = λ z. ap (λ (x : Judged). phase_of x.phase) f;
              };
              joined = λ g h. joined-now;
              same = λ (g : r.cause ≡ 0 → ⊥) (h : r.cause ≡ 8 → ⊥). absurd (g k);
              frame = j.frame;
            }

      extends-joined : (r : Judged) → r ≡ joined_answer (repeated_in v'.names (codes_of v' c.modules)) p c → c.fields < max_fields
          → Extending v v' p c r (number_at file at) (names_at file (at + 2) (count - 1))
      unfolding joined_answer
      extends-joined r e room = go (repeated_in v'.names (codes_of v' c.modules)) refl e
        where
          go : (d : Bool) → d ≡ repeated_in v'.names (codes_of v' c.modules) → r ≡ cond d (refusal 8 p c) (judged 0 Inside (after_field c))
              → Extending v v' p c r (number_at file at) (names_at file (at + 2) (count - 1))
          go true q f = extends-repeated true q r refl f
          go false q f = extends-added false q r refl f room

module _ (v : Store) (p : Phase) (c : Counts) (file : List ℕ) (at count cause : ℕ) (some-names : 1 ≤ count)
    (looked : cause ≡ extends_cause p c.modules v.heads (names_at file at count)) (r : Judged) where
  pub extends-refused : (cause ≡ 0 → ⊥) → r ≡ refusal cause p c
      → Extending v v p c r (number_at file at) (names_at file (at + 2) (count - 1))
  unfolding extends_cause
  extends-refused h f = go (early p 2) refl (missing_in v.heads c.modules (names_at file at count)) refl looked
    where
      go : (a : Bool) → a ≡ early p 2 → (b : Bool) → b ≡ missing_in v.heads c.modules (names_at file at count) → cause ≡ cond a 4 (cond b 7 0)
          → Extending v v p c r (number_at file at) (names_at file (at + 2) (count - 1))
      go true q b g e = extends-early v p c true q (number_at file at) (names_at file (at + 2) (count - 1)) r refl (f ∙ ap (λ (n : ℕ). refusal n p c) e)
      go false q true g e = extends-missing v p c false q refl file at count some-names true g r refl (f ∙ ap (λ (n : ℕ). refusal n p c) e)
      go false q false g e = absurd (h e)

  pub extends-taken : (v' : Store) → cause ≡ 0 → Joined v v' c (names_at file at count)
      → r ≡ joined_answer (repeated_in v'.names (codes_of v' c.modules)) p c → c.fields < max_fields
      → Extending v v' p c r (number_at file at) (names_at file (at + 2) (count - 1))
  extends-taken v' z j e room =
      let none = no-cause p c.modules v.heads (names_at file at count) (sym looked ∙ z) in
      extends-joined v p c (early p 2) refl none.0 file at count some-names (missing_in v.heads c.modules (names_at file at count)) refl none.1
      v' j r e room

-- the causes, over the store
pub cause-early : (p : Phase) (modules : ℕ) (heads ns : List ℕ) (a : Bool) → a ≡ early p 2 → a ≡ true → 4 ≡ extends_cause p modules heads ns
unfolding extends_cause
cause-early p modules heads ns a e f = rw (← e, f)

module _ (p : Phase) (modules : ℕ) (heads ns : List ℕ) (a : Bool) (e : a ≡ early p 2) (f : a ≡ false) (b : Bool) (g : b ≡ missing_in heads modules ns) where
  pub cause-missing : b ≡ true → 7 ≡ extends_cause p modules heads ns
  unfolding extends_cause
  cause-missing h = rw (← e, f, ← g, h)

  pub cause-none : b ≡ false → 0 ≡ extends_cause p modules heads ns
  unfolding extends_cause
  cause-none h = rw (← e, f, ← g, h)

pub joined-twice : (d w : Bool) (p : Phase) (c : Counts) (r : Judged) (n : ℕ) → d ≡ w → d ≡ true → n ≡ 8 → r ≡ refusal n p c → r ≡ joined_answer w p c
unfolding joined_answer
joined-twice d w p c r n e f k g = rw (← e, f, ← k) g

pub joined_once : (d w : Bool) (p : Phase) (c after : Counts) → d ≡ w → d ≡ false → after ≡ after_field c → judged 0 Inside after ≡ joined_answer w p c
unfolding joined_answer
joined_once d w p c after e f g = rw (← e, f) (ap (judged 0 Inside) g)
