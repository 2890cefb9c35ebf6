-- What the laws ask of a state holds in every state that lawful fields reach.
use mathlib.Core.List.{List, [], ◌∷◌}
use mathlib.Core.Option.{none, some}
use mathlib.Core.Path.{◌∙◌, ◌≡◌, ap, refl, subst, sym}
use mathlib.Core.Bool.{Bool, ◌&&◌, cond, false, true}
use lib.Dec.{T, ltb, ltb→lt}
use lib.ListN.{get_or-append, length}
use native.Mathlib.Omega.{arith}
use Prim.Native.Nat.{◌<◌, ℕ}
use Rattle.context.specs.Holds.{Holds, module_no}
use Rattle.store.specs.declared.Store.{Store}
use Rattle.context.specs.declared.Counts.{Counts}
use Rattle.judge_plain.specs.Extending.{Listed, Ready, is_ready}
use Rattle.judge_plain.specs.Judges.{cause_number, phase_of}
use Rattle.judge_plain.specs.declared.Phase.TheVariants.{Begun}
use Rattle.judge_plain.specs.declared.Phase.{Phase}
use Rattle.laws.proofs.Invariant.{Good, ModuleKnown}
use Rattle.rules.specs.Add.{add}
use Rattle.rules.specs.Field.{Field, assume, begin_module, declare_constant, declare_variable, definition, end_module, extends, instance, theorem}
use Rattle.rules.specs.Judge.{Cause, causes, first_cause, judge}
use Rattle.rules.specs.State.{Module, State, begun, inside, no_module, outside, start}
use Rattle.rules.specs.State as rules
use Rattle.theory.proofs.Lists.{and_parts, at_all}
use Rattle.theory.specs.Lists.{All}

-- outside a module, and directly after a module field, the open module is empty
abbrev pub EmptyIn : rules.Phase → Module → Type 0
EmptyIn outside M = (M.context ≡ []) × (M.definitions ≡ [])
EmptyIn begun M = (M.context ≡ []) × (M.definitions ≡ [])
EmptyIn inside M = Unit {0}

abbrev pub Fresh : State → Type 0
Fresh s = EmptyIn s.phase s.current

pub fresh_start : Fresh start
fresh_start = (refl, refl)

pub fresh-add : (s : State) (f : Field) → Fresh (add s f)
fresh-add s (begin_module n) = (refl, refl)
fresh-add s (extends m ms) = tt
fresh-add s (declare_constant n k) = tt
fresh-add s (declare_variable n) = tt
fresh-add s (definition n p e) = tt
fresh-add s (instance n p m ss) = tt
fresh-add s end_module = (refl, refl)
fresh-add s (assume e) = tt
fresh-add s (theorem e) = tt

-- the modules ended list only definitions that are there
pub good-listed : (v : Store) (c : Counts) (s : State) → Holds v c s → Good s → Listed s c
good-listed v c s holds good q h =
    let l : q < length s.ended = subst (λ (n : ℕ). q < n) holds.modules h in
    let known : ModuleKnown (length s.definitions) (module_no s q) =
    subst (ModuleKnown (length s.definitions)) (sym (get_or-append s.ended (s.current ∷ []) no_module q l)) (at_all (ModuleKnown (length s.definitions)) s.ended q no_module good.ended l) in
    subst (λ (n : ℕ). All (λ g. g < n) (module_no s q).definitions) (sym holds.definitions) known.1

-- so an EXTENDS field may be judged
pub ready : (v : Store) (p : Phase) (c : Counts) (s : State) → Holds v c s → phase_of p ≡ s.phase → Good s → Fresh s → Ready v p c
ready v p c s holds phase good fresh =
    is_ready s holds (good-listed v c s holds good)
    (λ (e : p ≡ Begun). let q : s.phase ≡ begun = sym phase ∙ ap phase_of e in subst (λ x. EmptyIn x s.current) q fresh)

-- an answer of 0 is no cause: every cause has a number above 0
abbrev numbers : List Cause → Bool
numbers [] = true
numbers (c ∷ cs) = ltb 0 c.0 && numbers cs

above : (cs : List Cause) → T (numbers cs) → cause_number (first_cause cs) ≡ 0 → first_cause cs ≡ none
above [] h e = refl
above (c ∷ cs) h e = go c.1 (λ z. above cs (and_parts (ltb 0 c.0) (numbers cs) h).1 z) e
  where
    go : (b : Bool) → (cause_number (first_cause cs) ≡ 0 → first_cause cs ≡ none) → cause_number (cond b (some c.0) (first_cause cs)) ≡ 0
        → cond b (some c.0) (first_cause cs) ≡ none
    go true k z = absurd (omega (arith, ltb→lt 0 c.0 (and_parts (ltb 0 c.0) (numbers cs) h).0))
    go false k z = k z

numbered : (s : State) (f : Field) → T (numbers (causes s f))
numbered s (begin_module n) = tt
numbered s (extends m ms) = tt
numbered s (declare_constant n k) = tt
numbered s (declare_variable n) = tt
numbered s (definition n p e) = tt
numbered s (instance n p m ss) = tt
numbered s end_module = tt
numbered s (assume e) = tt
numbered s (theorem e) = tt

pub no-cause-left : (s : State) (f : Field) → cause_number (judge s f) ≡ 0 → judge s f ≡ none
no-cause-left s f e = above (causes s f) (numbered s f) e
