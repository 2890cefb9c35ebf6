-- EXTENDS: the modules named are looked up, and joined to the module that is open.
use Rattle.std.specs.Prelude.{Bool, cond, false, not, List, [], ◌∷◌, ◌≡◌, ℕ, ◌+◌, ◌<◌, ltb, length}
use Rattle.limits.specs.Limits.{max_definitions}
use Rattle.theory.specs.Lists.{All, any}
use Rattle.rules.specs.Add.{extended_module}
use Rattle.rules.specs.Field.{extends}
use Rattle.rules.specs.Judge.{not_ended}
use Rattle.rules.specs.State.{Module, State, here}
use Rattle.context.specs.Holds.{Holds, module_no}
use Rattle.context.specs.Joining.{Marked}
use Rattle.context.specs.Parts.{part, place_of}
use Rattle.context.specs.Entries.{codes_of, order_of}
use Rattle.context.specs.declared.Counts.{Counts}
use Rattle.store.specs.declared.Store.{Store}
use Rattle.store.specs.Updates.{with_contexts, with_heads, with_orders}
use Rattle.judge_plain.specs.Causes.{early}
use Rattle.judge_plain.specs.Judges.{Judges, phase_of}
use Rattle.judge_plain.specs.declared.Judged.{Judged}
use Rattle.judge_plain.specs.declared.Phase.{Phase}
use Rattle.judge_plain.specs.declared.Phase.TheVariants.{Begun}

-- 7: some name is not that of a module ended
unfoldable pub missing_in : List ℕ → ℕ → List ℕ → Bool
missing_in heads modules ns = any (λ n. not (ltb (place_of n (part heads 0 modules)) modules)) ns

-- 4, 7; 8 is found when the modules are joined
unfoldable pub extends_cause : Phase → ℕ → List ℕ → List ℕ → ℕ
extends_cause p modules heads ns = cond (early p 2) 4 (cond (missing_in heads modules ns) 7 0)

-- the state with another module open
abbrev pub with_open : State → Module → State
with_open s M =
    record { fields = s.fields; bytes = s.bytes; declarations = s.declarations; phase = s.phase; ended = s.ended; current = M; definitions = s.definitions }

-- the modules ended list only definitions that are there
abbrev pub Listed : State → Counts → Type 0
Listed s c = (q : ℕ) → q < c.modules → All (λ g. g < c.definitions) (module_no s q).definitions

-- EXTENDS writes contexts, orders and heads
abbrev pub Framed : Store → Store → Type 0
Framed v v' = v' ≡ with_heads (with_orders (with_contexts v v'.contexts) v'.orders) v'.heads

-- Joining the modules named needs: a state that is shown, where they are ended; and marks of what the open module has.
pub record Joinable (v : Store) (marks tally : List ℕ) (c : Counts) (ms : List ℕ) : Type 0 where
  pub s : State
  pub holds : Holds v c s
  pub listed : Listed s c
  pub found : any (not_ended s) ms ≡ false
  pub marked : Marked marks (codes_of v c.modules)
  pub tallied : Marked tally (order_of v.orders v.heads c.modules)
  pub marks_size : length marks ≡ max_definitions + c.fields
  pub tally_size : length tally ≡ c.definitions

-- The open module may be empty: then cleared marks are its marks.
pub data Startable (v : Store) (c : Counts) (ms : List ℕ) : Type 0 where
  may_start : (s : State) → Holds v c s → Listed s c → any (not_ended s) ms ≡ false
      → codes_of v c.modules ≡ [] → order_of v.orders v.heads c.modules ≡ [] → Startable v c ms

-- It leaves: whatever state was shown is shown with those modules joined to the open one.
pub record Joined (v v' : Store) (c : Counts) (ms : List ℕ) : Type 0 where
  pub shows : (s : State) → Holds v c s → Holds v' c (with_open s (extended_module s ms))
  pub frame : Framed v v'

-- Before a field: a state is shown, and directly after a module field the open module is empty.
pub data Ready (v : Store) (p : Phase) (c : Counts) : Type 0 where
  is_ready : (s : State) → Holds v c s → Listed s c → (p ≡ Begun → (here s ≡ []) × (s.current.definitions ≡ [])) → Ready v p c

-- An EXTENDS field judged: the answer is the rules', on 0 the field is added; on 8 too the modules are joined; on 4 and 7 nothing changes.
pub record Extending (v v' : Store) (p : Phase) (c : Counts) (r : Judged) (m : ℕ) (ms : List ℕ) : Type 0 where
  pub judges : (s : State) → Holds v c s → phase_of p ≡ s.phase → Judges v' r s (extends m ms)
  pub joined : (r.cause ≡ 4 → ⊥) → (r.cause ≡ 7 → ⊥) → Joined v v' c (m ∷ ms)
  pub same : (r.cause ≡ 0 → ⊥) → (r.cause ≡ 8 → ⊥) → v' ≡ v
  pub frame : Framed v v'
