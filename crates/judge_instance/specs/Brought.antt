-- What bringing leaves: the store with the field added, the forms of what it brought, and the answer.
use Rattle.std.specs.Prelude.{List, ◌≡◌, ℕ, ◌+◌, ◌*◌, ◌≤◌, ◌<◌, get_or}
use Rattle.store.specs.Store.{context_slot, order_slot}
use Rattle.store.specs.declared.Store.{Store}
use Rattle.context.specs.Entries.{after_definitions, context_codes, order_of}
use Rattle.context.specs.declared.Counts.{Counts}
use Rattle.chains.specs.Results.{BroughtForms}
use Rattle.entering.specs.Substitutes.{around}
use Rattle.instancing.specs.Bringing.{instancing}
use Rattle.judge_plain.specs.Causes.{judged, refusal}
use Rattle.judge_plain.specs.declared.Judged.{Judged}
use Rattle.judge_plain.specs.declared.Phase.{Phase}
use Rattle.judge_plain.specs.declared.Phase.TheVariants.{Inside}
use Rattle.limits.specs.Limits.{file_bytes, max_arity, max_declarations, max_definitions, max_modules}
use Rattle.limits.specs.Sizes.{context_length, max_fields}
use Rattle.standing.specs.Shown.{owner_shift}
use Rattle.standing.specs.Standing.{itselves}
use Rattle.judge_instance.specs.Levels.{LaterJudged}

pub record FieldBrought (file refs : List ℕ) (v v' : Store) (c : Counts) (name p q count at : ℕ) (words words' : List ℕ) (r : Judged) : Type 0 where
  pub stored : v' ≡ instancing c name p q at (count + owner_shift * c.modules) v
  pub forms : BroughtForms file refs v' v'.declared c.declarations c.definitions (get_or v.heads (order_slot q) 0) words words'
  pub answered : r ≡ judged 0 Inside (after_definitions (get_or v.heads (order_slot q) 0) c)

-- what bringing asks: room for what is brought
pub record Bringable (v : Store) (words : List ℕ) (c : Counts) (p q at : ℕ) : Type 0 where
  pub modules : c.modules ≤ max_modules
  pub earlier : q < c.modules
  pub fields : c.fields < max_fields
  pub declarations : c.declarations ≤ max_declarations
  pub params : p ≤ max_arity
  pub inside : at ≤ file_bytes
  pub definitions : c.definitions + get_or v.heads (order_slot q) 0 ≤ max_definitions
  pub context_room : get_or v.heads (context_slot c.modules) 0 + get_or v.heads (order_slot q) 0 < context_length
  pub order_room : get_or v.heads (order_slot c.modules) 0 + get_or v.heads (order_slot q) 0 ≤ max_definitions

-- what comes after the names is judged, and if no cause holds the field is brought
pub record FieldLawful (file refs : List ℕ) (v v' : Store) (c : Counts) (phase : Phase) (name p q count at : ℕ) (words words' : List ℕ) (r : Judged)
    : Type 0 where
  pub cause : ℕ
  pub later : LaterJudged (around file refs itselves words v.names v.facts v.contexts v.heads)
      (record { outer = 0; params = p; owner = c.modules; start = at; count = count }) (context_codes v.contexts v.heads q) (order_of v.orders v.heads q) cause
  pub unlawful : (cause ≡ 0 → ⊥) → r ≡ refusal cause phase c
  pub lawful : cause ≡ 0 → FieldBrought file refs v v' c name p q count at words words' r
