-- What the additions require follows where the store shows a state.
use mathlib.Core.Path.{◌∙◌, ◌≡◌, ap, sym}
use lib.ListN.{get_or, length}
use native.Mathlib.Omega.{arith}
use Prim.Native.Nat.{◌*◌, ◌+◌, ◌<◌, ◌≤◌, ℕ}
use Rattle.context.proofs.Parts.{part_length}
use Rattle.context.specs.Holds.{Holds, module_no}
use Rattle.context.specs.Entries.{order_of}
use Rattle.store.specs.Store.{context_slot, kind_at, order_slot}
use Rattle.store.specs.declared.Store.{Store}
use Rattle.limits.specs.Limits.{max_definitions}
use Rattle.limits.specs.Sizes.{context_length, max_fields}
use Rattle.rules.specs.State.{Added, Module, State, params_of}
use Rattle.context.specs.declared.Counts.{Counts}

module _ (v : Store) (c : Counts) (s : State) (holds : Holds v c s) where
  -- a module's definitions, and how many there are
  pub order-law : (q : ℕ) → q ≤ c.modules → order_of v.orders v.heads q ≡ (module_no s q).definitions
  order-law q h = ap (λ (M : Module). M.definitions) (holds.shown q h)

  pub count_law : (q : ℕ) → q ≤ c.modules → get_or v.heads (order_slot q) 0 ≡ length (module_no s q).definitions
  count_law q h = sym (part_length v.orders (q * max_definitions) (get_or v.heads (order_slot q) 0)) ∙ ap length (order-law q h)

  -- a definition's parameter count
  pub params-law : (g : ℕ) → g < c.definitions → kind_at v.facts g ≡ params_of s g
  params-law g h = ap (λ (d : Added). d.params) (holds.described g h)

  pub context-space : c.fields < max_fields → get_or v.heads (context_slot c.modules) 0 < context_length
  context-space room = let within = holds.sized.context_room c.modules (omega arith) in omega (arith, holds.sized.definitions)

  pub order-space : c.definitions < max_definitions → get_or v.heads (order_slot c.modules) 0 < max_definitions
  order-space room = let within = holds.sized.order_room c.modules (omega arith) in omega arith

  module _ (n : ℕ) (few : c.definitions + n ≤ max_definitions) where
    pub context-space-for : c.fields < max_fields → get_or v.heads (context_slot c.modules) 0 + n < context_length
    context-space-for room = let within = holds.sized.context_room c.modules (omega arith) in omega arith

    pub order-space-for : get_or v.heads (order_slot c.modules) 0 + n ≤ max_definitions
    order-space-for = let within = holds.sized.order_room c.modules (omega arith) in omega arith
