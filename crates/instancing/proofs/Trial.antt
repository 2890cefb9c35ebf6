-- The additions one after the other, from nothing: MODULE 1, VARIABLE 2, a definition 3, the end; MODULE 4, VARIABLE 2, and module 1
-- instanced as 5. So a store that shows a state is there, and each law's premises can be met.
use mathlib.Core.List.{[], ◌∷◌}
use mathlib.Core.Option.{some}
use mathlib.Core.Path.{◌≡◌, refl}
use lib.ListN.{get_or, length}
use native.Mathlib.Omega.{arith}
use Prim.Native.Nat.{◌+◌}
use Rattle.context.proofs.Adds.{adds-definition, adds-end, adds-module, adds-variable, hold-start}
use Rattle.instancing.proofs.Instancing.{adds-instance}
use Rattle.context.proofs.Lookups.{brought-law}
use Rattle.context.proofs.Room.{count_law}
use Rattle.instancing.specs.Bringing.{instancing}
use Rattle.context.specs.Holds.{Holds}
use Rattle.context.specs.Lookup.{code_under}
use Rattle.context.specs.Entries.{after_declaration, after_definitions, after_end, after_field, begun, declaring, defining, no_counts, own_row, variable_kind}
use Rattle.store.specs.Store.{empty, order_slot}
use Rattle.store.specs.declared.Store.{Store}
use Rattle.rules.specs.Add.{add}
use Rattle.rules.specs.Expression.{Expression, expression}
use Rattle.rules.specs.Field.{begin_module, declare_variable, definition, end_module, instance}
use Rattle.rules.specs.State.{State, start}
use Rattle.theory.specs.Lists.{numbers_from}
use Rattle.context.specs.declared.Counts.{Counts}

abbrev c₁ : Counts
c₁ = after_field no_counts

abbrev c₂ : Counts
c₂ = after_declaration c₁

abbrev c₃ : Counts
c₃ = after_definitions 1 c₂

abbrev c₅ : Counts
c₅ = after_field (after_end c₃)

abbrev c₆ : Counts
c₆ = after_declaration c₅

abbrev s₁ : State
s₁ = add start (begin_module 1)

abbrev s₂ : State
s₂ = add s₁ (declare_variable 2)

module _ (e : Expression) where
  abbrev s₃ : State
  s₃ = add s₂ (definition 3 1 e)

  abbrev s₅ : State
  s₅ = add (add s₃ end_module) (begin_module 4)

  abbrev s₆ : State
  s₆ = add s₅ (declare_variable 2)

  abbrev v₁ : Store
  v₁ = begun empty 0 1

  h₁ : Holds v₁ c₁ s₁
  h₁ = adds-module empty no_counts start hold-start (omega arith) 1

  abbrev v₂ : Store
  v₂ = declaring v₁ c₁ variable_kind 2

  h₂ : Holds v₂ c₂ s₂
  h₂ = adds-variable v₁ c₁ s₁ h₁ (omega arith) 2

  abbrev v₃ : Store
  v₃ = defining v₂ c₂ 3 (own_row 0 1 (s₂.bytes + 6) (length (expression.write e)))

  h₃ : Holds v₃ c₃ s₃
  h₃ = adds-definition v₂ c₂ s₂ h₂ (omega arith) (omega arith) 3 1 e

  abbrev v₅ : Store
  v₅ = begun (begun v₃ 1 0) 1 4

  h₅ : Holds v₅ c₅ s₅
  h₅ =
      adds-module (begun v₃ 1 0) (after_end c₃) (add s₃ end_module) (adds-end v₃ c₃ s₃ h₃ (omega arith) (omega arith)) (omega arith) 4

  abbrev v₆ : Store
  v₆ = declaring v₅ c₅ variable_kind 2

  h₆ : Holds v₆ c₆ s₆
  h₆ = adds-variable v₅ c₅ s₅ h₅ (omega arith) 2

  one-there : get_or v₆.heads (order_slot 0) 0 ≡ 1
  one-there = count_law v₆ c₆ s₆ h₆ 0 (omega arith)

  pub two-modules : Holds (instancing c₆ 5 0 0 0 0 v₆) (after_definitions (get_or v₆.heads (order_slot 0) 0) c₆) (add s₆ (instance 5 0 1 []))
  two-modules =
      adds-instance v₆ c₆ s₆ h₆ (omega arith) 0 1 0 0 0 [] (omega arith) refl (omega (arith, one-there)) 5
      (record { there = omega arith; small = omega arith; plain = λ h. refl }, tt)

  -- 5!3 is the definition that was brought
  pub found-there : code_under (instancing c₆ 5 0 0 0 0 v₆).names (instancing c₆ 5 0 0 0 0 v₆).facts 5 3 (numbers_from 1 1) ≡ some 1
  found-there =
      brought-law (instancing c₆ 5 0 0 0 0 v₆) (after_definitions (get_or v₆.heads (order_slot 0) 0) c₆) (add s₆ (instance 5 0 1 [])) two-modules 5 3 (omega arith) (1 ∷ [])
      (omega arith, tt)
