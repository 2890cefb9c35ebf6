-- The store shows the state after the field.
use mathlib.Core.Bool.{false}
use mathlib.Core.List.{List, []}
use mathlib.Core.Path.{◌≡◌}
use lib.ListN.{get_or, length}
use native.Mathlib.Omega.{arith}
use Prim.Native.Nat.{◌+◌, ◌<◌, ◌≤◌, ℕ}
use Rattle.context.specs.Holds.{Holds, module_no}
use Rattle.context.specs.Entries.{after_definitions}
use Rattle.store.specs.Store.{order_slot}
use Rattle.store.specs.declared.Store.{Store}
use Rattle.context.specs.declared.Counts.{Counts}
use Rattle.instancing.proofs.Instancing.{Ready, adds-instance}
use Rattle.instancing.specs.Bringing.{instancing}
use Rattle.laws.proofs.Invariant.{Good, source_known}
use Rattle.laws.proofs.Paths.{Paths, paths-empty, source-paths}
use Rattle.laws.proofs.Within.{Within}
use Rattle.limits.specs.Limits.{max_arity, max_definitions}
use Rattle.limits.specs.Sizes.{max_fields}
use Rattle.rules.specs.Add.{add}
use Rattle.rules.specs.Field.{Substitution, instance}
use Rattle.rules.specs.Instance.{source}
use Rattle.rules.specs.Judge.{has_named_instance}
use Rattle.rules.specs.State.{State, definition_at, no_definition}
use Rattle.theory.proofs.Lists.{at_all}
use Rattle.worlds.proofs.Fields.{all_both}

module _ (v : Store) (c : Counts) (s : State) (holds : Holds v c s) (good : Good s) (within : Within s) (room : c.fields < max_fields) (n p m q at noted : ℕ)
    (ss : List Substitution) (earlier : q < c.modules) (found : source s m ≡ module_no s q) (few : c.definitions + get_or v.heads (order_slot q) 0 ≤ max_definitions) where
  pub holds_after : Paths s → p ≤ max_arity → has_named_instance (source s m) ≡ false
      → Holds (instancing c n p q at noted v) (after_definitions (get_or v.heads (order_slot q) 0) c) (add s (instance n p m ss))
  holds_after paths small clear =
      adds-instance v c s holds room p m q at noted ss earlier found few n
      (all_both (λ g. g < length s.definitions) (λ g. (definition_at s g).path ≡ []) (Ready s p n)
      (λ g l e. record {
        there = l;
        small = omega (arith, at_all (λ d. d.params ≤ max_arity) s.definitions g no_definition within.params l);
        plain = λ _. e;
      })
      (source s m).definitions (source_known (length s.definitions) s m good.ended).1 (paths-empty s (source s m) (source-paths s paths m) clear))
