-- The calls and parameters of a chain's texts are such as a string's bytes can hold: calls below 1280, no more parameters than a shape has bits for.
use mathlib.Core.Bool.{true}
use mathlib.Core.List.{List}
use mathlib.Core.Option.{some}
use mathlib.Core.Path.{◌≡◌}
use borrow.Author.Tests.{lt-ltb, ltb-true}
use lib.Dec.{ltb}
use lib.ListN.{get_or}
use native.Mathlib.Omega.{arith}
use Prim.Native.Nat.{◌+◌, ◌<◌, ◌≤◌, suc, ℕ}
use Rattle.limits.specs.Limits.{max_declarations}
use Rattle.theory.proofs.Bytes.{bytes}
use Rattle.theory.specs.Term.{Arities, Term, WellFormed, kind_arity}
use Rattle.rules.specs.State.{State, params_of}
use Rattle.texts.specs.Text.{Declarations, no_declaration}
use Rattle.store.specs.declared.Store.{Store}
use Rattle.context.specs.declared.Counts.{Counts}
use Rattle.worlds.proofs.Uses.{restrict, restricted, restricted-some, uses-more}
use Rattle.worlds.specs.Rows.{Row, world_of}
use Rattle.worlds.specs.World.{Uses, World}
use Rattle.chains.specs.Ready.{Ready}
use Rattle.chains.specs.Walk.{outer_after}
use Rattle.chains.proofs.Knowing.{NamedIn}
use Rattle.unfolding.specs.CalleeTerm.{Entered, own_term, stand_in_term}
use Rattle.unfolding.specs.StandIn.{arities_along, outermost}
use Rattle.unfolding.proofs.Callees.{own-unfolds, standin-term}
use Rattle.unfolding.proofs.ShapeSteps.{calls_near, own-calls, standin-calls}
use Rattle.symbols.specs.Spell.{max_params}

-- the calls along a chain whose numbers two bytes of a string hold
abbrev pub near_arities : State → Declarations → World → Arities
near_arities s decls w = restricted (λ h. ltb h 1280) (arities_along s decls w)

pub near-known : (s : State) (decls : Declarations) (w : World) (h m : ℕ) → near_arities s decls w h ≡ some m → h < 1280
near-known s decls w h m e = ltb-true h 1280 (restricted-some (λ x. ltb x 1280) (arities_along s decls w) h m e).0

near-formed : (s : State) (decls : Declarations) (w : World) (p : ℕ) (t : Term) → WellFormed (arities_along s decls w) p 0 t → Uses (λ h. h < 1280) t
    → WellFormed (near_arities s decls w) p 0 t
near-formed s decls w p t f u =
    restrict (λ h. ltb h 1280) (arities_along s decls w) p t f (uses-more (λ h. h < 1280) (λ h. ltb h 1280 ≡ true) (λ h q. lt-ltb h 1280 q) t u)

module _ (file refs : List ℕ) (v : Store) (declared : List ℕ) (n D : ℕ) (c : Counts) (s : State) (rs : List Row) (decls : Declarations) (end : ℕ)
    (ready : Ready file refs v declared n c s rs decls end) (there : D < c.definitions) (room : n ≤ max_declarations) (k : ℕ) (numbers currents outers : List ℕ)
    (e : Entered s rs ready.worlds.runs v.facts D k numbers currents outers) where
  pub own-narrow : WellFormed (near_arities s decls (world_of rs D)) (params_of s D) 0 (own_term file refs v.facts decls k numbers currents outers)
  own-narrow =
      near-formed s decls (world_of rs D) (params_of s D) (own_term file refs v.facts decls k numbers currents outers)
      (own-unfolds file refs v declared n D c s rs decls end ready there room k numbers currents outers e bytes).formed
      (calls_near file refs v declared n D c s rs decls end ready there room k numbers currents outers e k (omega arith)
      (own_term file refs v.facts decls k numbers currents outers)
      (own-calls file refs v declared n D c s rs decls end ready there room k numbers currents outers e))

  pub own-few : params_of s D ≤ max_params
  own-few = (own-unfolds file refs v declared n D c s rs decls end ready there room k numbers currents outers e bytes).few

  module _ (l i : ℕ) (on : l < k) (named : NamedIn decls (outermost (suc l) (world_of rs D)) i) where
    pub standin-narrow : WellFormed (near_arities s decls (world_of rs D))
        (outer_after v.facts (get_or outers l 0) (get_or currents l 0) + kind_arity (get_or decls i no_declaration).0) 0
        (stand_in_term file refs v decls numbers currents outers l i)
    standin-narrow =
        near-formed s decls (world_of rs D) _ (stand_in_term file refs v decls numbers currents outers l i)
        (standin-term file refs v declared n D c s rs decls end ready there room k numbers currents outers e l i on named bytes).formed
        (calls_near file refs v declared n D c s rs decls end ready there room k numbers currents outers e l (omega arith)
        (stand_in_term file refs v decls numbers currents outers l i)
        (standin-calls file refs v declared n D c s rs decls end ready there room k numbers currents outers e l i on named))

    pub standin-few : outer_after v.facts (get_or outers l 0) (get_or currents l 0) + kind_arity (get_or decls i no_declaration).0 ≤ max_params
    standin-few = (standin-term file refs v declared n D c s rs decls end ready there room k numbers currents outers e l i on named bytes).few
