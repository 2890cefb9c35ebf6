-- The shapes worked out in order, level by level along each chain, are right.
use mathlib.Core.List.{List, [], ◌∷◌}
use mathlib.Core.Logic.{◌⊎◌, inl, inr}
use mathlib.Core.Path.{◌∙◌, ◌≡◌, ap, subst, sym}
use lib.ListN.{drop, get_or, length}
use lib.Seq.{drop-length}
use native.Mathlib.Omega.{arith}
use Prim.Native.Nat.{◌+◌, ◌-◌, ◌<◌, ◌≤◌, suc, zero, ℕ}
use Rattle.limits.specs.Limits.{max_declarations, max_definitions}
use Rattle.symbols.specs.Spell.{shape_of, spell}
use Rattle.theory.specs.Term.{kind_arity}
use Rattle.rules.specs.State.{State, params_of}
use Rattle.texts.specs.Text.{Declarations, no_declaration}
use Rattle.store.specs.declared.Store.{Store}
use Rattle.context.specs.declared.Counts.{Counts}
use Rattle.worlds.specs.Rows.{Row, world_of}
use Rattle.worlds.specs.World.{World}
use Rattle.chains.specs.Ready.{Ready}
use Rattle.chains.specs.Walk.{outer_after}
use Rattle.chains.proofs.Knowing.{NamedIn}
use Rattle.unfolding.specs.CalleeTerm.{Entered, own_term, sense_along, sense_of, stand_in_term}
use Rattle.unfolding.specs.InWorld.{stand_in}
use Rattle.unfolding.specs.Sense.{Right}
use Rattle.unfolding.specs.StandIn.{Callable, StandInOf, entry_of, outermost}
use Rattle.unfolding.proofs.CalleeRight.{callee-right}
use Rattle.unfolding.proofs.Callees.{chain_length, few-below, few-declared, own-callee, right-along, right-back, standin-callee}
use Rattle.unfolding.proofs.StandIns.{StandInNumber, standin-number}

-- the shapes of the stand-ins of the levels up to l are those of their strings
abbrev pub StandInsShaped : List ℕ → List ℕ → Store → List Row → Declarations → ℕ → List ℕ → List ℕ → List ℕ → (ℕ → ℕ) → ℕ → Type 0
StandInsShaped file refs v rs decls D numbers currents outers σ l =
    (j : ℕ) → j < l → (i : ℕ) → NamedIn decls (outermost (suc j) (world_of rs D)) i
    → σ (stand_in (suc j) (max_definitions + i)) ≡ shape_of (spell σ (stand_in_term file refs v decls numbers currents outers j i))

-- every definition below D has a right shape
abbrev pub RightBelow : State → (ℕ → ℕ) → ℕ → Type 0
RightBelow s σ D = (h : ℕ) → h < D → Right (sense_of s σ) h

pub callable-cases : (decls : Declarations) (D : ℕ) (w : World) (n : ℕ) → Callable decls D w n → (n < D) ⊎ StandInOf decls w n
callable-cases decls D [] n h = inl h
callable-cases decls D (l ∷ w) n h = h

pub callable-outside : (decls : Declarations) (D : ℕ) (w : World) (n : ℕ) → Callable decls D (outermost 0 w) n → n < D
callable-outside decls D w n h =
    let a : length w - 0 ≡ length w = omega arith in
    let z : outermost 0 w ≡ [] = ap (λ (j : ℕ). drop j w) a ∙ drop-length w in
    subst (λ (x : World). Callable decls D x n) z h

module _ (file refs : List ℕ) (v : Store) (declared : List ℕ) (n D : ℕ) (c : Counts) (s : State) (rs : List Row) (decls : Declarations) (end : ℕ)
    (ready : Ready file refs v declared n c s rs decls end) (there : D < c.definitions) (room : n ≤ max_declarations) (k : ℕ) (numbers currents outers : List ℕ)
    (e : Entered s rs ready.worlds.runs v.facts D k numbers currents outers) where
  abbrev W : World
  W = world_of rs D

  module _ (σ : ℕ → ℕ) (below : RightBelow s σ D) where
    definition-right : (h : ℕ) → h < D → Right (sense_along s decls W σ) h
    definition-right h q =
        let few = few-below file refs v declared n D c s rs decls end ready there room k numbers currents outers e in
        right-along s decls W σ h (omega (arith, few)) (below h q)

    -- what a text at level l may call
    pub level-right : (l : ℕ) → l ≤ k → StandInsShaped file refs v rs decls D numbers currents outers σ l
        → (h : ℕ) → Callable decls D (outermost l (world_of rs D)) h → Right (sense_along s decls (world_of rs D) σ) h
    level-right zero b shaped h call = definition-right h (callable-outside decls D W h call)
    level-right (suc l) b shaped h call = go (callable-cases decls D (outermost (suc l) W) h call) (level-right l (omega arith) (λ j q. shaped j (omega arith)))
      where
        go : (h < D) ⊎ StandInOf decls (outermost (suc l) W) h → ((g : ℕ) → Callable decls D (outermost l W) g → Right (sense_along s decls W σ) g) → Right (sense_along s decls W σ) h
        go (inl q) inner = definition-right h q
        go (inr x) inner =
            let few = few-declared file refs v declared n D c s rs decls end ready there room k numbers currents outers e in
            let long = chain_length file refs v declared n D c s rs decls end ready there room k numbers currents outers e in
            let y : StandInNumber decls W (suc l) h = standin-number decls W (suc l) h few (omega (arith, long)) x in
            let i : ℕ = entry_of h in
            subst (Right (sense_along s decls W σ)) (sym y.number)
            (callee-right (sense_along s decls W σ) (stand_in (suc l) (max_definitions + i))
            (outer_after v.facts (get_or outers l 0) (get_or currents l 0) + kind_arity (get_or decls i no_declaration).0)
            (stand_in_term file refs v decls numbers currents outers l i)
            (standin-callee file refs v declared n D c s rs decls end ready there room k numbers currents outers e σ l i (omega arith) y.named
            (shaped l (omega arith) i y.named) inner))

    module _ (shaped : StandInsShaped file refs v rs decls D numbers currents outers σ k)
        (own : σ D ≡ shape_of (spell σ (own_term file refs v.facts decls k numbers currents outers))) where
      pub own-right : Right (sense_along s decls (world_of rs D) σ) D
      own-right =
          callee-right (sense_along s decls W σ) D (params_of s D) (own_term file refs v.facts decls k numbers currents outers)
          (own-callee file refs v declared n D c s rs decls end ready there room k numbers currents outers e σ own (level-right k (omega arith) shaped))

      pub shape-right : Right (sense_of s σ) D
      shape-right = right-back s decls W σ D (few-below file refs v declared n D c s rs decls end ready there room k numbers currents outers e) own-right
