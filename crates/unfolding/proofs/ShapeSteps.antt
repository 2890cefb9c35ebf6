-- The shapes in one table, stored one after another: what each store keeps.
use mathlib.Core.List.{List}
use mathlib.Core.Logic.{◌⊎◌, inl, inr}
use mathlib.Core.Path.{◌∙◌, ◌≡◌, ap, subst, sym}
use lib.ListN.{get_or, length}
use native.Mathlib.Decide.{dec_lt}
use native.Mathlib.Omega.{arith}
use Prim.Native.Nat.{◌*◌, ◌+◌, ◌<◌, ◌≤◌, suc, ℕ}
use Rattle.limits.specs.Limits.{max_declarations, max_definitions}
use Rattle.symbols.specs.Spell.{shape_limit, shape_of, spell}
use Rattle.theory.proofs.Bytes.{bytes}
use Rattle.theory.proofs.Size.{sizes}
use Rattle.theory.specs.Term.{Term, kind_arity}
use Rattle.rules.specs.State.{State, params_of}
use Rattle.texts.specs.Text.{Declarations, no_declaration}
use Rattle.store.specs.declared.Store.{Store}
use Rattle.context.specs.declared.Counts.{Counts}
use Rattle.worlds.proofs.Uses.{uses-more}
use Rattle.worlds.specs.Rows.{Row, world_of}
use Rattle.worlds.specs.World.{Uses, World}
use Rattle.chains.specs.Ready.{Ready}
use Rattle.chains.specs.Walk.{outer_after}
use Rattle.chains.proofs.Knowing.{NamedIn}
use Rattle.unfolding.specs.CalleeTerm.{Entered, own_term, sense_along, sense_of, stand_in_term}
use Rattle.unfolding.specs.InWorld.{stand_in}
use Rattle.unfolding.specs.Sense.{Callee, Right, Stands}
use Rattle.unfolding.specs.StandIn.{Callable, StandInOf, outermost}
use Rattle.unfolding.proofs.AllRight.{RightBelow, StandInsShaped, callable-cases, level-right, shape-right}
use Rattle.unfolding.proofs.Callees.{chain_length, few-below, few-declared, own-callee, own-unfolds, right-along, right-shapes, standin-callee, standin-term}
use Rattle.unfolding.proofs.RightShape.{right-shape}
use Rattle.unfolding.proofs.ShapeSame.{shape-low}
use Rattle.unfolding.proofs.SpellAgree.{spell-agree}
use Rattle.unfolding.proofs.StandIns.{StandInNumber, standin-number}

-- two tables have the same shapes of the definitions below D and of the stand-ins whose numbers are below b
abbrev pub Agreed : (ℕ → ℕ) → (ℕ → ℕ) → ℕ → ℕ → Type 0
Agreed σ σ' D b = ((h : ℕ) → h < D → σ h ≡ σ' h) × ((h : ℕ) → max_definitions ≤ h → h < b → σ h ≡ σ' h)

-- the numbers of the stand-ins of level l end here
abbrev pub level_end : ℕ → ℕ
level_end l = max_definitions + max_declarations * suc l

-- so far: all stand-ins of the levels up to l, and of the next level those of the first i declarations
abbrev pub ShapedTo : List ℕ → List ℕ → Store → List Row → Declarations → ℕ → List ℕ → List ℕ → List ℕ → (ℕ → ℕ) → ℕ → ℕ → Type 0
ShapedTo file refs v rs decls D numbers currents outers σ l i =
    StandInsShaped file refs v rs decls D numbers currents outers σ l
    × ((j : ℕ) → j < i → NamedIn decls (outermost (suc l) (world_of rs D)) j
    → σ (stand_in (suc l) (max_definitions + j)) ≡ shape_of (spell σ (stand_in_term file refs v decls numbers currents outers l j)))

pub agreed-less : (σ σ' : ℕ → ℕ) (D a b : ℕ) → a ≤ b → Agreed σ σ' D b → Agreed σ σ' D a
agreed-less σ σ' D a b l x = (x.0, λ h q r. x.1 h q (omega arith))

pub below-kept : (s : State) (σ σ' : ℕ → ℕ) (D : ℕ) → ((h : ℕ) → h < D → σ h ≡ σ' h) → RightBelow s σ D → RightBelow s σ' D
below-kept s σ σ' D e r h q = right-shapes s σ σ' h (e h q) (r h q)

module _ (file refs : List ℕ) (v : Store) (declared : List ℕ) (n D : ℕ) (c : Counts) (s : State) (rs : List Row) (decls : Declarations) (end : ℕ)
    (ready : Ready file refs v declared n c s rs decls end) (there : D < c.definitions) (room : n ≤ max_declarations) (k : ℕ) (numbers currents outers : List ℕ)
    (e : Entered s rs ready.worlds.runs v.facts D k numbers currents outers) where
  abbrev W : World
  W = world_of rs D

  abbrev own : Term
  own = own_term file refs v.facts decls k numbers currents outers

  abbrev term : ℕ → ℕ → Term
  term l i = stand_in_term file refs v decls numbers currents outers l i

  low : D < max_definitions
  low = few-below file refs v declared n D c s rs decls end ready there room k numbers currents outers e

  few : length decls ≤ max_declarations
  few = few-declared file refs v declared n D c s rs decls end ready there room k numbers currents outers e

  long : k ≡ length W
  long = chain_length file refs v declared n D c s rs decls end ready there room k numbers currents outers e

  -- where the numbers are that a text of level l may call
  pub called-where : (l : ℕ) → l ≤ k → (h : ℕ) → Callable decls D (outermost l (world_of rs D)) h → (h < D) ⊎ ((max_definitions ≤ h) × (h < level_end l))
  called-where l q h call = go (callable-cases decls D (outermost l W) h call)
    where
      go : (h < D) ⊎ StandInOf decls (outermost l W) h → (h < D) ⊎ ((max_definitions ≤ h) × (h < level_end l))
      go (inl x) = inl x
      go (inr x) =
          let y : StandInNumber decls W l h = standin-number decls W l h few (omega (arith, long)) x in
          inr (y.high, omega (arith, y.number, y.named.0, few))

  pub own-calls : Uses (Callable decls D (outermost k (world_of rs D))) (own_term file refs v.facts decls k numbers currents outers)
  own-calls = (own-unfolds file refs v declared n D c s rs decls end ready there room k numbers currents outers e bytes).calls

  pub standin-calls : (l i : ℕ) → l < k → NamedIn decls (outermost (suc l) (world_of rs D)) i
      → Uses (Callable decls D (outermost l (world_of rs D))) (stand_in_term file refs v decls numbers currents outers l i)
  standin-calls l i on named = (standin-term file refs v declared n D c s rs decls end ready there room k numbers currents outers e l i on named bytes).calls

  -- every call of these is below 1280
  pub calls_near : (l : ℕ) → l ≤ k → (t : Term) → Uses (Callable decls D (outermost l (world_of rs D))) t → Uses (λ h. h < 1280) t
  calls_near l q t u = uses-more (Callable decls D (outermost l W)) (λ h. h < 1280) near t u
    where
      near : (h : ℕ) → Callable decls D (outermost l W) h → h < 1280
      near h x = go (called-where l q h x)
        where
          go : (h < D) ⊎ ((max_definitions ≤ h) × (h < level_end l)) → h < 1280
          go (inl y) = omega (arith, low)
          go (inr y) = omega (arith, y.1, e.few)

  module _ (σ σ' : ℕ → ℕ) where
    text-agree : (l : ℕ) → l ≤ k → Agreed σ σ' D (level_end l) → (t : Term) → Uses (Callable decls D (outermost l W)) t → spell σ t ≡ spell σ' t
    text-agree l q a t u = spell-agree σ σ' t 0 (uses-more (Callable decls D (outermost l W)) (λ h. σ h ≡ σ' h) alike t u)
      where
        alike : (h : ℕ) → Callable decls D (outermost l W) h → σ h ≡ σ' h
        alike h x = go (called-where l q h x)
          where
            go : (h < D) ⊎ ((max_definitions ≤ h) × (h < level_end l)) → σ h ≡ σ' h
            go (inl y) = a.0 h y
            go (inr y) = a.1 h y.0 y.1

    pub own-agree : Agreed σ σ' D (level_end k)
        → spell σ (own_term file refs v.facts decls k numbers currents outers) ≡ spell σ' (own_term file refs v.facts decls k numbers currents outers)
    own-agree a = text-agree k (omega arith) a own own-calls

    pub standin-agree : (l i : ℕ) → l < k → NamedIn decls (outermost (suc l) (world_of rs D)) i → Agreed σ σ' D (level_end l)
        → spell σ (stand_in_term file refs v decls numbers currents outers l i) ≡ spell σ' (stand_in_term file refs v decls numbers currents outers l i)
    standin-agree l i on named a = text-agree l (omega arith) a (term l i) (standin-calls l i on named)

    -- a stand-in of a level, after a store further on
    shape-kept : (b l i : ℕ) → l < k → NamedIn decls (outermost (suc l) W) i → stand_in (suc l) (max_definitions + i) < b → Agreed σ σ' D b
        → σ (stand_in (suc l) (max_definitions + i)) ≡ shape_of (spell σ (term l i)) → σ' (stand_in (suc l) (max_definitions + i)) ≡ shape_of (spell σ' (term l i))
    shape-kept b l i on named q a x =
        sym (a.1 (stand_in (suc l) (max_definitions + i)) (omega arith) q) ∙ x
        ∙ ap shape_of (standin-agree l i on named (agreed-less σ σ' D (level_end l) b (omega arith) a))

    pub shaped-kept : (l : ℕ) → l ≤ k → Agreed σ σ' D (level_end l) → StandInsShaped file refs v rs decls D numbers currents outers σ l
        → StandInsShaped file refs v rs decls D numbers currents outers σ' l
    shaped-kept l b a x j q i named = shape-kept (level_end l) j i (omega arith) named (omega (arith, named.0, few)) a (x j q i named)

    -- the store of the shape of the stand-in of declaration i
    pub shaped-store : (l i : ℕ) → l < k → Agreed σ σ' D (stand_in (suc l) (max_definitions + i)) → ShapedTo file refs v rs decls D numbers currents outers σ l i
        → (NamedIn decls (outermost (suc l) (world_of rs D)) i
        → σ' (stand_in (suc l) (max_definitions + i)) ≡ shape_of (spell σ (stand_in_term file refs v decls numbers currents outers l i)))
        → ShapedTo file refs v rs decls D numbers currents outers σ' l (suc i)
    shaped-store l i on a x new = (
      shaped-kept l (omega arith) (agreed-less σ σ' D (level_end l) (stand_in (suc l) (max_definitions + i)) (omega arith) a) x.0,
      λ j q named. go j q named (dec_lt j i),
    )
      where
        go : (j : ℕ) → j < suc i → NamedIn decls (outermost (suc l) W) j → Dec (j < i) → σ' (stand_in (suc l) (max_definitions + j)) ≡ shape_of (spell σ' (term l j))
        go j q named (yes r) = shape-kept (stand_in (suc l) (max_definitions + i)) l j on named (omega arith) a (x.1 j r named)
        go j q named (no r) =
            let z : j ≡ i = omega arith in
            let here : NamedIn decls (outermost (suc l) W) i = subst (NamedIn decls (outermost (suc l) W)) z named in
            subst (λ (y : ℕ). σ' (stand_in (suc l) (max_definitions + y)) ≡ shape_of (spell σ' (term l y))) (sym z)
            (new here ∙ ap shape_of (standin-agree l i on here (agreed-less σ σ' D (level_end l) (stand_in (suc l) (max_definitions + i)) (omega arith) a)))

  pub shaped-start : (σ : ℕ → ℕ) → ShapedTo file refs v rs decls D numbers currents outers σ 0 0
  shaped-start σ = (λ j q. absurd (omega arith), λ j q. absurd (omega arith))

  pub shaped-next : (σ : ℕ → ℕ) (l i : ℕ) → length decls ≤ i → ShapedTo file refs v rs decls D numbers currents outers σ l i
      → ShapedTo file refs v rs decls D numbers currents outers σ (suc l) 0
  shaped-next σ l i b x = (λ j q a named. go j q a named (dec_lt j l), λ j q. absurd (omega arith))
    where
      go : (j : ℕ) → j < suc l → (a : ℕ) → NamedIn decls (outermost (suc j) W) a → Dec (j < l) → σ (stand_in (suc j) (max_definitions + a)) ≡ shape_of (spell σ (term j a))
      go j q a named (yes r) = x.0 j r a named
      go j q a named (no r) =
          let z : j ≡ l = omega arith in
          let here : NamedIn decls (outermost (suc l) W) a = subst (λ (y : ℕ). NamedIn decls (outermost (suc y) W) a) z named in
          subst (λ (y : ℕ). σ (stand_in (suc y) (max_definitions + a)) ≡ shape_of (spell σ (term y a))) (sym z) (x.1 a (omega (arith, here.0)) here)

  -- the store of the shape of definition D
  pub shapes-on : (σ σ' : ℕ → ℕ) → Agreed σ σ' D (level_end k) → RightBelow s σ D → StandInsShaped file refs v rs decls D numbers currents outers σ k
      → σ' D ≡ shape_of (spell σ (own_term file refs v.facts decls k numbers currents outers)) → RightBelow s σ' (suc D)
  shapes-on σ σ' a below shaped new h q = go (dec_lt h D)
    where
      below' : RightBelow s σ' D
      below' = below-kept s σ σ' D a.0 below

      go : Dec (h < D) → Right (sense_of s σ') h
      go (yes r) = below' h r
      go (no r) =
          let z : h ≡ D = omega arith in
          subst (Right (sense_of s σ')) (sym z)
          (shape-right file refs v declared n D c s rs decls end ready there room k numbers currents outers e σ' below'
          (shaped-kept σ σ' k (omega arith) a shaped) (new ∙ ap shape_of (own-agree σ σ' a)))

  module _ (σ : ℕ → ℕ) (below : RightBelow s σ D) where
    pub own-stands : StandInsShaped file refs v rs decls D numbers currents outers σ k
        → Stands (sense_along s decls (world_of rs D) σ) (params_of s D) (own_term file refs v.facts decls k numbers currents outers)
    own-stands shaped =
        record {
          formed = (own-unfolds file refs v declared n D c s rs decls end ready there room k numbers currents outers e bytes).formed;
          calls =
              uses-more (Callable decls D (outermost k W)) (Right (sense_along s decls W σ))
              (level-right file refs v declared n D c s rs decls end ready there room k numbers currents outers e σ below k (omega arith) shaped) own own-calls;
        }

    pub own-low : StandInsShaped file refs v rs decls D numbers currents outers σ k → shape_of (spell σ (own_term file refs v.facts decls k numbers currents outers)) < shape_limit
    own-low shaped =
        shape-low (sense_along s decls W σ) (params_of s D) own (own-stands shaped)
        (own-unfolds file refs v declared n D c s rs decls end ready there room k numbers currents outers e bytes).few

    pub standin-stands : (l i : ℕ) → l < k → NamedIn decls (outermost (suc l) (world_of rs D)) i → StandInsShaped file refs v rs decls D numbers currents outers σ l
        → Stands (sense_along s decls (world_of rs D) σ) (outer_after v.facts (get_or outers l 0) (get_or currents l 0) + kind_arity (get_or decls i no_declaration).0)
        (stand_in_term file refs v decls numbers currents outers l i)
    standin-stands l i on named shaped =
        record {
          formed = (standin-term file refs v declared n D c s rs decls end ready there room k numbers currents outers e l i on named bytes).formed;
          calls =
              uses-more (Callable decls D (outermost l W)) (Right (sense_along s decls W σ))
              (level-right file refs v declared n D c s rs decls end ready there room k numbers currents outers e σ below l (omega arith) shaped) (term l i)
              (standin-calls l i on named);
        }

    pub standin-low : (l i : ℕ) → l < k → NamedIn decls (outermost (suc l) (world_of rs D)) i → StandInsShaped file refs v rs decls D numbers currents outers σ l
        → shape_of (spell σ (stand_in_term file refs v decls numbers currents outers l i)) < shape_limit
    standin-low l i on named shaped =
        shape-low (sense_along s decls W σ) _ (term l i) (standin-stands l i on named shaped)
        (standin-term file refs v declared n D c s rs decls end ready there room k numbers currents outers e l i on named bytes).few

    -- a definition whose shape is right is called as its text tells
    pub own-known : Right (sense_of s σ) D → StandInsShaped file refs v rs decls D numbers currents outers σ k
        → Callee (sense_along s decls (world_of rs D) σ) D (params_of s D) (own_term file refs v.facts decls k numbers currents outers)
    own-known right shaped =
        let u = own-unfolds file refs v declared n D c s rs decls end ready there room k numbers currents outers e bytes in
        let z = own-unfolds file refs v declared n D c s rs decls end ready there room k numbers currents outers e sizes in
        own-callee file refs v declared n D c s rs decls end ready there room k numbers currents outers e σ
        (right-shape (sense_along s decls W σ) D (params_of s D) own (right-along s decls W σ D low right) u.arity u.few (own-stands shaped) z.means)
        (level-right file refs v declared n D c s rs decls end ready there room k numbers currents outers e σ below k (omega arith) shaped)

    pub standin-known : (l i : ℕ) → l < k → NamedIn decls (outermost (suc l) (world_of rs D)) i → StandInsShaped file refs v rs decls D numbers currents outers σ k
        → Callee (sense_along s decls (world_of rs D) σ) (stand_in (suc l) (max_definitions + i))
        (outer_after v.facts (get_or outers l 0) (get_or currents l 0) + kind_arity (get_or decls i no_declaration).0)
        (stand_in_term file refs v decls numbers currents outers l i)
    standin-known l i on named shaped =
        standin-callee file refs v declared n D c s rs decls end ready there room k numbers currents outers e σ l i on named (shaped l on i named)
        (level-right file refs v declared n D c s rs decls end ready there room k numbers currents outers e σ below l (omega arith) (λ j q. shaped j (omega arith)))
