-- The terms that the arrays show are what a definition and the stand-ins along its chain stand for.
use mathlib.Core.List.{List}
use mathlib.Core.Option.{Option}
use mathlib.Core.Path.{◌≡◌, fun_ext, refl, subst, sym}
use lib.ListN.{get_or, length}
use native.Mathlib.Omega.{arith}
use Prim.Native.Nat.{◌+◌, ◌<◌, ◌≤◌, suc, ℕ}
use Rattle.limits.specs.Limits.{max_declarations, max_definitions}
use Rattle.symbols.specs.Spell.{shape_of, spell}
use Rattle.theory.proofs.Bytes.{Bytes, bytes}
use Rattle.theory.proofs.Size.{sizes}
use Rattle.theory.specs.Term.{Kind, Reading, Term, kind_arity}
use Rattle.rules.specs.State.{State, params_of}
use Rattle.tokens.specs.Expr.{Found}
use Rattle.texts.specs.Text.{Declarations, no_declaration}
use Rattle.store.specs.Store.{first_at}
use Rattle.store.specs.declared.Store.{Store}
use Rattle.context.specs.declared.Counts.{Counts}
use Rattle.worlds.proofs.Uses.{uses-more}
use Rattle.worlds.specs.Rows.{Row, world_of}
use Rattle.worlds.specs.World.{World}
use Rattle.entering.specs.Written.{written_at}
use Rattle.entering.specs.declared.substitutes.Site.{Site}
use Rattle.std.specs.Prelude.{Option as Answer, Some, None}
use Rattle.chains.specs.Ready.{Ready}
use Rattle.chains.specs.Walk.{code_at, outer_after, site_of}
use Rattle.chains.proofs.Knowing.{NamedIn}
use Rattle.unfolding.specs.CalleeTerm.{Entered, found_term, own_term, place_in, row_of, sense_along, sense_of, stand_in_term, written_term}
use Rattle.unfolding.specs.InWorld.{by_refs, stand_in}
use Rattle.unfolding.specs.Sense.{Callee, Right, Sense}
use Rattle.unfolding.specs.StandIn.{Callable, Unfolds, outermost}
use Rattle.unfolding.specs.Unfolding.{UnfoldsBy, UnfoldsText}
use Rattle.unfolding.proofs.ChainTexts.{definition-unfolds, standin-unfolds, whole-level}
use Rattle.unfolding.proofs.StandIns.{arity-defined, called-defined}

-- Whether a shape is right depends on nothing but the call's shape, argument count and meaning.
abbrev RightAt : ℕ → Option ℕ → (List Bytes → Bytes) → (List ℕ → ℕ) → Type 0
RightAt h a b z = Right (record { shape = λ i. h; arity = λ i. a; as_bytes = λ i. b; as_sizes = λ i. z }) 0

pub right-agree : (g g' : Sense) (n : ℕ) → g.shape n ≡ g'.shape n → g.arity n ≡ g'.arity n → ((vs : List Bytes) → g.as_bytes n vs ≡ g'.as_bytes n vs)
    → ((vs : List ℕ) → g.as_sizes n vs ≡ g'.as_sizes n vs) → Right g n → Right g' n
right-agree g g' n sh ar by si r =
    subst (λ (z : List ℕ → ℕ). RightAt (g'.shape n) (g'.arity n) (g'.as_bytes n) z) (fun_ext si)
    (subst (λ (b : List Bytes → Bytes). RightAt (g'.shape n) (g'.arity n) b (g.as_sizes n)) (fun_ext by)
    (subst (λ (a : Option ℕ). RightAt (g'.shape n) a (g.as_bytes n) (g.as_sizes n)) ar
    (subst (λ (h : ℕ). RightAt h (g.arity n) (g.as_bytes n) (g.as_sizes n)) sh r)))

-- a definition means the same along a chain as along none
module _ (s : State) (decls : Declarations) (w : World) (σ : ℕ → ℕ) (h : ℕ) (few : h < max_definitions) where
  pub right-along : Right (sense_of s σ) h → Right (sense_along s decls w σ) h
  right-along r =
      right-agree (sense_of s σ) (sense_along s decls w σ) h refl (sym (arity-defined s decls w h few)) (λ vs. sym (called-defined s decls w bytes h vs few))
      (λ vs. sym (called-defined s decls w sizes h vs few)) r

  pub right-back : Right (sense_along s decls w σ) h → Right (sense_of s σ) h
  right-back r =
      right-agree (sense_along s decls w σ) (sense_of s σ) h refl (arity-defined s decls w h few) (λ vs. called-defined s decls w bytes h vs few)
      (λ vs. called-defined s decls w sizes h vs few) r

-- and so with other shapes that agree
pub right-shapes : (s : State) (σ σ' : ℕ → ℕ) (h : ℕ) → σ h ≡ σ' h → Right (sense_of s σ) h → Right (sense_of s σ') h
right-shapes s σ σ' h e r = right-agree (sense_of s σ) (sense_of s σ') h e refl (λ vs. refl) (λ vs. refl) r

pub right-shapes-along : (s : State) (decls : Declarations) (w : World) (σ σ' : ℕ → ℕ) (h : ℕ) → σ h ≡ σ' h → Right (sense_along s decls w σ) h
    → Right (sense_along s decls w σ') h
right-shapes-along s decls w σ σ' h e r = right-agree (sense_along s decls w σ) (sense_along s decls w σ') h e refl (λ vs. refl) (λ vs. refl) r

-- What a call unfolds to, in both readings, is its callee.
pub callee-from : (s : State) (decls : Declarations) (w : World) (D call m l : ℕ) (t : Term) (σ : ℕ → ℕ)
    → Unfolds bytes s decls w D call m l t → Unfolds sizes s decls w D call m l t → σ call ≡ shape_of (spell σ t)
    → ((h : ℕ) → Callable decls D (outermost l w) h → Right (sense_along s decls w σ) h) → Callee (sense_along s decls w σ) call m t
callee-from s decls w D call m l t σ u z shaped right =
    record {
      arity = u.arity;
      few = u.few;
      stands = record { formed = u.formed; calls = uses-more (Callable decls D (outermost l w)) (Right (sense_along s decls w σ)) right t u.calls };
      shape = shaped;
      as_bytes = u.means;
      as_sizes = z.means;
    }

module _ (file refs : List ℕ) (v : Store) (declared : List ℕ) (n D : ℕ) (c : Counts) (s : State) (rs : List Row) (decls : Declarations) (end : ℕ)
    (ready : Ready file refs v declared n c s rs decls end) (there : D < c.definitions) (room : n ≤ max_declarations) (k : ℕ) (numbers currents outers : List ℕ)
    (e : Entered s rs ready.worlds.runs v.facts D k numbers currents outers) where
  abbrev W : World
  W = world_of rs D

  pub few-below : D < max_definitions
  few-below = omega (arith, ready.few)

  pub few-declared : length decls ≤ max_declarations
  few-declared = omega (arith, ready.numbered)

  -- The text of definition D.
  abbrev own : Term
  own = own_term file refs v.facts decls k numbers currents outers

  pub own-text : {A : Type 0} (M : Reading A)
      → UnfoldsText M file refs s decls (world_of rs D) D D (params_of s D) k (get_or outers k 0) (row_of numbers k) end (first_at v.facts (get_or currents k 0))
  own-text M =
      definition-unfolds file refs v declared n D c s rs decls end ready there room k (get_or currents k 0) (get_or outers k 0) (row_of numbers k)
      (e.each k (omega arith)) e.over M

  pub own-unfolds : {A : Type 0} (M : Reading A)
      → Unfolds M s decls (world_of rs D) D D (params_of s D) k (own_term file refs v.facts decls k numbers currents outers)
  own-unfolds M =
      subst (λ (f : Found). Unfolds M s decls W D D (params_of s D) k (found_term (by_refs refs) decls (place_in numbers outers k) f)) (sym (own-text M).stands)
      (own-text M).unfolds

  pub chain_length : k ≡ length (world_of rs D)
  chain_length =
      whole-level file refs v declared n D c s rs decls end ready there room k (get_or currents k 0) (get_or outers k 0) (row_of numbers k) (e.each k (omega arith)) e.over

  -- What stands for declaration i one level further in than l.
  module _ (l i : ℕ) (on : l < k) (named : NamedIn decls (outermost (suc l) (world_of rs D)) i) where
    abbrev kind : Kind
    kind = (get_or decls i no_declaration).0

    abbrev site : Site
    site = site_of v.facts (get_or outers l 0) (code_at v.facts (get_or currents l 0))

    abbrev number : ℕ
    number = stand_in (suc l) (max_definitions + i)

    abbrev params : ℕ
    params = outer_after v.facts (get_or outers l 0) (get_or currents l 0) + kind_arity kind

    pub standin-by : {A : Type 0} (M : Reading A)
        → UnfoldsBy M file refs v s decls (world_of rs D) D (stand_in (suc l) (max_definitions + i))
        (outer_after v.facts (get_or outers l 0) (get_or currents l 0) + kind_arity (get_or decls i no_declaration).0) l (get_or outers l 0) (row_of numbers l) end
        (site_of v.facts (get_or outers l 0) (code_at v.facts (get_or currents l 0))).owner (site_of v.facts (get_or outers l 0) (code_at v.facts (get_or currents l 0))).params
        (get_or decls i no_declaration).0 (get_or decls i no_declaration).1
        (written_at (site_of v.facts (get_or outers l 0) (code_at v.facts (get_or currents l 0))).count file
        (site_of v.facts (get_or outers l 0) (code_at v.facts (get_or currents l 0))).start (get_or decls i no_declaration).1)
    standin-by M =
        standin-unfolds file refs v declared n D c s rs decls end ready there room l (get_or currents l 0) (get_or outers l 0) (row_of numbers l)
        (e.each l (omega arith)) (e.on l on) M i named

    by-term : {A : Type 0} (M : Reading A) (y : Answer ℕ)
        → UnfoldsBy M file refs v s decls W D number params l (get_or outers l 0) (row_of numbers l) end site.owner site.params kind (get_or decls i no_declaration).1 y
        → Unfolds M s decls W D number params l (written_term file refs v decls (place_in numbers outers l) site kind (get_or decls i no_declaration).1 y)
    by-term M (Some at) u =
        subst (λ (f : Found). Unfolds M s decls W D number params l (found_term (by_refs refs) decls (place_in numbers outers l) f)) (sym u.stands) u.unfolds
    by-term M None u = u.unfolds

    pub standin-term : {A : Type 0} (M : Reading A)
        → Unfolds M s decls (world_of rs D) D (stand_in (suc l) (max_definitions + i))
        (outer_after v.facts (get_or outers l 0) (get_or currents l 0) + kind_arity (get_or decls i no_declaration).0) l
        (stand_in_term file refs v decls numbers currents outers l i)
    standin-term M = by-term M (written_at site.count file site.start (get_or decls i no_declaration).1) (standin-by M)

  module _ (σ : ℕ → ℕ) where
    pub own-callee : σ D ≡ shape_of (spell σ (own_term file refs v.facts decls k numbers currents outers))
        → ((h : ℕ) → Callable decls D (outermost k (world_of rs D)) h → Right (sense_along s decls (world_of rs D) σ) h)
        → Callee (sense_along s decls (world_of rs D) σ) D (params_of s D) (own_term file refs v.facts decls k numbers currents outers)
    own-callee shaped right = callee-from s decls W D D (params_of s D) k own σ (own-unfolds bytes) (own-unfolds sizes) shaped right

    pub standin-callee : (l i : ℕ) → l < k → NamedIn decls (outermost (suc l) (world_of rs D)) i
        → σ (stand_in (suc l) (max_definitions + i)) ≡ shape_of (spell σ (stand_in_term file refs v decls numbers currents outers l i))
        → ((h : ℕ) → Callable decls D (outermost l (world_of rs D)) h → Right (sense_along s decls (world_of rs D) σ) h)
        → Callee (sense_along s decls (world_of rs D) σ) (stand_in (suc l) (max_definitions + i))
        (outer_after v.facts (get_or outers l 0) (get_or currents l 0) + kind_arity (get_or decls i no_declaration).0)
        (stand_in_term file refs v decls numbers currents outers l i)
    standin-callee l i on named shaped right =
        callee-from s decls W D (number l i on named) (params l i on named) l (stand_in_term file refs v decls numbers currents outers l i) σ
        (standin-term l i on named bytes) (standin-term l i on named sizes) shaped right
