-- Shapes worked out: of the stand-ins along one chain, and of the definitions in order.
use Rattle.std.specs.Prelude.{List, ◌≡◌, ℕ, ◌+◌, ◌-◌, ◌*◌, ◌/◌, ◌≤◌, ◌<◌, get_or, length, set}
use Rattle.limits.specs.Limits.{file_bytes, max_declarations, max_definitions}
use Rattle.symbols.specs.Spell.{shape_limit, shape_of, spell}
use Rattle.store.specs.declared.Store.{Store}
use Rattle.worlds.specs.Rows.{world_of}
use Rattle.chains.proofs.Knowing.{NamedIn}
use Rattle.unfolding.specs.CalleeTerm.{Entered, max_links, own_term, sense_of, stand_in_term}
use Rattle.unfolding.specs.Sense.{Right}
use Rattle.unfolding.specs.StandIn.{entry_of, level_of, outermost}
use Rattle.unfolding.proofs.AllRight.{RightBelow, StandInsShaped}
use Rattle.spelling.specs.Strings.{ShapesFit, growth, shapes_of}
use Rattle.templates.specs.Told.{Told}

-- the numbers that a chain calls: the definitions, and so many levels of stand-ins
abbrev pub shape_count : ℕ
shape_count = 1280

-- the longest string of a text of the file
abbrev pub text_bytes : ℕ
text_bytes = growth * file_bytes / 2

-- the number of the first stand-in
abbrev pub first_stand_in : ℕ
first_stand_in = max_definitions + max_declarations

-- the arrays hold the chain of definition d
abbrev pub ChainHeld : (file refs : List ℕ) (v : Store) (declared : List ℕ) (n d k : ℕ) (numbers currents outers : List ℕ) → Told file refs v declared n → Type 0
ChainHeld file refs v declared n d k numbers currents outers x =
    Entered x.state x.rows x.ready.worlds.runs v.facts d k numbers currents outers

-- number m is a stand-in along the chain of definition d, k links long
pub record Along (file refs : List ℕ) (v : Store) (declared : List ℕ) (n d k m : ℕ) (x : Told file refs v declared n) : Type 0 where
  pub high : first_stand_in ≤ m
  pub level : level_of m ≤ k
  pub named : NamedIn x.decls (outermost (level_of m) (world_of x.rows d)) (entry_of m)

-- a shape; any other number is none
pub record Kept (h r : ℕ) : Type 0 where
  pub small : r < shape_limit
  pub same : h < shape_limit → r ≡ h

-- r is the shape of stand-in m along the chain that the arrays hold,
pub record StandInShape (file refs : List ℕ) (v : Store) (declared : List ℕ) (m : ℕ) (numbers currents outers along : List ℕ) (r : ℕ) : Type 0 where
  pub small : r < shape_limit
  pub right : (n : ℕ) (x : Told file refs v declared n) (d k : ℕ) → d < x.counts.definitions → ChainHeld file refs v declared n d k numbers currents outers x → ShapesFit along
      → Along file refs v declared n d k m x
      → r ≡ shape_of (spell (shapes_of along) (stand_in_term file refs v x.decls numbers currents outers (level_of m - 1) (entry_of m)))

-- or of the definition whose chain it is
pub record OwnShape (file refs : List ℕ) (v : Store) (declared : List ℕ) (k : ℕ) (numbers currents outers along : List ℕ) (r : ℕ) : Type 0 where
  pub small : r < shape_limit
  pub right : (n : ℕ) (x : Told file refs v declared n) (d : ℕ) → d < x.counts.definitions → ChainHeld file refs v declared n d k numbers currents outers x → ShapesFit along
      → r ≡ shape_of (spell (shapes_of along) (own_term file refs v.facts x.decls k numbers currents outers))

-- the stand-ins of numbers below m along the chain of definition d have their shapes
abbrev pub ShapedBelow : (file refs : List ℕ) (v : Store) (declared : List ℕ) (n d k m : ℕ) (numbers currents outers along : List ℕ) → Told file refs v declared n → Type 0
ShapedBelow file refs v declared n d k m numbers currents outers along x =
    (i : ℕ) → i < m → Along file refs v declared n d k i x
    → get_or along i 0 ≡ shape_of (spell (shapes_of along) (stand_in_term file refs v x.decls numbers currents outers (level_of i - 1) (entry_of i)))

-- Where they have, r is the shape of stand-in m.
pub record NextShape (file refs : List ℕ) (v : Store) (declared : List ℕ) (n m : ℕ) (numbers currents outers along : List ℕ) (r : ℕ) : Type 0 where
  pub small : ShapesFit along → r < shape_limit
  pub right : (x : Told file refs v declared n) (d k : ℕ) → d < x.counts.definitions → ChainHeld file refs v declared n d k numbers currents outers x → ShapesFit along
      → ShapedBelow file refs v declared n d k m numbers currents outers along x → Along file refs v declared n d k m x
      → r ≡ shape_of (spell (shapes_of along) (stand_in_term file refs v x.decls numbers currents outers (level_of m - 1) (entry_of m)))

-- The shapes of the stand-ins of k levels have been stored; nothing else has changed.
pub record StandInsStored (file refs : List ℕ) (v : Store) (declared : List ℕ) (n k : ℕ) (numbers currents outers along along' : List ℕ) : Type 0 where
  pub long : length along' ≡ length along
  pub fit : ShapesFit along → ShapesFit along'
  pub kept : (i : ℕ) → i < first_stand_in → get_or along' i 0 ≡ get_or along i 0
  pub right : (x : Told file refs v declared n) (d : ℕ) → d < x.counts.definitions → ChainHeld file refs v declared n d k numbers currents outers x → ShapesFit along
      → StandInsShaped file refs v x.rows x.decls d numbers currents outers (shapes_of along') k

-- the shapes of the definitions, and none of any stand-in
pub record Begun (shapes along : List ℕ) : Type 0 where
  pub long : length along ≡ shape_count
  pub same : (i : ℕ) → get_or along i 0 ≡ get_or shapes i 0

-- no shape yet
pub record Cleared (shapes : List ℕ) : Type 0 where
  pub long : length shapes ≡ max_definitions
  pub none : (i : ℕ) → get_or shapes i 0 ≡ 0

-- The chain of definition d has been entered, and the shapes along it are those of the strings.
pub record Prepared (file refs : List ℕ) (v : Store) (declared : List ℕ) (n d : ℕ) (shapes : List ℕ) (k : ℕ) (numbers currents outers along : List ℕ) : Type 0 where
  pub few : k ≤ max_links
  pub long : length along ≡ shape_count
  pub fit : ShapesFit shapes → ShapesFit along
  pub kept : (i : ℕ) → i < first_stand_in → get_or along i 0 ≡ get_or shapes i 0
  pub chain : (x : Told file refs v declared n) → d < x.counts.definitions → ChainHeld file refs v declared n d k numbers currents outers x
  pub right : (x : Told file refs v declared n) → d < x.counts.definitions → ShapesFit shapes
      → StandInsShaped file refs v x.rows x.decls d numbers currents outers (shapes_of along) k

-- The shape of definition d has been stored.
pub record DefinitionStored (file refs : List ℕ) (v : Store) (declared : List ℕ) (n d : ℕ) (shapes shapes' : List ℕ) : Type 0 where
  pub shape : ℕ
  pub small : shape < shape_limit
  pub stored : shapes' ≡ set shapes d shape
  pub right : (x : Told file refs v declared n) → d < x.counts.definitions → ShapesFit shapes → RightBelow x.state (shapes_of shapes) d
      → Right (sense_of x.state (shapes_of shapes')) d

-- Those of the first definitions, so many, are right.
pub record DefinitionsShaped (file refs : List ℕ) (v : Store) (declared : List ℕ) (n count : ℕ) (shapes : List ℕ) : Type 0 where
  pub long : length shapes ≡ max_definitions
  pub fit : ShapesFit shapes
  pub right : (x : Told file refs v declared n) → count ≤ x.counts.definitions → RightBelow x.state (shapes_of shapes) count
