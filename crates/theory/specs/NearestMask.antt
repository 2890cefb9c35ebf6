-- THE LAW OF THE NEAREST MASK: the level of an expanded term is the highest, over all its nodes, of what the nearest mask above a node makes of the node's own level.
-- Theorems `nearest-mask` (proofs/NearestMask) and `monotone` (proofs/Monotone). Both need that a 2 and a 3 make 4: else [](x' ∧ p) would be 4 with p at 0, and 3 at 3.
use Rattle.std.specs.Prelude.{cond, List, [], ◌++◌, ◌∷◌, ◌≡◌, eqb, get_or, length, replicate, ◌+◌, suc, ℕ}
use Rattle.std.proofs.Math.Option.{Option, none, some}
use Rattle.theory.specs.Lattice.{Below, EachBelow, higher}
use Rattle.theory.specs.Level.{IsLevel, Mask, Row, any_level, binds_in, highest, incorrect, result_level, row, row_level, table, taken, variable_level}
use Rattle.theory.specs.Lists.{All, same_numbers}
use Rattle.theory.specs.Term.{Head, Term, Terms, WellFormed, binder, bound, builtin, constant, declared, declared_level, defined, leaf, leaf_level, level, long_way, no_definitions, param, variable}
use Rattle.theory.specs.Tree.{◌▹◌, count, node, ⟨⟩}

-- What the nearest mask above a node makes of a level: where there is none, the level itself; else 0 if the mask takes that level, and 4 if not.
abbrev pub behind : Option Mask → ℕ → ℕ
behind none l = l
behind (some m) l = cond (taken m l) 0 incorrect

-- The nearest mask above an argument that its row has mask m for, `above` being the nearest above the application. "At any level" is no mask: the farther one stays.
abbrev pub nearest : Option Mask → Mask → Option Mask
nearest above m = cond (same_numbers m any_level) above (some m)

-- A built-in's own level is its result; where that is the highest of the arguments, the highest of none. A wrong argument count, or a code that does not exist, is 4.
abbrev pub row_own : Option Row → ℕ → ℕ
row_own none k = incorrect
row_own (some r) k = cond (eqb k (length r.takes)) (result_level r.result []) incorrect

-- A node's own level, with k arguments: v lists the parameters' levels, β the bound variables'.
abbrev pub own_level : List ℕ → List ℕ → Head → ℕ → ℕ
own_level v β (param i) k = get_or v i incorrect
own_level v β (bound j) k = get_or β j incorrect
own_level v β (declared d x) k = declared_level d x []
own_level v β (defined g) k = incorrect
own_level v β (builtin c) k = row_own (row c) k
own_level v β (leaf l) k = leaf_level l

-- The masks of a node's arguments, k of them: a row's own; a declared operator takes its arguments at any level; the others take none.
abbrev pub row_masks : Option Row → List Mask
row_masks none = []
row_masks (some r) = r.takes

abbrev pub masks : Head → ℕ → List Mask
masks (param i) k = []
masks (bound j) k = []
masks (declared (constant n) x) k = replicate k any_level
masks (declared variable x) k = []
masks (defined g) k = []
masks (builtin c) k = row_masks (row c)
masks (leaf l) k = []

-- Every node of a term, as what the nearest mask above it makes of its own level; `above` is the nearest mask above the term.
abbrev mutual
  pub node_levels : List ℕ → List ℕ → Option Mask → Term → List ℕ
  node_levels v β above (node h ts) =
      behind above (own_level v β h (count ts)) ∷ argument_levels v β (variable_level (binder h)) (binds_in (binder h)) above ts (masks h (count ts))

  -- s i variables, of level w, are bound in argument i; arguments that there is no mask for do not count (a well formed term has none)
  pub argument_levels : List ℕ → List ℕ → ℕ → (ℕ → ℕ) → Option Mask → Terms → List Mask → List ℕ
  argument_levels v β w s above ⟨⟩ ms = []
  argument_levels v β w s above (t ▹ ts) [] = []
  argument_levels v β w s above (t ▹ ts) (m ∷ ms) =
      node_levels v (replicate (s 0) w ++ β) (nearest above m) t ++ argument_levels v β w (λ i. s (suc i)) above ts ms

-- how many nodes a term has
abbrev mutual
  pub nodes : Term → ℕ
  nodes (node h ts) = suc (nodes_in ts)

  pub nodes_in : Terms → ℕ
  nodes_in ⟨⟩ = 0
  nodes_in (t ▹ ts) = nodes t + nodes_in ts

-- What the masks of a row make of its arguments' levels.
abbrev pub behinds : Option Mask → List Mask → List ℕ → List ℕ
behinds above [] ls = []
behinds above (m ∷ ms) [] = []
behinds above (m ∷ ms) (l ∷ ls) = behind (nearest above m) l ∷ behinds above ms ls

-- what mask m makes of a join is the join of what it makes of either
abbrev pub KeepsJoins : Mask → Type 0
KeepsJoins m = (k l : ℕ) → IsLevel k → IsLevel l → behind (nearest none m) (higher k l) ≡ higher (behind (nearest none m) k) (behind (nearest none m) l)

-- the row's level at any arguments is its own, joined with what its masks make of theirs
abbrev pub OwnAndMasked : Row → Type 0
OwnAndMasked r = (ls : List ℕ) → All IsLevel ls → row_level (some r) ls ≡ highest (row_own (some r) (length ls) ∷ behinds none r.takes ls)

-- THE LAW
pub record NearestMask : Type 0 where
  -- of the table:
  pub masks_keep_joins : All (λ (r : Row). All KeepsJoins r.takes) table
  pub each_row : All OwnAndMasked table
  -- so of every term, at any levels of its parameters:
  pub nearest_masks : (v : List ℕ) (t : Term) → All IsLevel v → level long_way v t ≡ highest (node_levels v [] none t)
  -- over all its nodes: a well formed term has one level there for each
  pub every_node : (n : ℕ) (v : List ℕ) (t : Term) → WellFormed no_definitions n 0 t → length (node_levels v [] none t) ≡ nodes t

-- WHAT FOLLOWS
pub record Monotone : Type 0 where
  -- Lower parameters give a lower level,
  pub lower_parameters : (v w : List ℕ) (t : Term) → All IsLevel w → EachBelow v w → Below (level long_way v t) (level long_way w t)
  -- so a term that is 4 with its parameters at 0 is 4 at any levels.
  pub four_everywhere : (v : List ℕ) (t : Term) → All IsLevel v → level long_way (replicate (length v) 0) t ≡ incorrect → level long_way v t ≡ incorrect
