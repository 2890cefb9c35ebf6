-- What the calls along the chain of instances of one definition stand for.
use Rattle.std.specs.Prelude.{cond, List, [], ◌∷◌, ◌⊎◌, ◌≡◌, ℕ, ◌+◌, ◌-◌, ◌*◌, ◌/◌, ◌%◌, ◌≤◌, ◌<◌, ltb, drop, get_or, length, take}
use Rattle.std.proofs.Math.Option.{some}
use Rattle.limits.specs.Limits.{max_arity, max_declarations, max_definitions}
use Rattle.theory.specs.Expand.{arities_of}
use Rattle.theory.specs.Term.{Arities, Kind, Reading, Term, WellFormed, eval, kind_arity, with_defined}
use Rattle.rules.specs.State.{State, templates_of}
use Rattle.texts.specs.Text.{Declarations, no_declaration}
use Rattle.worlds.specs.World.{Uses, World, params_in, read_declared}
use Rattle.chains.proofs.Knowing.{NamedIn}
use Rattle.unfolding.specs.InWorld.{Setting, stand_in}
use Rattle.unfolding.specs.Meaning.{meaning_of}

-- the outermost links of a chain, l of them: those that have been entered at level l
abbrev pub outermost : ℕ → World → World
outermost l w = drop (length w - l) w

-- of the number of a stand-in, the level and the declaration
abbrev pub level_of : ℕ → ℕ
level_of n = (n - max_definitions) / max_declarations

abbrev pub entry_of : ℕ → ℕ
entry_of n = (n - max_definitions) % max_declarations

-- what stands for a declared name in a world: the instances' parameters come first
abbrev pub stands_for : {A : Type 0} → Reading A → State → World → (Kind × ℕ) → List A → A
stands_for M s w d vs = read_declared M (meaning_of M s) w (take (params_in w) vs) d.0 d.1 (drop (params_in w) vs)

-- what call n means along the chain w
abbrev pub called_in : {A : Type 0} → Reading A → State → Declarations → World → ℕ → List A → A
called_in M s decls w n vs =
    cond (ltb n max_definitions) (meaning_of M s n vs) (stands_for M s (outermost (level_of n) w) (get_or decls (entry_of n) no_declaration) vs)

-- and its argument count
abbrev pub arities_along : State → Declarations → World → Arities
arities_along s decls w n =
    cond (ltb n max_definitions) (arities_of (templates_of s) n)
    (some (params_in (outermost (level_of n) w) + kind_arity (get_or decls (entry_of n) no_declaration).0))

-- n stands for a declaration of the module that the text of the world stands in
pub record StandInOf (decls : Declarations) (w : World) (n : ℕ) : Type 0 where
  pub entry : ℕ
  pub number : n ≡ stand_in (length w) (max_definitions + entry)
  pub named : NamedIn decls w entry

-- what a text of a world may call: definitions below D; and where an instance has brought it, what stands for the names that its module
-- declares
abbrev pub Callable : Declarations → ℕ → World → ℕ → Type 0
Callable decls D [] n = n < D
Callable decls D (l ∷ w) n = (n < D) ⊎ StandInOf decls (l ∷ w) n

-- Along the chain w of definition D: the term t over m parameters is what call n stands for; t itself stands where l instances have been
-- entered.
pub record Unfolds {A : Type 0} (M : Reading A) (s : State) (decls : Declarations) (w : World) (D n m l : ℕ) (t : Term) : Type 0 where
  pub arity : arities_along s decls w n ≡ some m
  pub few : m ≤ 2 * max_arity
  pub formed : WellFormed (arities_along s decls w) m 0 t
  pub calls : Uses (Callable decls D (outermost l w)) t
  pub means : (us : List A) → length us ≡ m → called_in M s decls w n us ≡ eval (with_defined M (called_in M s decls w)) us [] t

abbrev pub place_at : ℕ → ℕ → List ℕ → Setting
place_at l outer numbers = record { level = l; outer = outer; numbers = numbers }
