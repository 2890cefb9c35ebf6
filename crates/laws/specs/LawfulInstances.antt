-- Words of "Lawful instances stay lawful" (paper 02, L6): the levels, with parameters at 0, of what an INSTANCE field brings and of what it brings it from.
use Rattle.std.specs.Prelude.{Bool, false, true, List, ◌++◌, ◌∷◌, map, ◌≡◌, get_or, length, ◌+◌, ◌<◌, ◌≤◌, ℕ}
use Rattle.laws.specs.Lawful.{adds}
use Rattle.rules.specs.Field.{Field, Substitution, instance}
use Rattle.rules.specs.Instance.{bring, declared_in, source, substitute_level}
use Rattle.rules.specs.State.{Module, State, card_level, params_of, start, templates_of, zeros}
use Rattle.theory.specs.Expand.{template_of}
use Rattle.theory.specs.Level.{highest, incorrect}
use Rattle.theory.specs.Term.{level, long_way}

-- the level of definition g with parameters at 0, by its card
abbrev pub level_at_zero : State → ℕ → ℕ
level_at_zero s g = card_level s g (zeros (params_of s g))

-- no definition is 4 with parameters at 0
abbrev pub LevelCorrect : State → Type 0
LevelCorrect s = (g : ℕ) → g < length s.definitions → level_at_zero s g < incorrect

-- the level, with parameters at 0, the instance's and its own, of what an instance brings definition g as: before it is added, by its template
abbrev pub brought_level : State → ℕ → Module → List Substitution → ℕ → ℕ
brought_level s p M ss g = level long_way (zeros (p + params_of s g)) (template_of (templates_of s) (bring s p M ss g)).body

-- "the highest substitute" of an instance of M, those that stand for themselves included; 0 if there is none
abbrev pub highest_substitute : State → ℕ → Module → List Substitution → ℕ
highest_substitute s p M ss = highest (map (substitute_level s p M ss) (declared_in M))

-- L6's SENTENCES, of one brought definition: the module is constant or not; `own` is the level of the definition in its own module, `brought` that of what the
-- instance brings it as, `substitute` the highest substitute.
pub record StaysLawful (constant : Bool) (own brought substitute : ℕ) : Type 0 where
  -- "has a level no higher than in its own module,"
  pub no_higher : constant ≡ false → brought ≤ own
  -- "or, if the module is constant, no higher than the highest substitute."
  pub no_higher_than_substitutes : constant ≡ true → brought ≤ substitute
  -- (which is not 4: no substitute is, by 14, and they do not hold both a 2 and a 3, by 21)
  pub substitute_lawful : constant ≡ true → substitute < incorrect
  -- "Outside constant modules a 3 never becomes a 2."
  pub three_never_two : constant ≡ false → own ≡ 3 → ¬ (brought ≡ 2)

-- A row of fields has an INSTANCE field.
pub record HasInstance (fs : List Field) (n p m : ℕ) (ss : List Substitution) : Type 0 where
  pub before : List Field
  pub behind : List Field
  pub split : fs ≡ before ++ (instance n p m ss ∷ behind)

module _ {fs : List Field} {n p m : ℕ} {ss : List Substitution} (h : HasInstance fs n p m ss) where
  -- what the fields before it add, and the module that it instances
  abbrev pub at_instance : State
  at_instance = adds start h.before

  abbrev pub instanced : Module
  instanced = source at_instance m

  -- the number of definition i of that module, in its order, and the number that it is brought under: "an instance adds in its module's order"
  abbrev pub original_number : ℕ → ℕ
  original_number i = get_or instanced.definitions i 0

  abbrev pub brought_number : ℕ → ℕ
  brought_number i = length at_instance.definitions + i
