-- LAWFUL INSTANCES STAY LAWFUL (paper 02, L6), of expanded terms. Theorem `lawful-instances` (proofs/LawfulInstances). It needs that a 2 and a 3
-- make 4: else x' ∧ F([]x) would be 3, and 2 where an operator that drops its argument is put for F.
use Rattle.std.specs.Prelude.{false, List, ◌++◌, ◌∷◌, ◌≡◌, T, eqb, replicate, ◌+◌, ◌<◌, ◌≤◌, suc, ℕ}
use Rattle.theory.specs.Expand.{instantiate}
use Rattle.theory.specs.Lattice.{Below}
use Rattle.theory.specs.Level.{IsLevel, highest, incorrect, mixes}
use Rattle.theory.specs.Lists.{All, any}
use Rattle.theory.specs.Term.{Kind, Term, WellFormed, constant, kind_arity, level, long_way, no_definitions, variable}

-- "with parameters at 0"
abbrev pub all_at_zero : ℕ → List ℕ
all_at_zero n = replicate n 0

-- What an instance with p parameters puts for the declared names: for one with k arguments a term "over the instance's parameters and then k more".
abbrev pub Formed : (Kind → ℕ → Term) → ℕ → Type 0
Formed σ p = (k : Kind) (x : ℕ) → WellFormed no_definitions (p + kind_arity k) 0 (σ k x)

-- the level of a substitute, "judged with parameters at 0"
abbrev pub substituted : (Kind → ℕ → Term) → ℕ → Kind → ℕ → ℕ
substituted σ p k x = level long_way (all_at_zero (p + kind_arity k)) (σ k x)

-- "In a module that is not constant, a constant takes level 0 and a variable 0 or 1. In every module an operator takes a substitute of level 0." (An operator is a
-- constant with arguments.)
pub record LawfulSubstitutes (σ : Kind → ℕ → Term) (p : ℕ) : Type 0 where
  pub constants : (n x : ℕ) → substituted σ p (constant n) x ≡ 0
  pub variables : (x : ℕ) → substituted σ p variable x ≤ 1

-- Of a constant module, ls being the substitutes' levels: operators take level 0, "Otherwise any level but 4" (14); ls do not "hold both a 2 and a 3" (21). A name that
-- nothing is put for has level 0.
pub record ConstantSubstitutes (σ : Kind → ℕ → Term) (p : ℕ) (ls : List ℕ) : Type 0 where
  pub operators : (n x : ℕ) → substituted σ p (constant (suc n)) x ≡ 0
  pub constants : (x : ℕ) → T (any (eqb (substituted σ p (constant 0) x)) (0 ∷ ls))
  pub not_incorrect : All (λ l. l < incorrect) ls
  pub not_mixed : mixes ls ≡ false

-- THE LAW, for a definition's term t over n parameters
pub record LawfulInstances : Type 0 where
  -- "a level no higher than in its own module", and "a 3 never becomes a 2" (`Below`): the instance's parameters at 0, the definition's own at any levels
  pub no_higher : (σ : Kind → ℕ → Term) (p n : ℕ) (v : List ℕ) (t : Term) → Formed σ p → LawfulSubstitutes σ p → WellFormed no_definitions n 0 t → All IsLevel v
      → Below (level long_way (all_at_zero p ++ v) (instantiate σ p t)) (level long_way v t)
  -- "if the module is constant, no higher than the highest substitute": all at 0, and t of level 0 in its module
  pub constant-module : (σ : Kind → ℕ → Term) (p n : ℕ) (ls : List ℕ) (t : Term) → Formed σ p → ConstantSubstitutes σ p ls → WellFormed no_definitions n 0 t
      → level long_way (all_at_zero n) t ≡ 0 → Below (level long_way (all_at_zero (p + n)) (instantiate σ p t)) (highest ls)
  -- which is not 4
  pub substitutes_lawful : (σ : Kind → ℕ → Term) (p : ℕ) (ls : List ℕ) → ConstantSubstitutes σ p ls → highest ls < incorrect
