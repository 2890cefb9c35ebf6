-- A term that calls only definitions means the same along every chain.
use mathlib.Core.List.{List, ◌++◌, ◌∷◌}
use mathlib.Core.Path.{◌∙◌, ◌≡◌, ap, ap₂, fun_ext, refl, sym}
use lib.ListN.{replicate}
use Prim.Native.Nat.{◌+◌, ◌<◌, suc, ℕ}
use Rattle.limits.specs.Limits.{max_definitions}
use Rattle.theory.proofs.Later.{every-weaken}
use Rattle.theory.specs.Expand.{arities_of}
use Rattle.theory.specs.Level.{binds_in}
use Rattle.theory.specs.Term.{Every, Everys, Fits, Head, Reading, Term, Terms, WellFormed, binder, bound, builtin, declared, defined, eval, evals, leaf, meaning, param, with_defined}
use Rattle.theory.specs.Tree.{◌▹◌, count, node, ⟨⟩}
use Rattle.rules.specs.State.{State, templates_of}
use Rattle.texts.specs.Text.{Declarations}
use Rattle.worlds.proofs.Uses.{every-both}
use Rattle.worlds.specs.World.{AnyName, HeadMentions, World}
use Rattle.unfolding.specs.Meaning.{meaning_of}
use Rattle.unfolding.specs.StandIn.{arities_along, called_in}
use Rattle.unfolding.proofs.StandIns.{arity-defined, called-defined}

-- readings that agree on what a term calls
module _ {A : Type 0} (M : Reading A) (G H : ℕ → List A → A) (P : ℕ → Type 0) (same : (n : ℕ) → P n → (vs : List A) → G n vs ≡ H n vs) (ρ : List A) where
  head-same : (h : Head) (β : List A) (k m : ℕ) (args args' : A → List A) → HeadMentions AnyName P k h m → ((v : A) → args v ≡ args' v)
      → meaning (with_defined M G) ρ β h args ≡ meaning (with_defined M H) ρ β h args'
  head-same (param i) β k m args args' u e = refl
  head-same (bound j) β k m args args' u e = refl
  head-same (declared d x) β k m args args' u e = ap (M.on_declared d x) (e M.unknown)
  head-same (defined g) β k m args args' u e = same g u (args M.unknown) ∙ ap (H g) (e M.unknown)
  head-same (builtin c) β k m args args' u e = ap (M.on_builtin c) (fun_ext e)
  head-same (leaf l) β k m args args' u e = refl

  mutual
    pub same-calls : (t : Term) (k : ℕ) (β : List A) → Every (HeadMentions AnyName P) k t → eval (with_defined M G) ρ β t ≡ eval (with_defined M H) ρ β t
    same-calls (node h ts) k β u = head-same h β k (count ts) _ _ u.0 (λ v. sames-calls ts k (binds_in (binder h)) β v u.1)

    sames-calls : (ts : Terms) (k : ℕ) (s : ℕ → ℕ) (β : List A) (v : A) → Everys (HeadMentions AnyName P) k s ts
        → evals (with_defined M G) ρ β v s ts ≡ evals (with_defined M H) ρ β v s ts
    sames-calls ⟨⟩ k s β v u = refl
    sames-calls (t ▹ ts) k s β v u = ap₂ ◌∷◌ (same-calls t (s 0 + k) (replicate (s 0) v ++ β) u.0) (sames-calls ts k (λ i. s (suc i)) β v u.1)

-- a call of a definition
abbrev pub IsDefinition : ℕ → Type 0
IsDefinition n = n < max_definitions

module _ (s : State) (decls : Declarations) (w : World) where
  pub defined-meaning : {A : Type 0} (M : Reading A) (ρ : List A) (t : Term) (k : ℕ) (β : List A) → Every (HeadMentions AnyName IsDefinition) k t
      → eval (with_defined M (called_in M s decls w)) ρ β t ≡ eval (with_defined M (meaning_of M s)) ρ β t
  defined-meaning M ρ t k β u =
      same-calls M (called_in M s decls w) (meaning_of M s) IsDefinition (λ n h vs. called-defined s decls w M n vs h) ρ t k β u

  head-along : (n k : ℕ) (h : Head) (m : ℕ) → Fits (arities_of (templates_of s)) n k h m × HeadMentions AnyName IsDefinition k h m → Fits (arities_along s decls w) n k h m
  head-along n k (param i) m x = x.0
  head-along n k (bound j) m x = x.0
  head-along n k (declared d y) m x = x.0
  head-along n k (defined g) m x = arity-defined s decls w g x.1 ∙ x.0
  head-along n k (builtin c) m x = x.0
  head-along n k (leaf l) m x = x.0

  head-back : (n k : ℕ) (h : Head) (m : ℕ) → Fits (arities_along s decls w) n k h m × HeadMentions AnyName IsDefinition k h m → Fits (arities_of (templates_of s)) n k h m
  head-back n k (param i) m x = x.0
  head-back n k (bound j) m x = x.0
  head-back n k (declared d y) m x = x.0
  head-back n k (defined g) m x = sym (arity-defined s decls w g x.1) ∙ x.0
  head-back n k (builtin c) m x = x.0
  head-back n k (leaf l) m x = x.0

  -- and is well formed along one as along none
  pub formed-along : (n k : ℕ) (t : Term) → WellFormed (arities_of (templates_of s)) n k t → Every (HeadMentions AnyName IsDefinition) k t → WellFormed (arities_along s decls w) n k t
  formed-along n k t f u =
      every-weaken (λ k h m. Fits (arities_of (templates_of s)) n k h m × HeadMentions AnyName IsDefinition k h m) (Fits (arities_along s decls w) n) (head-along n) t k
      (every-both (Fits (arities_of (templates_of s)) n) (HeadMentions AnyName IsDefinition) t k f u)

  pub formed-back : (n k : ℕ) (t : Term) → WellFormed (arities_along s decls w) n k t → Every (HeadMentions AnyName IsDefinition) k t → WellFormed (arities_of (templates_of s)) n k t
  formed-back n k t f u =
      every-weaken (λ k h m. Fits (arities_along s decls w) n k h m × HeadMentions AnyName IsDefinition k h m) (Fits (arities_of (templates_of s)) n) (head-back n) t k
      (every-both (Fits (arities_along s decls w) n) (HeadMentions AnyName IsDefinition) t k f u)
