-- What is left of a definition's text when its stand-ins are taken out is what the definition stands for, along no chain.
use mathlib.Core.Bool.{false}
use mathlib.Core.List.{List, []}
use mathlib.Core.Path.{◌∙◌, ◌≡◌, ap, sym}
use borrow.Author.Tests.{leb-false}
use lib.Dec.{leb}
use native.Mathlib.Omega.{arith}
use Prim.Native.Nat.{◌<◌, ◌≤◌, ℕ}
use Rattle.limits.specs.Limits.{max_declarations, max_definitions}
use Rattle.symbols.specs.Spell.{shape_of, spell}
use Rattle.symbols.specs.Symbol.{calls}
use Rattle.theory.proofs.Bytes.{bytes}
use Rattle.theory.proofs.Later.{every-weaken}
use Rattle.theory.proofs.Size.{sizes}
use Rattle.theory.specs.Lists.{any}
use Rattle.theory.specs.Term.{Head, Term, bound, builtin, declared, defined, leaf, param}
use Rattle.rules.specs.State.{State, params_of}
use Rattle.texts.specs.Text.{Declarations}
use Rattle.store.specs.declared.Store.{Store}
use Rattle.context.specs.declared.Counts.{Counts}
use Rattle.worlds.proofs.Uses.{every-both, uses-more}
use Rattle.worlds.specs.Rows.{Row, world_of}
use Rattle.worlds.specs.World.{AnyName, HeadMentions, World}
use Rattle.chains.specs.Ready.{Ready}
use Rattle.unfolding.specs.CalleeTerm.{Entered, own_term, sense_along, sense_of}
use Rattle.unfolding.specs.Prune.{prune}
use Rattle.unfolding.specs.Right.{Calling}
use Rattle.unfolding.specs.Sense.{Callee, Right, Same, Sense, Stands}
use Rattle.unfolding.proofs.Callees.{few-below, right-back}
use Rattle.unfolding.proofs.DefinedCalls.{IsDefinition, defined-meaning, formed-back}
use Rattle.unfolding.proofs.Pruned.{prune-calling}
use Rattle.unfolding.proofs.SameLaws.{prune-spelt, same-trans, stands-prune}
use Rattle.unfolding.proofs.ShapeSame.{shape_same}
use Rattle.unfolding.proofs.StandIns.{arity-defined, called-defined}

-- two things of every call
head-both : (P Q R : ℕ → Type 0) → ((g : ℕ) → P g → Q g → R g) → (k : ℕ) (h : Head) (m : ℕ) → HeadMentions AnyName P k h m × HeadMentions AnyName Q k h m
    → HeadMentions AnyName R k h m
head-both P Q R f k (param i) m x = tt
head-both P Q R f k (bound j) m x = tt
head-both P Q R f k (declared d y) m x = tt
head-both P Q R f k (defined g) m x = f g x.0 x.1
head-both P Q R f k (builtin c) m x = tt
head-both P Q R f k (leaf l) m x = tt

pub calling-both : (P Q R : ℕ → Type 0) → ((g : ℕ) → P g → Q g → R g) → (t : Term) (k : ℕ) → Calling P k t → Calling Q k t → Calling R k t
calling-both P Q R f t k a b =
    every-weaken (λ k h m. HeadMentions AnyName P k h m × HeadMentions AnyName Q k h m) (HeadMentions AnyName R) (head-both P Q R f) t k
    (every-both (HeadMentions AnyName P) (HeadMentions AnyName Q) t k a b)

-- A term that calls only definitions stands along no chain as along one.
module _ (s : State) (decls : Declarations) (w : World) (σ : ℕ → ℕ) where
  pub stands-back : (p : ℕ) (t : Term) → Calling IsDefinition 0 t → Stands (sense_along s decls w σ) p t → Stands (sense_of s σ) p t
  stands-back p t u a =
      record {
        formed = formed-back s decls w p 0 t a.formed u;
        calls = calling-both IsDefinition (Right (sense_along s decls w σ)) (Right (sense_of s σ)) (λ h q r. right-back s decls w σ h q r) t 0 u a.calls;
      }

module _ (file refs : List ℕ) (v : Store) (declared : List ℕ) (n D : ℕ) (c : Counts) (s : State) (rs : List Row) (decls : Declarations) (end : ℕ)
    (ready : Ready file refs v declared n c s rs decls end) (there : D < c.definitions) (room : n ≤ max_declarations) (k : ℕ) (numbers currents outers : List ℕ)
    (e : Entered s rs ready.worlds.runs v.facts D k numbers currents outers) where
  abbrev W : World
  W = world_of rs D

  abbrev own : Term
  own = own_term file refs v.facts decls k numbers currents outers

  module _ (σ : ℕ → ℕ) (callee : Callee (sense_along s decls W σ) D (params_of s D) own) (t : Term) (stands : Stands (sense_along s decls W σ) (params_of s D) t)
      (same : Same (sense_along s decls W σ) own t) (low : any (calls (λ i. leb D i)) (spell σ t) ≡ false) where
    abbrev g : Sense
    g = sense_along s decls W σ

    abbrev T : Term
    T = prune σ t

    few : D < max_definitions
    few = few-below file refs v declared n D c s rs decls end ready there room k numbers currents outers e

    pub template-calls : Calling (λ i. i < D) 0 (prune σ t)
    template-calls = uses-more (λ i. leb D i ≡ false) (λ i. i < D) (λ i q. leb-false D i q) T (prune-calling (λ i. leb D i) σ t 0 low)

    definitions : Calling IsDefinition 0 T
    definitions = uses-more (λ i. i < D) IsDefinition (λ i q. omega (arith, few)) T template-calls

    pub template-spelt : spell σ (prune σ t) ≡ spell σ t
    template-spelt = prune-spelt g (params_of s D) t stands

    alike : Same g own T
    alike = same-trans g own t T same (stands-prune g (params_of s D) t stands).1

    pub template-callee : Callee (sense_of s σ) D (params_of s D) (prune σ t)
    template-callee =
        record {
          arity = sym (arity-defined s decls W D few) ∙ callee.arity;
          few = callee.few;
          stands = stands-back s decls W σ (params_of s D) T definitions (stands-prune g (params_of s D) t stands).0;
          shape = callee.shape ∙ shape_same g (params_of s D) own t callee.stands stands same ∙ ap shape_of (sym template-spelt);
          as_bytes = λ vs q.
              sym (called-defined s decls W bytes D vs few) ∙ callee.as_bytes vs q ∙ alike.as_bytes vs [] ∙ defined-meaning s decls W bytes vs T 0 [] definitions;
          as_sizes = λ vs q.
              sym (called-defined s decls W sizes D vs few) ∙ callee.as_sizes vs q ∙ alike.as_sizes vs [] ∙ defined-meaning s decls W sizes vs T 0 [] definitions;
        }
