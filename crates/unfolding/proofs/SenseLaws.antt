-- What stands, and what a call stands for, from one sense to another: other shapes that agree, other terms that mean the same, and definitions
-- along a chain.
use mathlib.Core.List.{[]}
use mathlib.Core.Option.{some}
use mathlib.Core.Path.{◌∙◌, ◌≡◌, ap, sym}
use lib.ListN.{length}
use native.Mathlib.Omega.{arith}
use Prim.Native.Nat.{◌<◌, ◌≤◌, ℕ}
use Rattle.limits.specs.Limits.{max_arity, max_definitions}
use Rattle.symbols.specs.Spell.{shape_of}
use Rattle.theory.specs.Expand.{arities_of}
use Rattle.theory.specs.Term.{Term}
use Rattle.rules.specs.State.{State, params_of, templates_of}
use Rattle.laws.proofs.Formats.{some-injective}
use Rattle.laws.proofs.Invariant.{arity-known}
use Rattle.laws.proofs.Replacing.{known-below}
use Rattle.laws.proofs.Sound.{SoundFrom, length-templates}
use Rattle.texts.specs.Text.{Declarations}
use Rattle.worlds.proofs.Uses.{uses-all}
use Rattle.worlds.specs.World.{World}
use Rattle.unfolding.specs.CalleeTerm.{sense_along, sense_of}
use Rattle.unfolding.specs.Right.{Calling}
use Rattle.unfolding.specs.Sense.{Callee, Right, Same, Sense, Stands}
use Rattle.unfolding.proofs.Callees.{right-along, right-shapes}
use Rattle.unfolding.proofs.DefinedCalls.{IsDefinition, formed-along}
use Rattle.unfolding.proofs.ShapeSame.{shape_same}
use Rattle.unfolding.proofs.SpellAgree.{spell-agree}
use Rattle.unfolding.proofs.TemplateCallee.{calling-both}

-- a call stands for all that means the same
pub callee_same : (g : Sense) (n m : ℕ) (T u : Term) → Callee g n m T → Stands g m u → Same g T u → Callee g n m u
callee_same g n m T u c stands same =
    record {
      arity = c.arity;
      few = c.few;
      stands = stands;
      shape = c.shape ∙ shape_same g m T u c.stands stands same;
      as_bytes = λ vs q. c.as_bytes vs q ∙ same.as_bytes vs [];
      as_sizes = λ vs q. c.as_sizes vs q ∙ same.as_sizes vs [];
    }

-- tables of shapes that agree on what a term calls
module _ (s : State) (σ σ' : ℕ → ℕ) where
  pub stands-shapes : (p : ℕ) (t : Term) → Calling (λ h. σ h ≡ σ' h) 0 t → Stands (sense_of s σ) p t → Stands (sense_of s σ') p t
  stands-shapes p t u a =
      record {
        formed = a.formed;
        calls = calling-both (λ h. σ h ≡ σ' h) (Right (sense_of s σ)) (Right (sense_of s σ')) (λ h e r. right-shapes s σ σ' h e r) t 0 u a.calls;
      }

  pub callee-shapes : (n m : ℕ) (T : Term) → σ n ≡ σ' n → Calling (λ h. σ h ≡ σ' h) 0 T → Callee (sense_of s σ) n m T → Callee (sense_of s σ') n m T
  callee-shapes n m T e u c =
      record {
        arity = c.arity;
        few = c.few;
        stands = stands-shapes m T u c.stands;
        shape = sym e ∙ c.shape ∙ ap shape_of (spell-agree σ σ' T 0 u);
        as_bytes = c.as_bytes;
        as_sizes = c.as_sizes;
      }

  pub same-shapes : (t u : Term) → Same (sense_of s σ) t u → Same (sense_of s σ') t u
  same-shapes t u a = record { as_bytes = a.as_bytes; as_sizes = a.as_sizes }

-- What is known of a state are definitions of at most eight parameters.
module _ (s : State) (sound : SoundFrom [] s.definitions) where
  pub arity-inside : (h m : ℕ) → arities_of (templates_of s) h ≡ some m → h < length s.definitions
  arity-inside h m e = omega (arith, known-below (templates_of s) h m e, length-templates [] s.definitions)

  pub arity-few : ((g : ℕ) → g < length s.definitions → params_of s g ≤ max_arity) → (h m : ℕ) → arities_of (templates_of s) h ≡ some m → m ≤ max_arity
  arity-few params h m e =
      let l : h < length s.definitions = arity-inside h m e in
      let z : params_of s h ≡ m = some-injective (sym (arity-known s sound h l) ∙ e) in
      omega (arith, params h l)

  -- so a term that stands calls only definitions
  pub stands-definitions : length s.definitions ≤ max_definitions → (σ : ℕ → ℕ) (p : ℕ) (t : Term) → Stands (sense_of s σ) p t → Calling IsDefinition 0 t
  stands-definitions few σ p t a =
      uses-all IsDefinition (arities_of (templates_of s)) p t (λ h m e. omega (arith, arity-inside h m e)) a.formed

-- and stands along every chain
pub stands-along : (s : State) (decls : Declarations) (w : World) (σ : ℕ → ℕ) (p : ℕ) (t : Term) → Calling IsDefinition 0 t → Stands (sense_of s σ) p t
    → Stands (sense_along s decls w σ) p t
stands-along s decls w σ p t u a =
    record {
      formed = formed-along s decls w p 0 t a.formed u;
      calls = calling-both IsDefinition (Right (sense_of s σ)) (Right (sense_along s decls w σ)) (λ h q r. right-along s decls w σ h q r) t 0 u a.calls;
    }
