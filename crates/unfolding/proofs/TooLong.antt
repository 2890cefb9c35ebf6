-- 18, "expansion longer than .. 65,535 bytes", told from the string of what a call stands for.
use mathlib.Core.Bool.{true}
use mathlib.Core.List.{List, []}
use mathlib.Core.Logic.{◌⊎◌, inl, inr}
use mathlib.Core.Path.{◌∙◌, ◌≡◌, ap, subst, sym}
use lib.Dec.{eqb}
use lib.ListN.{replicate}
use native.Mathlib.Omega.{arith}
use Prim.Native.Nat.{◌<◌, ◌≤◌, ℕ}
use Rattle.limits.specs.Limits.{max_definitions}
use Rattle.symbols.proofs.Scopes.{wide-long}
use Rattle.symbols.specs.Spell.{spell}
use Rattle.symbols.specs.Symbol.{Symbol, calls, size, wide}
use Rattle.theory.proofs.Size.{sizes}
use Rattle.theory.specs.Lists.{any}
use Rattle.theory.specs.Term.{Term, eval, with_defined}
use Rattle.rules.specs.State.{State, params_of}
use Rattle.texts.specs.Text.{Declarations}
use Rattle.store.specs.declared.Store.{Store}
use Rattle.context.specs.declared.Counts.{Counts}
use Rattle.worlds.proofs.Uses.{uses-more}
use Rattle.worlds.specs.Rows.{Row, world_of}
use Rattle.worlds.specs.World.{World}
use Rattle.chains.specs.Ready.{Ready}
use Rattle.unfolding.specs.CalleeTerm.{sense_along, sense_of}
use Rattle.unfolding.specs.Meaning.{meaning_of}
use Rattle.unfolding.specs.Replace.{replace_all}
use Rattle.unfolding.specs.Right.{BitsRight, Calling}
use Rattle.unfolding.specs.Sense.{Callee, Right, Same, Sense, Stands}
use Rattle.unfolding.proofs.DefinedCalls.{IsDefinition, defined-meaning}
use Rattle.unfolding.proofs.Grown.{grown}
use Rattle.unfolding.proofs.Replaced.{replaced-calling, replaced-formed, replaced-same}
use Rattle.unfolding.proofs.SameLaws.{too_long}
use Rattle.unfolding.proofs.SenseLaws.{callee_same, stands-along, stands-definitions, stands-shapes}
use Rattle.unfolding.proofs.SpellAgree.{spell-agree}

-- Where a number is called whose text has a string too long, the expansion is too long.
pub called-long : (g : Sense) (n m : ℕ) (T : Term) → Callee g n m T → (p : ℕ) (t : Term) → Stands g p t → any (calls (eqb n)) (spell g.shape t) ≡ true
    → (131070 < size (spell g.shape T)) ⊎ (wide (spell g.shape T) ≡ true) → 65535 < eval (with_defined sizes g.as_sizes) (replicate p 2) [] t
called-long g n m T callee p t stands e l =
    rw (sym (replaced-same g.arity n m T callee.stands.formed callee.arity sizes g.as_sizes callee.as_sizes p 0 t stands.formed (replicate p 2) []))
    (too_long g p (replace_all n T t) after (inl (omega (arith, long l, more))))
  where
    after : Stands g p (replace_all n T t)
    after =
        record {
          formed = replaced-formed g.arity n m T callee.stands.formed callee.arity p 0 t stands.formed;
          calls =
              replaced-calling g.arity n m T callee.stands.formed callee.arity (Right g) (Right g) callee.stands.calls (λ x a r. r) p 0 t stands.formed
              stands.calls;
        }

    bits : (q : ℕ) (x : Term) → Stands g q x → Calling (BitsRight g.shape g.arity) 0 x
    bits q x st = uses-more (Right g) (BitsRight g.shape g.arity) (λ x r. r.0.1) x st.calls

    more : size (spell g.shape T) ≤ size (spell g.shape (replace_all n T t))
    more =
        grown g.shape g.arity n m T callee.stands.formed callee.arity callee.few callee.shape (bits m T callee.stands) p t 0 0 stands.formed
        (bits p t stands) e

    long : (131070 < size (spell g.shape T)) ⊎ (wide (spell g.shape T) ≡ true) → 131070 < size (spell g.shape T)
    long (inl h) = h
    long (inr h) = omega (arith, wide-long g.shape g.arity m T callee.stands.formed h)

-- A definition whose text is found too long while its stand-ins are taken out: every expansion that holds a call of it is too long. The
-- shapes σ are those of the definitions, τ those along the chain.
module _ (file refs : List ℕ) (v : Store) (declared : List ℕ) (n D : ℕ) (c : Counts) (s : State) (rs : List Row) (decls : Declarations) (end : ℕ)
    (ready : Ready file refs v declared n c s rs decls end) (σ τ : ℕ → ℕ) (agree : (h : ℕ) → h < max_definitions → σ h ≡ τ h) (own t : Term)
    (callee : Callee (sense_along s decls (world_of rs D) τ) D (params_of s D) own) (stands : Stands (sense_along s decls (world_of rs D) τ) (params_of s D) t)
    (same : Same (sense_along s decls (world_of rs D) τ) own t) (long : (131070 < size (spell τ t)) ⊎ (wide (spell τ t) ≡ true)) where
  abbrev W : World
  W = world_of rs D

  abbrev g : Sense
  g = sense_along s decls W τ

  pub template-long : (p : ℕ) (u : Term) → Stands (sense_of s σ) p u → any (calls (eqb D)) (spell σ u) ≡ true
      → 65535 < eval (with_defined sizes (meaning_of sizes s)) (replicate p 2) [] u
  template-long p u a e =
      subst (λ (x : ℕ). 65535 < x) (defined-meaning s decls W sizes (replicate p 2) u 0 [] low)
      (called-long g D (params_of s D) t (callee_same g D (params_of s D) own t callee stands same) p u
      (stands-along s decls W τ p u low (stands-shapes s σ τ p u alike a))
      (sym (ap (λ (gs : List Symbol). any (calls (eqb D)) gs) (spell-agree σ τ u 0 alike)) ∙ e) long)
    where
      low : Calling IsDefinition 0 u
      low = stands-definitions s ready.sound (omega (arith, ready.few, ready.counted)) σ p u a

      alike : Calling (λ h. σ h ≡ τ h) 0 u
      alike = uses-more IsDefinition (λ h. σ h ≡ τ h) agree u low
