-- "bound indices moved so that nothing is captured": levels cannot see a capture, but other readings can, and none tells what is replaced in full from the
-- expression with its names.
use mathlib.Core.List.{List, [], ◌∷◌}
use mathlib.Core.Option.{some}
use mathlib.Core.Path.{◌∙◌, ◌≡◌, ap, sym}
use lib.ListN.{length}
use native.Mathlib.Omega.{arith}
use Prim.Native.Nat.{◌<◌, ℕ}
use Rattle.demands.proofs.InFull.{in-full}
use Rattle.demands.specs.LongWay.{InFull}
use Rattle.laws.specs.Cards.{name_at_params}
use Rattle.laws.proofs.Checks.{by-fields}
use Rattle.laws.proofs.Invariant.{Good, good-file}
use Rattle.laws.proofs.Replacing.{expansion-of-name, known-below}
use Rattle.laws.proofs.Sound.{all-formed, length-templates}
use Rattle.rules.specs.Run.{checked, result}
use Rattle.rules.specs.State.{State, expansion_of, meanings, templates_of}
use Rattle.theory.proofs.ExpandFirst.{Keeps, expand-first, no-defined}
use Rattle.theory.proofs.Fusion.{Anything, anywhere}
use Rattle.theory.proofs.Summary.{AllFormed}
use Rattle.theory.proofs.Demand3.{expansion-formed, template-formed}
use Rattle.theory.specs.Expand.{arities_of, body_in}
use Rattle.theory.specs.Lists.{All}
use Rattle.theory.specs.Term.{Reading, Term, WellFormed, eval, with_defined}

module _ {A : Type 0} where
  any-kept : (N : Reading A) → Keeps N Anything
  any-kept N = record { on_declared = λ k x vs a. tt; on_defined = λ g vs a. tt; on_builtin = λ c args a. tt; on_leaf = λ n. tt; looks = anywhere N }

  any-all : (vs : List A) → All Anything vs
  any-all [] = tt
  any-all (v ∷ vs) = (tt, any-all vs)

-- Whatever built-ins, declared names and literals mean, in any type: each defined name meaning what its body in full does, a term means what it comes to when it
-- is replaced in full.
pub same-meaning : (file memory : List ℕ) (s : State) → checked file memory ≡ result s → {A : Type 0} (M : Reading A) (ρ : List A) (n : ℕ) (t u : Term)
    → WellFormed (arities_of (templates_of s)) n 0 t → InFull s t u → (body : ℕ → Term) → ((g : ℕ) → g < length s.definitions → InFull s (name_at_params s g) (body g))
    → eval M ρ [] u ≡ eval (with_defined M (λ g vs. eval M vs [] (body g))) ρ [] t
same-meaning file memory s accepted {A} M ρ n t u w r body bodies =
    ap (eval M ρ []) (in-full file memory s accepted t u r) ∙ sym (no-defined M G n 0 ρ [] (expansion_of s t) (expansion-formed (meanings s) lawful n t w))
    ∙ expand-first N Anything (any-kept N) (arities_of (templates_of s)) (body_in (templates_of s)) (template-formed (meanings s) lawful) agree n 0 ρ [] t (any-all ρ) tt w
  where
    G : ℕ → List A → A
    G g vs = eval M vs [] (body g)

    N : Reading A
    N = with_defined M G

    good : Good s
    good = good-file file s (by-fields file memory s accepted)

    lawful : AllFormed [] (meanings s)
    lawful = all-formed [] s.definitions good.sound

    agree : (g : ℕ) (vs : List A) → arities_of (templates_of s) g ≡ some (length vs) → All Anything vs → G g vs ≡ eval N vs [] (body_in (templates_of s) g)
    agree g vs a gvs =
        let l : g < length s.definitions = omega (arith, known-below (templates_of s) g (length vs) a, length-templates [] s.definitions) in
        ap (eval M vs []) (in-full file memory s accepted (name_at_params s g) (body g) (bodies g l) ∙ expansion-of-name s good g l)
        ∙ sym (no-defined M G (length vs) 0 vs [] (body_in (templates_of s) g) (template-formed (meanings s) lawful g (length vs) a))
