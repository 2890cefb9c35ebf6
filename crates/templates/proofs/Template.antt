-- The template of a definition is what the definition stands for.
use mathlib.Core.Bool.{false, true}
use mathlib.Core.List.{List}
use mathlib.Core.Logic.{◌⊎◌, inl, inr}
use mathlib.Core.Option.{some}
use mathlib.Core.Path.{◌∙◌, ◌≡◌, subst, sym}
use borrow.Author.Tests.{leb-false, ne_eqb}
use lib.Dec.{eqb, leb}
use lib.ListN.{get_or}
use native.Mathlib.Omega.{arith}
use Prim.Native.Nat.{◌<◌, ◌≤◌, ℕ}
use Rattle.limits.specs.Limits.{max_definitions}
use Rattle.symbols.specs.Spell.{max_params, spell}
use Rattle.symbols.specs.Symbol.{Spelt, Symbol, calls, size, wide}
use Rattle.theory.specs.Expand.{arities_of}
use Rattle.theory.specs.Lists.{any}
use Rattle.theory.specs.Term.{Term}
use Rattle.rules.specs.State.{params_of, templates_of}
use Rattle.store.specs.declared.Store.{Store}
use Rattle.worlds.proofs.Uses.{uses-more}
use Rattle.worlds.specs.Rows.{world_of}
use Rattle.strings.specs.Read.{far}
use Rattle.std.specs.Prelude.{Option}
use Rattle.unfolding.proofs.AllRight.{RightBelow}
use Rattle.unfolding.proofs.Callees.{right-shapes}
use Rattle.unfolding.proofs.SenseLaws.{arity-few, callee-shapes}
use Rattle.unfolding.proofs.ShapeSteps.{below-kept, own-known}
use Rattle.unfolding.proofs.SpellAgree.{spell-agree}
use Rattle.unfolding.proofs.TemplateCallee.{template-callee, template-calls, template-spelt}
use Rattle.unfolding.proofs.TemplateSteps.{calls-both}
use Rattle.unfolding.proofs.TooLong.{template-long}
use Rattle.unfolding.specs.CalleeTerm.{own_term, sense_along}
use Rattle.unfolding.specs.Prune.{prune}
use Rattle.unfolding.specs.Right.{Calling}
use Rattle.unfolding.specs.Sense.{Callee}
use Rattle.spelling.specs.Strings.{ShapesFit, shapes_of}
use Rattle.templates.proofs.Numbers.{low}
use Rattle.templates.specs.Made.{MadeOf, TemplateMade, TemplateTerm, TooLong}
use Rattle.templates.specs.Shaped.{Prepared}
use Rattle.templates.specs.Taking.{Known, MidAt, MidLong, OwnTaken, work_bytes}
use Rattle.templates.specs.Told.{Told}

module _ (file refs : List ℕ) (v : Store) (declared : List ℕ) (n d : ℕ) (shapes : List ℕ) (k : ℕ) (numbers currents outers along work : List ℕ) (r : Option ℕ)
    (p : Prepared file refs v declared n d shapes k numbers currents outers along) (o : OwnTaken file refs v declared k numbers currents outers along work r) where
  module _ (x : Told file refs v declared n) (there : d < x.counts.definitions) (fit : ShapesFit shapes)
      (right : RightBelow x.state (shapes_of shapes) x.counts.definitions) where
    abbrev σ : ℕ → ℕ
    σ = shapes_of shapes

    abbrev τ : ℕ → ℕ
    τ = shapes_of along

    abbrev own : Term
    own = own_term file refs v.facts x.decls k numbers currents outers

    few : d < max_definitions
    few = low file refs v declared n d k numbers currents outers x there (p.chain x there)

    alike : (i : ℕ) → i < max_definitions → get_or shapes i 0 ≡ get_or along i 0
    alike i q = sym (p.kept i (omega arith))

    known : Known file refs v declared n d k numbers currents outers along x
    known =
        record {
          there = there;
          chain = p.chain x there;
          fit = p.fit fit;
          below = below-kept x.state σ τ d (λ i q. alike i (omega (arith, few))) (λ i q. right i (omega arith));
          shaped = p.right x there fit;
        }

    callee : Callee (sense_along x.state x.decls (world_of x.rows d) τ) d (params_of x.state d) own
    callee =
        own-known file refs v declared n d x.counts x.state x.rows x.decls x.end x.ready there x.room k numbers currents outers (p.chain x there) τ
        known.below (right-shapes x.state σ τ d (alike d few) (right d there)) known.shaped

    module _ (len : ℕ) (at : MidAt file refs v declared n d k numbers currents outers along x work len) (down : any (calls (λ i. leb d i)) (spell τ at.term) ≡ false) where
      abbrev t : Term
      t = at.term

      calls-low : Calling (λ i. i < d) 0 (prune τ t)
      calls-low =
          template-calls file refs v declared n d x.counts x.state x.rows x.decls x.end x.ready there x.room k numbers currents outers (p.chain x there) τ
          callee t at.mid.taken.stands at.mid.taken.same down

      same-shapes : Calling (λ i. τ i ≡ σ i) 0 (prune τ t)
      same-shapes = uses-more (λ i. i < d) (λ i. τ i ≡ σ i) (λ i q. sym (alike i (omega (arith, few)))) (prune τ t) calls-low

      -- the string along the chain is the string along none
      string : spell τ t ≡ spell σ (prune τ t)
      string =
          sym (template-spelt file refs v declared n d x.counts x.state x.rows x.decls x.end x.ready there x.room k numbers currents outers (p.chain x there) τ
          callee t at.mid.taken.stands at.mid.taken.same down)
          ∙ spell-agree τ σ (prune τ t) 0 same-shapes

      template-term : TemplateTerm x.state d (shapes_of shapes) work len
      template-term =
          record {
            term = prune τ t;
            callee =
                callee-shapes x.state τ σ d (params_of x.state d) (prune τ t) (sym (alike d few)) same-shapes
                (template-callee file refs v declared n d x.counts x.state x.rows x.decls x.end x.ready there x.room k numbers currents outers (p.chain x there) τ
                callee t at.mid.taken.stands at.mid.taken.same down);
            low = subst (λ (gs : List Symbol). any (calls (λ i. leb d i)) gs ≡ false) string down;
            fresh =
                subst (λ (gs : List Symbol). any (calls (eqb d)) gs ≡ false) string
                (calls-both (λ i. leb d i) (λ i. leb d i) (eqb d) (λ i a b. ne_eqb d i (λ (z : d ≡ i). omega (arith, leb-false d i a))) (spell τ t) down down);
            near = subst (λ (gs : List Symbol). far gs ≡ false) string at.mid.near;
            spelt = subst (λ (gs : List Symbol). Spelt work 0 gs len) string at.spelt;
          }

    too_long : MidLong file refs v declared n d k numbers currents outers along x work_bytes → TooLong x.state d (shapes_of shapes)
    too_long m =
        template-long file refs v declared n d x.counts x.state x.rows x.decls x.end x.ready σ τ alike own m.term callee m.mid.taken.stands m.mid.taken.same
        (go m.long)
      where
        go : (work_bytes < size (spell τ m.term)) ⊎ (wide (spell τ m.term) ≡ true) → (131070 < size (spell τ m.term)) ⊎ (wide (spell τ m.term) ≡ true)
        go (inl l) = inl (omega arith)
        go (inr l) = inr l

    made : MadeOf x.state d (shapes_of shapes) work r
    made =
        let y = o.on n x d known in
        record {
          yes = λ len f.
              let z = y.0 len f in
              template-term len z.0 z.1;
          no = λ f. too_long (y.1 f);
        }

  pub template-made : TemplateMade file refs v declared n d shapes work r
  template-made = record { long = o.long; within = o.within; made = made }

-- no definition has more arguments than a shape has bits for
pub few-arity : (file refs : List ℕ) (v : Store) (declared : List ℕ) (n : ℕ) (x : Told file refs v declared n) (h m : ℕ) → arities_of (templates_of x.state) h ≡ some m → m ≤ max_params
few-arity file refs v declared n x h m e = omega (arith, arity-few x.state x.ready.sound x.ready.params h m e)
