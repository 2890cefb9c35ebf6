-- A run: from its first step to its last.
use mathlib.Core.Bool.{Bool, false, true}
use mathlib.Core.List.{List}
use mathlib.Core.Path.{◌∙◌, ◌≡◌, ap, refl, subst, sym}
use native.Mathlib.Omega.{arith}
use Rattle.std.specs.Prelude.{Err, Ok, Result}
use Prim.Native.Nat.{ℕ, ◌≤◌}
use lib.ListN.{length}
use Rattle.cells.specs.Table.{Sized}
use Rattle.cells.specs.declared.Layout.{Layout}
use Rattle.rewriting.specs.Going.{Over}
use Rattle.streaming.specs.Course.{Underway}
use Rattle.streaming.specs.Step.{Comes, Sane, SaneStep, Steps, StepsHere, StepsInside}
use Rattle.streaming.specs.declared.Now.{Now}
use Rattle.streaming.specs.declared.Stepped.{Stepped}
use Rattle.streaming.specs.declared.Stepped.TheVariants.{Finished, On}
use Rattle.streaming.specs.declared.Fault.{Fault}
use Rattle.streaming.specs.declared.Fault.TheVariants.{Lost, Short}
use Rattle.replacing.proofs.Starting.{start-here}
use Rattle.replacing.specs.Round.{RanOn, Running, StepsIn}

-- a table of the same length
pub sized_same : (l : Layout) (table table₀ : List ℕ) → length table ≡ length table₀ → Sized l (length table₀) → Sized l (length table)
sized_same l table table₀ e z = subst (Sized l) (sym e) z

module _ (a template : List ℕ) (tlen n : ℕ) (l : Layout) (known : ℕ) where
  pub inside-in : (table env out : List ℕ) (s : Now) (table' out' : List ℕ) (r : Result Stepped Fault) → StepsInside template tlen l table out s table' out' r → Sane env out s → s.inside ≡ true
      → StepsIn a template tlen n l known table env out s table' env out' r
  inside-in table env out s table' out' r h z e =
      record { steps = λ shapes. subst (λ (b : Bool). Steps a template tlen shapes n l known b table env out s table' env out' r) (sym e) (h.steps a shapes n known env z) }

  pub here_in : (table env out : List ℕ) (s : Now) (table' env' out' : List ℕ) (r : Result Stepped Fault) → StepsHere a n l known table env out s table' env' out' r → s.inside ≡ false
      → StepsIn a template tlen n l known table env out s table' env' out' r
  here_in table env out s table' env' out' r h e =
      record { steps = λ shapes. subst (λ (b : Bool). Steps a template tlen shapes n l known b table env out s table' env' out' r) (sym e) (h.steps template tlen shapes) }

  pub running-start : (table env out : List ℕ) (s : Now) → length a ≤ 131072 → s.q ≡ 0 → s.p ≡ 0 → s.e ≡ length a → s.rank ≡ 0 → s.top ≡ 0 → s.inside ≡ false → s.tp ≡ 0
      → s.b ≡ 0 → s.d ≡ 0 → Running a template tlen n l known table env out table env out s
  running-start table env out s small q p e rank top inside tp b d =
      record {
        wide = refl;
        deep = refl;
        long = refl;
        sane =
            record {
              written = omega arith;
              bounded = omega arith;
              few = omega arith;
              place = omega arith;
              end = omega arith;
              rank = omega arith;
              top = omega arith;
              inside = omega arith;
            };
        on = λ shapes x z. (
          z,
          subst (λ (i : Bool). Underway i x a template tlen shapes n l known table env out s) (sym inside)
              (start-here x a template tlen shapes n l known table env out s z q p e rank top b d),
        );
      }

  pub run-lost : (table₀ out₀ out' : List ℕ) → RanOn a template tlen n l known table₀ out₀ out' (Err Lost)
  run-lost table₀ out₀ out' = record { ran = λ shapes. record { within = tt; comes = λ x z. tt } }

  module _ (table₀ env₀ out₀ table env out : List ℕ) (s : Now) (h : Running a template tlen n l known table₀ env₀ out₀ table env out s) (table' env' out' : List ℕ) (r : Result Stepped Fault)
      (st : StepsIn a template tlen n l known table env out s table' env' out' r) (lt : length table' ≡ length table) (le : length env' ≡ length env) (lo : length out' ≡ length out) where
    pub running-on : (x : Stepped) (s' : Now) → r ≡ Ok x → x ≡ On s' → Running a template tlen n l known table₀ env₀ out₀ table' env' out' s'
    running-on x s' k i =
        let e : r ≡ Ok (On s') = k ∙ ap (λ (y : Stepped). Ok y) i in
        record {
          wide = lt ∙ h.wide;
          deep = le ∙ h.deep;
          long = lo ∙ h.long;
          sane = subst (SaneStep env' out') e (st.steps table).sane;
          on = λ shapes x z.
              let u = h.on shapes x z in
              subst (Comes x a template tlen shapes n l known table' env' out') e ((st.steps shapes).on x u.0 u.1);
        }

    pub run-finished : (x : Stepped) (len : ℕ) → r ≡ Ok x → x ≡ Finished len → RanOn a template tlen n l known table₀ out₀ out' (Ok len)
    run-finished x len k i =
        let e : r ≡ Ok (Finished len) = k ∙ ap (λ (y : Stepped). Ok y) i in
        record {
          ran = λ shapes.
              record {
                within = let w : len ≤ length out' = subst (SaneStep env' out') e (st.steps table).sane in omega (arith, lo, h.long);
                comes = λ x z.
                    let u = h.on shapes x z in
                    subst (Comes x a template tlen shapes n l known table' env' out') e ((st.steps shapes).on x u.0 u.1);
              };
        }

    pub run-failed : (f : Fault) → r ≡ Err f → RanOn a template tlen n l known table₀ out₀ out' (Err f)
    run-failed Short e =
        record {
          ran = λ shapes.
              record {
                within = tt;
                comes = λ x z.
                    let u = h.on shapes x z in
                    let o : Over x (length out') = subst (Comes x a template tlen shapes n l known table' env' out') e ((st.steps shapes).on x u.0 u.1) in
                    subst (Over x) (lo ∙ h.long) o;
              };
        }
    run-failed Lost e = run-lost table₀ out₀ out'
