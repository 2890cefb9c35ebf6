-- The loop of an expansion: from the highest definition that is called down to none.
use mathlib.Core.Bool.{Bool, cond, false, true}
use mathlib.Core.List.{List, [], ◌∷◌}
use mathlib.Core.Path.{◌∙◌, ◌≡◌, ap, refl, sym}
use borrow.Author.Tests.{ltb-true}
use lib.Dec.{ltb}
use lib.ListN.{length}
use native.Mathlib.Omega.{arith}
use Prim.Native.Nat.{◌-◌, ◌<◌, ◌≤◌, max, min, suc, ℕ}
use Rattle.limits.specs.Limits.{max_definitions}
use Rattle.store.specs.declared.Store.{Store}
use Rattle.rules.specs.State.{State}
use Rattle.strings.specs.Read.{highest_call, string_at}
use Rattle.std.specs.Prelude.{None, Option, Some}
use Rattle.std.proofs.lemmas.Option.{none-some, same_Some}
use Rattle.symbols.specs.Spell.{spell}
use Rattle.symbols.specs.Symbol.{Symbol, begin, call, code, end, name, number, par, var}
use Rattle.theory.specs.Term.{Term}
use Rattle.unfolding.proofs.AllRight.{RightBelow}
use Rattle.spelling.specs.Strings.{ShapesFit, shapes_of}
use Rattle.templates.specs.Told.{Told}
use Rattle.expanding.proofs.Ends.{none-called}
use Rattle.expanding.proofs.Passing.{as_read, held_low}
use Rattle.expanding.specs.Held.{CallsReplaced, Expands, Held, Whole}

at_most : (gs : List Symbol) (x : ℕ) → x ≤ max_definitions → highest_call gs ≤ max_definitions → max x (highest_call gs) ≤ max_definitions
at_most gs x a b = omega arith

highest-few : (gs : List Symbol) → highest_call gs ≤ max_definitions
highest-few [] = omega arith
highest-few (par i ∷ gs) = at_most gs 0 (omega arith) (highest-few gs)
highest-few (var j ∷ gs) = at_most gs 0 (omega arith) (highest-few gs)
highest-few (name x k ∷ gs) = at_most gs 0 (omega arith) (highest-few gs)
highest-few (code c ∷ gs) = at_most gs 0 (omega arith) (highest-few gs)
highest-few (number v ∷ gs) = at_most gs 0 (omega arith) (highest-few gs)
highest-few (call n ∷ gs) = at_most gs (cond (ltb n max_definitions) (suc n) 0) (low (ltb n max_definitions) refl) (highest-few gs)
  where
    low : (b : Bool) → ltb n max_definitions ≡ b → cond b (suc n) 0 ≤ max_definitions
    low true e = omega (arith, ltb-true n max_definitions e)
    low false e = omega arith
highest-few (begin ∷ gs) = at_most gs 0 (omega arith) (highest-few gs)
highest-few (end ∷ gs) = at_most gs 0 (omega arith) (highest-few gs)

-- k is one more than the highest definition that is called
pub record AtCall (s : State) (σ : ℕ → ℕ) (p : ℕ) (t : Term) (a : List ℕ) (len k : ℕ) : Type 0 where
  pub held : Held s σ p t a len
  pub highest : highest_call (spell σ held.term) ≡ k

module _ (file refs : List ℕ) (v : Store) (declared : List ℕ) (n : ℕ) (shapes before : List ℕ) (len : ℕ) where
  pub record Going (a : List ℕ) (size k : ℕ) : Type 0 where
    pub long : length a ≡ length before
    pub inside : size ≤ length before
    pub few : k ≤ max_definitions
    pub going : (x : Told file refs v declared n) → ShapesFit shapes → RightBelow x.state (shapes_of shapes) x.counts.definitions → (p : ℕ) (t : Term)
        → Held x.state (shapes_of shapes) p t before len → AtCall x.state (shapes_of shapes) p t a size k

  pub going_start : len ≤ length before → (k : ℕ) → k ≡ highest_call (string_at before 0 len) → Going before len k
  going_start l k e =
      record {
        long = refl;
        inside = l;
        few = rw e (highest-few (string_at before 0 len));
        going = λ x fit right p t h. record { held = h; highest = sym (e ∙ ap highest_call (as_read file refs v declared n x shapes p t before len h l)) };
      }

  module _ (a : List ℕ) (size k : ℕ) (here : Going a size k) where
    pub going_on : 0 < k → (after : List ℕ) (r : Option ℕ) → CallsReplaced file refs v declared n shapes (k - 1) a size after r → (q : ℕ) → r ≡ Some q → length after ≡ length a
        → (c : ℕ) → c ≡ highest_call (string_at after 0 q) → (k' : ℕ) → k' ≡ min (k - 1) c → Going after q k'
    going_on l after r step next fits same c is_c k' is-k =
        record {
          long = same ∙ here.long;
          inside = omega (arith, step.within next fits, here.long);
          few = omega (arith, here.few);
          going = λ x fit right p t h.
              let q = here.going x fit right p t h in
              let z = (step.replaced x fit right p t q.held (omega (arith, q.highest))).yes next fits in
              let s = is_c ∙ ap highest_call (as_read file refs v declared n x shapes p t after next z.held (omega (arith, step.within next fits))) in
              record { held = z.held; highest = omega (arith, z.below, s) };
        }

    pub going-short : 0 < k → (after : List ℕ) (r : Option ℕ) → CallsReplaced file refs v declared n shapes (k - 1) a size after r → r ≡ None → (r' : Option ℕ)
        → r' ≡ None → Expands file refs v declared n shapes before len after r'
    going-short l after r step fits r' missed =
        rw missed
        (record {
          within = λ i e. absurd (none-some i e);
          expanded = λ x fit right p t h.
              let q = here.going x fit right p t h in
              record {
                yes = λ i e. absurd (none-some i e);
                no = λ e. (step.replaced x fit right p t q.held (omega (arith, q.highest))).no fits;
              };
        })

    pub going_end : k ≤ 0 → Expands file refs v declared n shapes before len a (Some size)
    going_end l =
        record {
          within = λ i e. rw (← same_Some size i e) here.inside;
          expanded = λ x fit right p t h.
              let q = here.going x fit right p t h in
              let low = held_low file refs v declared n x shapes p t a size q.held in
              let whole : Whole x.state (shapes_of shapes) p t a size = record { held = q.held; clear = none-called (spell (shapes_of shapes) q.held.term) (omega (arith, q.highest)) low } in
              record { yes = λ i e. rw (← same_Some size i e) whole; no = λ e. absurd (none-some size (sym e)) };
        }
