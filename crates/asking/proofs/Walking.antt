-- The walk: one lemma for each way through its code, with the facts that the code has there as premises. Of the causes it is skimming's, of the
-- level that over a text.
use mathlib.Core.Bool.{Bool, cond, false, true, ◌||◌}
use mathlib.Core.List.{List}
use mathlib.Core.Path.{◌∙◌, ◌≡◌, ap, refl, subst, sym}
use Prim.Native.Nat.{ℕ, ◌-◌, ◌/◌, ◌^◌, ◌<◌, ◌≤◌}
use native.Mathlib.Omega.{arith}
use lib.Dec.{eqb}
use Rattle.std.specs.Prelude.{Option, None, Some}
use Rattle.limits.specs.Limits.{max_arity, max_nesting}
use Rattle.tokens.specs.Expr.{expr_at, several}
use Rattle.tokens.specs.Fold.{under_of}
use Rattle.resolve.specs.Walk.{word_count}
use Rattle.resolve.specs.declared.Looked.{Looked}
use Rattle.forms.specs.Labels.{Digit, after}
use Rattle.levels.specs.Tables.{Names}
use Rattle.levels.proofs.Walking as down
use Rattle.skimming.proofs.Walking as along
use Rattle.asking.specs.Walk.{AllJudged, Judged, Passed, Roomy, Steps, causes_of, level_of, names_in, under_of as level_under}
use Rattle.asking.specs.declared.Walked.{Walked}
use Rattle.asking.specs.declared.steps.Scope.{Scope}
use Rattle.asking.specs.declared.steps.Step.{Step}
use Rattle.asking.specs.declared.walk.Under.{Under}
use Rattle.store.specs.declared.Facts.{Facts}

-- what is left of a walk, by what it says of the causes and of the level
pub record Going (names : List ℕ) (facts : List Facts) (cs words : List ℕ) (p : ℕ) (s : List ℕ) (at count nesting : ℕ) (u : Under) (start : ℕ) (a : Looked) (form k nest : ℕ) (outer last : Scope) (label labels : ℕ) : Type 0 where
  pub causes : along.Going names facts cs p s at count nesting u.around.bound u.within.bound a k nest outer.bound last.bound
  pub level : down.Going (names_in names facts cs words s) s at count nesting (level_under u) start form a.next k nest outer.bits last.bits label labels

-- the parts of a scope
module _ (k : ℕ) (outer last e : Scope) (h : e ≡ under_of k outer last) where
  bound-under : e.bound ≡ under_of k outer.bound last.bound
  bound-under = ap (λ (y : Scope). y.bound) h ∙ go (eqb k 1)
    where
      go : (c : Bool) → (cond c last outer).bound ≡ cond c last.bound outer.bound
      go true = refl
      go false = refl

  bits-under : e.bits ≡ under_of k outer.bits last.bits
  bits-under = ap (λ (y : Scope). y.bits) h ∙ go (eqb k 1)
    where
      go : (c : Bool) → (cond c last outer).bits ≡ cond c last.bits outer.bits
      go true = refl
      go false = refl

module _ (names : List ℕ) (facts : List Facts) (cs words : List ℕ) (p : ℕ) (s : List ℕ) (at count nesting : ℕ) (u : Under) (start : ℕ) where
  abbrev N : Names
  N = names_in names facts cs words s

  abbrev Answer : Option Walked → Type 0
  Answer w = AllJudged names facts cs words p s u start (several (expr_at nesting s) at count) w

  abbrev GoingHere : Looked → ℕ → ℕ → ℕ → Scope → Scope → ℕ → ℕ → Type 0
  GoingHere a form k nest outer last label labels = Going names facts cs words p s at count nesting u start a form k nest outer last label labels

  pub going_start : (a : Looked) → (a.next ≡ at) × (a.unknown ≡ false) × (a.miscounted ≡ false) → count ≤ max_arity → Roomy nesting u
      → GoingHere a start count nesting u.around u.within u.label u.labels
  going_start a h few r = record {
    causes = along.going_start names facts cs p s at count nesting u.around.bound u.within.bound a h few r.around r.within;
    level = subst (λ (i : ℕ). down.Going N s at count nesting (level_under u) start start i count nesting u.around.bits u.within.bits u.label u.labels) (sym h.0)
        (down.going_start N s at count nesting (level_under u) start r.bits);
  }

  module _ (a : Looked) (form k nest : ℕ) (outer last : Scope) (label labels : ℕ) (inv : GoingHere a form k nest outer last label labels) where
    pub going_end : k ≡ 0 → Answer (Some (record { form = form; looked = a }))
    going_end z = record {
      causes = along.going_end names facts cs p s at count nesting u.around.bound u.within.bound a k nest outer.bound last.bound inv.causes z;
      level = down.going_end N s at count nesting (level_under u) start form a.next k nest outer.bits last.bits label labels inv.level z;
    }

    pub stop-limit : (k ≡ 0 → ⊥) → nest ≡ 0 → Answer None
    stop-limit some z =
        along.stop-limit names facts cs p s at count nesting u.around.bound u.within.bound a k nest outer.bound last.bound inv.causes some z

    module _ (some : k ≡ 0 → ⊥) (e : Scope) (ee : e ≡ under_of k outer last) where
      pub going-bits : e.bits < 2 ^ 63
      going-bits =
          down.going-low N s at count nesting (level_under u) start form a.next k nest outer.bits last.bits label labels inv.level some e.bits
          (bits-under k outer last e ee)

      pub going-bound : e.bound < word_count
      going-bound =
          along.going-low names facts cs p s at count nesting u.around.bound u.within.bound a k nest outer.bound last.bound inv.causes e.bound
          (bound-under k outer last e ee)

      module _ (d : ℕ) (ed : Digit (after label labels) d) where
        pub stop-token : Steps names facts cs words p s e d form a None → Answer None
        stop-token passed =
            along.stop-token names facts cs p s at count nesting u.around.bound u.within.bound a k nest outer.bound last.bound inv.causes some e.bound
            (bound-under k outer last e ee) passed

        module _ (t : Step) (steps : Passed names facts cs words p s e d form a t) (more : nest ≡ 0 → ⊥) where
          pub going-roomy : (m : ℕ) → Roomy (nest - 1) (record { around = e; within = t.inner; label = d; labels = m })
          going-roomy m =
              let f = down.going-fits N s at count nesting (level_under u) start form a.next k nest outer.bits last.bits label labels inv.level some e.bits
              (bits-under k outer last e ee) d ed (level_of t) steps.level more d m ed.low in
              record {
                bits = record { around = f.around; within = f.within; label = f.label };
                around = along.going-below names facts cs p s at count nesting u.around.bound u.within.bound a k nest outer.bound last.bound inv.causes e.bound
                    (bound-under k outer last e ee);
                within = along.going-within names facts cs p s at count nesting u.around.bound u.within.bound a k nest outer.bound last.bound inv.causes e.bound
                    (bound-under k outer last e ee) (causes_of t) steps.causes more;
              }

          -- an argument that has none itself
          pub going-leaf : t.count ≡ 0 → GoingHere t.looked t.form (k - 1) nest outer last label (labels / 8)
          going-leaf z = record {
            causes = along.going-leaf names facts cs p s at count nesting u.around.bound u.within.bound a k nest outer.bound last.bound inv.causes some e.bound
                (bound-under k outer last e ee) (causes_of t) steps.causes more z;
            level = down.going-leaf N s at count nesting (level_under u) start form a.next k nest outer.bits last.bits label labels inv.level some e.bits
                (bits-under k outer last e ee) d ed (level_of t) steps.level more z;
          }

          -- the last argument: what is left is its arguments
          pub going-inside : k ≡ 1 → GoingHere t.looked t.form t.count (nest - 1) e t.inner d t.labels
          going-inside z = record {
            causes = along.going-inside names facts cs p s at count nesting u.around.bound u.within.bound a k nest outer.bound last.bound inv.causes some e.bound
                (bound-under k outer last e ee) (causes_of t) steps.causes more z;
            level = down.going-inside N s at count nesting (level_under u) start form a.next k nest outer.bits last.bits label labels inv.level some e.bits
                (bits-under k outer last e ee) d ed (level_of t) steps.level more z;
          }

          -- another argument
          abbrev Args : Option Walked → Type 0
          Args b = AllJudged names facts cs words p s (record { around = e; within = t.inner; label = d; labels = t.labels }) t.form (several (expr_at (nest - 1) s) t.looked.next t.count) b

          pub stop-inside : Args None → Answer None
          stop-inside passed =
              along.stop-inside names facts cs p s at count nesting u.around.bound u.within.bound a k nest outer.bound last.bound inv.causes some e.bound
              (bound-under k outer last e ee) (causes_of t) steps.causes more passed

          module _ (b : Walked) (args : Args (Some b)) where
            pub going_on : (x : Looked) → (x.next ≡ b.looked.next) × (x.unknown ≡ (t.looked.unknown || b.looked.unknown)) × (x.miscounted ≡ (t.looked.miscounted || b.looked.miscounted))
                → GoingHere x b.form (k - 1) nest outer last label (labels / 8)
            going_on x h = record {
              causes = along.going_on names facts cs p s at count nesting u.around.bound u.within.bound a k nest outer.bound last.bound inv.causes some e.bound
                  (bound-under k outer last e ee) (causes_of t) steps.causes more b.looked args.causes x h;
              level = subst (λ (i : ℕ). down.Going N s at count nesting (level_under u) start b.form i (k - 1) nest outer.bits last.bits label (labels / 8)) (sym h.0)
                  (down.going_on N s at count nesting (level_under u) start form a.next k nest outer.bits last.bits label labels inv.level some e.bits
                  (bits-under k outer last e ee) d ed (level_of t) steps.level more b.form b.looked.next args.level);
            }

-- ---- the whole expression
abbrev outermost : Under
outermost = record { around = record { bits = 0; bound = 0 }; within = record { bits = 0; bound = 0 }; label = 1; labels = 1 }

pub roomy-start : Roomy max_nesting outermost
roomy-start = record { bits = down.fits-start max_nesting 1 (omega arith); around = omega arith; within = omega arith }

pub judged-whole : (names : List ℕ) (facts : List Facts) (cs words : List ℕ) (p : ℕ) (s : List ℕ) (w : Option Walked)
    → AllJudged names facts cs words p s outermost 0 (several (expr_at max_nesting s) 0 1) w → Judged names facts cs words p s w
judged-whole names facts cs words p s None h = along.one-alone names facts cs p 0 max_nesting s 0 None h
judged-whole names facts cs words p s (Some w) h = record {
  causes = along.one-alone names facts cs p 0 max_nesting s 0 (Some w.looked) h.causes;
  level = down.text-shown (names_in names facts cs words s) s 0 w.form w.looked.next h.level;
}
