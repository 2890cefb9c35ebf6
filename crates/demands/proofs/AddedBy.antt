-- Every definition of an accepted file comes from one of its fields.
use mathlib.Core.List.{List, [], ◌++◌, ◌∷◌}
use mathlib.Core.Path.{◌∙◌, ◌≡◌, ap, refl, sym}
use lib.ListN.{get_or-append, get_or, length, length-append}
use lib.Seq.{get_or-append-add}
use native.Mathlib.Decide.{dec_lt}
use native.Mathlib.Omega.{arith}
use Prim.Native.Nat.{◌+◌, ◌-◌, ◌<◌, ◌≤◌, ℕ}
use Rattle.demands.specs.AddedBy.{AddedBy, added}
use Rattle.laws.specs.Lawful.{adds}
use Rattle.rules.specs.Add.{add}
use Rattle.rules.specs.Field.{Field, assume, begin_module, declare_constant, declare_variable, definition, end_module, extends, instance, theorem}
use Rattle.rules.specs.State.{Added, State, definition_at, no_definition}

more : (s : State) (f : Field) → (add s f).definitions ≡ s.definitions ++ added s f
more s (begin_module n) = refl
more s (extends m ms) = refl
more s (declare_constant n k) = refl
more s (declare_variable n) = refl
more s (definition n p e) = refl
more s (instance n p m ss) = refl
more s end_module = refl
more s (assume e) = refl
more s (theorem e) = refl

more-long : (s : State) (f : Field) → length (add s f).definitions ≡ length s.definitions + length (added s f)
more-long s f = ap length (more s f) ∙ length-append s.definitions (added s f)

-- what fields add later changes no definition
stays-added : (fs : List Field) (s : State) (g : ℕ) → g < length s.definitions → definition_at (adds s fs) g ≡ definition_at s g
stays-added [] s g l = refl
stays-added (f ∷ fs) s g l =
    stays-added fs (add s f) g (omega (arith, more-long s f)) ∙ ap (λ (ds : List Added). get_or ds g no_definition) (more s f)
    ∙ get_or-append s.definitions (added s f) no_definition g l

pub added-by : (fs : List Field) (s : State) (g : ℕ) → length s.definitions ≤ g → g < length (adds s fs).definitions → AddedBy s fs g
added-by [] s g l h = absurd (omega arith)
added-by (f ∷ fs) s g l h = here-or-later (dec_lt g (length (add s f).definitions)) (λ q. added-by fs (add s f) g q h)
  where
    here-or-later : Dec (g < length (add s f).definitions) → (length (add s f).definitions ≤ g → AddedBy (add s f) fs g) → AddedBy s (f ∷ fs) g
    here-or-later (yes q) later =
        let i = g - length s.definitions in
        let number : length s.definitions + i ≡ g = omega arith in
        record {
          before = [];
          here = f;
          behind = fs;
          i = i;
          fields = refl;
          number = number;
          there = omega (arith, more-long s f);
          is =
              stays-added fs (add s f) g q ∙ ap (λ (ds : List Added). get_or ds g no_definition) (more s f)
              ∙ ap (λ (n : ℕ). get_or (s.definitions ++ added s f) n no_definition) (sym number) ∙ get_or-append-add s.definitions (added s f) i no_definition;
        }
    here-or-later (no q) later =
        let r = later (omega (arith, q)) in
        record {
          before = f ∷ r.before;
          here = r.here;
          behind = r.behind;
          i = r.i;
          fields = ap (λ (l : List Field). f ∷ l) r.fields;
          number = r.number;
          there = r.there;
          is = r.is;
        }
