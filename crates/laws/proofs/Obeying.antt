-- A field obeys the rules, each by its name, exactly when no cause refuses it.
use mathlib.Core.Bool.{false}
use mathlib.Core.List.{List, [], ◌∷◌}
use mathlib.Core.Logic.{◌↔◌}
use mathlib.Core.Option.{none}
use mathlib.Core.Path.{◌∙◌, ◌≡◌, refl}
use Prim.Native.Nat.{ℕ}
use Rattle.laws.proofs.Accept.{Clears}
use Rattle.laws.proofs.Causes.{NoneHolds, clear-field, field-judged, free-none}
use Rattle.laws.specs.Lawful.{EachObeys, FieldObeys, Free, holds}
use Rattle.laws.specs.Refused.{field_numbers}
use Rattle.rules.specs.Add.{add}
use Rattle.rules.specs.Field.{Field}
use Rattle.rules.specs.Judge.{Cause, causes, judge}
use Rattle.rules.specs.State.{State}

-- where none holds, none of any number does
pub none_free : (cs : List Cause) (c : ℕ) → NoneHolds cs → holds c cs ≡ false
none_free [] c h = refl
none_free (x ∷ cs) c h = rw h.0 (none_free cs c h.1)

pub field-obeys : (s : State) (f : Field) → (judge s f ≡ none) ↔ FieldObeys s f
field-obeys s f = (there, back)
  where
    there : judge s f ≡ none → FieldObeys s f
    there j =
        let free : (c : ℕ) → Free s f c = λ c. none_free (causes s f) c (clear-field s f j) in
        record {
          order = free 4;
          limits = free 5;
          names = (free 6, free 7, free 8, free 9);
          arity = free 10;
          levels = (free 12, free 13);
          instances = (free 11, free 14, free 21, free 16);
        }

    back : FieldObeys s f → judge s f ≡ none
    back o =
        field-judged s f
        ∙ free-none field_numbers (causes s f)
        (o.order, (o.limits, (o.names.0, (o.names.1, (o.names.2, (o.names.3, (o.arity, (o.instances.0, (o.levels.0, (o.levels.1, (o.instances.1, (o.instances.2, (o.instances.3, tt)))))))))))))

-- and so a row of fields
pub clears-obey : (fs : List Field) (s : State) → Clears s fs → EachObeys s fs
clears-obey [] s c = tt
clears-obey (f ∷ fs) s c = ((field-obeys s f).0 c.0, clears-obey fs (add s f) c.1)

pub obey-clears : (fs : List Field) (s : State) → EachObeys s fs → Clears s fs
obey-clears [] s o = tt
obey-clears (f ∷ fs) s o = ((field-obeys s f).1 o.0, obey-clears fs (add s f) o.1)
