-- A file that obeys the rules is accepted, an accepted one obeys them, and what its fields add is one state.
use mathlib.Core.List.{List, []}
use mathlib.Core.Path.{◌∙◌, ◌≡◌, ap, refl, sym}
use lib.ListN.{length}
use Prim.Native.Nat.{ℕ}
use Rattle.demands.proofs.Told.{check-told}
use Rattle.demands.specs.Archive.{Enough, check_tells, state_in, state_of}
use Rattle.laws.proofs.Accept.{Accepts, accepted-fields, fields-accepted}
use Rattle.laws.proofs.Checks.{accepted-when-lawful, by-fields, lawful-when-accepted}
use Rattle.laws.proofs.Formats.{not-nil}
use Rattle.laws.proofs.Obeying.{clears-obey, obey-clears}
use Rattle.laws.proofs.Replies.{and_then-result, result-injective}
use Rattle.laws.specs.Lawful.{Obeys, adds}
use Rattle.rules.specs.Bytes.{is_empty}
use Rattle.rules.specs.Run.{Outcome, and_then, checked, result}
use Rattle.rules.specs.State.{State, start}
use Rattle.theory.proofs.Lists.{never}

pub state-of : (file lent : List ℕ) (s : State) → checked file lent ≡ result s → state_of file ≡ s
state-of file lent s a = ap state_in (by-fields file lent s a)

-- a call that accepts reaches the state of the file
pub accepted-state : (file lent : List ℕ) (s : State) → checked file lent ≡ result s → checked file lent ≡ result (state_of file)
accepted-state file lent s a = a ∙ ap {B = Outcome State} result (sym (state-of file lent s a))

obeys-accepts : (file : List ℕ) (o : Obeys file) → Accepts start file (adds start o.fields)
obeys-accepts file o =
    record {
      fields = o.fields;
      fit = o.laid_out.0;
      written = o.laid_out.1;
      clear = obey-clears o.fields start o.each_obeys;
      outside-module = o.ends_outside;
      reached = refl;
    }

pub fields-add : (file : List ℕ) (o : Obeys file) → state_of file ≡ adds start o.fields
fields-add file o = ap state_in (fields-accepted file (adds start o.fields) (obeys-accepts file o))

pub obeys-accepted : (file lent : List ℕ) → Enough lent → (o : Obeys file) → checked file lent ≡ result (state_of file)
obeys-accepted file lent room o =
    accepted-when-lawful file lent (adds start o.fields) (record { room = room; some_bytes = not-nil file o.some_bytes; not_over = o.not_over }) (obeys-accepts file o)
    ∙ ap {B = Outcome State} result (sym (fields-add file o))

pub accepted-obeys : (file lent : List ℕ) (s : State) → checked file lent ≡ result s → Enough lent × Obeys file
accepted-obeys file lent s a =
    let (fit, fields) = lawful-when-accepted file lent s a in
    let r = accepted-fields file s fields in (
      fit.room,
      record {
        some_bytes = λ (q : file ≡ []). never (sym (ap is_empty q) ∙ fit.some_bytes);
        not_over = fit.not_over;
        fields = r.fields;
        laid_out = (r.fit, r.written);
        each_obeys = clears-obey r.fields start r.clear;
        ends_outside = r.outside-module;
      },
    )

-- what a check tells
pub check-accepted : (file lent : List ℕ) (k : ℕ) → check_tells file lent ≡ result k → (checked file lent ≡ result (state_of file)) × (length (state_of file).definitions ≡ k)
check-accepted file lent k e =
    and_then-result (checked file lent) (λ s. result (length s.definitions)) k (sym (check-told file lent) ∙ e) λ s a i.
    (accepted-state file lent s a, ap (λ (s : State). length s.definitions) (state-of file lent s a) ∙ result-injective i)

pub accepted-told : (file lent : List ℕ) (s : State) → checked file lent ≡ result s → check_tells file lent ≡ result (length s.definitions)
accepted-told file lent s a = check-told file lent ∙ ap (λ (o : Outcome State). and_then o λ s. result (length s.definitions)) a
