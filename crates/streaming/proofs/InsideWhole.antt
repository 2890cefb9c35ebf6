-- A step in the template, whatever the string is.
use Rattle.std.specs.Prelude.{Err, Ok, Result}
use mathlib.Core.Bool.{true}
use mathlib.Core.List.{List}
use mathlib.Core.Path.{◌≡◌, refl, subst, sym}
use native.Mathlib.Omega.{arith}
use Prim.Native.Nat.{ℕ, ◌<◌, ◌≤◌}
use Rattle.symbols.specs.Symbol.{Symbol, begin, call, code, end, name, number, par, var}
use Rattle.strings.proofs.Reading.{width_some}
use Rattle.strings.specs.Read.{symbol_at}
use Rattle.cells.specs.declared.Layout.{Layout}
use Rattle.streaming.proofs.InsideParts.{entered_on, entered-read, left-on}
use Rattle.streaming.proofs.InsideSteps.{Itself, no_room, wrote_on}
use Rattle.streaming.specs.Inside.{Entered, Goes, Left, Reads, Writes, Wrote, behind, entered}
use Rattle.streaming.specs.Step.{Sane, Steps, StepsInside}
use Rattle.streaming.specs.declared.Now.{Now}
use Rattle.streaming.specs.declared.Fault.{Fault}
use Rattle.streaming.specs.declared.Stepped.{Stepped}
use Rattle.streaming.specs.declared.Stepped.TheVariants.{Finished, On}
use Rattle.streaming.specs.declared.Fault.TheVariants.{Lost, Short}

module _ (template : List ℕ) (tlen : ℕ) (l : Layout) (table out : List ℕ) (s : Now) where
  -- a call left
  pub left-steps : (r : Result Stepped Fault) → tlen ≤ s.tp → Goes (Left l s table) r → StepsInside template tlen l table out s table out r
  left-steps r h w = record { steps = λ a shapes n known env k. go a shapes n known env k r w }
    where
      go : (a shapes : List ℕ) (n known : ℕ) (env : List ℕ) → Sane env out s → (r : Result Stepped Fault) → Goes (Left l s table) r
          → Steps a template tlen shapes n l known true table env out s table env out r
      go a shapes n known env k (Ok (On o)) w =
          subst (λ (o : Now). Steps a template tlen shapes n l known true table env out s table env out (Ok (On o))) (sym w.goes)
          (record {
            sane =
                record {
                  written = k.written;
                  bounded = k.bounded;
                  few = k.few;
                  place = omega (arith, w.after);
                  end = w.end;
                  rank = omega arith;
                  top = omega (arith, w.link);
                  inside = k.inside;
                };
            on = λ x z v. (z, left-on x a template tlen shapes n l known table env out s z v h);
          })
      go a shapes n known env k (Ok (Finished len)) w = absurd w
      go a shapes n known env k (Err Short) w = absurd w
      go a shapes n known env k (Err Lost) w = record { sane = tt; on = λ x z v. tt }

  module _ (h : s.tp < tlen) where
    -- an argument entered
    entered-steps : (i : ℕ) (table' : List ℕ) (r : Result Stepped Fault) → symbol_at template s.tp ≡ par i → Goes (Entered l i s table table') r
        → StepsInside template tlen l table out s table' out r
    entered-steps i table' r e w = record { steps = λ a shapes n known env k. go a shapes n known env k r w }
      where
        go : (a shapes : List ℕ) (n known : ℕ) (env : List ℕ) → Sane env out s → (r : Result Stepped Fault) → Goes (Entered l i s table table') r
            → Steps a template tlen shapes n l known true table env out s table' env out r
        go a shapes n known env k (Ok (On o)) w =
            let y : Entered l i s table table' (entered l i table' s) = subst (λ (o : Now). Entered l i s table table' o) w.goes w in
            subst (λ (o : Now). Steps a template tlen shapes n l known true table env out s table' env out (Ok (On o))) (sym w.goes)
            (record {
              sane =
                  record {
                    written = k.written;
                    bounded = k.bounded;
                    few = k.few;
                    place = omega (arith, w.from);
                    end = omega (arith, w.to);
                    rank = omega arith;
                    top = k.top;
                    inside = k.inside;
                  };
              on = λ x z v. (
                entered-read x a template tlen shapes n l known table env out s z v i h e table' y,
                entered_on x a template tlen shapes n l known table env out s z v i h e table' y,
              );
            })
        go a shapes n known env k (Ok (Finished len)) w = absurd w
        go a shapes n known env k (Err Short) w = absurd w
        go a shapes n known env k (Err Lost) w = record { sane = tt; on = λ x z v. tt }

    module _ (few : tlen ≤ 1024) where
      -- a symbol written
      wrote-steps : (g : Symbol) (out' : List ℕ) (r : Result Stepped Fault) → Itself g → symbol_at template s.tp ≡ g → Writes g s out out' r
          → StepsInside template tlen l table out s table out' r
      wrote-steps g out' r i e w = record { steps = λ a shapes n known env k. go a shapes n known env k r w }
        where
          go : (a shapes : List ℕ) (n known : ℕ) (env : List ℕ) → Sane env out s → (r : Result Stepped Fault) → Writes g s out out' r
              → Steps a template tlen shapes n l known true table env out s table env out' r
          go a shapes n known env k (Ok (On o)) w =
              let y : Wrote g s out out' (behind g s) = subst (λ (o : Now). Wrote g s out out' o) w.goes w in
              let m = width_some g in
              subst (λ (o : Now). Steps a template tlen shapes n l known true table env out s table env out' (Ok (On o))) (sym w.goes)
              (record {
                sane =
                    record {
                      written = omega (arith, w.within, w.long);
                      bounded = k.bounded;
                      few = w.few;
                      place = k.place;
                      end = k.end;
                      rank = k.rank;
                      top = k.top;
                      inside = omega (arith, h, few, m.1);
                    };
                on = λ x z v. (z, wrote_on x a template tlen shapes n l known table env out s z v g i h e out' y);
              })
          go a shapes n known env k (Ok (Finished len)) w = absurd w
          go a shapes n known env k (Err Short) w =
              record { sane = tt; on = λ x z v. no_room x a template tlen shapes n l known table env out s z v g i h e out' w }
          go a shapes n known env k (Err Lost) w = record { sane = tt; on = λ x z v. tt }

      kept : (table' out' : List ℕ) (r : Result Stepped Fault) → table' ≡ table → StepsInside template tlen l table out s table out' r
          → StepsInside template tlen l table out s table' out' r
      kept table' out' r e w = subst (λ (m : List ℕ). StepsInside template tlen l table out s m out' r) (sym e) w

      pub read-steps : (g : Symbol) (table' out' : List ℕ) (r : Result Stepped Fault) → g ≡ symbol_at template s.tp → Reads g l s table table' out out' r
          → StepsInside template tlen l table out s table' out' r
      read-steps (par i) table' out' r e w =
          subst (λ (m : List ℕ). StepsInside template tlen l table out s table' m r) (sym w.1) (entered-steps i table' r (sym e) w.0)
      read-steps (var j) table' out' r e w = kept table' out' r w.1 (wrote-steps (var j) out' r (λ args c. refl) (sym e) w.0)
      read-steps (name y k) table' out' r e w = kept table' out' r w.1 (wrote-steps (name y k) out' r (λ args c. refl) (sym e) w.0)
      read-steps (code c) table' out' r e w = kept table' out' r w.1 (wrote-steps (code c) out' r (λ args c. refl) (sym e) w.0)
      read-steps (number v) table' out' r e w = kept table' out' r w.1 (wrote-steps (number v) out' r (λ args c. refl) (sym e) w.0)
      read-steps (call n) table' out' r e w = kept table' out' r w.1 (wrote-steps (call n) out' r (λ args c. refl) (sym e) w.0)
      read-steps begin table' out' r e w = kept table' out' r w.1 (wrote-steps begin out' r (λ args c. refl) (sym e) w.0)
      read-steps end table' out' r e w = kept table' out' r w.1 (wrote-steps end out' r (λ args c. refl) (sym e) w.0)
