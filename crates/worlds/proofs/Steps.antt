-- One step of a chain: a definition is an own one, or one instance brought it from a definition below it. A table of these steps, the instance
-- and the source of each definition, holds the chains of all.
use mathlib.Core.List.{List, [], ◌++◌, ◌∷◌}
use mathlib.Core.Logic.{◌⊎◌, inl, inr}
use mathlib.Core.Path.{◌∙◌, ◌≡◌, ap, subst, sym}
use lib.ListN.{get_or-append, get_or, length, length-map}
use native.Mathlib.Omega.{arith}
use Prim.Native.Nat.{◌+◌, ◌<◌, suc, zero, ℕ}
use Rattle.rules.specs.Add.{add}
use Rattle.rules.specs.Field.{Field, assume, begin_module, declare_constant, declare_variable, definition, end_module, extends, instance, theorem}
use Rattle.rules.specs.Instance.{source}
use Rattle.rules.specs.State.{State, meanings}
use Rattle.worlds.proofs.Fields.{get_d_map, worlds-add}
use Rattle.worlds.proofs.Invariant.{Worlds, get_d-more, length-meanings}
use Rattle.worlds.proofs.Modules.{source_ok}
use Rattle.worlds.proofs.Places.{in-at, once-place}
use Rattle.worlds.specs.Rows.{Row, brought_row, brought_rows, link_of, new_rows, no_row, rows_after, rows_of}
use Rattle.worlds.specs.World.{In, Link, brings}

-- the row r of definition D is what the instance brought from a source
pub record BroughtFrom (rs : List Row) (r : Row) (D : ℕ) : Type 0 where
  pub link : Link
  pub from : ℕ
  pub below : from < D
  pub there : In from link.names
  pub number : brings link from ≡ D
  pub follows : r ≡ brought_row link (get_or rs from no_row)

abbrev pub own_row : ℕ → Row
own_row D = record { world = []; source = D }

abbrev pub Step : List Row → Row → ℕ → Type 0
Step rs r D = (r ≡ own_row D) ⊎ BroughtFrom rs r D

abbrev pub Steps : List Row → Type 0
Steps rs = (D : ℕ) → D < length rs → Step rs (get_or rs D no_row) D

step-more : (rs us : List Row) (r : Row) (D : ℕ) → D < length rs → Step rs r D → Step (rs ++ us) r D
step-more rs us r D l (inl e) = inl e
step-more rs us r D l (inr b) =
    let k = b.below in
    inr (record {
      link = b.link;
      from = b.from;
      below = k;
      there = b.there;
      number = b.number;
      follows = b.follows ∙ ap (brought_row b.link) (sym (get_or-append rs us no_row b.from (omega arith)));
    })

module _ (s : State) (rs : List Row) (w : Worlds s rs) (a : Steps rs) where
  counted : length rs ≡ length s.definitions
  counted = w.book.counted ∙ length-meanings s

  steps-new : (us : List Row) → ((i : ℕ) → i < length us → Step (rs ++ us) (get_or us i no_row) (length rs + i)) → Steps (rs ++ us)
  steps-new us new = get_d-more (λ D r. Step (rs ++ us) r D) rs us no_row (λ D l. step-more rs us (get_or rs D no_row) D l (a D l)) new

  steps-plain : Steps (rs ++ [])
  steps-plain = steps-new [] (λ i l. absurd (omega arith))

  pub steps-add : (f : Field) → Steps (rows_after s rs f)
  steps-add (begin_module n) = steps-plain
  steps-add (extends m ms) = steps-plain
  steps-add (declare_constant n k) = steps-plain
  steps-add (declare_variable n) = steps-plain
  steps-add (definition n p e) = steps-new (new_rows s rs (definition n p e)) row
    where
      row : (i : ℕ) → i < 1 → Step (rows_after s rs (definition n p e)) (get_or (new_rows s rs (definition n p e)) i no_row) (length rs + i)
      row zero l = inl (ap own_row (omega (arith, counted)))
      row (suc i) l = absurd (omega arith)
  steps-add (instance n p m ss) = steps-new (brought_rows s rs p m ss) row
    where
      row : (i : ℕ) → i < length (brought_rows s rs p m ss) → Step (rs ++ brought_rows s rs p m ss) (get_or (brought_rows s rs p m ss) i no_row) (length rs + i)
      row i l =
          let gs = (source s m).definitions in
          let ok = source_ok (meanings s) w.runs s m w.ended in
          let k : i < length gs = rw (length-map gs (λ g. brought_row (link_of s p m ss) (get_or rs g no_row))) at l in
          let g = get_or gs i 0 in
          let there = in-at gs i 0 k in
          let known : g < length rs = subst (λ (n : ℕ). g < n) (sym w.book.counted) (ok.known g there) in
          inr (record {
            link = link_of s p m ss;
            from = g;
            below = omega arith;
            there = there;
            number = omega (arith, once-place gs ok.once i 0 k, counted);
            follows =
                get_d_map (λ g. brought_row (link_of s p m ss) (get_or rs g no_row)) gs i no_row 0 k
                ∙ ap (brought_row (link_of s p m ss)) (sym (get_or-append rs (brought_rows s rs p m ss) no_row g known));
          })
  steps-add end_module = steps-plain
  steps-add (assume e) = steps-plain
  steps-add (theorem e) = steps-plain

-- after any fields
pub steps : (fs : List Field) (s : State) (rs : List Row) → Worlds s rs → Steps rs → Steps (rows_of s rs fs)
steps [] s rs w a = a
steps (f ∷ fs) s rs w a = steps fs (add s f) (rows_after s rs f) (worlds-add s rs f w) (steps-add s rs w a f)

pub steps-start : Steps []
steps-start D l = absurd (omega arith)
