-- A chain has fewer links than modules are begun: an instance is of a module ended earlier.
use mathlib.Core.List.{List, [], ◌++◌, ◌∷◌}
use mathlib.Core.Option.{Option, none, some}
use mathlib.Core.Path.{◌≡◌, ap, refl, subst, sym}
use lib.Dec.{eqb, lit≤}
use lib.ListN.{get_or-append, get_or, length, length-append}
use native.Mathlib.Omega.{arith}
use Prim.Native.Nat.{◌+◌, ◌<◌, ◌≤◌, suc, zero, ℕ}
use Rattle.laws.specs.Lawful.{adds}
use Rattle.laws.proofs.Within.{Within, opened}
use Rattle.rules.specs.Add.{add, after}
use Rattle.rules.specs.Field.{Field, assume, begin_module, declare_constant, declare_variable, definition, end_module, extends, instance, theorem}
use Rattle.rules.specs.Instance.{source}
use Rattle.rules.specs.State.{Added, Module, Phase, State, begun, inside, meanings, module_named, no_module, outside, start}
use Rattle.theory.proofs.Lists.{append-all, find-has}
use Rattle.theory.specs.Lists.{All, or_else}
use Rattle.worlds.proofs.Fields.{all_both, brought-rows, worlds-add}
use Rattle.worlds.proofs.Invariant.{IsOk, Worlds, get_d-more}
use Rattle.worlds.specs.Rows.{Row, brought_rows, link_of, new_rows, no_row, rows_after, rows_of, world_of}
use Rattle.worlds.specs.World.{In}

opened-most : (p : Phase) → opened p ≤ 1
opened-most outside = lit≤ tt
opened-most begun = lit≤ tt
opened-most inside = lit≤ tt

-- each definition of a list has fewer than n links
abbrev pub Shallow : List Row → ℕ → Module → Type 0
Shallow rs n M = (g : ℕ) → In g M.definitions → length (world_of rs g) < n

pub record Depths (s : State) (rs : List Row) : Type 0 where
  pub all : (D : ℕ) → D < length rs → length (world_of rs D) < length s.ended + opened s.phase
  pub modules : All (Shallow rs (length s.ended)) s.ended

module _ (s : State) (rs : List Row) (w : Worlds s rs) (d : Depths s rs) where
  old-world : (us : List Row) (M : Module) → IsOk (meanings s) w.runs M → (g : ℕ) → In g M.definitions → (g < length rs) × (length (world_of (rs ++ us) g) ≡ length (world_of rs g))
  old-world us M o g i =
      let l : g < length rs = subst (λ (n : ℕ). g < n) (sym w.book.counted) (o.known g i) in
      (l, ap (λ (r : Row). length r.world) (get_or-append rs us no_row g l))

  depths-after : (f : Field) (k : ℕ) (p : Phase) (ms : List Module) (M : Module) (new : List Added) (us : List Row)
      → 1 ≤ length ms + opened p → ((i : ℕ) → i < length us → length (get_or us i no_row).world < length s.ended + (length ms + opened p))
      → All (Shallow (rs ++ us) (length (s.ended ++ ms))) ms → Depths (after s f k p ms M new) (rs ++ us)
  depths-after f k p ms M new us q n h =
      let m = length-append s.ended ms in
      record {
        all =
            get_d-more (λ D r. length r.world < length (s.ended ++ ms) + opened p) rs us no_row
            (λ D l. omega (arith, d.all D l, opened-most s.phase)) (λ i l. omega (arith, n i l));
        modules =
            append-all (Shallow (rs ++ us) (length (s.ended ++ ms))) s.ended ms
            (all_both (IsOk (meanings s) w.runs) (Shallow rs (length s.ended)) (Shallow (rs ++ us) (length (s.ended ++ ms)))
            (λ M o a g i. omega (arith, (old-world us M o g i).1, a g i)) s.ended w.ended d.modules) h;
      }

  -- a field after which a module is open, and that adds no definition
  depths-plain : (f : Field) (k : ℕ) (p : Phase) (M : Module) → 1 ≤ opened p → Depths (after s f k p [] M []) (rs ++ [])
  depths-plain f k p M q = depths-after f k p [] M [] [] (omega arith) (λ i l. absurd (omega arith)) tt

  source-shallow : (m : ℕ) → Shallow rs (length s.ended) (source s m)
  source-shallow m = at (module_named s m) refl
    where
      at : (o : Option Module) → module_named s m ≡ o → Shallow rs (length s.ended) (or_else no_module o)
      at none e = λ g i. absurd (omega arith)
      at (some M) e = (find-has (Shallow rs (length s.ended)) (λ (x : Module). eqb m x.name) s.ended M d.modules e).0

  pub depths-add : (f : Field) → Depths (add s f) (rows_after s rs f)
  depths-add (begin_module n) = depths-plain (begin_module n) 0 begun _ (lit≤ tt)
  depths-add (extends m ms) = depths-plain (extends m ms) 0 inside _ (lit≤ tt)
  depths-add (declare_constant n k) = depths-plain (declare_constant n k) 1 inside _ (lit≤ tt)
  depths-add (declare_variable n) = depths-plain (declare_variable n) 1 inside _ (lit≤ tt)
  depths-add (definition n p e) = depths-after (definition n p e) 0 inside [] _ _ (new_rows s rs (definition n p e)) (lit≤ tt) row tt
    where
      row : (i : ℕ) → i < 1 → length (get_or (new_rows s rs (definition n p e)) i no_row).world < length s.ended + 1
      row zero l = omega arith
      row (suc i) l = absurd (omega arith)
  depths-add (instance n p m ss) =
      depths-after (instance n p m ss) 0 inside [] _ _ (brought_rows s rs p m ss) (lit≤ tt)
      (brought-rows s rs p m ss (λ r. length r.world < length s.ended + 1)
      (λ g i. omega (arith, source-shallow m g i, length-append (world_of rs g) (link_of s p m ss ∷ [])))) tt
  depths-add end_module =
      depths-after end_module 0 outside (s.current ∷ []) no_module [] [] (lit≤ tt) (λ i l. absurd (omega arith)) (
        (λ g i.
            let o = old-world [] s.current w.current g i in
            omega (arith, o.1, d.all g o.0, opened-most s.phase, length-append s.ended (s.current ∷ []))),
        tt,
      )
  depths-add (assume e) = depths-plain (assume e) 0 inside _ (lit≤ tt)
  depths-add (theorem e) = depths-plain (theorem e) 0 inside _ (lit≤ tt)

pub depths : (fs : List Field) (s : State) (rs : List Row) → Worlds s rs → Depths s rs → Depths (adds s fs) (rows_of s rs fs)
depths [] s rs w d = d
depths (f ∷ fs) s rs w d = depths fs (add s f) (rows_after s rs f) (worlds-add s rs f w) (depths-add s rs w d f)

pub depths-start : Depths start []
depths-start = record { all = λ D l. absurd (omega arith); modules = tt }

-- Where the limit of modules is kept, a chain has at most fifteen links.
pub chain-short : (s : State) (rs : List Row) → Within s → Depths s rs → (D : ℕ) → D < length rs → length (world_of rs D) ≤ 15
chain-short s rs w d D l = omega (arith, d.all D l, w.modules)
