-- The string of a term where it stands, cut in two.
use mathlib.Core.Bool.{false}
use mathlib.Core.List.{List, [], ◌++◌, ◌∷◌}
use mathlib.Core.Path.{◌≡◌, ◌∙◌, ap, refl, subst, sym}
use lib.ListN.{length, length-append}
use native.Mathlib.Nat.{add-zero, zero-add}
use native.Mathlib.Omega.{arith}
use Prim.Native.Nat.{ℕ, ◌+◌, ◌<◌, min}
use Rattle.theory.specs.Term.{Term}
use Rattle.symbols.proofs.Sizes.{size-append}
use Rattle.symbols.specs.Spell.{spell}
use Rattle.symbols.specs.Symbol.{Spelt, Symbol, size, symbol_bytes}
use Rattle.strings.proofs.Reading.{stands, string-next, width_some}
use Rattle.strings.specs.Read.{far, is_far, shape_in, string_at, symbol_at, width_of}
use Rattle.rewriting.proofs.Bits.{none_both}
use Rattle.rewriting.proofs.Found.{spelt-split}
use Rattle.cells.specs.Table.{rank_at, tally}
use Rattle.call_table.specs.Walking.{Source}

pub size-one : (g : Symbol) → size (g ∷ []) ≡ width_of g
size-one g = length-append (symbol_bytes g) [] ∙ add-zero (width_of g)

pub record Cut (a : List ℕ) (gs hs : List Symbol) : Type 0 where
  pub left : string_at a 0 (size gs) ≡ gs
  pub right : string_at a (size gs) (length a) ≡ hs
  pub long : length a ≡ size gs + size hs

module _ (a shapes : List ℕ) (t : Term) (z : Source a shapes t) where
  pub whole-read : string_at a 0 (length a) ≡ spell (shape_in shapes) t
  whole-read = stands a 0 (spell (shape_in shapes) t) (length a) z.spelt (omega arith) z.near

  pub cut : (gs hs : List Symbol) → spell (shape_in shapes) t ≡ gs ++ hs → Cut a gs hs
  cut gs hs e =
      let p = spelt-split a 0 (length a) gs hs (subst (λ (x : List Symbol). Spelt a 0 x (length a)) e z.spelt) in
      let f = none_both is_far gs hs (subst (λ (x : List Symbol). far x ≡ false) e z.near) in
      let l = p.1.1 in
      record {
        left = rw (← (zero-add (size gs))) (stands a 0 gs (0 + size gs) p.0 (omega arith) f.0);
        right = rw (← (zero-add (size gs))) (stands a (0 + size gs) hs (length a) p.1 (omega arith) f.1);
        long = omega arith;
      }

  -- the calls before a cut
  pub rank-cut : (known n : ℕ) (gs hs : List Symbol) → spell (shape_in shapes) t ≡ gs ++ hs → rank_at known n a (size gs) ≡ min known (tally n gs)
  rank-cut known n gs hs e = ap (λ (x : List Symbol). min known (tally n x)) (cut gs hs e).left

  -- the first symbol after a cut
  pub first_read : (gs hs : List Symbol) → spell (shape_in shapes) t ≡ gs ++ hs → size gs < length a → (g : Symbol) → g ≡ symbol_at a (size gs)
      → hs ≡ g ∷ string_at a (size gs + width_of g) (length a)
  first_read gs hs e l g q =
      sym (cut gs hs e).right ∙ (rw q (string-next a (size gs) (length a) (omega arith)))

pub none_left : (hs : List Symbol) → size hs ≡ 0 → hs ≡ []
none_left [] e = refl
none_left (g ∷ hs) e =
    let w = width_some g in
    let s = size-append (g ∷ []) hs in
    let o = size-one g in
    absurd (omega arith)
