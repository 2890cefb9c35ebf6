-- What the functions of a step in the template give, on plain values.
use Rattle.std.specs.Prelude.{None, Option, Result, Some}
use mathlib.Core.Bool.{Bool, ◌||◌, false, true}
use mathlib.Core.List.{List, [], ◌∷◌}
use mathlib.Core.Logic.{◌⊎◌, inl, inr}
use mathlib.Core.Path.{◌∙◌, ◌≡◌, ap, refl, subst, sym}
use lib.ListN.{length}
use lib.Seq.{sets}
use native.Mathlib.Nat.{mul-le-mul_right}
use native.Mathlib.Omega.{arith}
use Prim.Native.Nat.{ℕ, ◌+◌, ◌-◌, ◌*◌, ◌/◌, ◌%◌, ◌^◌, ◌<◌, ◌≤◌}
use Rattle.theory.proofs.Lists.{never}
use Rattle.symbols.specs.Spell.{max_params}
use Rattle.symbols.specs.Symbol.{Symbol, after, is_wide, size}
use Rattle.strings.specs.Laid.{Laid}
use Rattle.strings.specs.Read.{symbol_of, width_of}
use Rattle.strings.specs.declared.Sign.{Sign}
use Rattle.strings.specs.declared.Sign.TheVariants.{Begin, Call, Code, End, Name, Number, Par, Var}
use Rattle.cells.proofs.Words.{cell-inside}
use Rattle.cells.specs.Table.{Sized}
use Rattle.cells.specs.Words.{four, word_at}
use Rattle.cells.specs.declared.Layout.{Layout}
use Rattle.streaming.specs.Inside.{Entered, Goes, Left, NoRoom, PlaceKept, Reads, Writes, Wrote}
use Rattle.streaming.specs.declared.Now.{Now}
use Rattle.streaming.specs.declared.Fault.{Fault}
use Rattle.streaming.specs.declared.Stepped.{Stepped}

pub words_small : (top stride : ℕ) → top < 2 ^ 21 → stride ≤ max_params + 3 → (top - 1) * stride < 2 ^ 26
words_small top stride h k =
    let m : top - 1 ≤ 2097151 = omega arith in
    let a : (top - 1) * stride ≤ 2097151 * stride = mul-le-mul_right stride m in
    omega arith

-- the last word of a call is in the table
pub link-inside : (l : Layout) (bytes top cell : ℕ) → Sized l bytes → 0 < top → top ≤ l.room → cell ≡ (top - 1) * l.stride
    → (4 * (cell + l.places + 2) + 3 < bytes) × (cell + l.places + 2 < 2 ^ 48)
link-inside l bytes top cell z h k e =
    let c = cell-inside l bytes (top - 1) (l.places + 2) z (omega arith) (omega (arith, z.wide)) in
    (omega (arith, e, c.0), omega (arith, e, c.1))

pub place_kept : (at tp : ℕ) (table table' : List ℕ) (link : ℕ) → link ≡ word_at table at → link < 2 ^ 32
    → table' ≡ sets table (4 * at) (four (link / 2048 * 2048 + tp + 2)) → PlaceKept at tp table table'
place_kept at tp table table' link e h p =
    record { link = subst (λ (v : ℕ). v < 2 ^ 32) e h; put = subst (λ (v : ℕ). table' ≡ sets table (4 * at) (four (v / 2048 * 2048 + tp + 2))) e p }

pub entered-now : (l : Layout) (j : ℕ) (s : Now) (table table' : List ℕ) (cell from to : ℕ) → 0 < s.top → s.top ≤ l.room → j < l.places → s.tp < 2046
    → cell ≡ (s.top - 1) * l.stride → PlaceKept (cell + l.places + 2) s.tp table table' → from ≡ word_at table' (cell + j) → from < 2 ^ 32
    → to ≡ word_at table' (cell + (j + 1)) → to < 2 ^ 32
    → Entered l j s table table'
    (record { q = s.q; p = from / 16384; e = to / 16384; rank = from % 16384; top = s.top; inside = false; tp = s.tp; b = s.b; d = s.d })
entered-now l j s table table' cell from to h k m n c w e u f v =
    record {
      some = h;
      room = k;
      place = m;
      early = n;
      keeps = rw c at w;
      from = rw (← c, ← e) u;
      to = rw (← c, ← f) v;
      goes = rw (← c, ← e, ← f) refl;
    }

pub left-now : (l : Layout) (s : Now) (table : List ℕ) (cell behind end link : ℕ) → 0 < s.top → cell ≡ (s.top - 1) * l.stride
    → behind ≡ word_at table (cell + l.places) → behind < 2 ^ 32 → end ≡ word_at table (cell + l.places + 1) → end < 2 ^ 32
    → link ≡ word_at table (cell + l.places + 2) → link < 2 ^ 32
    → Left l s table
    (record { q = s.q; p = behind / 16384; e = end; rank = behind % 16384; top = link / 2048; inside = false; tp = s.tp; b = s.b; d = s.d })
left-now l s table cell behind end link h c e u f v g w =
    record {
      some = h;
      after = rw (← c, ← e) u;
      end = rw (← c, ← f) v;
      link = rw (← c, ← g) w;
      goes = rw (← c, ← e, ← f, ← g) refl;
    }

pub wrote-now : (g : Symbol) (s : Now) (out out' : List ℕ) (f : Option ℕ) (q b w : ℕ) → Laid (g ∷ []) s.q out out' f → f ≡ Some q → b ≡ after s.b g → b ≤ 65536
    → w ≡ width_of g
    → Wrote g s out out'
    (record { q = q; p = s.p; e = s.e; rank = s.rank; top = s.top; inside = true; tp = s.tp + w; b = b; d = s.d })
wrote-now g s out out' f q b w p t e k u =
    let y = p.yes q t in
    let i = p.within q t in
    record {
      long = p.long;
      within = omega (arith, y.0, i);
      put = y.1;
      few = omega (arith, e, k);
      goes = rw (y.0, e, u) refl;
    }

pub no-room-now : (g : Symbol) (s : Now) (out out' : List ℕ) (f : Option ℕ) → Laid (g ∷ []) s.q out out' f → f ≡ None → is_wide g ≡ false → NoRoom g s out out'
no-room-now g s out out' f p t e = record { long = p.long; over = go (p.no t) }
  where
    go : (length out < s.q + size (g ∷ [])) ⊎ ((is_wide g || false) ≡ true) → length out < s.q + size (g ∷ [])
    go (inl k) = k
    go (inr k) = never (sym k ∙ ap (λ (b : Bool). b || false) e)

module _ (l : Layout) (s : Now) (table table' out out' : List ℕ) (r : Result Stepped Fault) where
  pub read-par : (g : Sign) (i : ℕ) → g ≡ Par i → Goes (Entered l i s table table') r → Reads (symbol_of g) l s table table' out out r
  read-par g i e w = rw e (w, refl)

  pub read-var : (g : Sign) (j : ℕ) → g ≡ Var j → Writes (symbol_of g) s out out' r → Reads (symbol_of g) l s table table out out' r
  read-var g j e w = rw e (rw e at w, refl)

  pub read_name : (g : Sign) (x k : ℕ) → g ≡ Name x k → Writes (symbol_of g) s out out' r → Reads (symbol_of g) l s table table out out' r
  read_name g x k e w = rw e (rw e at w, refl)

  pub read-code : (g : Sign) (c : ℕ) → g ≡ Code c → Writes (symbol_of g) s out out' r → Reads (symbol_of g) l s table table out out' r
  read-code g c e w = rw e (rw e at w, refl)

  pub read_number : (g : Sign) (v : ℕ) → g ≡ Number v → Writes (symbol_of g) s out out' r → Reads (symbol_of g) l s table table out out' r
  read_number g v e w = rw e (rw e at w, refl)

  pub read-call : (g : Sign) (n : ℕ) → g ≡ Call n → Writes (symbol_of g) s out out' r → Reads (symbol_of g) l s table table out out' r
  read-call g n e w = rw e (rw e at w, refl)

  pub read-begin : (g : Sign) → g ≡ Begin → Writes (symbol_of g) s out out' r → Reads (symbol_of g) l s table table out out' r
  read-begin g e w = rw e (rw e at w, refl)

  pub read-end : (g : Sign) → g ≡ End → Writes (symbol_of g) s out out' r → Reads (symbol_of g) l s table table out out' r
  read-end g e w = rw e (rw e at w, refl)
