-- Walks over the string of a term that hop over the calls whose ends the table has. Definitions only.
use Rattle.std.specs.Prelude.{None, Option, Some, Bool, ◌&&◌, cond, false, true, List, ◌++◌, ◌∷◌, ◌≡◌, ℕ, suc, ◌+◌, ◌-◌, ◌*◌, ◌/◌, ◌%◌, ◌^◌, ◌≤◌, ◌<◌, min, ltb, get_or, length}
use Rattle.std.proofs.lemmas.List.Edits.{sets}
use Rattle.theory.specs.Level.{binds_in, plain}
use Rattle.theory.specs.Term.{Everys, Term, Terms}
use Rattle.theory.specs.Tree.{count}
use Rattle.symbols.specs.Pieces.{Shaped, ShapedHead, left_after, scan}
use Rattle.symbols.specs.Spell.{masked, spell}
use Rattle.symbols.specs.Symbol.{Spelt, Symbol, after, call, size}
use Rattle.strings.specs.Read.{far, shape_in, string_at, width_of}
use Rattle.rewriting.specs.Ends.{end_of, last_from}
use Rattle.cells.specs.Table.{Noted, packed, rank_at, tally}
use Rattle.cells.specs.Words.{four, word_at}
use Rattle.cells.specs.declared.Layout.{Layout}
use Rattle.cells.specs.declared.Place.{Place}
use Rattle.call_table.specs.declared.Walk.{Walk}

-- One call more, if there are words for it: its first word is put.
pub record Notes (l : Layout) (rank at : ℕ) (called : Bool) (before after : List ℕ) (r : ℕ) : Type 0 where
  pub long : length after ≡ length before
  pub ranks : r ≡ cond (called && ltb rank l.room) (rank + 1) rank
  pub word : after ≡ cond (called && ltb rank l.room) (sets before (4 * (rank * l.stride + 0)) (four ((at + 2) * 16384 + rank + 1))) before

-- after the symbols gs have been read, which end at i
pub record Noting (a : List ℕ) (n : ℕ) (l : Layout) (table₀ table : List ℕ) (i rank : ℕ) : Type 0 where
  pub gs : List Symbol
  pub whole : string_at a 0 (length a) ≡ gs ++ string_at a i (length a)
  pub place : i ≡ size gs
  pub ranks : rank ≡ min l.room (tally n gs)
  pub long : length table ≡ length table₀
  pub first : (fs hs : List Symbol) → string_at a 0 (length a) ≡ fs ++ (call n ∷ hs) → tally n fs < rank
      → word_at table (tally n fs * l.stride) ≡ packed (size fs + 2) (tally n fs + 1)

-- the string of a term stands there, and nothing else
pub record Source (a shapes : List ℕ) (t : Term) : Type 0 where
  pub shaped : Shaped (shape_in shapes) t
  pub near : far (spell (shape_in shapes) t) ≡ false
  pub spelt : Spelt a 0 (spell (shape_in shapes) t) (length a)

-- word i of the call that stands after gs
abbrev pub Right : List ℕ → List ℕ → ℕ → Layout → ℕ → List ℕ → List Symbol → ℕ → Type 0
Right a shapes n l known table gs i =
    word_at table (tally n gs * l.stride + i)
    ≡ packed (last_from a shapes i (get_or shapes n 0) (size gs + 2)) (rank_at known n a (last_from a shapes i (get_or shapes n 0) (size gs + 2)))

-- The table has the words of every call from number r on.
abbrev pub Ended : List ℕ → List ℕ → ℕ → Layout → ℕ → ℕ → List ℕ → Type 0
Ended a shapes n l known r table =
    (gs hs : List Symbol) → string_at a 0 (length a) ≡ gs ++ (call n ∷ hs) → r ≤ tally n gs → tally n gs < known → (i : ℕ) → i ≤ l.places
    → Right a shapes n l known table gs i

-- A walk in the string of t, after call number r and others: it has passed gs, hs is left, and it is to end at x.
pub record Walks (shapes : List ℕ) (n known r : ℕ) (t : Term) (x at rank left c : ℕ) : Type 0 where
  pub gs : List Symbol
  pub hs : List Symbol
  pub whole : spell (shape_in shapes) t ≡ gs ++ hs
  pub place : at ≡ size gs
  pub ranks : rank ≡ min known (tally n gs)
  pub later : r < tally n gs
  pub ends : at + scan (shape_in shapes) left c hs ≡ x

-- What a walk counts stays small.
pub record Small (w : Walk) : Type 0 where
  pub rank : w.rank ≤ 16383
  pub left : w.left ≤ 1 + 255 * w.at
  pub c : w.c ≤ w.at

-- past a call whose last word is v
abbrev pub hopped : ℕ → Walk → Option Walk
hopped v w = cond (ltb w.at (v / 16384)) (Some (record { at = v / 16384; rank = v % 16384; left = w.left - 1; c = w.c })) None

-- past one symbol
abbrev pub stepped : List ℕ → ℕ → Bool → Symbol → Walk → Walk
stepped shapes known called g w =
    record {
      at = w.at + width_of g;
      rank = cond called (cond (ltb w.rank known) (w.rank + 1) w.rank) w.rank;
      left = left_after (shape_in shapes) w.left g;
      c = after w.c g;
    }

-- one turn of a walk
pub record Passes (a shapes : List ℕ) (n : ℕ) (l : Layout) (known : ℕ) (table : List ℕ) (w : Walk) (r : Option Walk) : Type 0 where
  pub on : (v : Walk) → r ≡ Some v → w.at < v.at
  pub small : (v : Walk) → r ≡ Some v → Small v
  pub walks : (v : Walk) → r ≡ Some v → (t : Term) → Source a shapes t → (r x : ℕ) → Ended a shapes n l known (suc r) table
      → Walks shapes n known r t x w.at w.rank w.left w.c → Walks shapes n known r t x v.at v.rank v.left v.c

-- the whole of a walk: it ends there, and as many calls stand before
abbrev pub Lands : List ℕ → ℕ → ℕ → ℕ → Place → Type 0
Lands a n known x e = (e.at ≡ x) × (e.rank ≡ rank_at known n a x)

pub record EndsTerm (a shapes : List ℕ) (n : ℕ) (l : Layout) (known : ℕ) (table : List ℕ) (p : Place) (found : Option Place) : Type 0 where
  pub lands : (e : Place) → found ≡ Some e → (t : Term) → Source a shapes t → (r x : ℕ) → Ended a shapes n l known (suc r) table
      → Walks shapes n known r t x p.at p.rank 1 0 → Lands a n known x e

-- after some turns
pub record Walking (a shapes : List ℕ) (n : ℕ) (l : Layout) (known : ℕ) (table : List ℕ) (w₀ w : Walk) : Type 0 where
  pub small : Small w
  pub walks : (t : Term) → Source a shapes t → (r x : ℕ) → Ended a shapes n l known (suc r) table
      → Walks shapes n known r t x w₀.at w₀.rank w₀.left w₀.c → Walks shapes n known r t x w.at w.rank w.left w.c

-- Of a call's arguments those that the bits of h speak of stand at a position, then ks; call number r and others stand before it.
pub record Ahead (shapes : List ℕ) (n r : ℕ) (t : Term) (ks : List Symbol) (h at : ℕ) : Type 0 where
  pub gs : List Symbol
  pub us : Terms
  pub whole : spell (shape_in shapes) t ≡ gs ++ (masked (shape_in shapes) h us ++ ks)
  pub place : at ≡ size gs
  pub later : r < tally n gs
  pub fits : h < 2 ^ count us
  pub shaped : Everys (ShapedHead (shape_in shapes)) 0 (binds_in plain) us

pub record EndsArgument (a shapes : List ℕ) (n : ℕ) (l : Layout) (known : ℕ) (table : List ℕ) (h : ℕ) (p : Place) (found : Option Place) : Type 0 where
  pub lands : (e : Place) → found ≡ Some e → (t : Term) → Source a shapes t → (r : ℕ) (ks : List Symbol) → Ended a shapes n l known (suc r) table
      → Ahead shapes n r t ks h p.at → p.rank ≡ rank_at known n a p.at → Lands a n known (end_of a shapes h p.at) e

-- the word where argument i of call r ends, put where there is one
pub record PutsEnd (l : Layout) (r i : ℕ) (before after : List ℕ) (e : Place) (put : Option Place) : Type 0 where
  pub long : length after ≡ length before
  pub small : (p : Place) → put ≡ Some p → p.rank ≤ 16383
  pub others : (j : ℕ) → (r * l.stride + (i + 1) ≡ j → ⊥) → word_at after j ≡ word_at before j
  pub word : (p : Place) → put ≡ Some p → word_at after (r * l.stride + (i + 1)) ≡ packed p.at p.rank
  pub same : (p : Place) → put ≡ Some p → p ≡ e

-- One argument of call r more, and the word where it ends.
pub record Puts (a shapes : List ℕ) (n : ℕ) (l : Layout) (known h r i : ℕ) (p : Place) (before after : List ℕ) (put : Option Place) : Type 0 where
  pub long : length after ≡ length before
  pub small : (e : Place) → put ≡ Some e → e.rank ≤ 16383
  pub others : (j : ℕ) → (r * l.stride + (i + 1) ≡ j → ⊥) → word_at after j ≡ word_at before j
  pub word : (e : Place) → put ≡ Some e → word_at after (r * l.stride + (i + 1)) ≡ packed e.at e.rank
  pub ends : EndsArgument a shapes n l known before h p put

-- Of the call that stands after gs: i of its arguments are passed, `rest` being the bits of those that are ahead, and have their words.
pub record Halfway (a shapes : List ℕ) (n : ℕ) (l : Layout) (known r : ℕ) (t : Term) (table : List ℕ) (p : Place) (rest i : ℕ) (gs : List Symbol) : Type 0 where
  pub ks : List Symbol
  pub ahead : Ahead shapes n r t ks rest p.at
  pub ranks : p.rank ≡ rank_at known n a p.at
  pub more : (k : ℕ) → last_from a shapes k rest p.at ≡ last_from a shapes (i + k) (get_or shapes n 0) (size gs + 2)
  pub words : (j : ℕ) → j ≤ i → Right a shapes n l known table gs j

pub record Putting (a shapes : List ℕ) (n : ℕ) (l : Layout) (known r : ℕ) (table₀ table : List ℕ) (p : Place) (rest i : ℕ) : Type 0 where
  pub long : length table ≡ length table₀
  pub few : i ≤ l.places
  pub small : p.rank ≤ 16383
  pub others : (q j : ℕ) → j < l.stride → (q ≡ r → ⊥) → word_at table (q * l.stride + j) ≡ word_at table₀ (q * l.stride + j)
  pub first : word_at table (r * l.stride) ≡ word_at table₀ (r * l.stride)
  pub words : (t : Term) → Source a shapes t → Noted a n l known table₀ → Ended a shapes n l known (suc r) table₀
      → (gs hs : List Symbol) → string_at a 0 (length a) ≡ gs ++ (call n ∷ hs) → tally n gs ≡ r → Halfway a shapes n l known r t table p rest i gs

pub record EndsCall (a shapes : List ℕ) (n : ℕ) (l : Layout) (known r : ℕ) (before after : List ℕ) (yes : Bool) : Type 0 where
  pub long : length after ≡ length before
  pub noted : Noted a n l known before → Noted a n l known after
  pub ended : yes ≡ true → (t : Term) → Source a shapes t → Noted a n l known before → Ended a shapes n l known (suc r) before → Ended a shapes n l known r after

-- after the calls from number r on
pub record Ending (a shapes : List ℕ) (n : ℕ) (l : Layout) (known r : ℕ) (table₀ table : List ℕ) : Type 0 where
  pub long : length table ≡ length table₀
  pub few : r ≤ known
  pub noted : Noted a n l known table₀ → Noted a n l known table
  pub ended : (t : Term) → Source a shapes t → Noted a n l known table₀ → Ended a shapes n l known r table
