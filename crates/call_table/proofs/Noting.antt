-- The calls noted, one symbol after another.
use mathlib.Core.Bool.{Bool, ◌&&◌, cond, false, true}
use mathlib.Core.List.{List, [], ◌++◌, ◌∷◌, append_assoc, append-nil}
use mathlib.Core.Path.{◌≡◌, ◌∙◌, ap, refl, sym}
use borrow.Author.Tests.{ltb-true}
use lib.Dec.{eqb, ltb}
use lib.ListN.{length}
use lib.Seq.{sets}
use native.Mathlib.Decide.{dec_lt}
use native.Mathlib.Nat.{add-zero}
use native.Mathlib.Omega.{arith}
use Prim.Native.Nat.{ℕ, ◌+◌, ◌*◌, ◌≤◌, ◌<◌, min}
use Rattle.symbols.proofs.Sizes.{size-append}
use Rattle.symbols.specs.Symbol.{Symbol, call, calls, size}
use Rattle.strings.proofs.Reading.{string-done, string-step}
use Rattle.strings.specs.Read.{string_at, symbol_at, width_of}
use Rattle.rewriting.proofs.Standing.{call-is}
use Rattle.cells.proofs.Words.{cell-inside, cells-apart, word-other, word-put}
use Rattle.cells.specs.Table.{Noted, Sized, packed, tally}
use Rattle.cells.specs.Words.{four, word_at}
use Rattle.cells.specs.declared.Layout.{Layout}
use Rattle.call_table.specs.Walking.{Notes, Noting}
use Rattle.call_table.proofs.Cuts.{size-one}
use Rattle.call_table.proofs.Passing.{both_true}
use Rattle.call_table.proofs.Tallies.{rank-more, same-call, tally-more}

pub sized_same : (l : Layout) (x y : ℕ) → Sized l x → y ≡ x → Sized l y
sized_same l x y z e = rw e z

both_cond : (b d : Bool) (x y : ℕ) → cond (b && d) x y ≡ cond b (cond d x y) y
both_cond true d x y = refl
both_cond false d x y = refl

module _ (a : List ℕ) (n : ℕ) (l : Layout) (table₀ : List ℕ) where
  pub noting-start : Noting a n l table₀ table₀ 0 0
  noting-start =
      record { gs = []; whole = refl; place = refl; ranks = omega arith; long = refl; first = λ fs hs e (k : tally n fs < 0). absurd (omega arith) }

  module _ (table : List ℕ) (i rank : ℕ) (v : Noting a n l table₀ table i rank) where
    pub noting-end : Noted a n l rank table
    noting-end = let k = v.ranks in record { few = omega arith; first = v.first }

    pub noting-all : length a ≤ i → rank ≡ min l.room (tally n (string_at a 0 (length a)))
    noting-all h =
        let e : string_at a 0 (length a) ≡ v.gs =
        v.whole ∙ ap (λ (x : List Symbol). v.gs ++ x) (string-done a i (length a) (omega arith)) ∙ append-nil v.gs in
        rw e v.ranks

    pub noting-few : rank ≤ l.room
    noting-few = let k = v.ranks in omega arith

    pub noting-on : Sized l (length table₀) → length a ≤ 131072 → i < length a → (g : Symbol) → g ≡ symbol_at a i → (called : Bool) → called ≡ calls (eqb n) g
        → (table' : List ℕ) (rank' : ℕ) → Notes l rank i called table table' rank' → (w : ℕ) → w ≡ width_of g → Noting a n l table₀ table' (i + w) rank'
    noting-on z small h g q called k table' rank' m w o =
        record {
          gs = v.gs ++ (g ∷ []);
          whole = v.whole ∙ ap (λ (x : List Symbol). v.gs ++ x) next ∙ sym (append_assoc v.gs (g ∷ []) (string_at a (i + w) (length a)));
          place = omega (arith, v.place, size-append v.gs (g ∷ []), size-one g);
          ranks =
              m.ranks ∙ both_cond called (ltb rank l.room) (rank + 1) rank
              ∙ (rw k (rank-more (calls (eqb n) g) rank l.room (tally n v.gs) v.ranks ∙ ap (min l.room) (sym (tally-more n v.gs g))));
          long = m.long ∙ v.long;
          first = go (called && ltb rank l.room) refl m.ranks m.word;
        }
      where
        next : string_at a i (length a) ≡ g ∷ string_at a (i + w) (length a)
        next = string-step a i (length a) g w (omega arith) q o

        go : (b : Bool) → (called && ltb rank l.room) ≡ b → rank' ≡ cond b (rank + 1) rank
            → table' ≡ cond b (sets table (4 * (rank * l.stride + 0)) (four ((i + 2) * 16384 + rank + 1))) table
            → (fs hs : List Symbol) → string_at a 0 (length a) ≡ fs ++ (call n ∷ hs) → tally n fs < rank'
            → word_at table' (tally n fs * l.stride) ≡ packed (size fs + 2) (tally n fs + 1)
        go false b e f fs hs x y = rw f (v.first fs hs x (omega arith))
        go true b e f fs hs x y = elsewhere (dec_lt (tally n fs) rank)
          where
            t : (called ≡ true) × (ltb rank l.room ≡ true)
            t = both_true called (ltb rank l.room) b

            room : rank < l.room
            room = ltb-true rank l.room t.1

            word : ℕ
            word = (i + 2) * 16384 + rank + 1

            number : rank ≡ tally n v.gs
            number = let r = v.ranks in omega (arith, room)

            called-here : string_at a 0 (length a) ≡ v.gs ++ (call n ∷ string_at a (i + w) (length a))
            called-here = v.whole ∙ ap (λ (s : List Symbol). v.gs ++ s) (next ∙ ap (λ (s : Symbol). s ∷ string_at a (i + w) (length a)) (call-is n g (sym k ∙ t.0)))

            elsewhere : Dec (tally n fs < rank) → word_at table' (tally n fs * l.stride) ≡ packed (size fs + 2) (tally n fs + 1)
            elsewhere (yes u) =
                let d = cells-apart l.stride rank (tally n fs) 0 0 (omega (arith, z.wide)) (omega (arith, z.wide)) (λ (s : rank ≡ tally n fs). omega arith) in
                rw f
                (word-other table (rank * l.stride + 0) (tally n fs * l.stride) word (λ s. d (s ∙ sym (add-zero (tally n fs * l.stride))))
                ∙ v.first fs hs x u)
            elsewhere (no u) =
                let r : tally n fs ≡ rank = equal u in
                let s : fs ≡ v.gs = same-call n fs v.gs hs (string_at a (i + w) (length a)) (sym x ∙ called-here) (r ∙ number) in
                let j : tally n fs * l.stride ≡ rank * l.stride + 0 = ap (λ (y : ℕ). y * l.stride) r ∙ sym (add-zero (rank * l.stride)) in
                let p = v.place in
                let c = v.long in
                let size_same : size fs ≡ size v.gs = ap size s in
                let inside = cell-inside l (length table₀) rank 0 z room (omega (arith, z.wide)) in
                let value : word ≡ packed (size fs + 2) (tally n fs + 1) = omega arith in
                rw (f, j) (word-put table (rank * l.stride + 0) word (omega (arith, inside)) (omega (arith, z.small)) ∙ value)
              where
                equal : (tally n fs < rank → ⊥) → tally n fs ≡ rank
                equal u = omega arith
