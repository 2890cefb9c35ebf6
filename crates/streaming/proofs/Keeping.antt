-- What words of the table that change leave as it is: the table of calls has its own, and so has each call entered.
use mathlib.Core.List.{List, [], ◌∷◌}
use mathlib.Core.Path.{◌≡◌, ◌∙◌, ap, sym}
use lib.ListN.{length}
use lib.Seq.{sets}
use native.Mathlib.Decide.{ℕ_discrete}
use native.Mathlib.Nat.{add_assoc}
use native.Mathlib.Omega.{arith}
use Prim.Native.Nat.{ℕ, ◌+◌, ◌*◌, ◌/◌, ◌%◌, ◌<◌, ◌≤◌}
use Rattle.rewriting.specs.Rewritten.{Task}
use Rattle.cells.proofs.Words.{cells-apart, word-other}
use Rattle.cells.specs.Table.{Tabled, tally}
use Rattle.cells.specs.Words.{four, word_at}
use Rattle.cells.specs.declared.Layout.{Layout}
use Rattle.streaming.specs.Course.{Chain, Frame, Link, top_of}
use Rattle.streaming.specs.Step.{Read}

-- a word put changes no other
pub cell-kept : (stride : ℕ) (table : List ℕ) (r r' i i' v : ℕ) → i < stride → i' < stride → (r ≡ r' → i ≡ i' → ⊥)
    → word_at (sets table (4 * (r * stride + i)) (four v)) (r' * stride + i') ≡ word_at table (r' * stride + i')
cell-kept stride table r r' i i' v h h' n = word-other table (r * stride + i) (r' * stride + i') v (go (ℕ_discrete r r'))
  where
    go : Dec (r ≡ r') → r * stride + i ≡ r' * stride + i' → ⊥
    go (yes e) z =
        let m : r * stride ≡ r' * stride = ap (λ (k : ℕ). k * stride) e in
        n e (omega arith)
    go (no d) z = cells-apart stride r r' i i' h h' d z

module _ (l : Layout) (table table' : List ℕ) where
  pub tabled-kept : (a shapes : List ℕ) (n known : ℕ)
      → ((r i : ℕ) → r < l.room → i ≤ l.places → word_at table' (r * l.stride + i) ≡ word_at table (r * l.stride + i))
      → Tabled a shapes n l known table → Tabled a shapes n l known table'
  tabled-kept a shapes n known h t =
      record { few = t.few; each = λ gs hs e m i k. h (tally n gs) i (omega (arith, t.few, m)) k ∙ t.each gs hs e m i k }

  module _ (x : Task) (a template : List ℕ) (tlen : ℕ) (shapes : List ℕ) (n known : ℕ) where
    pub read_kept : length table' ≡ length table
        → ((r i : ℕ) → r < l.room → i ≤ l.places → word_at table' (r * l.stride + i) ≡ word_at table (r * l.stride + i))
        → Read x a template tlen shapes n l known table → Read x a template tlen shapes n l known table'
    read_kept e h r =
        record {
          posed = r.posed;
          places = r.places;
          sized = rw e r.sized;
          tabled = tabled-kept a shapes n known h r.tabled;
        }

    -- the words of a frame
    module _ (wide : l.stride ≡ l.places + 3) where
      word_kept : (r i : ℕ) → word_at table' (r * l.stride + (l.places + i)) ≡ word_at table (r * l.stride + (l.places + i))
          → word_at table' (r * l.stride + l.places + i) ≡ word_at table (r * l.stride + l.places + i)
      word_kept r i e =
          let z = add_assoc (r * l.stride) l.places i in
          ap (word_at table') z ∙ e ∙ ap (word_at table) (sym z)

      pub link-kept : (fs : List Frame) (f : Frame)
          → ((i : ℕ) → l.places < i → i < l.stride → word_at table' (f.rank * l.stride + i) ≡ word_at table (f.rank * l.stride + i))
          → Link x a template tlen shapes n l known table fs f → Link x a template tlen shapes n l known table' fs f
      link-kept fs f h w =
          record {
            low = w.low;
            above = w.above;
            start = w.start;
            more = w.more;
            called = w.called;
            ranked = w.ranked;
            given = w.given;
            passed = w.passed;
            text = w.text;
            read = w.read;
            closes = w.closes;
            depth = w.depth;
            part = w.part;
            around = w.around;
            based = w.based;
            below = w.below;
            kept_end = word_kept f.rank 1 (h (l.places + 1) (omega arith) (omega arith)) ∙ w.kept_end;
            kept_top = ap (λ (v : ℕ). v / 2048) (word_kept f.rank 2 (h (l.places + 2) (omega arith) (omega arith))) ∙ w.kept_top;
          }

      pub chain-kept : (fs : List Frame)
          → ((r i : ℕ) → r < top_of fs → l.places < i → i < l.stride → word_at table' (r * l.stride + i) ≡ word_at table (r * l.stride + i))
          → Chain x a template tlen shapes n l known table fs → Chain x a template tlen shapes n l known table' fs
      chain-kept [] h c = tt
      chain-kept (f ∷ fs) h c = (
        link-kept fs f (λ i j k. h f.rank i (omega arith) j k) c.0,
        ap (λ (v : ℕ). v % 2048) (word_kept f.rank 2 (h f.rank (l.places + 2) (omega arith) (omega arith) (omega arith))) ∙ c.1,
        chain-kept fs (λ r i m j k. h r i (omega (arith, c.0.above, m)) j k) c.2,
      )
