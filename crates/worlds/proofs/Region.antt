-- All definitions of a world's region have chains that end in that world: so while numbers run through a region its tables stay right.
use mathlib.Core.List.{List, [], ◌++◌, ◌∷◌, append_assoc, append-nil}
use mathlib.Core.Path.{◌∙◌, ◌≡◌, ap, subst, sym}
use lib.ListN.{get_or-append, get_or, length}
use lib.Seq.{get_or-append-add}
use native.Mathlib.Omega.{arith}
use Prim.Native.Nat.{◌+◌, ◌<◌, suc, zero, ℕ}
use Rattle.rules.specs.Add.{add}
use Rattle.rules.specs.Field.{Field, assume, begin_module, declare_constant, declare_variable, definition, end_module, extends, instance, theorem}
use Rattle.rules.specs.Instance.{source}
use Rattle.rules.specs.State.{State, meanings}
use Rattle.theory.proofs.Lists.{append-all}
use Rattle.theory.specs.Expand.{Definition}
use Rattle.theory.specs.Lists.{All}
use Rattle.worlds.proofs.Fields.{brought-rows, get_d_map, worlds-add}
use Rattle.worlds.proofs.InWorld.{Comes}
use Rattle.worlds.proofs.Invariant.{Worlds, get_d-more, length-meanings}
use Rattle.worlds.proofs.Modules.{source_ok}
use Rattle.worlds.proofs.Places.{get_d-place}
use Rattle.worlds.proofs.Runs.{Disjoint, Run}
use Rattle.worlds.proofs.Starts.{comes-name}
use Rattle.worlds.specs.Rows.{Row, brought_row, brought_rows, link_of, new_rows, no_row, rows_after, rows_of, source_of, world_of}
use Rattle.worlds.specs.World.{In, Link, World, brings, number_in, place}

-- what a link brings follows its source
abbrev pub Follows : List Row → Link → Type 0
Follows rs l = (g : ℕ) → In g l.names → get_or rs (brings l g) no_row ≡ brought_row l (get_or rs g no_row)

-- The chain of what a name is in a world: the name's own, and then the world.
pub same-chain : (ds : List Definition) (bs : List Run) (rs : List Row) (w : World) (h D : ℕ) → Comes ds bs w h D → All (Follows rs) w
    → world_of rs (number_in w h) ≡ world_of rs h ++ w
same-chain ds bs rs [] h D c a = sym (append-nil (world_of rs h))
same-chain ds bs rs (l ∷ w) h D c a =
    same-chain ds bs rs w (brings l h) D c.2 a.1 ∙ ap (λ (r : Row). r.world ++ w) (a.0 h c.1) ∙ append_assoc (world_of rs h) (l ∷ []) w

pub region-worlds : (ds : List Definition) (bs : List Run) → Disjoint bs → (rs : List Row) (l : Link) (w : World) (g D : ℕ) → Comes ds bs (l ∷ w) g D → All (Follows rs) (l ∷ w)
    → (h : ℕ) → In h l.names → world_of rs (number_in (l ∷ w) h) ≡ world_of rs h ++ (l ∷ w)
region-worlds ds bs d rs l w g D c a h i = same-chain ds bs rs (l ∷ w) h (number_in (l ∷ w) h) (comes-name ds bs d l w g D c h i) a

-- It holds of every state.

abbrev pub Chains : List Row → Type 0
Chains rs = (D : ℕ) → D < length rs → All (Follows rs) (world_of rs D)

follow-more : (ds : List Definition) (bs : List Run) (rs us : List Row) → length rs ≡ length ds → (w : World) (g D : ℕ) → Comes ds bs w g D → All (Follows rs) w
    → All (Follows (rs ++ us)) w
follow-more ds bs rs us q [] g D c a = tt
follow-more ds bs rs us q (l ∷ w) g D c a = (
  (λ h i.
      let k = c.0.known h i in
      get_or-append rs us no_row (brings l h) (omega (arith, c.0.room)) ∙ a.0 h i ∙ ap (brought_row l) (sym (get_or-append rs us no_row h (omega arith)))),
  follow-more ds bs rs us q w (brings l g) D c.2 a.1,
)

module _ (s : State) (rs : List Row) (w : Worlds s rs) (a : Chains rs) where
  old : (us : List Row) (D : ℕ) → D < length rs → All (Follows (rs ++ us)) (world_of rs D)
  old us D l =
      follow-more (meanings s) w.runs rs us w.book.counted (world_of rs D) (source_of rs D) D (w.book.rows D (omega (arith, w.book.counted))).0 (a D l)

  chains-new : (us : List Row) → ((i : ℕ) → i < length us → All (Follows (rs ++ us)) (get_or us i no_row).world) → Chains (rs ++ us)
  chains-new us new D l = get_d-more (λ D r. All (Follows (rs ++ us)) r.world) rs us no_row (old us) new D l

  chains-plain : Chains (rs ++ [])
  chains-plain = chains-new [] (λ i l. absurd (omega arith))

  pub chains-add : (f : Field) → Chains (rows_after s rs f)
  chains-add (begin_module n) = chains-plain
  chains-add (extends m ms) = chains-plain
  chains-add (declare_constant n k) = chains-plain
  chains-add (declare_variable n) = chains-plain
  chains-add (definition n p e) = chains-new (new_rows s rs (definition n p e)) row
    where
      row : (i : ℕ) → i < 1 → All (Follows (rows_after s rs (definition n p e))) (get_or (new_rows s rs (definition n p e)) i no_row).world
      row zero l = tt
      row (suc i) l = absurd (omega arith)
  chains-add (instance n p m ss) =
      let us = brought_rows s rs p m ss in
      chains-new us (brought-rows s rs p m ss (λ r. All (Follows (rs ++ us)) r.world)
      (λ g i. append-all (Follows (rs ++ us)) (world_of rs g) (link_of s p m ss ∷ []) (old us g (known g i)) (follows, tt)))
    where
      gs : List ℕ
      gs = (source s m).definitions

      known : (g : ℕ) → In g gs → g < length rs
      known g i = subst (λ (n : ℕ). g < n) (sym w.book.counted) ((source_ok (meanings s) w.runs s m w.ended).known g i)

      follows : Follows (rs ++ brought_rows s rs p m ss) (link_of s p m ss)
      follows g i =
          let us = brought_rows s rs p m ss in
          ap (λ (j : ℕ). get_or (rs ++ us) (j + place g gs) no_row) (sym (w.book.counted ∙ length-meanings s))
          ∙ get_or-append-add rs us (place g gs) no_row
          ∙ get_d_map (λ g. brought_row (link_of s p m ss) (get_or rs g no_row)) gs (place g gs) no_row 0 i
          ∙ ap (λ (h : ℕ). brought_row (link_of s p m ss) (get_or rs h no_row)) (get_d-place g gs 0 i)
          ∙ ap (brought_row (link_of s p m ss)) (sym (get_or-append rs us no_row g (known g i)))
  chains-add end_module = chains-plain
  chains-add (assume e) = chains-plain
  chains-add (theorem e) = chains-plain

-- after any fields
pub chains : (fs : List Field) (s : State) (rs : List Row) → Worlds s rs → Chains rs → Chains (rows_of s rs fs)
chains [] s rs w a = a
chains (f ∷ fs) s rs w a = chains fs (add s f) (rows_after s rs f) (worlds-add s rs f w) (chains-add s rs w a f)

pub chains-start : Chains []
chains-start D l = absurd (omega arith)
