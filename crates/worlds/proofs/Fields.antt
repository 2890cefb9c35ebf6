-- Every field, lawful or not, keeps the invariant: the rows that it adds are the worlds of the definitions that it adds.
use mathlib.Core.List.{List, [], ◌++◌, ◌∷◌, map, map-append}
use mathlib.Core.Path.{◌∙◌, ◌≡◌, ap, refl, subst, sym}
use lib.ListN
use lib.ListN.{get_or, length, length-append, length-map}
use lib.Seq.{get_or-append-add}
use native.Mathlib.Omega.{arith}
use Prim.Native.Nat.{◌+◌, ◌<◌, ◌≤◌, suc, zero, ℕ}
use Rattle.laws.specs.Lawful.{adds}
use Rattle.laws.proofs.Resolved.{Brings}
use Rattle.rules.specs.Add.{add, after, brought_entries, extended_module, own_one, under_names, with_more}
use Rattle.rules.specs.Expression.{Expression}
use Rattle.rules.specs.Field.{Field, Substitution, assume, begin_module, declare_constant, declare_variable, definition, end_module, extends, instance, theorem}
use Rattle.rules.specs.Instance.{brought_all, brought_one, source, substitute}
use Rattle.rules.specs.State.{Added, Context, Module, Phase, State, begun, declares, defines, here, inside, meanings, no_definition, no_module, outside, resolve, start}
use Rattle.theory.proofs.Lists.{append-all, map-all}
use Rattle.theory.specs.Expand.{Definition, brought, own}
use Rattle.theory.specs.Lists.{All, numbers_from}
use Rattle.theory.specs.Term.{constant, variable}
use Rattle.worlds.proofs.InWorld.{Comes, LinkOk}
use Rattle.worlds.proofs.Invariant.{IsOk, IsOwn, RowOk, Worlds, WorldsOf, comes-outer, length-meanings, module-more, row_more, rows_more}
use Rattle.worlds.proofs.Modules.{declared-ok, extended-ok, none-ok, run_ok, source_ok}
use Rattle.worlds.proofs.Places.{get_d-place, in-at, in-here, in_right, once-place}
use Rattle.worlds.proofs.Resolved.{resolve-mentions, substitute-uses}
use Rattle.worlds.proofs.Runs.{Has, Run, has_last, length_run, place-run}
use Rattle.worlds.proofs.Uses.{absent, definition_in, uses-of}
use Rattle.worlds.specs.Rows.{Row, brought_row, brought_rows, link_of, new_rows, no_row, rows_after, rows_of, source_of, world_of}
use Rattle.worlds.specs.World.{In, UsesOnly, brings, place}
use Rattle.laws.proofs.Origins.{In as Declares}

abbrev pub meanings_of : List Added → List Definition
meanings_of ds = map (λ (d : Added). d.meaning) ds

module _ (s : State) (rs : List Row) (w : Worlds s rs) where
  -- the runs with those of the definitions that a field adds
  abbrev pub runs_with : List Added → List Run
  runs_with new = w.runs ++ ((length s.definitions, length new) ∷ [])

  kept : (new : List Added) (M : Module) → IsOk (meanings s) w.runs M → IsOk (meanings s ++ meanings_of new) (runs_with new) M
  kept new M h = module-more (meanings s) (meanings_of new) w.runs ((length s.definitions, length new) ∷ []) M.context M.definitions h

  worlds-after : (f : Field) (k : ℕ) (p : Phase) (ms : List Module) (M : Module) (new : List Added) (us : List Row) → length us ≡ length new
      → ((i : ℕ) → i < length new → RowOk (meanings s ++ meanings_of new) (runs_with new) (get_or us i no_row) (length s.definitions + i))
      → IsOk (meanings s ++ meanings_of new) (runs_with new) M → All (IsOk (meanings s ++ meanings_of new) (runs_with new)) ms
      → Worlds (after s f k p ms M new) (rs ++ us)
  worlds-after f k p ms M new us q rows c e =
      let n = length-map new (λ (d : Added). d.meaning) in
      subst (λ (ds : List Definition). WorldsOf ds M (s.ended ++ ms) (rs ++ us)) (sym (map-append (λ (d : Added). d.meaning) s.definitions new))
      (record {
        runs = runs_with new;
        book = rows_more (meanings s) (meanings_of new) w.runs rs us (length s.definitions) (length new) (sym (length-meanings s)) (sym n) (q ∙ sym n) w.book rows;
        current = c;
        ended =
            append-all (IsOk (meanings s ++ meanings_of new) (runs_with new)) s.ended ms
            (map-all (IsOk (meanings s) w.runs) (IsOk (meanings s ++ meanings_of new) (runs_with new)) (kept new) s.ended w.ended) e;
      })

  -- a field that adds no definition
  worlds-plain : (f : Field) (k : ℕ) (p : Phase) (ms : List Module) (M : Module) → IsOk (meanings s) w.runs M → All (IsOk (meanings s) w.runs) ms
      → Worlds (after s f k p ms M []) (rs ++ [])
  worlds-plain f k p ms M c e =
      worlds-after f k p ms M [] [] refl (λ i l. absurd (omega arith)) (kept [] M c) (map-all (IsOk (meanings s) w.runs) (IsOk (meanings s ++ []) (runs_with [])) (kept []) ms e)

  -- one that adds definitions, each naming only what the module has
  worlds-run : (f : Field) (new : List Added) (us : List Row) (Δ : Context) → length us ≡ length new
      → ((i : ℕ) → i < length new → RowOk (meanings s ++ meanings_of new) (runs_with new) (get_or us i no_row) (length s.definitions + i))
      → All (UsesOnly (λ h. In h s.current.definitions)) (meanings_of new)
      → All (Brings (λ g. In g (s.current.definitions ++ numbers_from (length s.definitions) (length new)))) Δ
      → Worlds (after s f 0 inside [] (with_more s.current Δ (numbers_from (length s.definitions) (length new))) new) (rs ++ us)
  worlds-run f new us Δ q rows u names =
      worlds-after f 0 inside [] (with_more s.current Δ (numbers_from (length s.definitions) (length new))) new us q rows
      (run_ok (meanings s) (meanings_of new) w.runs (here s) Δ s.current.definitions (length s.definitions) (length new)
      (sym (length-meanings s)) (sym (length-map new (λ (d : Added). d.meaning))) w.current u names) tt

  worlds-definition : (n p : ℕ) (e : Expression) → Worlds (add s (definition n p e)) (rows_after s rs (definition n p e))
  worlds-definition n p e =
      worlds-run (definition n p e) (own_one s n p e ∷ []) (new_rows s rs (definition n p e)) (defines n (length s.definitions) ∷ []) refl row
      (uses-of (Declares (here s)) (λ h. In h s.current.definitions) (resolve s (here s) e) (resolve-mentions s (here s) (λ h. In h s.current.definitions) w.current.names e), tt)
      (in_right (length s.definitions) s.current.definitions (length s.definitions ∷ []) (in-here (length s.definitions) []), tt)
    where
      row : (i : ℕ) → i < 1 → RowOk (meanings s ++ (own p (resolve s (here s) e) ∷ [])) (runs_with (own_one s n p e ∷ []))
          (get_or (new_rows s rs (definition n p e)) i no_row) (length s.definitions + i)
      row zero l = (
        omega arith,
        rw (length-append (meanings s) (own p (resolve s (here s) e) ∷ [])) (omega (arith, length-meanings s)),
        subst IsOwn
            (sym (get_or-append-add (meanings s) (own p (resolve s (here s) e) ∷ []) 0 absent)
            ∙ ap (definition_in (meanings s ++ (own p (resolve s (here s) e) ∷ []))) (omega (arith, length-meanings s))) tt,
      )
      row (suc i) l = absurd (omega arith)

-- INSTANCE

pub all_both : {A : Type 0} (P Q R : A → Type 0) → ((a : A) → P a → Q a → R a) → (l : List A) → All P l → All Q l → All R l
all_both P Q R f [] a b = tt
all_both P Q R f (x ∷ xs) a b = (f x a.0 b.0, all_both P Q R f xs a.1 b.1)

pub get_d_map : {A B : Type 0} (f : A → B) (xs : List A) (i : ℕ) (b : B) (a : A) → i < length xs → get_or (map f xs) i b ≡ f (get_or xs i a)
get_d_map f [] i b a h = absurd (omega arith)
get_d_map f (x ∷ xs) zero b a h = refl
get_d_map f (x ∷ xs) (suc i) b a h = get_d_map f xs i b a (omega arith)

-- what holds of every row that an instance brings
pub brought-rows : (s : State) (rs : List Row) (p m : ℕ) (ss : List Substitution) (P : Row → Type 0)
    → ((g : ℕ) → In g (source s m).definitions → P (brought_row (link_of s p m ss) (get_or rs g no_row))) → (i : ℕ) → i < length (brought_rows s rs p m ss)
    → P (get_or (brought_rows s rs p m ss) i no_row)
brought-rows s rs p m ss P f i l =
    let gs = (source s m).definitions in
    let k : i < length gs = rw (length-map gs (λ g. brought_row (link_of s p m ss) (get_or rs g no_row))) at l in
    subst P (sym (get_d_map (λ g. brought_row (link_of s p m ss) (get_or rs g no_row)) gs i no_row 0 k)) (f (get_or gs i 0) (in-at gs i 0 k))

names_in : (gs : List ℕ) (i : ℕ) (ds : List Added) → ((j : ℕ) → i ≤ j → j < i + length ds → In j gs) → All (Brings (λ g. In g gs)) (under_names i ds)
names_in gs i [] h = tt
names_in gs i (d ∷ ds) h = (h i (omega arith) (omega arith), names_in gs (suc i) ds (λ j a b. h j (omega arith) (omega arith)))

numbers-in : (gs : List ℕ) (i n : ℕ) → ((j : ℕ) → i ≤ j → j < i + n → In j gs) → All (λ g. In g gs) (numbers_from i n)
numbers-in gs i zero h = tt
numbers-in gs i (suc n) h = (h i (omega arith) (omega arith), numbers-in gs (suc i) n (λ j a b. h j (omega arith) (omega arith)))

brought-in : (s : State) (n : ℕ) (gs : List ℕ) (ds : List Added) → ((j : ℕ) → length s.definitions ≤ j → j < length s.definitions + length ds → In j gs)
    → All (Brings (λ g. In g gs)) (brought_entries s n ds)
brought-in s zero gs ds h = names_in gs (length s.definitions) ds h
brought-in s (suc n) gs ds h = (numbers-in gs (length s.definitions) (length ds) h, tt)

module _ (s : State) (rs : List Row) (w : Worlds s rs) (n p m : ℕ) (ss : List Substitution) where
  abbrev pub brings-all : List Added
  brings-all = brought_all s n p (source s m) ss

  pub length-new : length brings-all ≡ length (source s m).definitions
  length-new = length-map (source s m).definitions (brought_one s n p (source s m) ss)

  module-ok : IsOk (meanings s) w.runs (source s m)
  module-ok = source_ok (meanings s) w.runs s m w.ended

  pub brought-at : (g : ℕ) → In g (source s m).definitions
      → definition_in (meanings s ++ meanings_of brings-all) (brings (link_of s p m ss) g) ≡ brought p (substitute s p (source s m) ss) g
  brought-at g i =
      let es = meanings_of brings-all in
      let j = place g (source s m).definitions in
      ap (λ (k : ℕ). definition_in (meanings s ++ es) (k + j)) (sym (length-meanings s))
      ∙ get_or-append-add (meanings s) es j absent
      ∙ ListN.get_or-map (λ (d : Added). d.meaning) brings-all j no_definition
      ∙ ap (λ (d : Added). d.meaning) (get_d_map (brought_one s n p (source s m) ss) (source s m).definitions j no_definition 0 i)
      ∙ ap (λ (h : ℕ). brought p (substitute s p (source s m) ss) h) (get_d-place g (source s m).definitions 0 i)

  link-ok : LinkOk (meanings s ++ meanings_of brings-all) (runs_with s rs w brings-all) (link_of s p m ss)
  link-ok =
      let es = meanings_of brings-all in
      let a = length-meanings s in
      let b = kept s rs w brings-all (source s m) module-ok in
      record {
        run = subst (λ (k : ℕ). Has (length s.definitions, k) (runs_with s rs w brings-all)) length-new (has_last (length s.definitions, length brings-all) w.runs);
        room = rw (length-append (meanings s) es) (omega (arith, length-map brings-all (λ (d : Added). d.meaning), length-new));
        known = b.known;
        brought-at = brought-at;
        whole = b.whole;
        ordered = b.ordered;
      }

  brought-uses : (gs : List ℕ) → All (UsesOnly (λ h. In h s.current.definitions)) (meanings_of (map (brought_one s n p (source s m) ss) gs))
  brought-uses [] = tt
  brought-uses (g ∷ gs) = (λ c x. substitute-uses s (λ h. In h s.current.definitions) w.current.names p (source s m) ss c x, brought-uses gs)

  brought-row : (i : ℕ) → i < length brings-all
      → RowOk (meanings s ++ meanings_of brings-all) (runs_with s rs w brings-all) (get_or (brought_rows s rs p m ss) i no_row) (length s.definitions + i)
  brought-row i l =
      let ds = meanings s in
      let es = meanings_of brings-all in
      let bs = runs_with s rs w brings-all in
      let gs = (source s m).definitions in
      let k : i < length gs = omega (arith, length-new) in
      let g = get_or gs i 0 in
      let there = in-at gs i 0 k in
      let r = row_more ds es w.runs ((length s.definitions, length brings-all) ∷ []) (get_or rs g no_row) g (w.book.rows g (module-ok.known g there)) in
      let c = comes-outer (ds ++ es) bs (link_of s p m ss) link-ok (world_of rs g) (source_of rs g) g r.0 there in
      subst (λ (x : Row). RowOk (ds ++ es) bs x (length s.definitions + i)) (sym (get_d_map (λ g. brought_row (link_of s p m ss) (get_or rs g no_row)) gs i no_row 0 k)) (
        subst (λ (j : ℕ). Comes (ds ++ es) bs (world_of rs g ++ (link_of s p m ss ∷ [])) (source_of rs g) (length s.definitions + j)) (once-place gs module-ok.once i 0 k) c,
        r.1,
        r.2,
      )

  worlds-instance : Worlds (add s (instance n p m ss)) (rows_after s rs (instance n p m ss))
  worlds-instance =
      let N = length s.definitions in
      let k = length brings-all in
      worlds-run s rs w (instance n p m ss) brings-all (brought_rows s rs p m ss) (brought_entries s n brings-all)
      (length-map (source s m).definitions (λ g. brought_row (link_of s p m ss) (get_or rs g no_row)) ∙ sym length-new) brought-row (brought-uses (source s m).definitions)
      (brought-in s n (s.current.definitions ++ numbers_from N k) brings-all
      (λ j a b. in_right j s.current.definitions (numbers_from N k) (rw (place-run N k j a b, length_run N k) (omega arith))))

-- What a field adds keeps the rows right, lawful or not.
pub worlds-add : (s : State) (rs : List Row) (f : Field) → Worlds s rs → Worlds (add s f) (rows_after s rs f)
worlds-add s rs (begin_module n) w = worlds-plain s rs w (begin_module n) 0 begun [] (record { name = n; context = []; definitions = [] }) (none-ok (meanings s) w.runs) tt
worlds-add s rs (extends m ms) w =
    worlds-plain s rs w (extends m ms) 0 inside [] (extended_module s (m ∷ ms))
    (extended-ok (meanings s) w.runs w.book.disjoint s w.ended (m ∷ ms) (here s) s.current.definitions w.current) tt
worlds-add s rs (declare_constant n k) w =
    worlds-plain s rs w (declare_constant n k) 1 inside [] (with_more s.current (declares n (constant k) s.fields ∷ []) [])
    (declared-ok (meanings s) w.runs s.current (declares n (constant k) s.fields) w.current (λ gs. tt)) tt
worlds-add s rs (declare_variable n) w =
    worlds-plain s rs w (declare_variable n) 1 inside [] (with_more s.current (declares n variable s.fields ∷ []) [])
    (declared-ok (meanings s) w.runs s.current (declares n variable s.fields) w.current (λ gs. tt)) tt
worlds-add s rs (definition n p e) w = worlds-definition s rs w n p e
worlds-add s rs (instance n p m ss) w = worlds-instance s rs w n p m ss
worlds-add s rs end_module w = worlds-plain s rs w end_module 0 outside (s.current ∷ []) no_module (none-ok (meanings s) w.runs) (w.current, tt)
worlds-add s rs (assume e) w = worlds-plain s rs w (assume e) 0 inside [] s.current w.current tt
worlds-add s rs (theorem e) w = worlds-plain s rs w (theorem e) 0 inside [] s.current w.current tt

pub worlds-adds : (fs : List Field) (s : State) (rs : List Row) → Worlds s rs → Worlds (adds s fs) (rows_of s rs fs)
worlds-adds [] s rs w = w
worlds-adds (f ∷ fs) s rs w = worlds-adds fs (add s f) (rows_after s rs f) (worlds-add s rs f w)

pub worlds-start : Worlds start []
worlds-start =
    record {
      runs = [];
      book = record { counted = refl; disjoint = λ r s g h. absurd h; ends = λ r h. absurd h; rows = λ D l. absurd (omega arith) };
      current = none-ok [] [];
      ended = tt;
    }
