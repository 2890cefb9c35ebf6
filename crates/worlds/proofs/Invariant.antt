-- What ties the worlds of definitions to the rules' state: the invariant, and that more definitions keep it.
use mathlib.Core.List.{List, [], ◌++◌, ◌∷◌}
use mathlib.Core.Logic.{◌⊎◌, inl, inr}
use mathlib.Core.Path.{◌∙◌, ◌≡◌, ap, subst, sym}
use lib.ListN.{get_or-append, get_or, length, length-append, length-map}
use lib.Seq.{get_or-append-add}
use native.Mathlib.Decide.{dec_lt}
use native.Mathlib.Omega.{arith}
use Prim.Native.Nat.{◌+◌, ◌-◌, ◌<◌, ◌≤◌, ℕ}
use Rattle.laws.proofs.Resolved.{Brings}
use Rattle.rules.specs.State.{Added, Context, Module, State, meanings}
use Rattle.theory.specs.Expand.{Definition, brought, own}
use Rattle.theory.specs.Lists.{All}
use Rattle.worlds.proofs.InWorld.{Comes, LinkOk}
use Rattle.worlds.proofs.Ordered.{Ordered, ordered-more}
use Rattle.worlds.proofs.Places.{Once, in_all}
use Rattle.worlds.proofs.Runs.{Disjoint, Has, InRun, Run, Whole, has_left, has-snoc, whole-more}
use Rattle.worlds.proofs.Uses.{absent, definition_in}
use Rattle.worlds.specs.Rows.{Row, no_row}
use Rattle.worlds.specs.World.{In, Link, World, brings}

-- an own definition
abbrev pub IsOwn : Definition → Type 0
IsOwn (own n t) = Unit {0}
IsOwn (brought p σ g) = ⊥

-- definition D is the text of an own one in the world of its row
abbrev pub RowOk : List Definition → List Run → Row → ℕ → Type 0
RowOk ds bs r D = Comes ds bs r.world r.source D × (r.source < length ds) × IsOwn (definition_in ds r.source)

-- a row for each definition; bs are the runs of numbers that each field added
pub record RowsOk (ds : List Definition) (bs : List Run) (rs : List Row) : Type 0 where
  pub counted : length rs ≡ length ds
  pub disjoint : Disjoint bs
  pub ends : (r : Run) → Has r bs → r.0 + r.1 ≤ length ds
  pub rows : (D : ℕ) → D < length ds → RowOk ds bs (get_or rs D no_row) D

-- a module's context and list: the list is made of whole runs, has each number once, and names come before they are used
pub record ModuleOk (ds : List Definition) (bs : List Run) (Γ : Context) (gs : List ℕ) : Type 0 where
  pub whole : Whole bs gs
  pub ordered : Ordered ds [] gs
  pub once : Once gs
  pub known : (g : ℕ) → In g gs → g < length ds
  pub names : All (Brings (λ g. In g gs)) Γ

abbrev pub IsOk : List Definition → List Run → Module → Type 0
IsOk ds bs M = ModuleOk ds bs M.context M.definitions

pub record WorldsOf (ds : List Definition) (M : Module) (Ms : List Module) (rs : List Row) : Type 0 where
  pub runs : List Run
  pub book : RowsOk ds runs rs
  pub current : IsOk ds runs M
  pub ended : All (IsOk ds runs) Ms

-- The rows are the worlds of the state's definitions.
abbrev pub Worlds : State → List Row → Type 0
Worlds s rs = WorldsOf (meanings s) s.current s.ended rs

pub length-meanings : (s : State) → length (meanings s) ≡ length s.definitions
length-meanings s = length-map s.definitions (λ (d : Added). d.meaning)

-- More definitions and runs

module _ (ds es : List Definition) (bs cs : List Run) where
  at_more : (g : ℕ) → g < length ds → definition_in (ds ++ es) g ≡ definition_in ds g
  at_more g l = get_or-append ds es absent g l

  link-more : (l : Link) → LinkOk ds bs l → LinkOk (ds ++ es) (bs ++ cs) l
  link-more l o =
      record {
        run = has_left (l.first, length l.names) bs cs o.run;
        room = rw (length-append ds es) (omega (arith, o.room));
        known = λ g i. let k = o.known g i in rw (length-append ds es) (omega arith);
        brought-at = λ g i. at_more (brings l g) (omega (arith, o.room)) ∙ o.brought-at g i;
        whole = whole-more bs cs l.names o.whole;
        ordered = ordered-more ds es [] l.names (in_all (λ g. g < length ds) l.names o.known) o.ordered;
      }

  comes-more : (w : World) (g D : ℕ) → Comes ds bs w g D → Comes (ds ++ es) (bs ++ cs) w g D
  comes-more [] g D c = c
  comes-more (l ∷ w) g D c = (link-more l c.0, c.1, comes-more w (brings l g) D c.2)

  pub row_more : (r : Row) (D : ℕ) → RowOk ds bs r D → RowOk (ds ++ es) (bs ++ cs) r D
  row_more r D h = (
    comes-more r.world r.source D h.0,
    rw (length-append ds es) (omega (arith, h.1)),
    subst IsOwn (sym (at_more r.source h.1)) h.2,
  )

  pub module-more : (Γ : Context) (gs : List ℕ) → ModuleOk ds bs Γ gs → ModuleOk (ds ++ es) (bs ++ cs) Γ gs
  module-more Γ gs h =
      record {
        whole = whole-more bs cs gs h.whole;
        ordered = ordered-more ds es [] gs (in_all (λ g. g < length ds) gs h.known) h.ordered;
        once = h.once;
        known = λ g i. let k = h.known g i in rw (length-append ds es) (omega arith);
        names = h.names;
      }

-- a chain with one instance more at its outer end
pub comes-outer : (ds : List Definition) (bs : List Run) (l : Link) → LinkOk ds bs l → (w : World) (h g : ℕ) → Comes ds bs w h g → In g l.names
    → Comes ds bs (w ++ (l ∷ [])) h (brings l g)
comes-outer ds bs l o [] h g e i = (o, subst (λ (z : ℕ). In z l.names) (sym e) i, ap (brings l) e)
comes-outer ds bs l o (k ∷ w) h g c i = (c.0, c.1, comes-outer ds bs l o w (brings k h) g c.2 i)

disjoint-more : (bs : List Run) (N n : ℕ) → Disjoint bs → ((r : Run) → Has r bs → r.0 + r.1 ≤ N) → Disjoint (bs ++ ((N, n) ∷ []))
disjoint-more bs N n d e r s g h k a b = at (has-snoc r bs (N, n) h) (has-snoc s bs (N, n) k)
  where
    at : Has r bs ⊎ (r ≡ (N, n)) → Has s bs ⊎ (s ≡ (N, n)) → r ≡ s
    at (inl x) (inl y) = d r s g x y a b
    at (inl x) (inr y) = let z = subst (λ (q : Run). InRun q g) y b in absurd (omega (arith, e r x, a.1, z.0))
    at (inr x) (inl y) = let z = subst (λ (q : Run). InRun q g) x a in absurd (omega (arith, e s y, b.1, z.0))
    at (inr x) (inr y) = x ∙ sym y

-- An element of a list with more put after it: one of the old, or one of the new.
pub get_d-more : {A : Type 0} (P : ℕ → A → Type 0) (xs ys : List A) (d : A) → ((i : ℕ) → i < length xs → P i (get_or xs i d))
    → ((i : ℕ) → i < length ys → P (length xs + i) (get_or ys i d)) → (i : ℕ) → i < length (xs ++ ys) → P i (get_or (xs ++ ys) i d)
get_d-more {A} P xs ys d old new i l = at (dec_lt i (length xs))
  where
    at : Dec (i < length xs) → P i (get_or (xs ++ ys) i d)
    at (yes k) = subst (P i) (sym (get_or-append xs ys d i k)) (old i k)
    at (no k) =
        let n = length-append xs ys in
        let j = i - length xs in
        let e : length xs + j ≡ i = omega arith in
        subst (λ (m : ℕ). P m (get_or (xs ++ ys) m d)) e (subst (P (length xs + j)) (sym (get_or-append-add xs ys j d)) (new j (omega arith)))

-- definitions added in one run, with their rows
pub rows_more : (ds es : List Definition) (bs : List Run) (rs us : List Row) (N n : ℕ) → N ≡ length ds → n ≡ length es → length us ≡ length es → RowsOk ds bs rs
    → ((i : ℕ) → i < n → RowOk (ds ++ es) (bs ++ ((N, n) ∷ [])) (get_or us i no_row) (N + i)) → RowsOk (ds ++ es) (bs ++ ((N, n) ∷ [])) (rs ++ us)
rows_more ds es bs rs us N n e_n en q b new =
    record {
      counted = rw (length-append rs us, length-append ds es) (omega (arith, b.counted));
      disjoint = disjoint-more bs N n b.disjoint (λ r h. omega (arith, b.ends r h));
      ends = λ r h. ends r (has-snoc r bs (N, n) h);
      rows =
          λ D l. get_d-more (λ D r. RowOk (ds ++ es) (bs ++ ((N, n) ∷ [])) r D) rs us no_row
          (λ D k. row_more ds es bs ((N, n) ∷ []) (get_or rs D no_row) D (b.rows D (omega (arith, b.counted))))
          (λ i k. subst (λ (m : ℕ). RowOk (ds ++ es) (bs ++ ((N, n) ∷ [])) (get_or us i no_row) (m + i)) (e_n ∙ sym b.counted) (new i (omega arith)))
          D (omega (arith, length-append rs us, length-append ds es, b.counted));
    }
  where
    ends : (r : Run) → Has r bs ⊎ (r ≡ (N, n)) → r.0 + r.1 ≤ length (ds ++ es)
    ends r (inl h) = rw (length-append ds es) (omega (arith, b.ends r h))
    ends r (inr e) = subst (λ (z : Run). z.0 + z.1 ≤ length (ds ++ es)) (sym e) (rw (length-append ds es) (omega arith))
