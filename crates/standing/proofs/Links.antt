-- An INSTANCE field and a definition's chain stay shown.
use mathlib.Core.List.{List, ◌++◌}
use mathlib.Core.Logic.{◌⊎◌, inl, inr}
use mathlib.Core.Path.{◌∙◌, ◌≡◌, ap, sym}
use Prim.Native.Nat.{ℕ, ◌+◌, ◌≤◌, ◌<◌}
use native.Mathlib.Omega.{arith}
use lib.ListN.{get_or-append, get_or, length, length-append}
use Rattle.limits.specs.Limits.{max_declarations, max_definitions}
use Rattle.theory.specs.Expand.{itself}
use Rattle.theory.specs.Term.{Kind, Term}
use Rattle.rules.specs.State.{Added, State, definition_at, no_definition}
use Rattle.texts.specs.Text.{Declarations, ref_head}
use Rattle.context.specs.Holds.{Holds}
use Rattle.store.specs.Store.{first_at}
use Rattle.store.specs.declared.Store.{Store}
use Rattle.context.specs.declared.Counts.{Counts}
use Rattle.worlds.specs.Rows.{Row, body_of, brought_row, no_row}
use Rattle.worlds.specs.World.{Link}
use Rattle.worlds.proofs.Invariant.{Worlds, length-meanings}
use Rattle.entering.specs.Implied.{implied_ref}
use Rattle.std.specs.Prelude.{Option as Answer, Some, None}
use Rattle.entering.specs.Written.{written_at}
use Rattle.standing.specs.Chained.{Chained, Own, Through}
use Rattle.standing.specs.Grows.{Grows}
use Rattle.standing.specs.Shown.{Declaration, ImpliedShown, LinkShown, StandsFor}
use Rattle.standing.proofs.Names.{declared-kept, declared_known, first-kept, implied-kept, kind-kept, known-definition, known-field, link-same, rows_of, source-kept, via-kept}
use Rattle.standing.proofs.Texts.{SameBelow, ref-kept, text-kept}

module _ (v : Store) (c : Counts) (s : State) (v' : Store) (c' : Counts) (holds : Holds v c s) (grows : Grows v c v' c') (file refs refs' : List ℕ)
    (decls more : Declarations) (end end' : ℕ) (few : length decls ≤ max_declarations) (same : SameBelow end refs refs') (later : end ≤ end') where
  implied-shown : (owner p : ℕ) (k : Kind) (x : ℕ) (u : Term) → owner ≤ c.modules → ImpliedShown v decls owner p k x u → ImpliedShown v' (decls ++ more) owner p k x u
  implied-shown owner p k x u l i =
      let e = implied-kept v c s v' c' holds grows owner x l (omega (arith, i.below)) in
      record {
        below = rw (e, length-append decls more) (omega (arith, i.below));
        same =
            ap (λ (r : ℕ). itself p k (ref_head (decls ++ more) r)) e
            ∙ ap (itself p k) (ref-kept decls more (implied_ref v.names v.facts v.contexts v.heads owner x) i.below) ∙ i.same;
      }

  stands-for : (owner p : ℕ) (k : Kind) (x : ℕ) (u : Term) → owner ≤ c.modules → (w : Answer ℕ) → StandsFor v file refs decls end owner p k x u w
      → StandsFor v' file refs' (decls ++ more) end' owner p k x u w
  stands-for owner p k x u l (Some at) t = text-kept refs refs' decls more file end end' at u t same later
  stands-for owner p k x u l None i = implied-shown owner p k x u l i

  declaration-kept : (q : ℕ) (k : Kind) (x : ℕ) → q < c.modules → Declaration v q k x → Declaration v' q k x
  declaration-kept q k x l d =
      let known = declared_known v c s v' c' holds grows q x d.code l d.found in
      record {
        code = d.code;
        found = declared-kept v c s v' c' holds grows q x d.code l d.found;
        kind = kind-kept v c v' (rows_of grows) d.code known ∙ d.kind;
        named = grows.names d.code known ∙ d.named;
      }

  pub link-kept : (l : Link) (o : ℕ) → LinkShown v c file refs decls end l o → LinkShown v' c' file refs' (decls ++ more) end' l o
  link-kept l o x =
      let known = known-field c o x.code.0 x.code.1 in
      record {
        q = x.q;
        owner = x.owner;
        start = x.start;
        count = x.count;
        code = (x.code.0, omega (arith, x.code.1, grows.fields));
        params = kind-kept v c v' (rows_of grows) o known ∙ x.params;
        first = first-kept v c v' (rows_of grows) o known ∙ x.first;
        via = via-kept v c v' (rows_of grows) o known ∙ x.via;
        source = source-kept v c v' (rows_of grows) o known ∙ x.source;
        link = link-same v c v' (rows_of grows) o known ∙ x.link;
        few = x.few;
        ended = omega (arith, x.ended, grows.modules);
        stood = (x.stood.0, omega (arith, x.stood.1, grows.modules));
        names = grows.orders x.q x.ended ∙ x.names;
        kinds = λ k y e. declaration-kept x.q k y x.ended (x.kinds k y e);
        substitutes = λ k y e. stands-for x.owner l.params k y (l.substitutes k y) x.stood.1 (written_at x.count file x.start y) (x.substitutes k y e);
      }

  -- a definition of those before, the state having more of them, and more rows
  module _ (s' : State) (ds : List Added) (rs us : List Row) (added : s'.definitions ≡ s.definitions ++ ds) (counted : length rs ≡ c.definitions) where
    row_kept : (D : ℕ) → D < c.definitions → get_or (rs ++ us) D no_row ≡ get_or rs D no_row
    row_kept D l = get_or-append rs us no_row D (omega arith)

    pub definition-kept : (D : ℕ) → D < c.definitions → definition_at s' D ≡ definition_at s D
    definition-kept D l =
        ap (λ (l : List Added). get_or l D no_definition) added ∙ get_or-append s.definitions ds no_definition D (omega (arith, holds.definitions))

    own-kept : (D : ℕ) → D < c.definitions → Own v file refs decls s end (get_or rs D no_row) D → Own v' file refs' (decls ++ more) s' end' (get_or (rs ++ us) D no_row) D
    own-kept D l x =
        let known = known-definition c D holds.sized.definitions l in
        record {
          row = row_kept D l ∙ x.row;
          unlinked = link-same v c v' (rows_of grows) D known ∙ x.unlinked;
          text =
              rw (first-kept v c v' (rows_of grows) D known, definition-kept D l)
              (text-kept refs refs' decls more file end end' (first_at v.facts D) (body_of (definition_at s D).meaning) x.text same later);
        }

    through-kept : (D : ℕ) → D < c.definitions → Through v c file refs decls rs end (get_or rs D no_row) D
        → Through v' c' file refs' (decls ++ more) (rs ++ us) end' (get_or (rs ++ us) D no_row) D
    through-kept D l x =
        let known = known-definition c D holds.sized.definitions l in
        record {
          link = x.link;
          from = x.from;
          field = x.field;
          below = x.below;
          there = x.there;
          number = x.number;
          follows = row_kept D l ∙ x.follows ∙ ap (brought_row x.link) (sym (row_kept x.from (omega (arith, x.below))));
          source = source-kept v c v' (rows_of grows) D known ∙ x.source;
          linked = link-same v c v' (rows_of grows) D known ∙ x.linked;
          shown = link-kept x.link (max_definitions + x.field) x.shown;
        }

    -- each of them keeps its chain;
    pub chained-kept : Chained v c file refs decls s rs end → (D : ℕ) → D < c.definitions
        → Own v' file refs' (decls ++ more) s' end' (get_or (rs ++ us) D no_row) D ⊎ Through v' c' file refs' (decls ++ more) (rs ++ us) end' (get_or (rs ++ us) D no_row) D
    chained-kept x D l = go (x.each D l)
      where
        go : Own v file refs decls s end (get_or rs D no_row) D ⊎ Through v c file refs decls rs end (get_or rs D no_row) D
            → Own v' file refs' (decls ++ more) s' end' (get_or (rs ++ us) D no_row) D
            ⊎ Through v' c' file refs' (decls ++ more) (rs ++ us) end' (get_or (rs ++ us) D no_row) D
        go (inl o) = inl (own-kept D l o)
        go (inr t) = inr (through-kept D l t)

    -- so all do where none is added.
    pub all-chained : c'.definitions ≡ c.definitions → Chained v c file refs decls s rs end → Chained v' c' file refs' (decls ++ more) s' (rs ++ us) end'
    all-chained e x = record { each = λ D l. chained-kept x D (omega arith) }

-- the rows are as many as the definitions
pub rows-counted : (v : Store) (c : Counts) (s : State) (rs : List Row) → Holds v c s → Worlds s rs → length rs ≡ c.definitions
rows-counted v c s rs holds w = w.book.counted ∙ length-meanings s ∙ sym holds.definitions
