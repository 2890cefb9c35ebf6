-- The walk along a chain of instances, from the definition back to its original: the tables show the world of the instances met so far.
use borrow.Author.Tests.{le-leb, leb-true}
use mathlib.Core.Bool.{Bool, cond, false, true}
use mathlib.Core.List.{List, [], ◌++◌, ◌∷◌, append_assoc}
use mathlib.Core.Option.{Option, none, some}
use mathlib.Core.Path.{◌∙◌, ◌≡◌, ap, refl, subst, sym}
use lib.Dec.{leb}
use lib.ListN.{drop, get_or, length, length-append, take}
use native.Mathlib.Omega.{arith}
use Prim.Native.Nat.{◌+◌, ◌-◌, ◌/◌, ◌%◌, ◌<◌, ◌≤◌, suc, zero, ℕ}
use Rattle.limits.specs.Limits.{max_arity, max_declarations, max_definitions}
use Rattle.theory.proofs.Demand3.{card-exact}
use Rattle.theory.proofs.ExpandFirst.{eval-good}
use Rattle.theory.proofs.Levels.{levels-kept}
use Rattle.theory.specs.Level.{IsLevel}
use Rattle.theory.proofs.Lists.{append-all}
use Rattle.theory.proofs.Summary.{AllFormed}
use Rattle.theory.specs.Expand.{Definition, arities_of, templates}
use Rattle.theory.specs.Lists.{All}
use Rattle.theory.specs.Term.{Arities, Kind, Term, kind_arity, long_way}
use Rattle.rules.specs.State.{State, card_level, definition_at, meanings, params_of, templates_of}
use Rattle.laws.proofs.Invariant.{arity-known}
use Rattle.laws.proofs.Sound.{all-formed}
use Rattle.texts.specs.Text.{Declarations, no_declaration}
use Rattle.forms.specs.Forms.{form_at, level_at, width}
use Rattle.forms.proofs.Forms.{at_low}
use Rattle.levels.specs.Tables.{names_of}
use Rattle.levels.specs.Walk.{TextForm}
use Rattle.context.specs.Entries.{codes_of, field_code, instance_kind, order_of}
use Rattle.store.specs.Store.{first_at, kind_at, link_at}
use Rattle.store.specs.declared.Store.{Store}
use Rattle.context.specs.declared.Counts.{Counts}
use Rattle.worlds.proofs.File.{MeansBelow, definition-by-tables, is-text, world-params}
use Rattle.worlds.proofs.InWorld.{Comes, LinkOk}
use Rattle.worlds.proofs.Invariant.{length-meanings}
use Rattle.worlds.proofs.Runs.{Run}
use Rattle.worlds.proofs.Settled.{Settled, settled}
use Rattle.worlds.proofs.Uses.{uses-more}
use Rattle.worlds.specs.Rows.{Row, body_of, no_row, original, own_params, source_of, text_of, world_of}
use Rattle.worlds.specs.Tables.{Right, Table, by_tables}
use Rattle.worlds.specs.World.{AnyName, DeclaredBy, In, Link, SubstitutesDeclared, UsesOnly, World, brings, eval_at, number_in, params_in}
use Rattle.entering.specs.declared.substitutes.Site.{Site}
use Rattle.entering.specs.Numbering.{Entered, ShowsNumbers}
use Rattle.entering.specs.Shows.{Shows}
use Rattle.entering.specs.Substitutes.{Substituted}
use Rattle.entering.specs.Written.{written_at}
use Rattle.entering.proofs.Entering.{numbers-shown}
use Rattle.entering.proofs.Saying.{take-levels, written-level}
use Rattle.standing.specs.Chained.{Own, Through}
use Rattle.standing.specs.Shown.{Declaration, LinkShown, TextShown, owner_shift}
use Rattle.chains.specs.Ready.{DeclaredForms, FormsBelow, Ready}
use Rattle.chains.specs.Walk.{LinkEntered, around_link, site_of}
use Rattle.chains.proofs.Knowing.{DefinedIn, FormedIn, NamedIn, stands-known, written_known}
use Rattle.chains.proofs.Places.{InModule, brought-in, comes-link, declared-link, number-there, params-append, uses-module}
use Rattle.entering.proofs.Joining.{CodeOf, LowTable, keeps-tables, substitutes-right}

-- what the table of forms says of definitions
abbrev pub table_meaning : List ℕ → ℕ → List ℕ → ℕ
table_meaning words g us = level_at (form_at words g) us

good-table : (words : List ℕ) (g : ℕ) (us : List ℕ) → All IsLevel us → IsLevel (table_meaning words g us)
good-table words g us a = at_low (form_at words g) us

-- The walk has come from definition d to definition cur, through the instances of `world`, which have `outer` parameters.
pub record Walked (words : List ℕ) (s : State) (rs : List Row) (bs : List Run) (decls : Declarations) (d : ℕ) (numbers inner : List ℕ) (outer cur : ℕ) : Type 0 where
  pub world : World
  pub tables : List (Table ℕ)
  pub split : world_of rs d ≡ world_of rs cur ++ world
  pub source : source_of rs d ≡ source_of rs cur
  pub before : cur ≤ d
  pub around : outer ≡ params_in world
  pub comes : Comes (meanings s) bs world cur d
  pub low : All LowTable tables
  pub right : Right long_way IsLevel (table_meaning words) world tables
  pub numbered : ShowsNumbers (DefinedIn world) numbers world
  pub shows : Shows (table_meaning words) decls (NamedIn decls world) (DefinedIn world) world tables numbers inner
  pub same : (g : ℕ) → g < max_definitions → form_at inner g ≡ form_at words g

drop-levels : (n : ℕ) (v : List ℕ) → All IsLevel v → All IsLevel (drop n v)
drop-levels zero v a = a
drop-levels (suc n) [] a = tt
drop-levels (suc n) (x ∷ v) a = drop-levels n v a.1

-- a link, of the names it declares only those with few arguments
few_kind : Option Kind → Option Kind
few_kind none = none
few_kind (some k) = cond (leb (kind_arity k) max_arity) (some k) none

abbrev fewer : Link → Link
fewer l = record { params = l.params; kinds = λ x. few_kind (l.kinds x); substitutes = l.substitutes; names = l.names; first = l.first }

few-some : (o : Option Kind) (k : Kind) → few_kind o ≡ some k → (o ≡ some k) × (kind_arity k ≤ max_arity)
unfolding few_kind
few-some none k e = absurd (let z : ◌≡◌ {A = ℕ} 0 1 = cc in omega arith)
few-some (some j) k e = go (leb (kind_arity j) max_arity) refl e
  where
    go : (b : Bool) → leb (kind_arity j) max_arity ≡ b → cond b (some j) none ≡ some k → (some j ≡ some k) × (kind_arity k ≤ max_arity)
    go true p q = (q, let h : j ≡ k = cc in subst (λ (z : Kind). kind_arity z ≤ max_arity) h (leb-true (kind_arity j) max_arity p))
    go false p q = absurd (let z : ◌≡◌ {A = ℕ} 0 1 = cc in omega arith)

some-few : (o : Option Kind) (k : Kind) → o ≡ some k → kind_arity k ≤ max_arity → few_kind o ≡ some k
unfolding few_kind
some-few o k e h = rw e (rw (le-leb (kind_arity k) max_arity h) refl)

module _ (file refs words : List ℕ) (v : Store) (declared : List ℕ) (n d : ℕ) (c : Counts) (s : State) (rs : List Row) (decls : Declarations) (end : ℕ)
    (ready : Ready file refs v declared n c s rs decls end) (there : d < c.definitions) (room : n ≤ max_declarations) where
  abbrev ds : List Definition
  ds = meanings s

  abbrev bs : List Run
  bs = ready.worlds.runs

  abbrev ar : Arities
  ar = arities_of (templates_of s)

  abbrev G : ℕ → List ℕ → ℕ
  G = table_meaning words

  lawful : AllFormed [] (meanings s)
  lawful = all-formed [] s.definitions ready.sound

  inside : d < length s.definitions
  inside = omega (arith, ready.counted)

  known : d < length (meanings s)
  known = omega (arith, inside, length-meanings s)

  few-definitions : length (meanings s) ≤ max_definitions
  few-definitions = omega (arith, ready.counted, ready.few, length-meanings s)

  defined-in : (w : World) (h : ℕ) → (h < length (meanings s)) × InModule w h → DefinedIn w h
  defined-in w h i = (omega (arith, i.0, few-definitions), i.1)

  -- at the start
  pub walked_start : (numbers : List ℕ) → ((g : ℕ) → g < max_definitions → get_or numbers g 0 ≡ g) → DeclaredForms words decls
      → Walked words s rs bs decls d numbers words 0 d
  walked_start numbers each decl =
      record {
        world = [];
        tables = [];
        split = sym (append-empty (world_of rs d));
        source = refl;
        before = omega arith;
        around = refl;
        comes = refl;
        low = tt;
        right = tt;
        numbered = record { each = λ h i. each h i.0 };
        shows =
            record {
              defined = λ g i us a. ap (λ (h : ℕ). level_at (form_at words h) us) (each g i.0);
              declared = first;
            };
        same = λ g h. refl;
      }
    where
      append-empty : (w : World) → w ++ [] ≡ w
      append-empty [] = refl
      append-empty (l ∷ w) = ap (λ (x : World). l ∷ x) (append-empty w)

      first : (e : ℕ) → NamedIn decls [] e → (pre us : List ℕ) → length pre ≡ 0 → length us ≡ kind_arity (get_or decls e no_declaration).0 → All IsLevel pre → All IsLevel us
          → level_at (form_at words (max_definitions + e)) (pre ++ us) ≡ long_way.on_declared (get_or decls e no_declaration).0 (get_or decls e no_declaration).1 us
      first e i [] us p q a b = decl e us i.0 q b
      first e i (x ∷ pre) us p q a b = absurd (omega arith)

  -- one instance further in
  module _ (numbers inner : List ℕ) (outer cur : ℕ) (walked : Walked words s rs bs decls d numbers inner outer cur)
      (t : Through v c file refs decls rs end (get_or rs cur no_row) cur) where
    abbrev l : Link
    l = t.link

    abbrev w : World
    w = walked.world

    abbrev Ss : List (Table ℕ)
    Ss = walked.tables

    abbrev sh : LinkShown v c file refs decls end t.link (field_code t.field)
    sh = t.shown

    further : world_of rs d ≡ world_of rs t.from ++ (l ∷ w)
    further = walked.split ∙ ap (λ (r : Row). r.world ++ w) t.follows ∙ append_assoc (world_of rs t.from) (l ∷ []) w

    pub ok : LinkOk ds bs l
    ok =
        comes-link ds bs (world_of rs t.from) l w (source_of rs d) d
        (subst (λ (x : World). Comes ds bs x (source_of rs d) d) further (ready.worlds.book.rows d known).0)

    onward : Comes ds bs w (brings l t.from) d
    onward = subst (λ (i : ℕ). Comes ds bs w i d) (sym t.number) walked.comes

    brought-there : brings l t.from < length ds
    brought-there = omega (arith, ok.room, t.there)

    pub few-params : params_in (l ∷ w) ≤ max_arity
    few-params =
        let e : params_in (world_of rs d) ≡ params_in (world_of rs t.from ++ (l ∷ w)) = ap params_in further in
        omega (arith, e, params-append (world_of rs t.from) (l ∷ w), world-params s rs ready.worlds ready.sound d inside, ready.params d inside)

    placed : (k : Kind) (x : ℕ) → DeclaredBy l k x → FormedIn ar w (l.params + kind_arity k) (l.substitutes k x)
    placed k x e =
        record {
          formed =
              (subst (Settled (templates ds) (brings l t.from)) (ok.brought-at t.from t.there) (settled ds lawful (brings l t.from) brought-there)).formed k x;
          names =
              declared-link AnyName (world_of rs t.from) l w (subst (SubstitutesDeclared AnyName) further (ready.named d inside).1) k x e;
          uses =
              uses-more (λ h. (h < length ds) × InModule w h) (DefinedIn w) (defined-in w) (l.substitutes k x)
              (subst (UsesOnly (λ h. (h < length ds) × InModule w h)) (ok.brought-at t.from t.there)
              (uses-module ds lawful bs ready.worlds.book.disjoint w (brings l t.from) d onward known) k x);
        }

    abbrev site : Site
    site = record { outer = outer; params = l.params; owner = sh.owner; start = sh.start; count = sh.count }

    pub site-there : site_of v.facts outer (field_code t.field) ≡ site
    site-there =
        let p : kind_at v.facts (field_code t.field) - instance_kind ≡ l.params = omega (arith, sh.params) in
        let q : link_at v.facts (field_code t.field) / owner_shift ≡ sh.owner = omega (arith, sh.link, sh.few) in
        let r : link_at v.facts (field_code t.field) % owner_shift ≡ sh.count = omega (arith, sh.link, sh.few) in
        λ i. record { outer = outer; params = p i; owner = q i; start = sh.source i; count = r i }

    code_of : (k : Kind) (x : ℕ) → DeclaredBy (fewer l) k x
        → CodeOf (around_link file refs v numbers inner) site decls (NamedIn decls w) (DefinedIn w) ar (codes_of v sh.q) k x (l.substitutes k x)
    code_of k x e =
        let f = few-some (l.kinds x) k e in
        let b : Declaration v sh.q k x = sh.kinds k x f.0 in
        record {
          code = b.code;
          found = b.found;
          kind = b.kind;
          named = b.named;
          few = f.1;
          known =
              stands-known file refs v decls end ar w numbers inner site (l.params + kind_arity k) k x b.code (l.substitutes k x) b.named (placed k x f.0)
              (written_at sh.count file sh.start x) (sh.substitutes k x f.0);
        }

    pub walked_on : (numbers' inner' : List ℕ) → LinkEntered file refs v declared n outer (field_code t.field) numbers numbers' inner inner'
        → Walked words s rs bs decls d numbers' inner' (outer + (kind_at v.facts (field_code t.field) - instance_kind)) t.from
    walked_on numbers' inner' x =
        record {
          world = l ∷ w;
          tables = S ∷ Ss;
          split = further;
          source = walked.source ∙ ap (λ (r : Row). r.source) t.follows;
          before = omega (arith, walked.before, t.below);
          around = omega (arith, walked.around, sh.params);
          comes = (ok, t.there, onward);
          low = (low-table, walked.low);
          right = (λ k x d us q b. refl, walked.right);
          numbered = numbered;
          shows =
              record {
                defined = λ g i us a.
                    ap (λ (h : ℕ). level_at (form_at inner' h) us) (numbered.each g i)
                    ∙ ap (λ (f : ℕ). level_at f us) (unchanged (number_in (l ∷ w) g) (number-few g i));
                declared = λ e i pre us p q a b.
                    ap (λ (f : ℕ). level_at f (pre ++ us)) (x.replaced.declarations e (omega (arith, i.0, ready.numbered)))
                    ∙ substitutes-right G (good-table words) decls (NamedIn decls w) (DefinedIn w) w Ss walked.low (around_link file refs v numbers inner) site
                    walked.around walked.shows ar (fewer l) (codes_of v sh.q) declared x.empty x.next n refl substituted code_of few-params e
                    (omega (arith, i.0, ready.numbered)) (record { named = ready.codes.named e i.0; kind = ready.codes.kind e i.0 })
                    (some-few (l.kinds (get_or decls e no_declaration).1) (get_or decls e no_declaration).0 i.1 (ready.codes.few e i.0))
                    (pre ++ us) (omega (arith, p, q, length-append pre us)) (append-all IsLevel pre us a b);
              };
          same = unchanged;
        }
      where
        S : Table ℕ
        S k x us = eval_at (by_tables long_way G w Ss) (params_in w) (l.substitutes k x) us

        low-table : LowTable S
        low-table k x us b =
            eval-good (by_tables long_way G w Ss (take (params_in w) us)) IsLevel
            (keeps-tables G (good-table words) w Ss walked.low (take (params_in w) us) (take-levels (params_in w) us b))
            (drop (params_in w) us) (drop-levels (params_in w) us b) (l.substitutes k x) [] tt

        unchanged : (g : ℕ) → g < max_definitions → form_at inner' g ≡ form_at words g
        unchanged g h = x.replaced.definitions g h ∙ walked.same g h

        substituted : Substituted (around_link file refs v numbers inner) site (codes_of v sh.q) declared n x.empty x.next
        substituted =
            subst (λ (y : Site). Substituted (around_link file refs v numbers inner) y (codes_of v sh.q) declared n x.empty x.next) site-there
            (subst (λ (q : ℕ). Substituted (around_link file refs v numbers inner) (site_of v.facts outer (field_code t.field)) (codes_of v q) declared n x.empty x.next)
            sh.via x.substituted)

        entered : Entered l.names l.first numbers x.numbering.old numbers'
        entered =
            subst (λ (f : ℕ). Entered l.names f numbers x.numbering.old numbers') sh.first
            (subst (λ (gs : List ℕ). Entered gs (first_at v.facts (field_code t.field)) numbers x.numbering.old numbers')
            (ap (order_of v.orders v.heads) sh.via ∙ sh.names) x.numbering.entered)

        brought-here : (h : ℕ) → In h l.names → DefinedIn w (brings l h)
        brought-here h i =
            (omega (arith, ok.room, few-definitions, i), brought-in ds lawful bs ready.worlds.book.disjoint l w t.from d ok t.there onward h i)

        numbered : ShowsNumbers (DefinedIn (l ∷ w)) numbers' (l ∷ w)
        numbered =
            let y = numbers-shown (DefinedIn w) l w numbers x.numbering.old numbers' walked.numbered brought-here entered in
            record { each = λ h i. y.each h (subst (λ (k : ℕ). h < k) (sym x.numbering.old_size) i.0, i.1) }

        number-few : (g : ℕ) → DefinedIn (l ∷ w) g → number_in (l ∷ w) g < max_definitions
        number-few g i =
            omega (arith, few-definitions, number-there ds lawful bs ready.worlds.book.disjoint (l ∷ w) t.from d (ok, t.there, onward) g i.1 (ok.known g i.1))

  -- at the original
  module _ (numbers inner : List ℕ) (outer cur : ℕ) (walked : Walked words s rs bs decls d numbers inner outer cur)
      (o : Own v file refs decls s end (get_or rs cur no_row) cur) (below : FormsBelow words s d) where
    whole : world_of rs d ≡ walked.world
    whole = walked.split ∙ ap (λ (r : Row). r.world ++ walked.world) o.row

    reached : source_of rs d ≡ cur
    reached = walked.source ∙ ap (λ (r : Row). r.source) o.row

    abbrev m : ℕ
    m = own_params (original s rs d)

    abbrev u : Term
    u = text_of s rs d

    text-placed : FormedIn ar (world_of rs d) m u
    text-placed =
        let x = is-text s rs ready.worlds ready.sound d inside in
        record {
          formed = (subst (Settled (templates ds) x.source) x.text (settled ds lawful x.source x.known)).formed;
          names = (ready.named d inside).0;
          uses =
              uses-more (λ h. (h < length ds) × InModule (world_of rs d) h) (DefinedIn (world_of rs d)) (defined-in (world_of rs d)) u
              (subst (UsesOnly (λ h. (h < length ds) × InModule (world_of rs d) h)) x.text
              (uses-module ds lawful bs ready.worlds.book.disjoint (world_of rs d) x.source d x.comes known));
        }

    pub walked_whole : (f : ℕ) → TextForm (names_of refs numbers inner outer) file (first_at v.facts cur) f → (ρ : List ℕ) → length ρ ≡ params_of s d → All IsLevel ρ
        → level_at f ρ ≡ card_level s d ρ
    walked_whole f form ρ size lows =
        let wp = world-params s rs ready.worlds ready.sound d inside in
        let ew : params_in (world_of rs d) ≡ params_in walked.world = ap params_in whole in
        let long : length ρ ≡ params_in walked.world + m = omega (arith, size, wp, ew) in
        let short : length ρ ≤ width = omega (arith, size, ready.params d inside) in
        let k = written_known file refs v decls end ar walked.world numbers inner m (first_at v.facts cur) u
        (subst (λ (x : World). FormedIn ar x m u) whole text-placed)
        (subst (λ (i : ℕ). TextShown file refs decls end (first_at v.facts cur) (body_of (definition_at s i).meaning)) (sym reached) o.text) in
        written-level G decls (NamedIn decls walked.world) (DefinedIn walked.world) walked.world walked.tables numbers inner walked.shows ρ lows m long refs
        (keeps-tables G (good-table words) walked.world walked.tables walked.low (take (params_in walked.world) ρ) (take-levels (params_in walked.world) ρ lows))
        ar file (first_at v.facts cur) k.next k.text f u short
        (subst (λ (P : ℕ). TextForm (names_of refs numbers inner P) file (first_at v.facts cur) f) walked.around form) k.stands k.names k.formed k.same
        ∙ ap (λ (x : World). eval_at (by_tables long_way G x walked.tables) (params_in x) u ρ) (sym whole)
        ∙ sym (definition-by-tables s rs ready.worlds ready.sound d inside long_way IsLevel G means walked.tables
        (subst (λ (x : World). Right long_way IsLevel G x walked.tables) (sym whole) walked.right) (ready.named d inside) ρ size lows)
        ∙ sym (card-exact ds lawful d ρ (arity-known s ready.sound d inside ∙ ap {B = Option ℕ} some (sym size)) lows)
      where
        means : MeansBelow long_way IsLevel s d G
        means =
            record {
              keeps = levels-kept;
              good = good-table words;
              exact = λ g vs b p a.
                  below g vs b p a ∙ card-exact ds lawful g vs (arity-known s ready.sound g (omega (arith, b, inside)) ∙ ap {B = Option ℕ} some (sym p)) a;
            }
