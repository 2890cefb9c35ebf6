-- What a definition and the stand-ins along its chain stand for, by the texts that the store shows.
use mathlib.Core.Bool.{Bool, false, true}
use mathlib.Core.List.{List, [], ◌++◌, ◌∷◌}
use mathlib.Core.Option.{Option, some}
use mathlib.Core.Path.{◌∙◌, ◌≡◌, ap, refl, subst, sym}
use lib.ListN.{get_or, length, length-append, take-append-drop}
use native.Mathlib.Omega.{arith}
use Prim.Native.Nat.{◌+◌, ◌*◌, ◌<◌, ◌≤◌, suc, ℕ}
use Rattle.limits.specs.Limits.{max_arity, max_declarations, max_definitions}
use Rattle.theory.proofs.Fusion.{Anything, anywhere}
use Rattle.theory.proofs.Later.{every-weaken}
use Rattle.theory.specs.Expand.{arities_of, itself, params_from, templates}
use Rattle.theory.specs.Lists.{All}
use Rattle.theory.specs.Term.{Arities, Fits, Head, Kind, Reading, Term, WellFormed, bound, builtin, declared, defined, kind_arity, leaf, param}
use Rattle.theory.proofs.Substitution.{count-params}
use Rattle.theory.specs.Tree.{count}
use Rattle.rules.specs.State.{State, definition_at, meanings, params_of, templates_of}
use Rattle.laws.proofs.Invariant.{arity-known}
use Rattle.tokens.specs.Expr.{Expr}
use Rattle.texts.specs.Text.{Declarations, no_declaration, ref_head, shown}
use Rattle.store.specs.Store.{first_at}
use Rattle.store.specs.declared.Store.{Store}
use Rattle.context.specs.declared.Counts.{Counts}
use Rattle.worlds.proofs.File.{MeansBelow, definition-in-world, is-text, substitutes-use-below, text-uses-below, world-params}
use Rattle.worlds.proofs.Settled.{Settled, settled}
use Rattle.worlds.proofs.Uses.{every-both, uses-more}
use Rattle.worlds.specs.Rows.{Row, body_of, no_row, original, own_params, source_of, text_of, world_of}
use Rattle.worlds.specs.World.{AnyName, Declared, HeadMentions, Link, Names, SubstitutesBelow, Uses, UsesOnly, World, eval_at, in_world, number_in, params_in}
use Rattle.entering.specs.Implied.{implied_ref}
use Rattle.entering.specs.Numbering.{ShowsNumbers}
use Rattle.entering.specs.Shows.{Resolved, TextNames}
use Rattle.entering.specs.Written.{written_at}
use Rattle.entering.specs.declared.substitutes.Site.{Site}
use Rattle.std.specs.Prelude.{Option as Answer, Some, None}
use Rattle.standing.specs.Chained.{Own, Through}
use Rattle.standing.specs.Shown.{StandsFor, TextShown}
use Rattle.chains.specs.Ready.{Ready}
use Rattle.chains.specs.Walk.{code_at, outer_after, site_of, step_fits}
use Rattle.chains.proofs.Knowing.{DefinedIn, FormedIn, NamedIn}
use Rattle.chains.proofs.Naming.{resolved, text-names}
use Rattle.chains.proofs.Places.{InModule, uses-module}
use Rattle.unfolding.specs.AtLevel.{AtLevel}
use Rattle.unfolding.specs.InWorld.{by_refs, implied_in, stand_in, term_in}
use Rattle.unfolding.specs.Meaning.{meaning_of}
use Rattle.unfolding.specs.StandIn.{Callable, Unfolds, arities_along, called_in, outermost, place_at}
use Rattle.unfolding.specs.Unfolding.{UnfoldsBy, UnfoldsText}
use Rattle.unfolding.proofs.ChainLevels.{defined-in, few-params, further, inside, known, lawful, number-arity, outer-there, own-there, placed, site-there, through}
use Rattle.unfolding.proofs.StandIns.{arity-defined, arity-standin, called-defined, called-standin, callable-below, outermost-at, stand-ins, stand-ins-known}
use Rattle.unfolding.proofs.TextFormed.{implied-calls, implied-formed, text-calls, text-formed}
use Rattle.unfolding.proofs.TextLaw.{implied-means, text-means}

-- two things of every definition that a term names
head-both : (P Q : ℕ → Type 0) (k : ℕ) (h : Head) (m : ℕ) → HeadMentions AnyName P k h m × HeadMentions AnyName Q k h m → HeadMentions AnyName (λ g. P g × Q g) k h m
head-both P Q k (param i) m x = tt
head-both P Q k (bound j) m x = tt
head-both P Q k (declared d y) m x = tt
head-both P Q k (defined g) m x = x
head-both P Q k (builtin c) m x = tt
head-both P Q k (leaf l) m x = tt

uses-both : (P Q : ℕ → Type 0) (t : Term) → Uses P t → Uses Q t → Uses (λ g. P g × Q g) t
uses-both P Q t a b =
    every-weaken (λ k h m. HeadMentions AnyName P k h m × HeadMentions AnyName Q k h m) (HeadMentions AnyName (λ g. P g × Q g)) (head-both P Q) t 0
    (every-both (HeadMentions AnyName P) (HeadMentions AnyName Q) t 0 a b)

below-link : (D : ℕ) (u : World) (l : Link) (w : World) → SubstitutesBelow D (u ++ (l ∷ w)) → (k : Kind) (x : ℕ) → Uses (λ h. number_in w h < D) (l.substitutes k x)
below-link D [] l w h = h.0
below-link D (j ∷ u) l w h = below-link D u l w h.1

all-anything : {A : Type 0} (us : List A) → All (Anything {A = A}) us
all-anything [] = tt
all-anything (u ∷ us) = (tt, all-anything us)

module _ (file refs : List ℕ) (v : Store) (declared : List ℕ) (n D : ℕ) (c : Counts) (s : State) (rs : List Row) (decls : Declarations) (end : ℕ)
    (ready : Ready file refs v declared n c s rs decls end) (there : D < c.definitions) (room : n ≤ max_declarations) where
  abbrev W : World
  W = world_of rs D

  abbrev ar : Arities
  ar = arities_of (templates_of s)

  few-declarations : length decls ≤ max_declarations
  few-declarations = omega (arith, ready.numbered)

  few-below : D < max_definitions
  few-below = omega (arith, ready.few)

  -- the definitions that a text of a world along the chain may call
  abbrev Below : World → ℕ → Type 0
  Below w h = DefinedIn w h × (number_in w h < D)

  module _ (l cur outer : ℕ) (numbers : List ℕ) (here : AtLevel s rs ready.worlds.runs D l cur outer numbers) where
    abbrev w : World
    w = here.world

    shows : ShowsNumbers (Below w) numbers w
    shows = record { each = λ h i. here.numbered.each h i.0 }

    known-along : (r m : ℕ) → Below w r → ar r ≡ some m → arities_along s decls W (number_in w r) ≡ some (params_in w + m)
    known-along r m i e =
        arity-defined s decls W (number_in w r) (omega (arith, i.1, few-below))
        ∙ number-arity (meanings s) (lawful file refs v declared n D c s rs decls end ready there) ready.worlds.runs ready.worlds.book.disjoint w cur D here.comes r m i.0.1 e

    may : (r : ℕ) → Below w r → Callable decls D w (number_in w r)
    may r i = callable-below s decls W D w (number_in w r) i.1

    full : outermost (length w) W ≡ w
    full = outermost-at W (world_of rs cur) w (length w) here.split refl

    module _ {A : Type 0} (M : Reading A) where
      abbrev G : ℕ → List A → A
      G = meaning_of M s

      abbrev H : ℕ → List A → A
      H = called_in M s decls W

      same-defined : (r : ℕ) → Below w r → (vs : List A) → H (number_in w r) vs ≡ G (number_in w r) vs
      same-defined r i vs = called-defined s decls W M (number_in w r) vs (omega (arith, i.1, few-below))

      moved : (call m : ℕ) (T : ℕ → ℕ → Term) → Unfolds M s decls W D call (params_in w + m) (length w) (T (length w) (params_in w))
          → Unfolds M s decls W D call (outer + m) l (T l outer)
      moved call m T u =
          subst (λ (o : ℕ). Unfolds M s decls W D call (o + m) l (T l o)) (sym here.around)
          (subst (λ (j : ℕ). Unfolds M s decls W D call (params_in w + m) j (T j (params_in w))) (sym here.level) u)

      -- a text that is what a call means in the world
      text-unfolds : (call m : ℕ) (t : Expr) → TextNames (NamedIn decls w) (Below w) refs t → WellFormed ar m 0 (shown refs decls t)
          → arities_along s decls W call ≡ some (params_in w + m) → params_in w + m ≤ 2 * max_arity
          → ((us : List A) → length us ≡ params_in w + m → H call us ≡ eval_at (in_world M G w) (params_in w) (shown refs decls t) us)
          → Unfolds M s decls W D call (outer + m) l (term_in (by_refs refs) decls (place_at l outer numbers) t)
      text-unfolds call m t names formed arity few means =
          moved call m (λ j o. term_in (by_refs refs) decls (place_at j o numbers) t)
          (record {
            arity = arity;
            few = few;
            formed =
                text-formed refs decls (NamedIn decls w) (Below w) w numbers shows ar (arities_along s decls W) (Callable decls D w) known-along may
                (stand-ins-known s decls W D few-declarations (world_of rs cur) w here.split) m t names formed;
            calls =
                subst (λ (x : World). Uses (Callable decls D x) (term_in (by_refs refs) decls (place_at (length w) (params_in w) numbers) t)) (sym full)
                (text-calls refs decls (NamedIn decls w) (Below w) w numbers shows ar (arities_along s decls W) (Callable decls D w) known-along may
                (stand-ins-known s decls W D few-declarations (world_of rs cur) w here.split) m t names formed);
            means = λ us q.
                means us q
                ∙ sym (text-means refs decls (NamedIn decls w) (Below w) w numbers shows M G H same-defined
                (stand-ins s decls W M few-declarations (world_of rs cur) w here.split) us (omega (arith, q)) t names);
          })

      -- a name that stands for itself
      implied-unfolds : (call p : ℕ) (k : Kind) (r : ℕ) → Resolved (NamedIn decls w) (Below w) r → Fits ar (p + kind_arity k) 0 (ref_head decls r) (kind_arity k)
          → arities_along s decls W call ≡ some (params_in w + (p + kind_arity k)) → params_in w + (p + kind_arity k) ≤ 2 * max_arity
          → ((us : List A) → length us ≡ params_in w + (p + kind_arity k) → H call us ≡ eval_at (in_world M G w) (params_in w) (itself p k (ref_head decls r)) us)
          → Unfolds M s decls W D call (outer + (p + kind_arity k)) l (implied_in decls (place_at l outer numbers) p (kind_arity k) r)
      implied-unfolds call p k r names fits arity few means =
          moved call (p + kind_arity k) (λ j o. implied_in decls (place_at j o numbers) p (kind_arity k) r)
          (record {
            arity = arity;
            few = few;
            formed =
                implied-formed refs decls (NamedIn decls w) (Below w) w numbers shows ar (arities_along s decls W) (Callable decls D w) known-along may
                (stand-ins-known s decls W D few-declarations (world_of rs cur) w here.split) (p + kind_arity k) p k r refl names fits;
            calls =
                subst (λ (x : World). Uses (Callable decls D x) (implied_in decls (place_at (length w) (params_in w) numbers) p (kind_arity k) r)) (sym full)
                (implied-calls refs decls (NamedIn decls w) (Below w) w numbers shows ar (arities_along s decls W) (Callable decls D w) known-along may
                (stand-ins-known s decls W D few-declarations (world_of rs cur) w here.split) (p + kind_arity k) p k r refl names fits);
            means = λ us q.
                means us q
                ∙ sym (implied-means refs decls (NamedIn decls w) (Below w) w numbers shows M G H same-defined
                (stand-ins s decls W M few-declarations (world_of rs cur) w here.split) us (omega (arith, q)) p k r names);
          })

    shown-names : (at : ℕ) (u : Term) (x : TextShown file refs decls end at u) → Names (Declared AnyName w) u → Uses (Below w) u
        → TextNames (NamedIn decls w) (Below w) refs x.text
    shown-names at u x a b =
        text-names refs decls (Declared AnyName w) (Below w) x.text x.below
        (subst (Names (Declared AnyName w)) (sym x.same) a) (subst (Uses (Below w)) (sym x.same) b)

    -- At the original: the text of definition D.
    module _ (last : step_fits v.facts outer cur ≡ false) where
      own : Own v file refs decls s end (get_or rs cur no_row) cur
      own = own-there file refs v declared n D c s rs decls end ready there l cur outer numbers here last

      whole : world_of rs D ≡ w
      whole = here.split ∙ ap (λ (r : Row). r.world ++ w) own.row

      reached : source_of rs D ≡ cur
      reached = here.source ∙ ap (λ (r : Row). r.source) own.row

      pub whole-level : l ≡ length (world_of rs D)
      whole-level = here.level ∙ ap (λ (x : World). length x) (sym whole)

      text-there : TextShown file refs decls end (first_at v.facts cur) (text_of s rs D)
      text-there = subst (λ (i : ℕ). TextShown file refs decls end (first_at v.facts cur) (body_of (definition_at s i).meaning)) (sym reached) own.text

      abbrev own-params : ℕ
      own-params = own_params (original s rs D)

      text-placed : FormedIn ar W own-params (text_of s rs D)
      text-placed =
          let x = is-text s rs ready.worlds ready.sound D (inside file refs v declared n D c s rs decls end ready there) in
          let ok = lawful file refs v declared n D c s rs decls end ready there in
          record {
            formed = (subst (Settled (templates (meanings s)) x.source) x.text (settled (meanings s) ok x.source x.known)).formed;
            names = (ready.named D (inside file refs v declared n D c s rs decls end ready there)).0;
            uses =
                uses-more (λ h. (h < length (meanings s)) × InModule W h) (DefinedIn W) (defined-in file refs v declared n D c s rs decls end ready there W) (text_of s rs D)
                (subst (UsesOnly (λ h. (h < length (meanings s)) × InModule W h)) x.text
                (uses-module (meanings s) ok ready.worlds.runs ready.worlds.book.disjoint W x.source D x.comes (known file refs v declared n D c s rs decls end ready there)));
          }

      uses-there : Uses (Below w) (text_of s rs D)
      uses-there =
          subst (λ (x : World). Uses (Below x) (text_of s rs D)) whole
          (uses-both (DefinedIn W) (λ h. number_in W h < D) (text_of s rs D) text-placed.uses
          (text-uses-below s rs ready.worlds ready.sound D (inside file refs v declared n D c s rs decls end ready there)))

      module _ {A : Type 0} (M : Reading A) where
        below-means : MeansBelow M (Anything {A = A}) s D (meaning_of M s)
        below-means =
            record {
              keeps = record { on_declared = λ k x vs a. tt; on_defined = λ g vs a. tt; on_builtin = λ c args a. tt; on_leaf = λ x. tt; looks = anywhere M };
              good = λ g vs a. tt;
              exact = λ g vs b p a. refl;
            }

        -- Definition D is its original's text, the calls meaning what they mean along the chain.
        pub definition-unfolds : UnfoldsText M file refs s decls (world_of rs D) D D (params_of s D) l outer numbers end (first_at v.facts cur)
        definition-unfolds =
            let x = text-there in
            let i = inside file refs v declared n D c s rs decls end ready there in
            let wp = world-params s rs ready.worlds ready.sound D i in
            let ew : params_in (world_of rs D) ≡ params_in w = ap params_in whole in
            let size : params_of s D ≡ params_in w + own-params = omega (arith, wp, ew) in
            let shift : outer + own-params ≡ params_of s D = omega (arith, size, here.around) in
            record {
              text = x.text;
              next = x.next;
              stands = x.stands;
              kept = x.kept;
              below = x.below;
              inside = x.inside;
              unfolds =
                  subst (λ (k : ℕ). Unfolds M s decls W D D k l (term_in (by_refs refs) decls (place_at l outer numbers) x.text)) shift
                  (text-unfolds M D own-params x.text
                  (shown-names (first_at v.facts cur) (text_of s rs D) x (subst (λ (y : World). Names (Declared AnyName y) (text_of s rs D)) whole text-placed.names) uses-there)
                  (subst (WellFormed ar own-params 0) (sym x.same) text-placed.formed)
                  (arity-defined s decls W D few-below ∙ arity-known s ready.sound D i ∙ ap {B = Option ℕ} some size)
                  (omega (arith, size, ready.params D i))
                  (λ us q.
                  called-defined s decls W M D us few-below
                  ∙ definition-in-world s rs ready.worlds ready.sound D i M (Anything {A = A}) (meaning_of M s) below-means us (q ∙ sym size) (all-anything us)
                  ∙ ap (λ (y : World). eval_at (in_world M (meaning_of M s) y) (params_in y) (text_of s rs D) us) whole
                  ∙ ap (λ (y : Term). eval_at (in_world M (meaning_of M s) w) (params_in w) y us) (sym x.same)));
            }

    -- One instance further in: what stands for the names that the module instanced declares.
    module _ (fits : step_fits v.facts outer cur ≡ true) where
      abbrev t : Through v c file refs decls rs end (get_or rs cur no_row) cur
      t = through file refs v declared n D c s rs decls end ready there l cur outer numbers here fits

      abbrev k : Link
      k = t.link

      longer : world_of rs D ≡ world_of rs t.from ++ (k ∷ w)
      longer = further file refs v declared n D c s rs decls end ready there l cur outer numbers here t

      module _ {A : Type 0} (M : Reading A) (e : ℕ) (named : NamedIn decls (k ∷ w) e) where
        abbrev kind : Kind
        kind = (get_or decls e no_declaration).0

        abbrev x : ℕ
        x = (get_or decls e no_declaration).1

        abbrev u : Term
        u = k.substitutes kind x

        abbrev m : ℕ
        m = k.params + kind_arity kind

        abbrev call : ℕ
        call = stand_in (length (k ∷ w)) (max_definitions + e)

        few-entry : e < max_declarations
        few-entry = omega (arith, named.0, few-declarations)

        spot : FormedIn ar w m u
        spot = placed file refs v declared n D c s rs decls end ready there l cur outer numbers here t kind x named.1

        spot-uses : Uses (Below w) u
        spot-uses =
            uses-both (DefinedIn w) (λ h. number_in w h < D) u spot.uses
            (below-link D (world_of rs t.from) k w
            (subst (SubstitutesBelow D) longer (substitutes-use-below s rs ready.worlds ready.sound D (inside file refs v declared n D c s rs decls end ready there))) kind x)

        spot-arity : arities_along s decls W call ≡ some (params_in w + m)
        spot-arity = arity-standin s decls W (world_of rs t.from) (k ∷ w) longer e few-entry ∙ ap {B = Option ℕ} some (omega arith)

        spot-few : params_in w + m ≤ 2 * max_arity
        spot-few = omega (arith, few-params file refs v declared n D c s rs decls end ready there l cur outer numbers here t, ready.codes.few e named.0)

        spot-means : (us : List A) → called_in M s decls W call us ≡ eval_at (in_world M (meaning_of M s) w) (params_in w) u us
        spot-means us =
            called-standin s decls W (world_of rs t.from) (k ∷ w) longer e few-entry M us
            ∙ ap (eval_at (in_world M (meaning_of M s) w) (params_in w) u) (take-append-drop (params_in (k ∷ w)) us)

        spot-size : outer + m ≡ outer_after v.facts outer cur + kind_arity kind
        spot-size = omega (arith, outer-there file refs v declared n D c s rs decls end ready there l cur outer numbers here t, here.around)

        abbrev By : ℕ → ℕ → ℕ → Answer ℕ → Type 0
        By n owner p y =
            UnfoldsBy M file refs v s decls (world_of rs D) D n (outer_after v.facts outer cur + kind_arity kind) l outer numbers end owner p kind x y

        by-writing : (owner : ℕ) (y : Answer ℕ) → StandsFor v file refs decls end owner k.params kind x u y → By call owner k.params y
        by-writing owner (Some at) a =
            record {
              text = a.text;
              next = a.next;
              stands = a.stands;
              kept = a.kept;
              below = a.below;
              inside = a.inside;
              unfolds =
                  subst (λ (i : ℕ). Unfolds M s decls W D call i l (term_in (by_refs refs) decls (place_at l outer numbers) a.text)) spot-size
                  (text-unfolds M call m a.text (shown-names at u a spot.names spot-uses) (subst (WellFormed ar m 0) (sym a.same) spot.formed) spot-arity spot-few
                  (λ us q. spot-means us ∙ ap (λ (y : Term). eval_at (in_world M (meaning_of M s) w) (params_in w) y us) (sym a.same)));
            }
        by-writing owner None a =
            let r : ℕ = implied_ref v.names v.facts v.contexts v.heads owner x in
            let f = subst (WellFormed ar m 0) (sym a.same) spot.formed in
            let b = subst (Names (Declared AnyName w)) (sym a.same) spot.names in
            let d = subst (Uses (Below w)) (sym a.same) spot-uses in
            record {
              below = a.below;
              unfolds =
                  subst (λ (i : ℕ). Unfolds M s decls W D call i l (implied_in decls (place_at l outer numbers) k.params (kind_arity kind) r)) spot-size
                  (implied-unfolds M call k.params kind r
                  (resolved refs decls (Declared AnyName w) (Below w) r 0 (count (params_from k.params (kind_arity kind))) a.below b.0 d.0)
                  (subst (Fits ar m 0 (ref_head decls r)) (count-params k.params (kind_arity kind)) f.0) spot-arity spot-few
                  (λ us q. spot-means us ∙ ap (λ (y : Term). eval_at (in_world M (meaning_of M s) w) (params_in w) y us) (sym a.same)));
            }

        spot-unfolds : By call (site_of v.facts outer (code_at v.facts cur)).owner (site_of v.facts outer (code_at v.facts cur)).params
            (written_at (site_of v.facts outer (code_at v.facts cur)).count file (site_of v.facts outer (code_at v.facts cur)).start x)
        spot-unfolds =
            subst (λ (y : Site). By call y.owner y.params (written_at y.count file y.start x))
            (sym (site-there file refs v declared n D c s rs decls end ready there l cur outer numbers here t))
            (by-writing t.shown.owner (written_at t.shown.count file t.shown.start x) (t.shown.substitutes kind x named.1))

      -- Declaration e of the module instanced stands for the substitute written for its name, or for itself.
      pub standin-unfolds : {A : Type 0} (M : Reading A) (e : ℕ) → NamedIn decls (outermost (suc l) (world_of rs D)) e
          → UnfoldsBy M file refs v s decls (world_of rs D) D (stand_in (suc l) (max_definitions + e))
          (outer_after v.facts outer cur + kind_arity (get_or decls e no_declaration).0) l outer numbers end
          (site_of v.facts outer (code_at v.facts cur)).owner (site_of v.facts outer (code_at v.facts cur)).params
          (get_or decls e no_declaration).0 (get_or decls e no_declaration).1
          (written_at (site_of v.facts outer (code_at v.facts cur)).count file (site_of v.facts outer (code_at v.facts cur)).start (get_or decls e no_declaration).1)
      standin-unfolds M e i =
          let named : NamedIn decls (k ∷ w) e = subst (λ (y : World). NamedIn decls y e) (outermost-at W (world_of rs t.from) (k ∷ w) (suc l) longer (ap suc here.level)) i in
          let z : suc (length w) ≡ suc l = ap suc (sym here.level) in
          subst
          (λ (j : ℕ). By M e named (stand_in j (max_definitions + e)) (site_of v.facts outer (code_at v.facts cur)).owner (site_of v.facts outer (code_at v.facts cur)).params
          (written_at (site_of v.facts outer (code_at v.facts cur)).count file (site_of v.facts outer (code_at v.facts cur)).start (get_or decls e no_declaration).1)) z
          (spot-unfolds M e named)

    -- A step fits where the chain goes on, and only there.
    pub goes_on : l < length (world_of rs D) → step_fits v.facts outer cur ≡ true
    goes_on h = go (step_fits v.facts outer cur) refl
      where
        go : (b : Bool) → step_fits v.facts outer cur ≡ b → b ≡ true
        go true e = refl
        go false e = absurd (omega (arith, whole-level e))

    pub deeper : step_fits v.facts outer cur ≡ true → l < length (world_of rs D)
    deeper e =
        let h : length (world_of rs D) ≡ length (world_of rs (t e).from ++ ((t e).link ∷ w)) = ap (λ (x : World). length x) (longer e) in
        omega (arith, h, length-append (world_of rs (t e).from) ((t e).link ∷ w), here.level)
