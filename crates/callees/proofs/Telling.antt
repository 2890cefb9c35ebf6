-- The strings that are written are those of what the calls along the chain stand for.
use borrow.Author.Tests.{le-leb}
use mathlib.Core.Bool.{Bool, false, true}
use mathlib.Core.List.{List, ◌++◌}
use mathlib.Core.Path.{◌∙◌, ◌≡◌, ap, refl, subst, sym}
use lib.ListN.{get_or, length}
use native.Mathlib.Omega.{arith}
use Prim.Native.Nat.{◌+◌, ◌*◌, ◌<◌, ◌≤◌, suc, ℕ}
use Rattle.limits.specs.Limits.{max_arity, max_declarations, max_definitions, max_nesting}
use Rattle.theory.proofs.Size.{sizes}
use Rattle.theory.specs.Term.{Kind, Term, WellFormed, constant, kind_arity, variable}
use Rattle.symbols.specs.Symbol.{Symbol, size}
use Rattle.symbols.specs.Spell.{max_params, spell}
use Rattle.rules.specs.State.{State, params_of}
use Rattle.tokens.specs.Expr.{Found, expr_at}
use Rattle.texts.specs.Text.{Declarations, no_declaration}
use Rattle.store.specs.Store.{first_at, kind_at}
use Rattle.store.specs.declared.Store.{Store}
use Rattle.context.specs.declared.Counts.{Counts}
use Rattle.worlds.specs.Rows.{Row, world_of}
use Rattle.worlds.specs.World.{World, params_in}
use Rattle.worlds.proofs.File.{world-params}
use Rattle.entering.proofs.Outset.{kind_number}
use Rattle.entering.specs.Implied.{arguments_of, implied_ref}
use Rattle.entering.specs.Written.{written_at}
use Rattle.entering.specs.declared.substitutes.Site.{Site}
use Rattle.std.specs.Prelude.{Option as Answer, Some, None}
use Rattle.chains.specs.Ready.{Ready}
use Rattle.chains.specs.Walk.{code_at, outer_after, site_of, step_fits}
use Rattle.chains.proofs.Knowing.{NamedIn}
use Rattle.chains.proofs.Places.{params-append}
use Rattle.unfolding.specs.AtLevel.{AtLevel}
use Rattle.unfolding.specs.CalleeTerm.{Entered, found_term, own_term, place_in, row_of, stand_in_term, written_term}
use Rattle.unfolding.specs.InWorld.{by_refs, implied_in, stand_in, term_in}
use Rattle.unfolding.specs.StandIn.{outermost, place_at}
use Rattle.unfolding.specs.Unfolding.{UnfoldsBy, UnfoldsText}
use Rattle.unfolding.proofs.ChainLevels.{inside}
use Rattle.unfolding.proofs.Callees.{own-text, standin-by}
use Rattle.unfolding.proofs.Narrowed.{near-known, near_arities, own-few, own-narrow, standin-few, standin-narrow}
use Rattle.spelling.specs.Strings.{ImpliedString, NamesShown, Narrow, ShapesFit, Spells, TextString, growth, shapes_of}
use Rattle.spelling.proofs.Narrowing.{narrow-formed}
use Rattle.spelling.proofs.Short.{implied-short, text-short}
use Rattle.callees.specs.Results.{Clamped, LinkString, OwnString, StandInString, Strung, SubstituteString, SubstitutedBy, implied_bytes}

-- a string no longer than the room fits
fits_whole : (gs : List Symbol) (out : List ℕ) (room : ℕ) (fits : Bool) (len : ℕ) → Spells gs out room fits len → size gs ≤ room → fits ≡ true
fits_whole gs out room true len x h = refl
fits_whole gs out room false len x h = absurd (let y = x.short refl in omega arith)

count-kind : (k : Kind) → kind_arity k ≤ max_arity → arguments_of (kind_number k) ≡ kind_arity k
unfolding arguments_of
count-kind (constant n) h = rw (le-leb n max_arity h) refl
count-kind variable h = refl

-- the calls and parameters of what stands for a call are such as a string can hold
narrow-near : (s : State) (decls : Declarations) (w : World) (m : ℕ) (t : Term) (σ : ℕ → ℕ) → WellFormed (near_arities s decls w) m 0 t → m ≤ max_params → Narrow (spell σ t)
narrow-near s decls w m t σ f h = narrow-formed σ (near_arities s decls w) m (near-known s decls w) (omega arith) t 0 f

module _ (file refs names declared shapes : List ℕ) (s : State) (decls : Declarations) (w : World) (D call m l outer : ℕ) (row : List ℕ) (end : ℕ) (out : List ℕ)
    (room : ℕ) (fits : Bool) (len : ℕ) (params : outer ≤ max_arity) (few-declared : length decls ≤ max_declarations) (shown : NamesShown names declared decls)
    (shapes-fit : ShapesFit shapes) where
  -- of a text that stands for a call
  text-strung : (at : ℕ) → UnfoldsText sizes file refs s decls w D call m l outer row end at
      → Narrow (spell (shapes_of shapes) (found_term (by_refs refs) decls (place_at l outer row) (expr_at max_nesting file at)))
      → TextString file refs names declared row shapes at l outer out room fits len
      → Strung (found_term (by_refs refs) decls (place_at l outer row) (expr_at max_nesting file at)) shapes end out room fits len
  text-strung at u narrow x =
      subst (λ (f : Found). Strung (found_term (by_refs refs) decls (place_at l outer row) f) shapes end out room fits len) (sym u.stands)
      (record { spells = spells; whole = λ h k. fits_whole (spell (shapes_of shapes) term) out room fits len spells (short h) })
    where
      term : Term
      term = term_in (by_refs refs) decls (place_at l outer row) u.text

      spells : Spells (spell (shapes_of shapes) (term_in (by_refs refs) decls (place_at l outer row) u.text)) out room fits len
      spells =
          x.string decls u.text u.next u.stands u.below few-declared shown shapes-fit
          (subst (λ (f : Found). Narrow (spell (shapes_of shapes) (found_term (by_refs refs) decls (place_at l outer row) f))) u.stands narrow)

      short : growth * end ≤ 2 * room → size (spell (shapes_of shapes) (term_in (by_refs refs) decls (place_at l outer row) u.text)) ≤ room
      short h =
          omega (arith, text-short (shapes_of shapes) decls (place_at l outer row) params (by_refs refs) max_nesting file at u.text u.next u.stands, u.inside)

  -- of a name that stands for itself
  implied-strung : (p k r : ℕ) → k ≤ max_arity → r < max_definitions + length decls → Narrow (spell (shapes_of shapes) (implied_in decls (place_at l outer row) p k r))
      → ImpliedString names declared row shapes r l outer p k out room fits len → Strung (implied_in decls (place_at l outer row) p k r) shapes end out room fits len
  implied-strung p k r h below narrow y =
      record {
        spells = spells;
        whole = λ i j. fits_whole (spell (shapes_of shapes) (implied_in decls (place_at l outer row) p k r)) out room fits len spells (short j);
      }
    where
      spells : Spells (spell (shapes_of shapes) (implied_in decls (place_at l outer row) p k r)) out room fits len
      spells = y.string decls below few-declared shown shapes-fit narrow

      short : implied_bytes ≤ room → size (spell (shapes_of shapes) (implied_in decls (place_at l outer row) p k r)) ≤ room
      short j = omega (arith, implied-short (shapes_of shapes) decls (place_at l outer row) params p k r)

-- The places that the arrays hold are within the limits.
module _ (file refs : List ℕ) (v : Store) (declared : List ℕ) (n D : ℕ) (c : Counts) (s : State) (rs : List Row) (decls : Declarations) (end : ℕ)
    (ready : Ready file refs v declared n c s rs decls end) (there : D < c.definitions) (l cur outer : ℕ) (row : List ℕ)
    (here : AtLevel s rs ready.worlds.runs D l cur outer row) where
  pub cur-small : cur ≤ 255
  cur-small = omega (arith, here.before, ready.few)

  pub params_small : outer ≤ max_arity
  params_small =
      let e : params_in (world_of rs D) ≡ params_in (world_of rs cur ++ here.world) = ap params_in here.split in
      let i = inside file refs v declared n D c s rs decls end ready there in
      omega (arith, e, params-append (world_of rs cur) here.world, world-params s rs ready.worlds ready.sound D i, ready.params D i, here.around)

-- what is written at the places that the arrays hold, or at the places clamped
text_at : (file refs names declared row row' shapes : List ℕ) (at at' l outer outer' : ℕ) (out : List ℕ) (room : ℕ) (fits : Bool) (len : ℕ) → row ≡ row' → at ≡ at'
    → outer ≡ outer' → TextString file refs names declared row shapes at l outer out room fits len
    → TextString file refs names declared row' shapes at' l outer' out room fits len
text_at file refs names declared row row' shapes at at' l outer outer' out room fits len p q r x =
    subst (λ (y : ℕ). TextString file refs names declared row' shapes at' l y out room fits len) r
    (subst (λ (y : ℕ). TextString file refs names declared row' shapes y l outer out room fits len) q
    (subst (λ (y : List ℕ). TextString file refs names declared y shapes at l outer out room fits len) p x))

pub own-string : (file refs : List ℕ) (v : Store) (numbers currents outers shapes : List ℕ) (k cur outer at : ℕ) (row out : List ℕ) (room : ℕ) (fits : Bool) (len : ℕ)
    → Clamped 255 (get_or currents k 0) cur → Clamped max_arity (get_or outers k 0) outer → at ≡ first_at v.facts cur → row ≡ row_of numbers k
    → TextString file refs v.names v.declared row shapes at k outer out room fits len
    → OwnString file refs v numbers currents outers shapes k out room fits len
own-string file refs v numbers currents outers shapes k cur outer at row out room fits len a b p q x =
    record { told = x.told; string = string }
  where
    string : (n D : ℕ) (c : Counts) (s : State) (rs : List Row) (decls : Declarations) (end : ℕ)
        (ready : Ready file refs v v.declared n c s rs decls end) → D < c.definitions → n ≤ max_declarations
        → Entered s rs ready.worlds.runs v.facts D k numbers currents outers → ShapesFit shapes
        → Strung (own_term file refs v.facts decls k numbers currents outers) shapes end out room fits len
    string n D c s rs decls end ready there room-declared e shapes-fit =
        let here = e.each k (omega arith) in
        let small = params_small file refs v v.declared n D c s rs decls end ready there k (get_or currents k 0) (get_or outers k 0) (row_of numbers k) here in
        let f : cur ≡ get_or currents k 0 =
        a.same (cur-small file refs v v.declared n D c s rs decls end ready there k (get_or currents k 0) (get_or outers k 0) (row_of numbers k) here) in
        let m = params_of s D in
        let few = own-few file refs v v.declared n D c s rs decls end ready there room-declared k numbers currents outers e in
        let narrow =
        narrow-near s decls (world_of rs D) m (own_term file refs v.facts decls k numbers currents outers) (shapes_of shapes)
        (own-narrow file refs v v.declared n D c s rs decls end ready there room-declared k numbers currents outers e) few in
        text-strung file refs v.names v.declared shapes s decls (world_of rs D) D D m k (get_or outers k 0) (row_of numbers k) end out room fits len small
        (omega (arith, ready.numbered)) ready.codes.named shapes-fit (first_at v.facts (get_or currents k 0))
        (own-text file refs v v.declared n D c s rs decls end ready there room-declared k numbers currents outers e sizes) narrow
        (text_at file refs v.names v.declared row (row_of numbers k) shapes at (first_at v.facts (get_or currents k 0)) k outer (get_or outers k 0) out room fits len q (p ∙ ap (first_at v.facts) f)
        (b.same small) x)

-- what is written, or else what the name means
module _ (file refs : List ℕ) (v : Store) (row shapes : List ℕ) (site : Site) (level e : ℕ) (out : List ℕ) (room : ℕ) (fits : Bool) (len o x : ℕ) (w : Answer ℕ)
    (p : o ≡ get_or v.declared e 0) (q : x ≡ get_or v.names o 0) (found-there : w ≡ written_at site.count file site.start x) where
  name-there : x ≡ get_or v.names (get_or v.declared e 0) 0
  name-there = q ∙ ap (λ (i : ℕ). get_or v.names i 0) p

  by-writing : (y : Answer ℕ) → w ≡ y → SubstitutedBy file refs v row shapes site level e out room fits len y
      → SubstituteString file refs v row shapes site level e out room fits len
  by-writing y f z =
      record {
        by =
            subst (λ (k : Answer ℕ). SubstitutedBy file refs v row shapes site level e out room fits len k)
            (sym f ∙ found-there ∙ ap (written_at site.count file site.start) name-there) z;
      }

  pub substituted-written : (at : ℕ) → w ≡ Some at → TextString file refs v.names v.declared row shapes at level site.outer out room fits len
      → SubstituteString file refs v row shapes site level e out room fits len
  substituted-written at f z = by-writing (Some at) f z

  pub substituted-implied : (r n k : ℕ) → w ≡ None → r ≡ implied_ref v.names v.facts v.contexts v.heads site.owner x → n ≡ kind_at v.facts o → k ≡ arguments_of n
      → ImpliedString v.names v.declared row shapes r level site.outer site.params k out room fits len
      → SubstituteString file refs v row shapes site level e out room fits len
  substituted-implied r n k f i j h z =
      by-writing None f
      (subst
      (λ (y : ℕ). ImpliedString v.names v.declared row shapes y level site.outer site.params (arguments_of (kind_at v.facts (get_or v.declared e 0))) out room fits len)
      (i ∙ ap (implied_ref v.names v.facts v.contexts v.heads site.owner) name-there)
      (subst (λ (y : ℕ). ImpliedString v.names v.declared row shapes r level site.outer site.params y out room fits len)
      (h ∙ ap arguments_of (j ∙ ap (kind_at v.facts) p)) z))

pub link-there : (file refs : List ℕ) (v : Store) (row shapes : List ℕ) (cur outer o level e : ℕ) (site : Site) (out : List ℕ) (room : ℕ) (fits : Bool) (len : ℕ)
    → o ≡ code_at v.facts cur → site ≡ site_of v.facts outer o
    → SubstituteString file refs v row shapes site level e out room fits len
    → LinkString file refs v row shapes cur outer level e out room fits len
link-there file refs v row shapes cur outer o level e site out room fits len p q x =
    record {
      through = λ h.
          subst (λ (y : Site). SubstituteString file refs v row shapes y level e out room fits len) (q ∙ ap (site_of v.facts outer) p) x;
    }

pub link-none : (file refs : List ℕ) (v : Store) (row shapes : List ℕ) (cur outer level e : ℕ) (out : List ℕ) (room : ℕ) (fits : Bool) (len : ℕ)
    → step_fits v.facts outer cur ≡ false → LinkString file refs v row shapes cur outer level e out room fits len
link-none file refs v row shapes cur outer level e out room fits len f =
    record {
      through = λ (h : step_fits v.facts outer cur ≡ true). absurd (let z : ◌≡◌ {A = Bool} true false = sym h ∙ f in let y : ◌≡◌ {A = ℕ} 0 1 = cc in omega arith);
    }

link-at : (file refs : List ℕ) (v : Store) (row row' shapes : List ℕ) (cur cur' outer outer' level e : ℕ) (out : List ℕ) (room : ℕ) (fits : Bool) (len : ℕ)
    → row ≡ row' → cur ≡ cur' → outer ≡ outer' → LinkString file refs v row shapes cur outer level e out room fits len
    → LinkString file refs v row' shapes cur' outer' level e out room fits len
link-at file refs v row row' shapes cur cur' outer outer' level e out room fits len p q r x =
    subst (λ (y : ℕ). LinkString file refs v row' shapes cur' y level e out room fits len) r
    (subst (λ (y : ℕ). LinkString file refs v row' shapes y outer level e out room fits len) q
    (subst (λ (y : List ℕ). LinkString file refs v y shapes cur outer level e out room fits len) p x))

module _ (file refs : List ℕ) (v : Store) (numbers currents outers shapes : List ℕ) (l e : ℕ) (out : List ℕ) (room : ℕ) (fits : Bool) (len : ℕ)
    (x : LinkString file refs v (row_of numbers l) shapes (get_or currents l 0) (get_or outers l 0) l e out room fits len)
    (n D : ℕ) (c : Counts) (s : State) (rs : List Row) (decls : Declarations) (end : ℕ)
    (ready : Ready file refs v v.declared n c s rs decls end) (there : D < c.definitions) (few : n ≤ max_declarations) (k : ℕ)
    (chain : Entered s rs ready.worlds.runs v.facts D k numbers currents outers) (on : l < k) (named : NamedIn decls (outermost (suc l) (world_of rs D)) e)
    (shapes-fit : ShapesFit shapes) where
  abbrev kind : Kind
  kind = (get_or decls e no_declaration).0

  abbrev name : ℕ
  name = (get_or decls e no_declaration).1

  abbrev site : Site
  site = site_of v.facts (get_or outers l 0) (code_at v.facts (get_or currents l 0))

  abbrev call : ℕ
  call = stand_in (suc l) (max_definitions + e)

  abbrev arity : ℕ
  arity = outer_after v.facts (get_or outers l 0) (get_or currents l 0) + kind_arity kind

  here : AtLevel s rs ready.worlds.runs D l (get_or currents l 0) (get_or outers l 0) (row_of numbers l)
  here = chain.each l (omega arith)

  small : get_or outers l 0 ≤ max_arity
  small = params_small file refs v v.declared n D c s rs decls end ready there l (get_or currents l 0) (get_or outers l 0) (row_of numbers l) here

  named-there : get_or v.names (get_or v.declared e 0) 0 ≡ name
  named-there = ready.codes.named e named.0

  few-arguments : kind_arity kind ≤ max_arity
  few-arguments = ready.codes.few e named.0

  arguments-there : arguments_of (kind_at v.facts (get_or v.declared e 0)) ≡ kind_arity kind
  arguments-there = ap arguments_of (ready.codes.kind e named.0) ∙ count-kind kind few-arguments

  by-string : (y : Answer ℕ) → UnfoldsBy sizes file refs v s decls (world_of rs D) D call arity l (get_or outers l 0) (row_of numbers l) end site.owner site.params kind name y
      → Narrow (spell (shapes_of shapes) (written_term file refs v decls (place_in numbers outers l) site kind name y))
      → SubstitutedBy file refs v (row_of numbers l) shapes site l e out room fits len y
      → Strung (written_term file refs v decls (place_in numbers outers l) site kind name y) shapes end out room fits len
  by-string (Some at) u narrow z =
      text-strung file refs v.names v.declared shapes s decls (world_of rs D) D call arity l (get_or outers l 0) (row_of numbers l) end out room fits len small
      (omega (arith, ready.numbered)) ready.codes.named shapes-fit at u narrow z
  by-string None u narrow z =
      implied-strung file refs v.names v.declared shapes s decls (world_of rs D) D call arity l (get_or outers l 0) (row_of numbers l) end out room fits len small
      (omega (arith, ready.numbered)) ready.codes.named shapes-fit site.params (kind_arity kind) (implied_ref v.names v.facts v.contexts v.heads site.owner name) few-arguments
      u.below narrow
      (subst
      (λ (i : ℕ). ImpliedString v.names v.declared (row_of numbers l) shapes (implied_ref v.names v.facts v.contexts v.heads site.owner i) l (get_or outers l 0) site.params (kind_arity kind) out room
      fits len) named-there
      (subst
      (λ (i : ℕ). ImpliedString v.names v.declared (row_of numbers l) shapes (implied_ref v.names v.facts v.contexts v.heads site.owner (get_or v.names (get_or v.declared e 0) 0)) l (get_or outers l 0)
      site.params i out room fits len) arguments-there z))

  standin-strung : Strung (stand_in_term file refs v decls numbers currents outers l e) shapes end out room fits len
  standin-strung =
      by-string (written_at site.count file site.start name)
      (standin-by file refs v v.declared n D c s rs decls end ready there few k numbers currents outers chain l e on named sizes)
      (narrow-near s decls (world_of rs D) arity (stand_in_term file refs v decls numbers currents outers l e) (shapes_of shapes)
      (standin-narrow file refs v v.declared n D c s rs decls end ready there few k numbers currents outers chain l e on named)
      (standin-few file refs v v.declared n D c s rs decls end ready there few k numbers currents outers chain l e on named))
      (subst
      (λ (i : ℕ). SubstitutedBy file refs v (row_of numbers l) shapes site l e out room fits len (written_at site.count file site.start i))
      named-there (x.through (chain.on l on)).by)

pub standin-string : (file refs : List ℕ) (v : Store) (numbers currents outers shapes : List ℕ) (l e cur outer : ℕ) (row out : List ℕ) (room : ℕ) (fits : Bool)
    (len : ℕ) → Clamped 255 (get_or currents l 0) cur → Clamped max_arity (get_or outers l 0) outer → row ≡ row_of numbers l
    → LinkString file refs v row shapes cur outer l e out room fits len
    → StandInString file refs v numbers currents outers shapes l e out room fits len
standin-string file refs v numbers currents outers shapes l e cur outer row out room fits len a b q x =
    record {
      string = λ n D c s rs decls end ready there few k chain on named shapes-fit.
          let here = chain.each l (omega (arith, on)) in
          standin-strung file refs v numbers currents outers shapes l e out room fits len
          (link-at file refs v row (row_of numbers l) shapes cur (get_or currents l 0) outer (get_or outers l 0) l e out room fits len q
          (a.same (cur-small file refs v v.declared n D c s rs decls end ready there l (get_or currents l 0) (get_or outers l 0) (row_of numbers l) here))
          (b.same (params_small file refs v v.declared n D c s rs decls end ready there l (get_or currents l 0) (get_or outers l 0) (row_of numbers l) here)) x) n D c s rs decls end
          ready there few k chain on named shapes-fit;
    }
