-- The strings of what the calls along a chain stand for.
use Rattle.std.specs.Prelude.{Bool, true, List, ◌≡◌, ℕ, suc, ◌+◌, ◌*◌, ◌≤◌, ◌<◌, leb, get_or}
use Rattle.limits.specs.Limits.{max_declarations}
use Rattle.theory.specs.Term.{Term}
use Rattle.symbols.specs.Spell.{max_params, spell}
use Rattle.rules.specs.State.{State}
use Rattle.texts.specs.Text.{Declarations}
use Rattle.store.specs.Store.{kind_at}
use Rattle.store.specs.declared.Store.{Store}
use Rattle.context.specs.declared.Counts.{Counts}
use Rattle.worlds.specs.Rows.{Row, world_of}
use Rattle.entering.specs.Implied.{arguments_of, implied_ref}
use Rattle.entering.specs.Written.{written_at}
use Rattle.entering.specs.declared.substitutes.Site.{Site}
use Rattle.std.specs.Prelude.{Option as Answer, Some, None}
use Rattle.chains.specs.Ready.{Ready}
use Rattle.chains.specs.Walk.{code_at, site_of, step_fits}
use Rattle.chains.proofs.Knowing.{NamedIn}
use Rattle.unfolding.specs.CalleeTerm.{Entered, own_term, stand_in_term}
use Rattle.unfolding.specs.StandIn.{outermost}
use Rattle.spelling.specs.Strings.{ImpliedString, ShapesFit, Spells, TextString, growth, shapes_of}

-- a number that is at most the bound, the one given where that is
pub record Clamped (bound x r : ℕ) : Type 0 where
  pub small : r ≤ bound
  pub same : x ≤ bound → r ≡ x

-- the longest string of what a name means: a call's two bytes, and two for each parameter around it and for each argument
abbrev pub implied_bytes : ℕ
implied_bytes = 2 + 2 * max_params

-- The string of a term stands at the start of the memory, or there was no room. There is room if the memory has `growth` bytes for every two of the
-- file up to `end`.
pub record Strung (t : Term) (shapes : List ℕ) (end : ℕ) (out : List ℕ) (room : ℕ) (fits : Bool) (len : ℕ) : Type 0 where
  pub spells : Spells (spell (shapes_of shapes) t) out room fits len
  pub whole : growth * end ≤ 2 * room → implied_bytes ≤ room → fits ≡ true

-- the string of the text at the end of the chain that the arrays hold, whatever stands
pub record OwnString (file refs : List ℕ) (v : Store) (numbers currents outers shapes : List ℕ) (k : ℕ) (out : List ℕ) (room : ℕ) (fits : Bool) (len : ℕ) : Type 0 where
  pub told : fits ≡ leb len room
  pub string : (n D : ℕ) (c : Counts) (s : State) (rs : List Row) (decls : Declarations) (end : ℕ)
      (ready : Ready file refs v v.declared n c s rs decls end) → D < c.definitions → n ≤ max_declarations
      → Entered s rs ready.worlds.runs v.facts D k numbers currents outers → ShapesFit shapes
      → Strung (own_term file refs v.facts decls k numbers currents outers) shapes end out room fits len

-- what is written for declaration e at an INSTANCE field, or what its name means there
abbrev pub SubstitutedBy : List ℕ → List ℕ → Store → List ℕ → List ℕ → Site → ℕ → ℕ → List ℕ → ℕ → Bool → ℕ → Answer ℕ → Type 0
SubstitutedBy file refs v row shapes site level e out room fits len (Some at) =
    TextString file refs v.names v.declared row shapes at level site.outer out room fits len
SubstitutedBy file refs v row shapes site level e out room fits len None =
    ImpliedString v.names v.declared row shapes (implied_ref v.names v.facts v.contexts v.heads site.owner (get_or v.names (get_or v.declared e 0) 0)) level site.outer site.params
    (arguments_of (kind_at v.facts (get_or v.declared e 0))) out room fits len

pub record SubstituteString (file refs : List ℕ) (v : Store) (row shapes : List ℕ) (site : Site) (level e : ℕ) (out : List ℕ) (room : ℕ) (fits : Bool) (len : ℕ) : Type 0 where
  pub by : SubstitutedBy file refs v row shapes site level e out room fits len
      (written_at site.count file site.start (get_or v.names (get_or v.declared e 0) 0))

-- at the INSTANCE field that brought definition cur
pub record LinkString (file refs : List ℕ) (v : Store) (row shapes : List ℕ) (cur outer level e : ℕ) (out : List ℕ) (room : ℕ) (fits : Bool) (len : ℕ) : Type 0 where
  pub through : step_fits v.facts outer cur ≡ true
      → SubstituteString file refs v row shapes (site_of v.facts outer (code_at v.facts cur)) level e out room fits len

-- the string of what stands for declaration e one level further in than l, whatever stands
pub record StandInString (file refs : List ℕ) (v : Store) (numbers currents outers shapes : List ℕ) (l e : ℕ) (out : List ℕ) (room : ℕ) (fits : Bool) (len : ℕ) : Type 0 where
  pub string : (n D : ℕ) (c : Counts) (s : State) (rs : List Row) (decls : Declarations) (end : ℕ)
      (ready : Ready file refs v v.declared n c s rs decls end) → D < c.definitions → n ≤ max_declarations
      → (k : ℕ) → Entered s rs ready.worlds.runs v.facts D k numbers currents outers → l < k → NamedIn decls (outermost (suc l) (world_of rs D)) e → ShapesFit shapes
      → Strung (stand_in_term file refs v decls numbers currents outers l e) shapes end out room fits len
