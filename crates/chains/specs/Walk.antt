-- One link of a chain: the numbers of its INSTANCE field, and the tables one instance further in.
use Rattle.std.specs.Prelude.{Bool, cond, false, true, List, ◌≡◌, ℕ, ◌+◌, ◌-◌, ◌/◌, ◌%◌, eqb, ltb, length}
use Rattle.limits.specs.Limits.{max_arity, max_definitions, max_modules}
use Rattle.context.specs.Entries.{context_codes, field_code, instance_kind, order_of}
use Rattle.store.specs.Store.{first_at, kind_at, link_at, source_at, via_at}
use Rattle.store.specs.declared.Store.{Store}
use Rattle.store.specs.declared.Facts.{Facts}
use Rattle.standing.specs.Shown.{owner_shift}
use Rattle.entering.specs.declared.substitutes.Site.{Site}
use Rattle.entering.specs.Numbering.{Entered}
use Rattle.entering.specs.Replaced.{Replaced}
use Rattle.entering.specs.Substitutes.{Around, Fitting, Substituted, around}

-- an INSTANCE field by its facts kind, source and link, with so many parameters around it
abbrev pub site_by : ℕ → ℕ → ℕ → ℕ → Site
site_by outer kind source link =
    record {
      outer = outer;
      params = kind - instance_kind;
      owner = link / owner_shift;
      start = source;
      count = link % owner_shift;
    }

-- the one of code o
abbrev pub site_of : List Facts → ℕ → ℕ → Site
site_of facts outer o = site_by outer (kind_at facts o) (source_at facts o) (link_at facts o)

-- facts within the limits
unfoldable pub columns_fit : ℕ → ℕ → ℕ → ℕ → ℕ → Bool
columns_fit outer kind first via link =
    cond (ltb kind instance_kind) false
    (cond (ltb max_arity (outer + (kind - instance_kind))) false
    (cond (ltb max_definitions first) false
    (cond (ltb max_modules via) false
    (cond (ltb max_modules (link / owner_shift)) false true))))

abbrev pub link_fits : List Facts → ℕ → ℕ → Bool
link_fits facts outer o = columns_fit outer (kind_at facts o) (first_at facts o) (via_at facts o) (link_at facts o)

pub record SiteMade (facts : List Facts) (outer o : ℕ) (r : Site) : Type 0 where
  pub same : r ≡ site_of facts outer o
  pub fitting : Fitting r

abbrev pub around_link : List ℕ → List ℕ → Store → List ℕ → List ℕ → Around
around_link file refs v numbers inner = around file refs numbers inner v.names v.facts v.contexts v.heads

-- The numbers of the world of the field have become those of the world one instance further in: `old` is what stood where they were put.
pub record NumbersEntered (facts : List Facts) (orders heads : List ℕ) (o : ℕ) (numbers numbers' : List ℕ) : Type 0 where
  pub old : List ℕ
  pub old_size : length old ≡ max_definitions
  pub size : length numbers' ≡ max_definitions
  pub entered : Entered (order_of orders heads (via_at facts o)) (first_at facts o) numbers old numbers'

-- And so all its tables.
pub record LinkEntered (file refs : List ℕ) (v : Store) (declared : List ℕ) (n outer o : ℕ) (numbers numbers' inner inner' : List ℕ) : Type 0 where
  pub next : List ℕ
  pub empty : List ℕ
  pub substituted : Substituted (around_link file refs v numbers inner) (site_of v.facts outer o)
      (context_codes v.contexts v.heads (via_at v.facts o)) declared n empty next
  pub numbering : NumbersEntered v.facts v.orders v.heads o numbers numbers'
  pub replaced : Replaced next inner inner'

-- the code of the INSTANCE field that brought a definition
abbrev pub code_at : List Facts → ℕ → ℕ
code_at facts cur = field_code (link_at facts cur - 1)

-- it was brought, from a definition below it and by a field within the limits
unfoldable pub step_fits : List Facts → ℕ → ℕ → Bool
step_fits facts outer cur =
    cond (eqb (link_at facts cur) 0) false (cond (ltb (source_at facts cur) cur) (link_fits facts outer (code_at facts cur)) false)

-- the parameters around what that instance brought
abbrev pub outer_after : List Facts → ℕ → ℕ → ℕ
outer_after facts outer cur = outer + (kind_at facts (code_at facts cur) - instance_kind)
