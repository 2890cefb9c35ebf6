-- What stands for the declarations of the module instanced.
use Rattle.std.specs.Prelude.{◌≡◌, cond, List, ◌≢◌, ℕ, ◌+◌, ◌≤◌, ◌<◌, eqb, get_or, length}
use Rattle.std.proofs.Math.Option.{Option, none, some}
use Rattle.limits.specs.Limits.{max_arity, max_declarations, max_modules}
use Rattle.theory.specs.Lists.{bind_option}
use Rattle.forms.specs.Forms.{Gives, form_at}
use Rattle.levels.specs.Tables.{names_of}
use Rattle.levels.specs.Walk.{TextForm}
use Rattle.store.specs.Store.{kind_at}
use Rattle.store.specs.declared.Facts.{Facts}
use Rattle.context.specs.Lookup.{declared_named}
use Rattle.entering.specs.declared.substitutes.Site.{Site}
use Rattle.std.specs.Prelude.{Option as Answer, Some, None}
use Rattle.entering.specs.Written.{written_at}
use Rattle.entering.specs.Implied.{arguments_of, implied_level, implied_ref}

-- a form for each declaration
abbrev pub next_words : ℕ
next_words = max_declarations

-- What a substitute is read by: the file; what its names were resolved to; the world of the INSTANCE field, by its tables; and what the
-- fields of the file have added.
pub record Around : Type 0 where
  pub file : List ℕ
  pub refs : List ℕ
  pub numbers : List ℕ
  pub words : List ℕ
  pub names : List ℕ
  pub facts : List Facts
  pub contexts : List ℕ
  pub heads : List ℕ

abbrev pub around : List ℕ → List ℕ → List ℕ → List ℕ → List ℕ → List Facts → List ℕ → List ℕ → Around
around s refs numbers words names facts contexts heads =
    record {
      file = s;
      refs = refs;
      numbers = numbers;
      words = words;
      names = names;
      facts = facts;
      contexts = contexts;
      heads = heads;
    }

-- the parameters are within the limits, and the module is there
pub record Fitting (site : Site) : Type 0 where
  pub params : site.outer + site.params ≤ max_arity
  pub owner : site.owner ≤ max_modules

-- f gives the levels of what is written, or else those of what is implied
abbrev pub StandsBy : Around → Site → ℕ → Answer ℕ → ℕ → Type 0
StandsBy a site o (Some at) f = TextForm (names_of a.refs a.numbers a.words site.outer) a.file at f
StandsBy a site o None f =
    Gives f
    (implied_level a.numbers a.words (implied_ref a.names a.facts a.contexts a.heads site.owner (get_or a.names o 0)) site.outer
    site.params (arguments_of (kind_at a.facts o)))

-- f is what stands for the declaration o
pub record Stands (a : Around) (site : Site) (o : ℕ) (f : ℕ) : Type 0 where
  pub means : StandsBy a site o (written_at site.count a.file site.start (get_or a.names o 0)) f

-- the table with what stands for o at d
pub record StandsAt (a : Around) (site : Site) (o d : ℕ) (before after : List ℕ) : Type 0 where
  pub size : length after ≡ length before
  pub here : Stands a site o (form_at after d)
  pub others : (g : ℕ) → g ≢ d → form_at after g ≡ form_at before g

-- o if it has the kind of e
unfoldable pub of_kind : List Facts → ℕ → ℕ → Option ℕ
of_kind facts e o = cond (eqb (kind_at facts o) (kind_at facts e)) (some o) none

-- the declaration among codes that has the name and the kind of the code e
unfoldable pub same_declared : List ℕ → List Facts → List ℕ → ℕ → Option ℕ
same_declared names facts codes e = bind_option (declared_named names facts (get_or names e 0) codes) (of_kind facts e)

-- the table with a form at d: what stands for the declaration among codes that has the name and the kind of e, if there is one
pub record Added (a : Around) (site : Site) (codes : List ℕ) (e d : ℕ) (before after : List ℕ) : Type 0 where
  pub size : length after ≡ length before
  pub here : (o : ℕ) → same_declared a.names a.facts codes e ≡ some o → Stands a site o (form_at after d)
  pub others : (g : ℕ) → g ≢ d → form_at after g ≡ form_at before g

-- and so for each of the first n declarations of the file, of which `declared` holds the codes
pub record Substituted (a : Around) (site : Site) (codes declared : List ℕ) (n : ℕ) (before after : List ℕ) : Type 0 where
  pub size : length after ≡ length before
  pub each : (d : ℕ) → d < n → (o : ℕ) → same_declared a.names a.facts codes (get_or declared d 0) ≡ some o → Stands a site o (form_at after d)
