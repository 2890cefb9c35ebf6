-- The chain of one definition in arrays, and the terms that its calls stand for, as the arrays tell where they are.
use Rattle.std.specs.Prelude.{false, true, List, ◌≡◌, ℕ, ◌*◌, ◌≤◌, ◌<◌, drop, get_or, take}
use Rattle.limits.specs.Limits.{max_definitions, max_nesting}
use Rattle.theory.proofs.Bytes.{bytes}
use Rattle.theory.proofs.Size.{sizes}
use Rattle.theory.specs.Expand.{arities_of, nothing}
use Rattle.theory.specs.Term.{Kind, Term, kind_arity}
use Rattle.rules.specs.State.{State, templates_of}
use Rattle.tokens.specs.Expr.{Found, expr_at, found, none}
use Rattle.tokens.specs.declared.Token.{Token}
use Rattle.texts.specs.Text.{Declarations, no_declaration}
use Rattle.store.specs.Store.{first_at}
use Rattle.store.specs.declared.Store.{Store}
use Rattle.store.specs.declared.Facts.{Facts}
use Rattle.worlds.specs.Rows.{Row}
use Rattle.worlds.specs.World.{World}
use Rattle.worlds.proofs.Runs.{Run}
use Rattle.entering.specs.Implied.{implied_ref}
use Rattle.entering.specs.Written.{written_at}
use Rattle.entering.specs.declared.substitutes.Site.{Site}
use Rattle.std.specs.Prelude.{Option as Answer, Some, None}
use Rattle.chains.specs.Walk.{code_at, site_of, step_fits}
use Rattle.unfolding.specs.AtLevel.{AtLevel}
use Rattle.unfolding.specs.InWorld.{Setting, by_refs, implied_in, term_in}
use Rattle.unfolding.specs.Meaning.{meaning_of}
use Rattle.unfolding.specs.Sense.{Sense}
use Rattle.unfolding.specs.StandIn.{arities_along, called_in, place_at}

-- a chain has at most fifteen links
abbrev pub max_links : ℕ
max_links = 15

-- the table of numbers at level l
abbrev pub row_of : List ℕ → ℕ → List ℕ
row_of numbers l = take max_definitions (drop (max_definitions * l) numbers)

-- The chain of definition D has k links: of each level the definition there, the parameters around it, and the table of numbers.
pub record Entered (s : State) (rs : List Row) (bs : List Run) (facts : List Facts) (D k : ℕ) (numbers currents outers : List ℕ) : Type 0 where
  pub few : k ≤ max_links
  pub each : (l : ℕ) → l ≤ k → AtLevel s rs bs D l (get_or currents l 0) (get_or outers l 0) (row_of numbers l)
  pub on : (l : ℕ) → l < k → step_fits facts (get_or outers l 0) (get_or currents l 0) ≡ true
  pub over : step_fits facts (get_or outers k 0) (get_or currents k 0) ≡ false

-- the place of a text at level l
abbrev pub place_in : List ℕ → List ℕ → ℕ → Setting
place_in numbers outers l = place_at l (get_or outers l 0) (row_of numbers l)

-- the term that an expression found is
abbrev pub found_term : (ℕ → Token → ℕ) → Declarations → Setting → Found → Term
found_term look decls P (found t e) = term_in look decls P t
found_term look decls P none = nothing

-- the text of definition D, at the end of its chain
abbrev pub own_term : List ℕ → List ℕ → List Facts → Declarations → ℕ → List ℕ → List ℕ → List ℕ → Term
own_term file refs facts decls k numbers currents outers =
    found_term (by_refs refs) decls (place_in numbers outers k) (expr_at max_nesting file (first_at facts (get_or currents k 0)))

-- what is written for a name, or what its name means where the instance stands
abbrev pub written_term : List ℕ → List ℕ → Store → Declarations → Setting → Site → Kind → ℕ → Answer ℕ → Term
written_term file refs v decls P site k x (Some at) = found_term (by_refs refs) decls P (expr_at max_nesting file at)
written_term file refs v decls P site k x None =
    implied_in decls P site.params (kind_arity k) (implied_ref v.names v.facts v.contexts v.heads site.owner x)

-- what stands for declaration e one level further in than l
abbrev pub stand_in_term : List ℕ → List ℕ → Store → Declarations → List ℕ → List ℕ → List ℕ → ℕ → ℕ → Term
stand_in_term file refs v decls numbers currents outers l e =
    let site = site_of v.facts (get_or outers l 0) (code_at v.facts (get_or currents l 0)) in
    let d = get_or decls e no_declaration in
    written_term file refs v decls (place_in numbers outers l) site d.0 d.1 (written_at site.count file site.start d.1)

-- what the calls of a string stand for: in the main string, and along the chain w
abbrev pub sense_of : State → (ℕ → ℕ) → Sense
sense_of s σ = record { shape = σ; arity = arities_of (templates_of s); as_bytes = meaning_of bytes s; as_sizes = meaning_of sizes s }

abbrev pub sense_along : State → Declarations → World → (ℕ → ℕ) → Sense
sense_along s decls w σ = record { shape = σ; arity = arities_along s decls w; as_bytes = called_in bytes s decls w; as_sizes = called_in sizes s decls w }
