-- What is known of a text that was read, and of an INSTANCE field: the store and the table of names show it.
use Rattle.std.specs.Prelude.{true, List, ◌≡◌, ℕ, ◌+◌, ◌*◌, ◌≤◌, ◌<◌, get_or, length}
use Rattle.std.proofs.Math.Option.{some}
use Rattle.limits.specs.Limits.{max_definitions, max_nesting}
use Rattle.theory.specs.Expand.{itself}
use Rattle.theory.specs.Term.{Kind, Term}
use Rattle.tokens.specs.Expr.{Expr, expr_at, found}
use Rattle.tokens.specs.Limit.{counts_kept}
use Rattle.texts.specs.Text.{Declarations, ref_head, shown}
use Rattle.context.specs.Lookup.{declared_named}
use Rattle.context.specs.Entries.{codes_of, instance_kind, order_of}
use Rattle.store.specs.Store.{first_at, kind_at, link_at, source_at, via_at}
use Rattle.store.specs.declared.Store.{Store}
use Rattle.context.specs.declared.Counts.{Counts}
use Rattle.text_levels.proofs.OwnWorld.{RefsBelow}
use Rattle.worlds.specs.World.{Link}
use Rattle.entering.specs.Implied.{implied_ref}
use Rattle.entering.specs.Written.{written_at}
use Rattle.std.specs.Prelude.{Option as Answer, Some, None}
use Rattle.entering.proofs.Outset.{kind_number}

-- The text at a position, which ends before `end`, keeps the limits; its names are noted in refs; so read, it is the term u.
pub record TextShown (file refs : List ℕ) (decls : Declarations) (end at : ℕ) (u : Term) : Type 0 where
  pub text : Expr
  pub next : ℕ
  pub stands : expr_at max_nesting file at ≡ found text next
  pub kept : counts_kept text ≡ true
  pub below : RefsBelow (max_definitions + length decls) refs text
  pub inside : next ≤ end
  pub same : shown refs decls text ≡ u

-- u is the operator that the name x means in the context of module `owner`, at its own parameters after p others
pub record ImpliedShown (v : Store) (decls : Declarations) (owner p : ℕ) (k : Kind) (x : ℕ) (u : Term) : Type 0 where
  pub below : implied_ref v.names v.facts v.contexts v.heads owner x < max_definitions + length decls
  pub same : itself p k (ref_head decls (implied_ref v.names v.facts v.contexts v.heads owner x)) ≡ u

-- u stands for the declared name x: it is written, or implied
abbrev pub StandsFor : Store → List ℕ → List ℕ → Declarations → ℕ → ℕ → ℕ → Kind → ℕ → Term → Answer ℕ → Type 0
StandsFor v file refs decls end owner p k x u (Some at) = TextShown file refs decls end at u
StandsFor v file refs decls end owner p k x u None = ImpliedShown v decls owner p k x u

-- module q declares the name x, of kind k
pub record Declaration (v : Store) (q : ℕ) (k : Kind) (x : ℕ) : Type 0 where
  pub code : ℕ
  pub found : declared_named v.names v.facts x (codes_of v q) ≡ some code
  pub kind : kind_at v.facts code ≡ kind_number k
  pub named : get_or v.names code 0 ≡ x

-- The fact link of an INSTANCE field holds how many substitutions are written and, above that, the module that the field stands in.
abbrev pub owner_shift : ℕ
owner_shift = 256

-- The link l is the INSTANCE field of code o: of the module numbered q, in the module numbered owner, `count` substitutions written from
-- position `start` on.
pub record LinkShown (v : Store) (c : Counts) (file refs : List ℕ) (decls : Declarations) (end : ℕ) (l : Link) (o : ℕ) : Type 0 where
  pub q : ℕ
  pub owner : ℕ
  pub start : ℕ
  pub count : ℕ
  pub code : (max_definitions ≤ o) × (o < max_definitions + c.fields)
  pub params : kind_at v.facts o ≡ instance_kind + l.params
  pub first : first_at v.facts o ≡ l.first
  pub via : via_at v.facts o ≡ q
  pub source : source_at v.facts o ≡ start
  pub link : link_at v.facts o ≡ count + owner_shift * owner
  pub few : count < owner_shift
  pub ended : q < c.modules
  pub stood : (q < owner) × (owner ≤ c.modules)
  pub names : order_of v.orders v.heads q ≡ l.names
  pub kinds : (k : Kind) (x : ℕ) → l.kinds x ≡ some k → Declaration v q k x
  pub substitutes : (k : Kind) (x : ℕ) → l.kinds x ≡ some k
      → StandsFor v file refs decls end owner l.params k x (l.substitutes k x) (written_at count file start x)
