-- What the store shows: entries, contexts, modules, definitions; and what the additions of a field leave.
use Rattle.std.specs.Prelude.{cond, List, [], ◌∷◌, map, ℕ, zero, suc, ◌+◌, ◌-◌, ◌*◌, eqb, ltb, get_or, set}
use Rattle.limits.specs.Limits.{max_definitions}
use Rattle.limits.specs.Sizes.{context_length}
use Rattle.theory.specs.Expand.{Definition}
use Rattle.theory.specs.Lists.{numbers_from}
use Rattle.theory.specs.Term.{constant, variable}
use Rattle.rules.specs.State.{Added, Entry, Module, declares, defines, instances}
use Rattle.store.specs.Store.{context_slot, count_at, first_at, kind_at, order_slot, row, via_at}
use Rattle.store.specs.declared.Store.{Store}
use Rattle.store.specs.Updates.{headed, in_both, in_context, with_declared, with_heads, with_row}
use Rattle.store.specs.declared.Facts.{Facts}
use Rattle.context.specs.Parts.{part}
use Rattle.context.specs.declared.Counts.{Counts}

-- as many numbers as 16 bits give
abbrev pub word_count : ℕ
word_count = 65536

-- A code is an origin: below the definitions' limit the definition of that number, from there on a field. So "one origin" is equality of
-- codes, and what is kept of a code needs no search.
abbrev pub field_code : ℕ → ℕ
field_code field = max_definitions + field

-- kinds that no argument count is: one is a byte
abbrev pub variable_kind : ℕ
variable_kind = 256

abbrev pub instance_kind : ℕ
instance_kind = 257

unfoldable pub entry_at : List ℕ → List Facts → ℕ → Entry
entry_at names facts o =
    cond (ltb o max_definitions) (defines (get_or names o 0) o)
    (cond (ltb (kind_at facts o) variable_kind) (declares (get_or names o 0) (constant (kind_at facts o)) (o - max_definitions))
    (cond (eqb (kind_at facts o) variable_kind) (declares (get_or names o 0) variable (o - max_definitions))
    (instances (get_or names o 0) (o - max_definitions) (numbers_from (first_at facts o) (count_at facts o)))))

-- the codes of module m's context, in the rules' order
abbrev pub context_codes : List ℕ → List ℕ → ℕ → List ℕ
context_codes contexts heads m = part contexts (m * context_length) (get_or heads (context_slot m) 0)

-- its definitions by number, in their order
abbrev pub order_of : List ℕ → List ℕ → ℕ → List ℕ
order_of orders heads m = part orders (m * max_definitions) (get_or heads (order_slot m) 0)

abbrev pub codes_of : Store → ℕ → List ℕ
codes_of v m = context_codes v.contexts v.heads m

abbrev pub module_at : Store → ℕ → Module
module_at v m =
    record {
      name = get_or v.heads m 0;
      context = map (entry_at v.names v.facts) (codes_of v m);
      definitions = order_of v.orders v.heads m;
    }

-- In an accepted prefix of a file a path has at most one name: the store keeps that, or 0.
abbrev pub path_of : ℕ → List ℕ
path_of zero = []
path_of (suc n) = suc n ∷ []

-- the definition at g, its meaning being in the file
abbrev pub described_as : Store → ℕ → Definition → Added
described_as v g d =
    record {
      path = path_of (via_at v.facts g);
      name = get_or v.names g 0;
      params = kind_at v.facts g;
      body_start = first_at v.facts g;
      body_length = count_at v.facts g;
      meaning = d;
    }

-- a declaration keeps its number among the declarations of the file
abbrev pub declaration_row : ℕ → ℕ → Facts
declaration_row kind number = row kind number 0 0 0 0

abbrev pub own_row : ℕ → ℕ → ℕ → ℕ → Facts
own_row g params start size = row params start size 0 g 0

-- The counts.
abbrev pub counts : ℕ → ℕ → ℕ → ℕ → Counts
counts f d m g = record { fields = f; declarations = d; modules = m; definitions = g }

abbrev pub no_counts : Counts
no_counts = counts 0 0 0 0

abbrev pub after_field : Counts → Counts
after_field c = counts (c.fields + 1) c.declarations c.modules c.definitions

abbrev pub after_end : Counts → Counts
after_end c = counts (c.fields + 1) c.declarations (c.modules + 1) c.definitions

abbrev pub after_declaration : Counts → Counts
after_declaration c = counts (c.fields + 1) (c.declarations + 1) c.modules c.definitions

abbrev pub after_definitions : ℕ → Counts → Counts
after_definitions n c = counts (c.fields + 1) c.declarations c.modules (c.definitions + n)

-- what a module field or the end of a module, a declaration and a definition leave
abbrev pub begun : Store → ℕ → ℕ → Store
begun v k name = with_heads v (headed v.heads k name)

abbrev pub declaring : Store → Counts → ℕ → ℕ → Store
declaring v c kind name =
    with_declared (in_context (with_row v (field_code c.fields) name (declaration_row kind c.declarations)) c.modules (field_code c.fields))
    (set v.declared c.declarations (field_code c.fields))

abbrev pub defining : Store → Counts → ℕ → Facts → Store
defining v c name r = in_both (with_row v c.definitions name r) c.modules c.definitions
