-- What the fields read so far have added.
use Rattle.std.specs.Prelude.{List, [], ◌∷◌, ℕ, ◌+◌, ◌*◌, ◌++◌, get_or, replicate}
use Rattle.std.specs.List.{flat_map}
use Rattle.limits.specs.Limits.{max_declarations}
use Rattle.limits.specs.Sizes.{code_count, contexts_length, heads_length, orders_length, place_count}
use Rattle.store.specs.declared.Facts.{Facts}
use Rattle.store.specs.declared.Store.{Store}

-- names holds the name of each code. facts what is kept of each beside it:
--               kind                     first               count              via                source                 link
-- definition    parameter count          body's start        body's length      instance name or 0 number it came from    field that brought it + 1, or 0
-- CONSTANT      argument count           its number          0                  0                  0                      0
-- VARIABLE      variable_kind             its number          0                  0                  0                      0
-- INSTANCE      instance_kind + params    first brought       how many           module's number    first substitution at  substitutions, and the field's module
-- The two kinds are those of `context/specs/Entries`. An own definition comes from its own number. The last of an INSTANCE field is the number of
-- its substitutions + 256 × the module that it stands in.
-- contexts holds a list of codes for each module, orders a list of definition numbers, heads of each module its name and the lengths of the two.
-- declared holds the code of each declaration. Declarations are numbered from 0 through the whole file.

-- nothing is kept of a code; nothing was added
abbrev pub no_facts : Facts
no_facts = record { kind = 0; first = 0; count = 0; via = 0; source = 0; link = 0 }

abbrev pub empty : Store
empty =
    record {
      names = replicate code_count 0;
      facts = replicate code_count no_facts;
      contexts = replicate contexts_length 0;
      orders = replicate orders_length 0;
      heads = replicate heads_length 0;
      declared = replicate max_declarations 0;
    }

-- The numbers kept of a code: `column_count` of them.
abbrev pub columns : Facts → List ℕ
columns r = r.kind ∷ r.first ∷ r.count ∷ r.via ∷ r.source ∷ r.link ∷ []

-- All numbers of a store, array after array: `store_length` of them, as `proofs/Sizes` shows of the empty one.
abbrev pub numbers : Store → List ℕ
numbers v = v.names ++ flat_map columns v.facts ++ v.contexts ++ v.orders ++ v.heads ++ v.declared

-- What is kept of code o, each by itself,
abbrev pub kind_at : List Facts → ℕ → ℕ
kind_at facts o = (get_or facts o no_facts).kind

abbrev pub first_at : List Facts → ℕ → ℕ
first_at facts o = (get_or facts o no_facts).first

abbrev pub count_at : List Facts → ℕ → ℕ
count_at facts o = (get_or facts o no_facts).count

abbrev pub via_at : List Facts → ℕ → ℕ
via_at facts o = (get_or facts o no_facts).via

abbrev pub source_at : List Facts → ℕ → ℕ
source_at facts o = (get_or facts o no_facts).source

abbrev pub link_at : List Facts → ℕ → ℕ
link_at facts o = (get_or facts o no_facts).link

-- all at once.
abbrev pub row : ℕ → ℕ → ℕ → ℕ → ℕ → ℕ → Facts
row kind first count via source link = record { kind = kind; first = first; count = count; via = via; source = source; link = link }

abbrev pub row_at : Store → ℕ → Facts
row_at v o = get_or v.facts o no_facts

-- heads holds of module m its name at m, the length of its context and the number of its definitions. The module that is open is the one
-- after those ended, so that the end of a module copies nothing.
abbrev pub context_slot : ℕ → ℕ
context_slot m = place_count + m

abbrev pub order_slot : ℕ → ℕ
order_slot m = 2 * place_count + m
