-- The store and the counts show a state of the rules.
use Rattle.std.specs.Prelude.{[], ◌∷◌, ◌++◌, ◌≡◌, ℕ, ◌+◌, ◌≤◌, ◌<◌, get_or, length}
use Rattle.limits.specs.Limits.{max_declarations, max_definitions, max_modules}
use Rattle.limits.specs.Sizes.{code_count, contexts_length, heads_length, max_fields, orders_length}
use Rattle.theory.specs.Expand.{Definition, brought, own}
use Rattle.theory.specs.Lists.{All}
use Rattle.rules.specs.State.{Module, State, definition_at, no_module}
use Rattle.context.specs.Entries.{codes_of, described_as, module_at}
use Rattle.store.specs.Store.{context_slot, link_at, order_slot, source_at}
use Rattle.store.specs.declared.Store.{Store}
use Rattle.context.specs.declared.Counts.{Counts}

-- the modules by number: those ended, and then the one that is open
abbrev pub module_no : State → ℕ → Module
module_no s m = get_or (s.ended ++ (s.current ∷ [])) m no_module

-- what the facts source and link of definition g say of its meaning: an own definition comes from itself, a brought one from its original
abbrev pub Linked : ℕ → Definition → ℕ → ℕ → Type 0
Linked g (own p t) source link = (source ≡ g) × (link ≡ 0)
Linked g (brought p σ original) source link = (source ≡ original) × (0 < link)

-- a code that was given to something
pub record Known (fields definitions o : ℕ) : Type 0 where
  pub below : o < max_definitions + fields
  pub defined : o < max_definitions → o < definitions

-- the lists have their sizes, the counts are within the limits, and every list is within its room
pub record Sized (v : Store) (c : Counts) : Type 0 where
  pub names : length v.names ≡ code_count
  pub facts : length v.facts ≡ code_count
  pub contexts : length v.contexts ≡ contexts_length
  pub orders : length v.orders ≡ orders_length
  pub heads : length v.heads ≡ heads_length
  pub declared : length v.declared ≡ max_declarations
  pub modules : c.modules ≤ max_modules
  pub definitions : c.definitions ≤ max_definitions
  pub fields : c.fields ≤ max_fields
  pub context_room : (m : ℕ) → m ≤ c.modules → get_or v.heads (context_slot m) 0 ≤ max_definitions + c.fields + c.definitions
  pub order_room : (m : ℕ) → m ≤ c.modules → get_or v.heads (order_slot m) 0 ≤ c.definitions

-- of any state, reached or not: so half of an addition shows a half-grown state
pub record Holds (v : Store) (c : Counts) (s : State) : Type 0 where
  pub fields : c.fields ≡ s.fields
  pub declarations : c.declarations ≡ s.declarations
  pub modules : c.modules ≡ length s.ended
  pub definitions : c.definitions ≡ length s.definitions
  pub shown : (m : ℕ) → m ≤ c.modules → module_at v m ≡ module_no s m
  pub described : (g : ℕ) → g < c.definitions → described_as v g (definition_at s g).meaning ≡ definition_at s g
  pub linked : (g : ℕ) → g < c.definitions → Linked g (definition_at s g).meaning (source_at v.facts g) (link_at v.facts g)
  pub known : (m : ℕ) → m ≤ c.modules → All (Known c.fields c.definitions) (codes_of v m)
  pub sized : Sized v c
