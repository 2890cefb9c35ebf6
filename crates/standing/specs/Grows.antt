-- What a field leaves of the store.
use Rattle.std.specs.Prelude.{List, ◌++◌, ◌≡◌, ℕ, ◌≤◌, ◌<◌, get_or}
use Rattle.store.specs.Store.{no_facts}
use Rattle.context.specs.Holds.{Known}
use Rattle.context.specs.Entries.{codes_of, order_of}
use Rattle.store.specs.declared.Store.{Store}
use Rattle.context.specs.declared.Counts.{Counts}

-- the codes given so far keep their names and facts
pub record RowsKept (v : Store) (c : Counts) (v' : Store) : Type 0 where
  pub names : (o : ℕ) → Known c.fields c.definitions o → get_or v'.names o 0 ≡ get_or v.names o 0
  pub facts : (o : ℕ) → Known c.fields c.definitions o → get_or v'.facts o no_facts ≡ get_or v.facts o no_facts

-- The store after a field, by what it keeps of the one before it: the modules ended stay, and the open one's context only grows.
pub record Grows (v : Store) (c : Counts) (v' : Store) (c' : Counts) : Type 0 where
  pub names : (o : ℕ) → Known c.fields c.definitions o → get_or v'.names o 0 ≡ get_or v.names o 0
  pub facts : (o : ℕ) → Known c.fields c.definitions o → get_or v'.facts o no_facts ≡ get_or v.facts o no_facts
  pub contexts : (m : ℕ) → m < c.modules → codes_of v' m ≡ codes_of v m
  pub orders : (m : ℕ) → m < c.modules → order_of v'.orders v'.heads m ≡ order_of v.orders v.heads m
  pub more : List ℕ
  pub open_context : codes_of v' c.modules ≡ codes_of v c.modules ++ more
  pub fields : c.fields ≤ c'.fields
  pub modules : c.modules ≤ c'.modules
  pub definitions : c.definitions ≤ c'.definitions
