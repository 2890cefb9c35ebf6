-- EXTENDS: lists of codes joined, each code once, with marks that say what is in them.
use Rattle.std.specs.Prelude.{cond, not, List, [], ◌∷◌, ◌++◌, ◌≡◌, ℕ, suc, ◌+◌, ◌*◌, ◌≤◌, ◌<◌, eqb, get_or, length, set}
use Rattle.limits.specs.Limits.{max_definitions, max_modules}
use Rattle.limits.specs.Sizes.{context_length, contexts_length, orders_length}
use Rattle.theory.specs.Lists.{All, any, union}
use Rattle.rules.specs.State.{Module, same_origin}
use Rattle.context.specs.Parts.{part}
use Rattle.context.specs.Entries.{codes_of, order_of}
use Rattle.store.specs.Store.{context_slot, order_slot}
use Rattle.store.specs.declared.Store.{Store}
use Rattle.store.specs.Updates.{with_contexts, with_heads, with_orders}

-- how many marks are not set
unfoldable pub unset : List ℕ → ℕ
unset [] = 0
unset (x ∷ xs) = cond (eqb x 0) (suc (unset xs)) (unset xs)

-- The marks say what is in the list, and as many are set as it is long: so it is no longer than there are marks.
pub record Marked (marks l : List ℕ) : Type 0 where
  pub says : (o : ℕ) → any (eqb o) l ≡ not (eqb (get_or marks o 0) 0)
  pub full : length l + unset marks ≡ length marks

-- nothing changed before base
pub record Below (base : ℕ) (before after : List ℕ) : Type 0 where
  pub same : (j : ℕ) → j < base → get_or after j 0 ≡ get_or before j 0

abbrev pub Small : ℕ → ℕ → Type 0
Small n o = o < n

unfoldable pub joined : List ℕ → ℕ → List ℕ
joined l x = cond (any (eqb x) l) l (l ++ (x ∷ []))

-- A list was joined to at base: it is l now, of length r, the marks say what is in it, and nothing changed before it.
pub record JoinedAt (base r : ℕ) (l before after marks : List ℕ) : Type 0 where
  pub list : part after base r ≡ l
  pub marked : Marked marks (part after base r)
  pub below : Below base before after
  pub size : length after ≡ length before

-- What joining the context of module q to that of module k needs: marks of the codes that are there, and room;
pub record ContextReady (v : Store) (marks : List ℕ) (k q : ℕ) : Type 0 where
  pub marked : Marked marks (codes_of v k)
  pub small : All (Small (length marks)) (codes_of v q)
  pub size : length v.contexts ≡ contexts_length
  pub marks_size : length marks ≤ context_length
  pub room : get_or v.heads (context_slot q) 0 ≤ context_length
  pub earlier : q < k
  pub modules : k ≤ max_modules

-- the same of the definitions;
pub record OrderReady (v : Store) (tally : List ℕ) (k q : ℕ) : Type 0 where
  pub marked : Marked tally (order_of v.orders v.heads k)
  pub small : All (Small (length tally)) (order_of v.orders v.heads q)
  pub size : length v.orders ≡ orders_length
  pub marks_size : length tally ≤ max_definitions
  pub room : get_or v.heads (order_slot q) 0 ≤ max_definitions
  pub earlier : q < k
  pub modules : k ≤ max_modules

-- of both;
pub record Extendable (v : Store) (marks tally : List ℕ) (k q : ℕ) : Type 0 where
  pub context : ContextReady v marks k q
  pub order : OrderReady v tally k q

-- and what each of them leaves.
pub record ContextJoined (v v' : Store) (marks : List ℕ) (k q a : ℕ) : Type 0 where
  pub frame : v' ≡ with_heads (with_contexts v v'.contexts) (set v.heads (context_slot k) a)
  pub context : JoinedAt (k * context_length) a (union eqb (codes_of v k) (codes_of v q)) v.contexts v'.contexts marks

pub record OrderJoined (v v' : Store) (tally : List ℕ) (k q b : ℕ) : Type 0 where
  pub frame : v' ≡ with_heads (with_orders v v'.orders) (set v.heads (order_slot k) b)
  pub order : JoinedAt (k * max_definitions) b (union eqb (order_of v.orders v.heads k) (order_of v.orders v.heads q)) v.orders v'.orders tally

pub record Extended (v v' : Store) (marks tally : List ℕ) (k q : ℕ) : Type 0 where
  pub a : ℕ
  pub b : ℕ
  pub frame : v' ≡ with_heads (with_orders (with_contexts v v'.contexts) v'.orders) (set (set v.heads (context_slot k) a) (order_slot k) b)
  pub context : JoinedAt (k * context_length) a (union eqb (codes_of v k) (codes_of v q)) v.contexts v'.contexts marks
  pub order : JoinedAt (k * max_definitions) b (union eqb (order_of v.orders v.heads k) (order_of v.orders v.heads q)) v.orders v'.orders tally

-- EXTENDS "brings everything of the named modules under the numbers it has": a module with the context and the definitions of another
abbrev pub module_joined : Module → Module → Module
module_joined M N =
    record { name = M.name; context = union same_origin M.context N.context; definitions = union eqb M.definitions N.definitions }
