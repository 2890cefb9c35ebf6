-- Stand-ins taken out of a string, the highest number first.
use Rattle.std.specs.Prelude.{None, Option, Some, false, true, List, ◌⊎◌, ◌≡◌, ℕ, suc, ◌≤◌, ◌<◌, leb, length}
use Rattle.symbols.specs.Spell.{spell}
use Rattle.symbols.specs.Symbol.{Spelt, calls, size, wide}
use Rattle.theory.specs.Lists.{any}
use Rattle.theory.specs.Term.{Term}
use Rattle.rules.specs.State.{params_of}
use Rattle.store.specs.declared.Store.{Store}
use Rattle.worlds.specs.Rows.{world_of}
use Rattle.strings.specs.Read.{far}
use Rattle.unfolding.proofs.AllRight.{RightBelow, StandInsShaped}
use Rattle.unfolding.proofs.TemplateSteps.{Taken, stray}
use Rattle.unfolding.specs.CalleeTerm.{own_term, sense_along}
use Rattle.spelling.specs.Strings.{ShapesFit, shapes_of}
use Rattle.templates.specs.Highest.{highest_number}
use Rattle.templates.specs.Shaped.{ChainHeld, shape_count}
use Rattle.templates.specs.Told.{Told}
use Rattle.templates.specs.declared.making.Unfolded.{Unfolded}

-- the bytes of a string that belongs to no expansion too long
abbrev pub work_bytes : ℕ
work_bytes = 131072

-- Everything that is known along the chain of definition d.
pub record Known (file refs : List ℕ) (v : Store) (declared : List ℕ) (n d k : ℕ) (numbers currents outers along : List ℕ) (x : Told file refs v declared n) : Type 0 where
  pub there : d < x.counts.definitions
  pub chain : ChainHeld file refs v declared n d k numbers currents outers x
  pub fit : ShapesFit along
  pub below : RightBelow x.state (shapes_of along) d
  pub shaped : StandInsShaped file refs v x.rows x.decls d numbers currents outers (shapes_of along) k

-- A term that means what the definition's text means: some of its stand-ins have been taken out.
pub record Mid (file refs : List ℕ) (v : Store) (declared : List ℕ) (n d k : ℕ) (numbers currents outers along : List ℕ) (x : Told file refs v declared n) (t : Term) : Type 0 where
  pub taken : Taken (sense_along x.state x.decls (world_of x.rows d) (shapes_of along)) (params_of x.state d)
      (own_term file refs v.facts x.decls k numbers currents outers) (stray x.decls d (world_of x.rows d) k) t
  pub near : far (spell (shapes_of along) t) ≡ false

-- its string stands in the memory,
pub record MidAt (file refs : List ℕ) (v : Store) (declared : List ℕ) (n d k : ℕ) (numbers currents outers along : List ℕ) (x : Told file refs v declared n) (work : List ℕ) (len : ℕ) : Type 0 where
  pub term : Term
  pub mid : Mid file refs v declared n d k numbers currents outers along x term
  pub spelt : Spelt work 0 (spell (shapes_of along) term) len

-- or is too long for it
pub record MidLong (file refs : List ℕ) (v : Store) (declared : List ℕ) (n d k : ℕ) (numbers currents outers along : List ℕ) (x : Told file refs v declared n) (room : ℕ) : Type 0 where
  pub term : Term
  pub mid : Mid file refs v declared n d k numbers currents outers along x term
  pub long : (room < size (spell (shapes_of along) term)) ⊎ (wide (spell (shapes_of along) term) ≡ true)

-- Stand-in m, the highest number that the string calls, has been taken out.
pub record TakenOut (file refs : List ℕ) (v : Store) (declared : List ℕ) (m : ℕ) (numbers currents outers along before : List ℕ) (len : ℕ) (after : List ℕ) (r : Option ℕ) : Type 0 where
  pub long : length after ≡ length before
  pub within : (q : ℕ) → r ≡ Some q → q ≤ length before
  pub on : (n k : ℕ) (x : Told file refs v declared n) (d : ℕ) → Known file refs v declared n d k numbers currents outers along x
      → (at : MidAt file refs v declared n d k numbers currents outers along x before len) → highest_number (spell (shapes_of along) at.term) ≡ suc m
      → ((q : ℕ) → r ≡ Some q → (at' : MidAt file refs v declared n d k numbers currents outers along x after q) × (highest_number (spell (shapes_of along) at'.term) ≤ m))
      × (r ≡ None → MidLong file refs v declared n d k numbers currents outers along x (length before))

-- The highest number, one less than h, taken out; what is left is told.
pub record StepTaken (file refs : List ℕ) (v : Store) (declared : List ℕ) (h : ℕ) (numbers currents outers along before : List ℕ) (len : ℕ) (after : List ℕ) (r : Option Unfolded) : Type 0 where
  pub long : length after ≡ length before
  pub within : (u : Unfolded) → r ≡ Some u → u.len ≤ length before
  pub small : (u : Unfolded) → r ≡ Some u → u.highest ≤ shape_count
  pub less : (u : Unfolded) → r ≡ Some u → u.highest < h
  pub on : (n k : ℕ) (x : Told file refs v declared n) (d : ℕ) → Known file refs v declared n d k numbers currents outers along x
      → (at : MidAt file refs v declared n d k numbers currents outers along x before len) → highest_number (spell (shapes_of along) at.term) ≡ h
      → ((u : Unfolded) → r ≡ Some u
      → (at' : MidAt file refs v declared n d k numbers currents outers along x after u.len) × (highest_number (spell (shapes_of along) at'.term) ≡ u.highest))
      × (r ≡ None → MidLong file refs v declared n d k numbers currents outers along x (length before))

-- All have been taken out.
pub record AllTaken (file refs : List ℕ) (v : Store) (declared numbers currents outers along before : List ℕ) (len : ℕ) (after : List ℕ) (r : Option ℕ) : Type 0 where
  pub long : length after ≡ length before
  pub within : (q : ℕ) → r ≡ Some q → q ≤ length before
  pub on : (n k : ℕ) (x : Told file refs v declared n) (d : ℕ) → Known file refs v declared n d k numbers currents outers along x
      → MidAt file refs v declared n d k numbers currents outers along x before len
      → ((q : ℕ) → r ≡ Some q → (at' : MidAt file refs v declared n d k numbers currents outers along x after q) × (any (calls (λ i. leb d i)) (spell (shapes_of along) at'.term) ≡ false))
      × (r ≡ None → MidLong file refs v declared n d k numbers currents outers along x (length before))

-- And so of the definition's text itself.
pub record OwnTaken (file refs : List ℕ) (v : Store) (declared : List ℕ) (k : ℕ) (numbers currents outers along work : List ℕ) (r : Option ℕ) : Type 0 where
  pub long : length work ≡ work_bytes
  pub within : (q : ℕ) → r ≡ Some q → q ≤ work_bytes
  pub on : (n : ℕ) (x : Told file refs v declared n) (d : ℕ) → Known file refs v declared n d k numbers currents outers along x
      → ((q : ℕ) → r ≡ Some q → (at' : MidAt file refs v declared n d k numbers currents outers along x work q) × (any (calls (λ i. leb d i)) (spell (shapes_of along) at'.term) ≡ false))
      × (r ≡ None → MidLong file refs v declared n d k numbers currents outers along x work_bytes)
