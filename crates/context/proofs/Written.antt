-- What the code writes, one list after another, is what an addition leaves.
use mathlib.Core.Path.{◌≡◌, refl}
use lib.ListN.{get_or, set}
use Prim.Native.Nat.{◌<◌, ℕ}
use Rattle.context.specs.Entries.{declaration_row, declaring, defining, field_code}
use Rattle.context.specs.declared.Counts.{Counts}
use Rattle.store.specs.declared.Store.{Store}
use Rattle.store.specs.Updates.{in_both, in_context, with_declared, with_row}
use Rattle.store.specs.declared.Facts.{Facts}

-- a row leaves the heads
pub row_room : (v v₁ : Store) (o name : ℕ) (r : Facts) (slot n : ℕ) → v₁ ≡ with_row v o name r → get_or v.heads slot 0 < n → get_or v₁.heads slot 0 < n
row_room v v₁ o name r slot n e h = rw e h

pub declaration-written : (v v₁ v₂ v₃ : Store) (c : Counts) (kind name : ℕ) → v₁ ≡ with_row v (field_code c.fields) name (declaration_row kind c.declarations)
    → v₂ ≡ in_context v₁ c.modules (field_code c.fields) → v₃ ≡ with_declared v₂ (set v₂.declared c.declarations (field_code c.fields))
    → v₃ ≡ declaring v c kind name
declaration-written v v₁ v₂ v₃ c kind name e f g = rw (g, f, e) refl

pub definition-written : (v v₁ v₂ : Store) (c : Counts) (name : ℕ) (r : Facts) → v₁ ≡ with_row v c.definitions name r → v₂ ≡ in_both v₁ c.modules c.definitions
    → v₂ ≡ defining v c name r
definition-written v v₁ v₂ c name r e f = rw (f, e) refl
