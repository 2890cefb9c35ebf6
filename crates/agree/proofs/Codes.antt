-- The table of the built-in codes: the column of argument counts has the codes that exist; a row binds a variable only in its last argument.
-- Assumes nothing.
use mathlib.Core.Path.{◌≡◌, refl}
use mathlib.Core.Bool.{false}
use mathlib.Core.Option.{Option, none, some}
use Prim.Native.Nat.{ℕ}
use native.Mathlib.Omega.{arith}
use lib.Dec.{T, eqb, leb, leb→le}
use lib.ListN.{length}
use borrow.Author.Tests.{ne_eqb, eqb-false}
use Rattle.limits.specs.Limits.{max_arity}
use Rattle.theory.specs.Lists.{All, is_some, or_else, map_option}
use Rattle.theory.specs.Level.{Row, Binder, plain, in_body, set_then_body, table, has, row, code_arity, row_binder, code_binder}
use Rattle.theory.proofs.Lists.{find-has}
use Rattle.laws.proofs.Formats.{◌and◌}
use Rattle.rows.specs.Rows.{no_code, arity_number, arity_of}

-- as many arguments as leave the one in which a variable is bound last
abbrev pub BindsLast : Binder → ℕ → Type 0
BindsLast plain k = Unit {0}
BindsLast (in_body l) k = k ≡ 1
BindsLast (set_then_body l) k = k ≡ 2

abbrev Lawful : Row → Type 0
Lawful r = T (leb (length r.takes) max_arity) × BindsLast r.binder (length r.takes)

all-lawful : All Lawful table
all-lawful =
    (tt, tt) and (tt, tt) and (tt, tt) and (tt, tt) and (tt, tt) and (tt, tt) and (tt, tt) and (tt, tt) and (tt, tt) and (tt, tt) and (tt, tt) and (tt, tt) and (tt, tt) and (tt, refl) and (tt, refl) and (tt, refl) and tt

abbrev LawfulOption : Option Row → Type 0
LawfulOption none = Unit {0}
LawfulOption (some r) = Lawful r

row_lawful : (c : ℕ) → LawfulOption (row c)
unfolding row
row_lawful c = go (row c) refl
  where
    go : (o : Option Row) → row c ≡ o → LawfulOption o
    go none e = tt
    go (some r) e = (find-has Lawful (has c) table r all-lawful e).0

-- a code binds a variable in the last of its arguments, or in none
pub binds-last : (c k : ℕ) → k ≡ or_else 0 (code_arity c) → BindsLast (code_binder c) k
binds-last c k e = go (row c) (row_lawful c) e
  where
    go : (o : Option Row) → LawfulOption o → k ≡ or_else 0 (map_option (λ r. length r.takes) o) → BindsLast (row_binder o) k
    go none h q = tt
    go (some r) h q = rw q h.1

-- the column says that a code exists exactly if it does, and then its argument count
pub code-exists : (c : ℕ) → eqb (arity_of c) no_code ≡ false → T (is_some (code_arity c)) × (or_else 0 (code_arity c) ≡ arity_of c)
unfolding arity_of
code-exists c e = go (code_arity c) e
  where
    go : (o : Option ℕ) → eqb (arity_number o) no_code ≡ false → T (is_some o) × (or_else 0 o ≡ arity_number o)
    go none e = absurd (eqb-false no_code no_code e refl)
    go (some n) e = (tt, refl)

pub code-known : (c : ℕ) → T (is_some (code_arity c)) → (eqb (arity_of c) no_code ≡ false) × (or_else 0 (code_arity c) ≡ arity_of c)
unfolding arity_of
code-known c h = go (row c) (row_lawful c) h
  where
    go : (o : Option Row) → LawfulOption o → T (is_some (map_option (λ r. length r.takes) o))
        → (eqb (arity_number (map_option (λ r. length r.takes) o)) no_code ≡ false)
        × (or_else 0 (map_option (λ r. length r.takes) o) ≡ arity_number (map_option (λ r. length r.takes) o))
    go none l h = absurd h
    go (some r) l h =
        let k = leb→le (length r.takes) max_arity l.0 in
        (ne_eqb (length r.takes) no_code (λ (z : length r.takes ≡ no_code). omega arith), refl)

pub code-none : (c : ℕ) → is_some (code_arity c) ≡ false → arity_of c ≡ no_code
unfolding arity_of
code-none c e = go (code_arity c) e
  where
    go : (o : Option ℕ) → is_some o ≡ false → arity_number o ≡ no_code
    go none e = refl
    go (some n) e = absurd (let z : ◌≡◌ {A = ℕ} 0 1 = cc in omega arith)
