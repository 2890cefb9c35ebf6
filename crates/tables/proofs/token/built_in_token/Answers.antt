-- `token::built_in_token`: a code that exists.
use mathlib.Core.Path.{◌≡◌, refl}
use Prim.Native.Nat.{ℕ}
use borrow.Author.Tests.{eq-eqb, ne_eqb}
use Rattle.std.specs.Prelude.{None, Some}
use Rattle.rows.specs.Rows.{no_code}
use Rattle.rows.specs.Numbers.{arity_in, row_number}
use Rattle.rows.proofs.Numbers.{row-arity}
use Rattle.tokens.specs.Token.{built_in}
use Rattle.tokens.specs.declared.Token.TheVariants.{BuiltIn}
use Rattle.tables.proofs.token.built_in_token.Goals as goal

module _ (c h k : ℕ) (e : h ≡ row_number c) (q : k ≡ arity_in h) where
  no_code_lem : k ≡ no_code → None ≡ built_in c
  no_code_lem z = let a = row-arity c h e k q in rw (← a, eq-eqb k no_code z) refl

  code : (k ≡ no_code → ⊥) → Some (BuiltIn c) ≡ built_in c
  code z = let a = row-arity c h e k q in rw (← a, ne_eqb k no_code z) refl

pub returns-then-arity_of : goal.returns-then-arity_of
returns-then-arity_of c = search no_code_lem

pub returns-else-arity_of : goal.returns-else-arity_of
returns-else-arity_of c = search code
