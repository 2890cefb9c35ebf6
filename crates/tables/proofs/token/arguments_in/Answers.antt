-- `token::arguments_in`: as written, or as the row has it.
use mathlib.Core.Path.{◌≡◌}
use Prim.Native.Nat.{ℕ}
use Rattle.rows.specs.Numbers.{arity_in, row_number}
use Rattle.rows.proofs.Numbers.{row-arity}
use Rattle.tokens.specs.Token.{arguments_of}
use Rattle.tokens.specs.declared.Token.{Token}
use Rattle.tokens.specs.declared.Token.TheVariants.{BuiltIn}
use Rattle.tables.proofs.token.arguments_in.Goals as goal

arity-is : (t : Token) (c h k : ℕ) → t ≡ BuiltIn c → h ≡ row_number c → k ≡ arity_in h → k ≡ arguments_of t
arity-is t c h k p e q = rw p (row-arity c h e k q)

pub returns-in-BuiltIn : goal.returns-in-BuiltIn
returns-in-BuiltIn c = search arity-is
