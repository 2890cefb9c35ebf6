use lib.ListN.{length-set}
use native.Mathlib.Omega.{arith}
use Rattle.strings.proofs.Cases.{four-stores}
use Rattle.cells.proofs.put_word.Goals as goal

-- src/lib.rt:42:5
pub bounds-s-i-2 : goal.bounds-s-i-2
bounds-s-i-2 c = simp length-set (omega arith)

-- src/lib.rt:43:5
pub bounds-s-i-3 : goal.bounds-s-i-3
bounds-s-i-3 c = simp length-set (omega arith)

-- src/lib.rt:37:1
pub returns : goal.returns
returns c = search four-stores
