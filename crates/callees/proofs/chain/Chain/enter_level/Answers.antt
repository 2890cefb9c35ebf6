-- `Chain::enter_level`.
use Rattle.chains.proofs.Along.{has-link, step-link}
use Rattle.callees.proofs.Going.{level-entered, outer-small, source-small}
use native.Mathlib.Omega.{arith}
use Prim.Native.Nat.{◌≤◌}
use Rattle.limits.specs.Limits.{max_arity, max_definitions}
use borrow.Author.Rules.{Fits-under, rules}
use borrow.Author.Rules.{rules}
use Rattle.callees.proofs.chain.Chain.enter_level.Goals as goal

pub code_of-o-requires : goal.code_of-o-requires
code_of-o-requires c = search (rules, has-link)

pub enter_row-requires : goal.enter_row-requires
enter_row-requires c = search (rules, step-link)

pub overflow_cast-self : goal.overflow_cast-self
overflow_cast-self c = Fits-under _ _ max_definitions (search (rules, source-small)) tt

pub overflow_cast-self-2 : goal.overflow_cast-self-2
overflow_cast-self-2 c = Fits-under _ _ max_definitions (let h : c.outer_after-around.result ≤ max_arity = search (rules, outer-small) in omega arith) tt

pub returns : goal.returns
returns c = search (rules, level-entered)
