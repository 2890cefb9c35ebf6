use borrow.Author.Rules.{rules}
use native.Mathlib.Omega.{arith}
use Rattle.streaming.proofs.InsideCases.{words_small}
use Rattle.streaming.proofs.inside.words_at.Goals as goal

pub overflow_mul-result : goal.overflow_mul-result
overflow_mul-result c = omega (arith, words_small c.args.top c.args.stride (search rules) (search rules))

pub returns : goal.returns
returns c = search (rules, words_small)
