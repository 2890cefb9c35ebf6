use mathlib.Core.Bool.{Bool, not}
use mathlib.Core.Path.{◌∙◌, refl}
use Prim.Native.Nat.{◌+◌, ◌*◌, ℕ}
use lib.Dec.{ltb}
use native.Mathlib.Omega.{arith}
use Rattle.std.proofs.Common.{rules, tests}
use Rattle.std.proofs.lemmas.Iterator.{YieldsList-from_range}
use Rattle.std.proofs.lemmas.Iterator.Search.{any_from_yields_List}
use Rattle.context.specs.Parts.{part, place_of}
use Rattle.judge_plain.proofs.Joins.{any-names}
use Rattle.judge_plain.specs.Extending.{missing_in}
use Rattle.tokens.specs.Token.{number_at}
use Rattle.judge_plain.proofs.extending.has_missing_name.Goals as goal

pub returns : goal.returns
unfolding missing_in
returns c =
    let m = c.args.modules in
    let t : ℕ → Bool = λ n. not (ltb (place_of n (part c.args.store.now.heads 0 m)) m) in
    any_from_yields_List (λ i. t (number_at c.args.file.now (c.args.list.at + 2 * i))) _ _ _ c.any.ensures.ran (YieldsList-from_range _ _ c.args.list.count refl (omega arith)) (λ x b q k. search (rules, tests))
    ∙ any-names t c.args.file.now c.args.list.at _
