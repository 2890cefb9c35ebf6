use mathlib.Core.Bool.{Bool}
use Prim.Native.Nat.{◌-◌, ℕ}
use borrow.Author.Rules.{rules}
use Rattle.context.proofs.Search.{some-any}
use Rattle.context.specs.Lookup.{instance_among, is_instance}
use Rattle.context.specs.Parts.{part}
use Rattle.context.proofs.lookup.instance_among.Goals as goal

pub returns : goal.returns
unfolding instance_among
returns c =
    let t : ℕ → Bool = is_instance c.args.store.now.facts in
    some-any t (part c.args.store.now.contexts c.args.from (c.args.end - c.args.from)) _ _ (c.find_where.ensures t (λ o r h p. search rules)) c.is_some.ensures
