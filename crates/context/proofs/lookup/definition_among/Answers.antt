use mathlib.Core.Bool.{Bool}
use Prim.Native.Nat.{◌-◌, ℕ}
use borrow.Author.Rules.{rules}
use Rattle.context.proofs.Search.{some-any}
use Rattle.context.specs.Entries.{codes_of}
use Rattle.context.specs.Lookup.{defines_name_in, definition_among}
use Rattle.context.specs.Parts.{part}
use Rattle.context.proofs.lookup.definition_among.Goals as goal

pub returns : goal.returns
unfolding definition_among
returns c =
    let t : ℕ → Bool = defines_name_in c.args.store.now.names (codes_of c.args.store.now c.args.m) in
    some-any t (part c.args.store.now.contexts c.args.from (c.args.end - c.args.from)) _ _ (c.find_where.ensures t (λ o r h p. search rules)) c.is_some.ensures
