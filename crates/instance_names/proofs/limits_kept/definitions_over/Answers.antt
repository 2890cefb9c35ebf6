use Prim.Native.Nat.{◌-◌}
use mathlib.Core.Path.{◌∙◌, refl}
use lib.ListN.{get_or}
use Rattle.std.proofs.Common.{rules, tests}
use Rattle.std.proofs.lemmas.Iterator.{YieldsList-from_range}
use Rattle.std.proofs.lemmas.Iterator.Search.{any_from_yields_List}
use Rattle.instance_names.proofs.Turns.{any-places}
use Rattle.instance_names.specs.Sites.{definition_over, definitions_over}
use Rattle.instance_names.proofs.limits_kept.definitions_over.Goals as goal

pub returns : goal.returns
unfolding definitions_over
returns c =
    let v = c.args.store.now in
    let t = definition_over v.facts c.args.params in
    any_from_yields_List (λ i. t (get_or v.orders i 0)) _ _ _ c.any.ensures.ran (YieldsList-from_range c.args.from c.args.end _ refl refl) (λ x b q k. search (rules, tests))
    ∙ any-places t v.orders c.args.from (c.args.end - c.args.from)
