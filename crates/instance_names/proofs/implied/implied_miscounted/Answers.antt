use mathlib.Core.Path.{◌∙◌, refl}
use lib.ListN.{get_or}
use Rattle.std.proofs.Common.{rules, tests}
use Rattle.std.proofs.lemmas.Iterator.{YieldsList-from_range}
use Rattle.std.proofs.lemmas.Iterator.Search.{any_from_yields_List}
use Rattle.instance_names.proofs.Turns.{any-places, counted-there}
use Rattle.instance_names.specs.Sites.{implied_miscounted, miscounted_among}
use Rattle.instance_names.proofs.implied.implied_miscounted.Goals as goal

pub returns : goal.returns
unfolding miscounted_among
returns c =
    let v = c.args.store.now in
    let t = implied_miscounted c.args.file.now v.names v.facts v.contexts v.heads c.args.x in
    counted-there _ _ _ _ _ _ _ _ c.head_at-n.ensures
    (any_from_yields_List (λ i. t (get_or v.contexts i 0)) _ _ _ c.any.ensures.ran (YieldsList-from_range _ _ _ refl refl) (λ x b q k. search (rules, tests)) ∙ any-places t v.contexts _ _)
