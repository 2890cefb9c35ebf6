use Prim.Native.Nat.{◌-◌}
use mathlib.Core.Path.{◌∙◌, refl}
use lib.ListN.{get_or}
use Rattle.std.proofs.Common.{rules, tests}
use Rattle.std.proofs.lemmas.Iterator.{YieldsList-from_range}
use Rattle.std.proofs.lemmas.Iterator.Search.{any_from_yields_List}
use Rattle.instance_names.proofs.Turns.{any-places}
use Rattle.judge_instance.specs.Constancy.{uneven_form, uneven_among}
use Rattle.judge_instance.proofs.constancy.uneven_among.Goals as goal

pub returns : goal.returns
unfolding uneven_among
returns c =
    let v = c.args.store.now in
    any_from_yields_List (λ i. uneven_form c.args.words.now (get_or v.orders i 0)) _ _ _ c.any.ensures.ran (YieldsList-from_range c.args.from c.args.end _ refl refl) (λ x b q k. search (rules, tests))
    ∙ any-places (uneven_form c.args.words.now) v.orders c.args.from (c.args.end - c.args.from)
