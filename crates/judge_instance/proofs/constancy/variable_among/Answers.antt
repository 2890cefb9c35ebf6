use Prim.Native.Nat.{◌-◌}
use mathlib.Core.Path.{◌∙◌, refl}
use lib.ListN.{get_or}
use Rattle.std.proofs.Common.{rules, tests}
use Rattle.std.proofs.lemmas.Iterator.{YieldsList-from_range}
use Rattle.std.proofs.lemmas.Iterator.Search.{any_from_yields_List}
use Rattle.instance_names.proofs.Turns.{any-places}
use Rattle.judge_instance.specs.Constancy.{is_variable_code, variable_among}
use Rattle.judge_instance.proofs.constancy.variable_among.Goals as goal

pub returns : goal.returns
unfolding variable_among
returns c =
    let v = c.args.store.now in
    any_from_yields_List (λ i. is_variable_code v.facts (get_or v.contexts i 0)) _ _ _ c.any.ensures.ran (YieldsList-from_range c.args.from c.args.end _ refl refl) (λ x b q k. search (rules, tests))
    ∙ any-places (is_variable_code v.facts) v.contexts c.args.from (c.args.end - c.args.from)
