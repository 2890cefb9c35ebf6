use Rattle.rafterclary.proofs.PackingExpansion.{expansion-left, expansion-packable, expansion-packed, expansion-put}
use Rattle.rafterclary.proofs.rafterclary_expand.Goals as goal

pub pack-requires : goal.pack-requires
pack-requires c = search expansion-packable

pub returns : goal.returns
returns c = (search expansion-packed, search expansion-left, search expansion-put)
