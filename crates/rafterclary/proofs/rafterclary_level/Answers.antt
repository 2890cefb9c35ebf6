use Rattle.rafterclary.proofs.Packing.{level-left, level-packable, level-packed}
use Rattle.rafterclary.proofs.rafterclary_level.Goals as goal

pub pack_level-requires : goal.pack_level-requires
pack_level-requires c = search level-packable

pub returns : goal.returns
returns c = (search level-packed, search level-left)
