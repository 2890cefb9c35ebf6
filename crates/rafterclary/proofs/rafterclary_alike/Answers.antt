use Rattle.rafterclary.proofs.Packing.{alike-left, alike-packable, alike-packed}
use Rattle.rafterclary.proofs.rafterclary_alike.Goals as goal

pub pack_alike-requires : goal.pack_alike-requires
pack_alike-requires c = search alike-packable

pub returns : goal.returns
returns c = (search alike-packed, search alike-left)
