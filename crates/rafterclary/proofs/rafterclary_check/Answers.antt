use Rattle.rafterclary.proofs.Packing.{check-left, check-packable, check-packed}
use Rattle.rafterclary.proofs.rafterclary_check.Goals as goal

pub pack-requires : goal.pack-requires
pack-requires c = search check-packable

pub returns : goal.returns
returns c = (search check-packed, search check-left)
