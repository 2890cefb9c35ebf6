use Rattle.rafterclary.proofs.Packing.{body-left, body-packable, body-packed}
use Rattle.rafterclary.proofs.rafterclary_body.Goals as goal

pub pack_body-requires : goal.pack_body-requires
pack_body-requires c = search body-packable

pub returns : goal.returns
returns c = (search body-packed, search body-left)
