use Rattle.rafterclary.proofs.Packing.{kept, near, refusal-packed, result-packed}
use Rattle.rafterclary.proofs.pack.Goals as goal

pub pack_number-requires : goal.pack_number-requires
pack_number-requires c = kept _ _ c.requires _ c.in-Ok.is

pub pack_refusal-requires : goal.pack_refusal-requires
pack_refusal-requires c = near _ _ c.requires _ c.in-Err.is

pub returns-in-Ok : goal.returns-in-Ok
returns-in-Ok c = search result-packed

pub returns-in-Err : goal.returns-in-Err
returns-in-Err c = search refusal-packed
