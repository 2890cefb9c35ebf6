use Rattle.rafterclary.proofs.Packing.{alike-refusal, alike-result, near}
use Rattle.rafterclary.proofs.pack_alike.Goals as goal

pub pack_refusal-requires : goal.pack_refusal-requires
pack_refusal-requires c = near _ _ c.requires _ c.in-Err.is

pub returns-in-Ok : goal.returns-in-Ok
returns-in-Ok c = search alike-result

pub returns-in-Err : goal.returns-in-Err
returns-in-Err c = search alike-refusal
