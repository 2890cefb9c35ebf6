use Rattle.rafterclary.proofs.Packing.{body-refusal, body-result, kept, near}
use Rattle.rafterclary.proofs.pack_body.Goals as goal

pub pack_span-requires : goal.pack_span-requires
pack_span-requires c = kept _ _ c.requires _ c.in-Ok.is

pub pack_wide_refusal-requires : goal.pack_wide_refusal-requires
pack_wide_refusal-requires c = near _ _ c.requires _ c.in-Err.is

pub returns-in-Ok : goal.returns-in-Ok
returns-in-Ok c = search body-result

pub returns-in-Err : goal.returns-in-Err
returns-in-Err c = search body-refusal
