use Rattle.instancing.proofs.Brings.{instance-all, instance-counts, noted-room}
use borrow.Author.Rules.{rules}
use Rattle.instancing.proofs.add_instance.Goals as goal

pub note_instance-requires : goal.note_instance-requires
note_instance-requires c = (search rules, search rules, noted-room _ _ _ _ _ _ _ _ _ c.bring_all.ensures c.head_at-count.ensures c.requires.5)

pub returns : goal.returns
returns c = (search (rules, instance-counts), search (rules, instance-all))
