-- `list`: the two refusals by size, and the fields.
use Rattle.list_file.proofs.Files.{empty-listed, front-as, long-listed, some_bytes}
use borrow.Author.Rules.{rules}
use Rattle.list_file.proofs.list.Goals as goal

pub returns-then-file-eq0 : goal.returns-then-file-eq0
returns-then-file-eq0 c = front-as _ _ _ _ _ c.write_refusal.ensures (empty-listed c.args.file.now c.if-file-eq0.true)

pub returns-then-file-gt-FILE_BYTES : goal.returns-then-file-gt-FILE_BYTES
returns-then-file-gt-FILE_BYTES c = front-as _ _ _ _ _ c.write_refusal-then-file-gt-FILE_BYTES.ensures (long-listed c.args.file.now c.if-file-gt-FILE_BYTES.true)

pub list_fields-requires : goal.list_fields-requires
list_fields-requires c = (search some_bytes, search rules, λ i. (c.shared_slice_known-1.given i).fits)
