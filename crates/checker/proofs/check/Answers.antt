use Rattle.checker.proofs.Answers.{check-short, few_bytes, some_bytes, wrong-bytes}
use borrow.Author.Rules.{rules}
use Rattle.checker.proofs.check.Goals as goal

pub returns-then-cards-lt-CARD_MEMORY_BYTES : goal.returns-then-cards-lt-CARD_MEMORY_BYTES
returns-then-cards-lt-CARD_MEMORY_BYTES c = search check-short

pub refuse_size-requires : goal.refuse_size-requires
refuse_size-requires c = (search rules, search wrong-bytes)

pub check_fields-requires : goal.check_fields-requires
check_fields-requires c = (search rules, search some_bytes, search few_bytes, λ i. (c.shared_slice_known-1.given i).fits)
