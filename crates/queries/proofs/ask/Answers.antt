use Rattle.checker.proofs.Answers.{few_bytes, some_bytes, wrong-bytes}
use Rattle.queries.proofs.Asking.{ask-short}
use borrow.Author.Rules.{rules}
use Rattle.queries.proofs.ask.Goals as goal

pub returns-then-cards-lt-CARD_MEMORY_BYTES : goal.returns-then-cards-lt-CARD_MEMORY_BYTES
returns-then-cards-lt-CARD_MEMORY_BYTES c = search ask-short

pub refuse_size-requires : goal.refuse_size-requires
refuse_size-requires c = (search rules, search wrong-bytes)

pub ask_fields-requires : goal.ask_fields-requires
ask_fields-requires c = (search rules, search some_bytes, search few_bytes, λ i. (c.shared_slice_known-3-1.given i).fits)
