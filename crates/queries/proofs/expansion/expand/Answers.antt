-- `expansion::expand`: refusals 1 and 2, or the file judged.
use Rattle.checker.proofs.Answers.{few_bytes, some_bytes, wrong-bytes}
use Rattle.queries.proofs.Extending.{expand-short}
use borrow.Author.Rules.{rules}
use Rattle.queries.proofs.expansion.expand.Goals as goal

pub returns-then-cards-lt-CARD_MEMORY_BYTES : goal.returns-then-cards-lt-CARD_MEMORY_BYTES
returns-then-cards-lt-CARD_MEMORY_BYTES c = search expand-short

pub refuse_size-requires : goal.refuse_size-requires
refuse_size-requires c = (search rules, search wrong-bytes)

pub expand_fields-requires : goal.expand_fields-requires
expand_fields-requires c = (search rules, search some_bytes, search few_bytes, λ i. (c.shared_slice_known-1.given i).fits)
