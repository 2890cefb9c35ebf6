use Rattle.query_strings.proofs.Reading.{in-module}
use mathlib.Core.Path.{refl}
use Rattle.query_strings.proofs.query_string.Goals as goal

pub returns-then-expr-lt-BYTES : goal.returns-then-expr-lt-BYTES
returns-then-expr-lt-BYTES c = in-module _ _ _ _ c.args.store.now.heads _ _ _ _ _ _ c.args.m _ _ refl c.head_at-count.ensures c.read_short.ensures

pub returns-else-expr-lt-BYTES : goal.returns-else-expr-lt-BYTES
returns-else-expr-lt-BYTES c = in-module _ _ _ _ c.args.store.now.heads _ _ _ _ _ _ c.args.m _ _ refl c.head_at-count.ensures c.read_long.ensures
