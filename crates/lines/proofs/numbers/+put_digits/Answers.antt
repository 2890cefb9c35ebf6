-- `put_digits`: the digits before the last, and then the last.
use borrow.Author.Rules.{rules}
use Rattle.lines.proofs.Writing.{more-digits, no-digits, one-digit}
use Rattle.lines.proofs.numbers.+put_digits.Goals as goal

pub returns-then-left-eq0 : goal.returns-then-left-eq0
returns-then-left-eq0 t c = no-digits _ _ _ _ c.if-left-eq0.true

pub returns-then-n-lt10 : goal.returns-then-n-lt10
returns-then-n-lt10 t c = one-digit _ _ _ _ _ _ (search rules) (search rules) c.put_byte.ensures

pub returns : goal.returns
returns t c = more-digits _ _ _ _ _ _ _ _ (search rules) (search rules) c.put_digits-next.ensures c.put_byte-2.ensures
