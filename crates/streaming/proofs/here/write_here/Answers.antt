use Rattle.streaming.proofs.HereCases.{shifted-narrow, shifted-near, short-room, short-wide, told, writes}
use borrow.Author.Rules.{rules}
use Rattle.streaming.proofs.here.write_here.Goals as goal

pub returns-then-shifts_wide : goal.returns-then-shifts_wide
returns-then-shifts_wide c = search (rules, short-wide)

pub shifted-requires : goal.shifted-requires
shifted-requires c = (search rules, search rules, search told)

pub put_one-requires : goal.put_one-requires
put_one-requires c = (search rules, search shifted-narrow, search shifted-near)

pub returns-in_default : goal.returns-in_default
returns-in_default c = search (rules, short-room)

pub returns : goal.returns
returns c = search (rules, writes)
