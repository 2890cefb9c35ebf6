use borrow.Author.Rules.{rules}
use Rattle.streaming.proofs.InsideCases.{left-now}
use Rattle.streaming.proofs.inside.leave_call.Goals as goal

pub returns : goal.returns
returns c = let w = c.words_at in
    let u = c.word-after in
    let v = c.word-end in
    let y = c.word-link in
    left-now c.args.l c.args.s _ w.result u.result v.result y.result (search rules) w.ensures.0 u.ensures.0 u.ensures.1 v.ensures.0 v.ensures.1 y.ensures.0 y.ensures.1
