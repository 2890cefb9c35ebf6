use borrow.Author.Rules.{rules}
use Rattle.streaming.proofs.InsideCases.{entered-now, link-inside}
use Rattle.streaming.proofs.inside.enter.Goals as goal

pub keep_place-requires : goal.keep_place-requires
keep_place-requires c = let w = c.words_at-cell in
    let y = link-inside c.args.l _ c.args.s.top w.result c.requires.4 c.requires.0 c.requires.1 w.ensures.0 in
    (y.1, y.0, c.requires.3)

pub returns : goal.returns
returns c = search (rules, entered-now)
