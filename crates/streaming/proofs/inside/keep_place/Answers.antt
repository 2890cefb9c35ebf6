use borrow.Author.Rules.{rules}
use Rattle.streaming.proofs.InsideCases.{place_kept}
use Rattle.streaming.proofs.inside.keep_place.Goals as goal

pub returns : goal.returns
returns c = search (rules, place_kept)
