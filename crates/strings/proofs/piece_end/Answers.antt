use Rattle.strings.proofs.Turns.{piece-done, piece-end, piece-turn}
use borrow.Author.Rules.{rules}
use Rattle.strings.proofs.piece_end.Goals as goal

pub returns-then-done : goal.returns-then-done
returns-then-done c = search piece-done

pub loop-i-preserved : goal.loop-i-preserved
loop-i-preserved c = (search rules, search rules, search rules, search rules, search rules, search piece-turn)

pub returns : goal.returns
returns c = search piece-end
