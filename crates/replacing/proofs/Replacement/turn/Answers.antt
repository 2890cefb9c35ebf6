use Rattle.replacing.proofs.Rounding.{turn-done, turn_more, turn-short, turn-slow}
use Rattle.replacing.proofs.Replacement.turn.Goals as goal

pub returns-in-Ok-None : goal.returns-in-Ok-None
returns-in-Ok-None c = search turn-done

pub returns-in-Ok-Some : goal.returns-in-Ok-Some
returns-in-Ok-Some c = search turn_more

pub returns-in-Err-Short : goal.returns-in-Err-Short
returns-in-Err-Short c = search turn-short

pub returns-in-Err-Lost : goal.returns-in-Err-Lost
returns-in-Err-Lost c = search turn-slow
