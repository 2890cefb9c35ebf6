use Rattle.judge_plain.proofs.Answers.{early-begun, early-inside, early-outside}
use Rattle.judge_plain.proofs.out_of_order.Goals as goal

pub returns-in-Outside : goal.returns-in-Outside
returns-in-Outside c = search early-outside

pub returns-in-Begun : goal.returns-in-Begun
returns-in-Begun c = search early-begun

pub returns-in-Inside : goal.returns-in-Inside
returns-in-Inside c = search early-inside
