use Rattle.fields.proofs.Payloads.{tag-other, tag-1, tag-2, tag-3, tag-4, tag-5, tag-6, tag-7, tag-8, tag-9}
use Rattle.fields.proofs.payload.parts_of.Goals as goal

pub returns-in-1 : goal.returns-in-1
returns-in-1 c = search tag-1

pub returns-in-2 : goal.returns-in-2
returns-in-2 c = search tag-2

pub returns-in-3 : goal.returns-in-3
returns-in-3 c = search tag-3

pub returns-in-4 : goal.returns-in-4
returns-in-4 c = search tag-4

pub returns-in-5 : goal.returns-in-5
returns-in-5 c = search tag-5

pub returns-in-6 : goal.returns-in-6
returns-in-6 c = search tag-6

pub returns-in-7 : goal.returns-in-7
returns-in-7 c = search tag-7

pub returns-in-8 : goal.returns-in-8
returns-in-8 c = search tag-8

pub returns-in-9 : goal.returns-in-9
returns-in-9 c = search tag-9

pub returns-in_default : goal.returns-in_default
returns-in_default c = search tag-other
