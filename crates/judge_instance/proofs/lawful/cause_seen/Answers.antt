use Rattle.judge_instance.proofs.LevelCases.{seen-0, seen-12, seen-14, seen-16, seen-21}
use Rattle.judge_instance.proofs.lawful.cause_seen.Goals as goal

-- every return by all of them: the order of the tests is no part of the proof
ruleset causes = (seen-12, seen-14, seen-21, seen-16, seen-0)

pub returns-then-seen : goal.returns-then-seen
returns-then-seen c = search causes

pub returns-then-seen-2 : goal.returns-then-seen-2
returns-then-seen-2 c = search causes

pub returns-then-mixed : goal.returns-then-mixed
returns-then-mixed c = search causes

pub returns-then-named : goal.returns-then-named
returns-then-named c = search causes

pub returns : goal.returns
returns c = search causes
