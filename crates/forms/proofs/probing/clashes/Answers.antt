use Rattle.forms.proofs.Probes.{clashes-one, clashes-other}
use Rattle.forms.proofs.probing.clashes.Goals as goal

pub returns-then-clash : goal.returns-then-clash
returns-then-clash c = λ n h. clashes-one _ _ _ (c.clash.ensures n h) c.if-clash.true

pub returns : goal.returns
returns c = λ n h. clashes-other _ _ _ _ (c.clash.ensures n h) c.if-clash.false (c.clash-2.ensures n h)
