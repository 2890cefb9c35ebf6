use mathlib.Core.Path.{◌≡◌}
use Rattle.instance_names.specs.Sites.{repeated_from}
use Rattle.instance_names.proofs.written.repeated_name.Given as goal

abbrev pub invariant-loop-left : goal.invariant-loop-left
invariant-loop-left l =
    repeated_from l.file l.left l.at ≡ repeated_from l.file l.count l.from
