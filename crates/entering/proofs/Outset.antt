-- A declaration where no instance has brought the text.
use mathlib.Core.Path.{◌≡◌, refl, ap, ◌∙◌}
use mathlib.Core.List.{List}
use Prim.Native.Nat.{ℕ, ◌≤◌}
use native.Mathlib.Omega.{arith}
use borrow.Author.Tests.{le-leb}
use lib.ListN.{length}
use lib.Seq.{take_all}
use Rattle.limits.specs.Limits.{max_arity}
use Rattle.theory.specs.Level.{IsLevel, highest}
use Rattle.theory.specs.Lists.{All}
use Rattle.theory.specs.Term.{Kind, constant, declared_level, kind_arity, variable}
use Rattle.context.specs.Entries.{variable_kind}
use Rattle.entering.specs.Itself.{itself_level}
use Rattle.texts.proofs.Levels.{params-take}

-- a kind as the store keeps it
abbrev pub kind_number : Kind → ℕ
kind_number (constant n) = n
kind_number variable = variable_kind

-- A declaration that stands for itself has its level.
pub itself-level : (k : Kind) (x : ℕ) (us : List ℕ) → kind_arity k ≤ max_arity → length us ≡ kind_arity k → All IsLevel us → itself_level (kind_number k) us ≡ declared_level k x us
unfolding itself_level
itself-level (constant n) x us h l a =
    rw (le-leb n max_arity h) (ap highest (params-take n us (omega arith) ∙ take_all n us (omega arith)))
itself-level variable x us h l a = refl
