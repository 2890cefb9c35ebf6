-- The reply at the end of a file, by the phase.
use Rattle.std.specs.Prelude.{Ok}
use mathlib.Core.Path.{◌≡◌, ap, sym}
use Prim.Native.Nat.{ℕ}
use Rattle.context.specs.declared.Counts.{Counts}
use Rattle.judge_plain.specs.declared.Phase.TheVariants.{Begun, Inside, Outside}
use Rattle.judge_plain.specs.declared.Phase.{Phase}
use Rattle.refusals.specs.Outcomes.{refused}
use Rattle.checker.specs.Turned.{end_reply}

pub reply-outside : (p : Phase) (c : Counts) (k : ℕ) → p ≡ Outside → Ok c ≡ end_reply p c k
reply-outside p c k e = ap (λ (q : Phase). end_reply q c k) (sym e)

pub reply-begun : (p : Phase) (c : Counts) (k : ℕ) → p ≡ Begun → refused 4 k ≡ end_reply p c k
reply-begun p c k e = ap (λ (q : Phase). end_reply q c k) (sym e)

pub reply-inside : (p : Phase) (c : Counts) (k : ℕ) → p ≡ Inside → refused 4 k ≡ end_reply p c k
reply-inside p c k e = ap (λ (q : Phase). end_reply q c k) (sym e)
