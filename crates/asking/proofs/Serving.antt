-- The codes of a module's context by place.
use mathlib.Core.List.{List}
use mathlib.Core.Path.{◌∙◌, ◌≡◌, ap, subst}
use Prim.Native.Nat.{ℕ, ◌+◌, ◌-◌, ◌*◌}
use native.Mathlib.Omega.{arith}
use lib.ListN.{get_or}
use Rattle.std.specs.Prelude.{Option}
use Rattle.limits.specs.Sizes.{context_length, place_count}
use Rattle.context.specs.Parts.{part}
use Rattle.context.specs.Entries.{context_codes}
use Rattle.asking.specs.Walk.{Judged}
use Rattle.asking.specs.declared.Walked.{Walked}
use Rattle.store.specs.declared.Facts.{Facts}

pub in-module : (names : List ℕ) (facts : List Facts) (contexts heads words : List ℕ) (p : ℕ) (s : List ℕ) (w : Option Walked) (m from count : ℕ) → from ≡ m * context_length
    → count ≡ get_or heads (place_count + m) 0 → Judged names facts (part contexts from (from + count - from)) words p s w
    → Judged names facts (context_codes contexts heads m) words p s w
in-module names facts contexts heads words p s w m from count ef ec h =
    let d : from + count - from ≡ count = omega arith in
    subst (λ (cs : List ℕ). Judged names facts cs words p s w) (ap (part contexts from) (d ∙ ec) ∙ ap (λ (f : ℕ). part contexts f (get_or heads (place_count + m) 0)) ef) h
