-- The reply of an expansion is small enough to be packed; packed it is the rules', and so are the memory and the output.
use mathlib.Core.List.{List}
use mathlib.Core.Path.{◌∙◌, ◌≡◌, ap, sym}
use Prim.Native.Nat.{ℕ}
use Rattle.laws.proofs.Outputs.{output-written}
use Rattle.rules.specs.Query.{ExpansionAnswer, expansion_query}
use Rattle.refusals.specs.Outcomes.{outcome_of}
use Rattle.refusals.specs.declared.Refusal.{Refusal}
use Rattle.std.specs.Prelude.{Result}
use Rattle.queries.specs.Expanding.{Expanding}
use Rattle.demands.specs.Packed.{packed}
use Rattle.rafterclary.specs.Packable.{FewBytes, Packable}
use Rattle.rafterclary.proofs.Packing.{packable}
use Rattle.demands.proofs.Places.{expansion-place}

module _ (file memory : List ℕ) (m n : ℕ) (bytes output : List ℕ) (r : Result ℕ Refusal) (after written : List ℕ)
    (e : Expanding file memory m n bytes output r after written) where
  replied : outcome_of r ≡ (expansion_query file memory m n bytes output).reply
  replied = ap (λ (y : ExpansionAnswer). y.reply) e

  pub expansion-packable : Packable FewBytes (outcome_of r)
  expansion-packable =
      packable FewBytes (outcome_of r) (λ l q. ((output-written file memory m n bytes output l).0 (sym replied ∙ q)).in_limit)
      (λ c p q. expansion-place file memory m n bytes output c p (sym replied ∙ q))

  pub expansion-packed : (k : ℕ) → k ≡ packed (outcome_of r) → k ≡ packed (expansion_query file memory m n bytes output).reply
  expansion-packed k q = q ∙ ap packed replied

  pub expansion-left : after ≡ (expansion_query file memory m n bytes output).memory
  expansion-left = ap (λ (y : ExpansionAnswer). y.memory) e

  pub expansion-put : written ≡ (expansion_query file memory m n bytes output).output
  expansion-put = ap (λ (y : ExpansionAnswer). y.output) e
