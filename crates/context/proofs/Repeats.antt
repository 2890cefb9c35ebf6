-- One lemma for each way through the search for a name that stands twice.
use mathlib.Core.Bool.{Bool, ◌||◌, false, true}
use mathlib.Core.List.{List}
use mathlib.Core.Option.{Option, none, some}
use mathlib.Core.Path.{◌∙◌, ◌≡◌, ap, refl, sym}
use lib.ListN.{get_or}
use Prim.Native.Nat.{◌+◌, ◌-◌, ◌<◌, ◌≤◌, ℕ}
use Rattle.context.proofs.Parts.{part_end, part-turn}
use Rattle.context.specs.Lookup.{as_code, code_named, repeated_in}
use Rattle.context.specs.Parts.{part}
use Rattle.std.specs.Prelude.{Option as Answer, is_some as found}
use Rattle.theory.specs.Lists.{is_some}

-- whether the code finds one is whether there is one
pub found-some : (r : Option ℕ) → found (as_code r) ≡ is_some r
unfolding as_code
found-some none = refl
found-some (some o) = refl

module _ (names xs : List ℕ) (i end : ℕ) (w : Bool) (same : repeated_in names (part xs i (end - i)) ≡ w) where
  module _ (x o : ℕ) (q : Answer ℕ) (b : Bool) (h : i < end) (e : o ≡ get_or xs i 0) (f : x ≡ get_or names o 0)
      (g : q ≡ as_code (code_named names x (part xs (i + 1) (end - (i + 1))))) (k : b ≡ found q) where
    turn : b || repeated_in names (part xs (i + 1) (end - (i + 1))) ≡ w
    unfolding repeated_in
    turn =
        ap (λ (c : Bool). c || repeated_in names (part xs (i + 1) (end - (i + 1))))
        (k ∙ ap found g ∙ found-some (code_named names x (part xs (i + 1) (end - (i + 1)))))
        ∙ rw (f, e) (sym (ap (repeated_in names) (part-turn xs i end h)) ∙ same)

    pub again : b ≡ true → true ≡ w
    again p = rw p at turn

    pub not-again : b ≡ false → repeated_in names (part xs (i + 1) (end - (i + 1))) ≡ w
    not-again p = rw p at turn

  pub never-again : end ≤ i → false ≡ w
  unfolding repeated_in
  never-again h = sym (ap (repeated_in names) (part_end xs i end h)) ∙ same
