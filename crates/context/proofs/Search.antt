-- One lemma for each way through a turn of the searches.
use borrow.Author.Tests.{eq-eqb, ne_eqb}
use mathlib.Core.Bool.{Bool, ◌||◌, cond, false, true}
use mathlib.Core.List.{List, [], ◌∷◌}
use mathlib.Core.Option.{Option, some}
use mathlib.Core.Path.{◌∙◌, ◌≡◌, ap, refl, sym}
use lib.ListN.{get_or}
use native.Mathlib.Omega.{arith}
use Prim.Native.Nat.{◌+◌, ◌-◌, ◌<◌, ◌≤◌, suc, ℕ}
use Rattle.context.proofs.Parts.{part_end, part-turn, up-end, up_turn}
use Rattle.context.specs.Lookup.{as_code, code_under, stands_under}
use Rattle.context.specs.Parts.{part, place_of}
use Rattle.theory.specs.Lists.{any, find, numbers_from}
use Rattle.std.specs.Prelude.{Option as Answer, Some, None, is_some as found}
use Rattle.store.specs.declared.Facts.{Facts}

-- a search that finds one, or goes on
module _ (t : ℕ → Bool) where
  find_first : (o : ℕ) (cs : List ℕ) → t o ≡ true → find t (o ∷ cs) ≡ some o
  find_first o cs e = rw e refl

  find-later : (o : ℕ) (cs : List ℕ) → t o ≡ false → find t (o ∷ cs) ≡ find t cs
  find-later o cs e = rw e refl

  module _ (xs : List ℕ) (i end o : ℕ) (h : i < end) (e : o ≡ get_or xs i 0) where
    abbrev rest : List ℕ
    rest = part xs (i + 1) (end - (i + 1))

    this : o ∷ rest ≡ part xs i (end - i)
    this = ap (λ (x : ℕ). x ∷ rest) e ∙ sym (part-turn xs i end h)

    pub hit : (w : Option ℕ) → find t (part xs i (end - i)) ≡ w → t o ≡ true → Some o ≡ as_code w
    unfolding as_code
    hit w same q = ap as_code (sym (find_first o rest q) ∙ ap (find t) this ∙ same)

    pub next : (w : Option ℕ) → find t (part xs i (end - i)) ≡ w → t o ≡ false → find t rest ≡ w
    next w same q = sym (find-later o rest q) ∙ ap (find t) this ∙ same

  -- whether the code finds one is whether there is one
  pub some-any : (cs : List ℕ) (q : Answer ℕ) (r : Bool) → q ≡ as_code (find t cs) → r ≡ found q → r ≡ any t cs
  unfolding as_code
  some-any cs q r e f = f ∙ ap found e ∙ go cs
    where
      go : (cs : List ℕ) → found (as_code (find t cs)) ≡ any t cs
      go [] = refl
      go (o ∷ cs) = one (t o) (go cs)
        where
          one : (b : Bool) → found (as_code (find t cs)) ≡ any t cs → found (as_code (cond b (some o) (find t cs))) ≡ b || any t cs
          one true p = refl
          one false p = p

  pub found_none : (xs : List ℕ) (i end : ℕ) (w : Option ℕ) → find t (part xs i (end - i)) ≡ w → end ≤ i → None ≡ as_code w
  unfolding as_code
  found_none xs i end w same h = ap as_code (sym (ap (find t) (part_end xs i end h)) ∙ same)

-- I!F, by number

module _ (names : List ℕ) (facts : List Facts) (i f from end : ℕ) (w : Option ℕ) (same : code_under names facts i f (numbers_from from (end - from)) ≡ w) where
  pub under-hit : (r : Bool) → from < end → r ≡ stands_under names facts i f from → r ≡ true → Some from ≡ as_code w
  unfolding code_under as_code
  under-hit r h e g =
      ap as_code (sym (find_first (stands_under names facts i f) from (numbers_from (from + 1) (end - (from + 1))) (sym e ∙ g))
      ∙ sym (ap (find (stands_under names facts i f)) (up_turn from end h)) ∙ same)

  pub under_next : (r : Bool) → from < end → r ≡ stands_under names facts i f from → r ≡ false → code_under names facts i f (numbers_from (from + 1) (end - (from + 1))) ≡ w
  unfolding code_under
  under_next r h e g =
      sym (find-later (stands_under names facts i f) from (numbers_from (from + 1) (end - (from + 1))) (sym e ∙ g))
      ∙ sym (ap (find (stands_under names facts i f)) (up_turn from end h)) ∙ same

  pub under-end : end ≤ from → None ≡ as_code w
  unfolding code_under as_code
  under-end h = ap as_code (sym (ap (find (stands_under names facts i f)) (up-end from end h)) ∙ same)

-- places

module _ (xs : List ℕ) (x i end w : ℕ) (same : i + place_of x (part xs i (end - i)) ≡ w) where
  pub place-hit : (m : ℕ) → i < end → m ≡ get_or xs i 0 → x ≡ m → i ≡ w
  unfolding place_of
  place-hit m h f g =
      let q : x ≡ get_or xs i 0 = g ∙ f in
      let k : place_of x (part xs i (end - i)) ≡ 0 = rw (part-turn xs i end h, eq-eqb x (get_or xs i 0) q) in
      omega arith

  pub place-next : (m : ℕ) → i < end → m ≡ get_or xs i 0 → (x ≡ m → ⊥) → i + 1 + place_of x (part xs (i + 1) (end - (i + 1))) ≡ w
  unfolding place_of
  place-next m h f g =
      let q : x ≡ get_or xs i 0 → ⊥ = λ (q : x ≡ get_or xs i 0). g (q ∙ sym f) in
      let k : place_of x (part xs i (end - i)) ≡ suc (place_of x (part xs (i + 1) (end - (i + 1)))) = rw (part-turn xs i end h, ne_eqb x (get_or xs i 0) q) in
      omega arith

  pub place_end : i ≤ end → end ≤ i → end ≡ w
  unfolding place_of
  place_end l h =
      let k : place_of x (part xs i (end - i)) ≡ 0 = rw (part_end xs i end h) in
      omega arith
