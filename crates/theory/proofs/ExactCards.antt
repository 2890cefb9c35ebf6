-- Short cards are exact (specs/ExactCards): the level of every term is linear, and of a linear level the card tells all.
use mathlib.Core.Bool.{Bool, not}
use mathlib.Core.List.{List, [], ◌∷◌}
use mathlib.Core.Logic.{◌↔◌}
use mathlib.Core.Path.{◌∙◌, ◌≡◌, ap, subst, subst⁻¹, sym}
use lib.Dec.{T, T_not, eqb, eqb_refl, eqb→eq, le→leb, lit≤, not_T}
use lib.ListN.{get_or, replicate, set}
use lib.Seq.{get_or-set_other, set-set}
use native.Mathlib.Decide.{ℕ_discrete}
use Prim.Native.Nat.{◌<◌, ◌≤◌, ℕ}
use Rattle.limits.specs.Limits.{max_arity}
use Rattle.theory.proofs.Cards.{card-bytes-low, card-count, card-length, card-same, set-vector, zeros}
use Rattle.theory.proofs.Finite.{levels-at}
use Rattle.theory.proofs.LabelCards.{adds-nothing, all-refused, all-taken, clash-nothing, mask₁, nothing-taken, six-masks, weighs-nothing}
use Rattle.theory.proofs.Labels.{Label, act, act-zero}
use Rattle.theory.proofs.Linear.{Linear, level-linear}
use Rattle.theory.proofs.LinearProbes.{alone-probe, clashes-two, linear-level, mask_one, same-added, weighs-one, zero-probe}
use Rattle.theory.proofs.Lists.{get_d-all}
use Rattle.theory.proofs.NearestMask.{to-zero}
use Rattle.theory.proofs.ReadingCards.{card-reads}
use Rattle.theory.specs.Card.{mask_of, read_card}
use Rattle.theory.specs.ExactCards.{ExactCards, Vector, card_for, levels_at}
use Rattle.theory.specs.Lattice.{Below, higher}
use Rattle.theory.specs.Level.{IsLevel, incorrect}
use Rattle.theory.specs.Lists.{any}
use Rattle.theory.specs.Term.{Term, level, long_way}

exact : (n : ℕ) → n ≤ max_arity → (t : Term) (v : List ℕ) → Vector n v → read_card (card_for n t) v ≡ level long_way v t
exact n fits t v q = card-reads n (levels_at t) fits (level-linear n t) v q

equal : (n m : ℕ) → n ≤ max_arity → m ≤ max_arity → (t u : Term)
    → (card_for n t ≡ card_for m u) ↔ ((n ≡ m) × ((v : List ℕ) → Vector n v → level long_way v t ≡ level long_way v u))
equal n m h k t u = (
  λ e.
      let d = card-count n m (levels_at t) (levels_at u) e in
      (d, λ v q. sym (exact n h t v q) ∙ ap (λ (c : List ℕ). read_card c v) e ∙ exact m k u v (q.0 ∙ d, q.1)),
  λ e. card-same n (levels_at t) (levels_at u) (λ v p a. e.1 v (p, a)) ∙ ap (λ (x : ℕ). card_for x u) e.0,
)

-- Masks

module _ (n i : ℕ) (here : i < n) (f : List ℕ → ℕ) (lin : Linear n (λ v m. Below (f v) m)) where
  abbrev b : ℕ
  b = lin.base

  abbrev w : Label
  w = lin.labels i

  test-mask : (x : ℕ) → mask_of n f i ≡ x → T (eqb (mask₁ b w) x)
  test-mask x e = subst⁻¹ (λ (y : ℕ). T (eqb y x)) (sym (mask_one n f lin i here) ∙ e) (eqb_refl x)

  empty : (mask_of n f i ≡ 0) ↔ (f (replicate n 0) ≡ incorrect)
  empty = (
    λ e. zero-probe n f lin ∙ nothing-taken b w lin.base-level (test-mask 0 e),
    λ e. mask_one n f lin i here ∙ ap (λ (x : ℕ). mask₁ x w) (sym (zero-probe n f lin) ∙ e) ∙ all-refused w,
  )

  -- a parameter that is taken at 4 adds nothing,
  counts-nowhere : mask_of n f i ≡ 31 → ¬ (f (replicate n 0) ≡ incorrect) × ((v : List ℕ) → Vector n v → f v ≡ f (set v i 0))
  counts-nowhere e = (
    λ d. T_not (eqb b 4) nothing.0 (subst⁻¹ (λ (x : ℕ). T (eqb x 4)) (sym (zero-probe n f lin) ∙ d) tt),
    λ v q. same-added n f lin v (set v i 0) q (set-vector n v i 0 q (lit≤ tt)) (λ j h. go v q j (ℕ_discrete j i)),
  )
    where
      nothing : T (not (eqb b 4)) × ((l : ℕ) → IsLevel l → act w l ≡ 0)
      nothing = adds-nothing b w lin.base-level (test-mask 31 e)

      added-0 : (v : List ℕ) → Vector n v → act w (get_or v i 0) ≡ 0
      added-0 v q = nothing.1 (get_or v i 0) (get_d-all IsLevel v i 0 q.1 (lit≤ tt))

      go : (v : List ℕ) → Vector n v → (j : ℕ) → Dec (j ≡ i) → act (lin.labels j) (get_or v j 0) ≡ act (lin.labels j) (get_or (set v i 0) j 0)
      go v q j (yes d) =
          subst⁻¹ (λ (j : ℕ). act (lin.labels j) (get_or v j 0) ≡ act (lin.labels j) (get_or (set v i 0) j 0)) d (added-0 v q ∙ sym (added-0 (set v i 0) (set-vector n v i 0 q (lit≤ tt))))
      go v q j (no d) = ap (act (lin.labels j)) (sym (get_or-set_other v i j 0 0 d))

  -- and one that counts nowhere leaves the base as it is, at every level
  taken-at-4 : ¬ (f (replicate n 0) ≡ incorrect) → ((v : List ℕ) → Vector n v → f v ≡ f (set v i 0)) → mask_of n f i ≡ 31
  taken-at-4 correct same =
      mask_one n f lin i here
      ∙ all-taken b w lin.base-level (not_T (eqb b 4) (λ t. correct (zero-probe n f lin ∙ eqb→eq b 4 t)))
      (levels-at (λ l. eqb (higher b (act w l)) b) (λ l k. subst⁻¹ (λ (x : ℕ). T (eqb x b)) (unraised l k) (eqb_refl b)))
    where
      unraised : (l : ℕ) → IsLevel l → higher b (act w l) ≡ b
      unraised l k =
          let v = set (replicate n 0) i l in
          sym (alone-probe n f lin i l here k) ∙ same v (set-vector n (replicate n 0) i l (zeros n) k) ∙ ap f (set-set (replicate n 0) i l 0) ∙ alone-probe n f lin i 0 here (lit≤ tt)
          ∙ ap (higher b) (act-zero w) ∙ to-zero b lin.base-level

pub exact-cards : ExactCards
exact-cards =
    record {
      sixteen = λ n h t. (card-length n (levels_at t) h, card-bytes-low n (levels_at t) h (linear-level n (levels_at t) (level-linear n t) (replicate n 0) (zeros n)));
      exact = exact;
      equal_cards = equal;
      masks = λ n i h t.
          let lin = level-linear n t in
          subst⁻¹ (λ (x : ℕ). T (any (eqb x) (31 ∷ 15 ∷ 7 ∷ 11 ∷ 3 ∷ 0 ∷ []))) (mask_one n (levels_at t) lin i h) (six-masks lin.base (lin.labels i) lin.base-level);
      empty_mask = λ n i h t. empty n i h (levels_at t) (level-linear n t);
      full_mask = λ n i h t.
          let lin = level-linear n t in
          (counts-nowhere n i h (levels_at t) lin, λ c. taken-at-4 n i h (levels_at t) lin c.0 c.1);
      none_weigh = λ n t k.
          let lin = level-linear n t in
          let high = le→leb 2 lin.base (subst (λ (x : ℕ). 2 ≤ x) (zero-probe n (levels_at t) lin) k) in (
            λ i h. subst⁻¹ (λ (x : Bool). T (not x)) (weighs-one n (levels_at t) lin i h) (weighs-nothing lin.base (lin.labels i) lin.base-level high),
            λ i j h l. subst⁻¹ (λ (x : Bool). T (not x)) (clashes-two n (levels_at t) lin i j h l) (clash-nothing lin.base (lin.labels i) (lin.labels j) lin.base-level high),
          );
    }
