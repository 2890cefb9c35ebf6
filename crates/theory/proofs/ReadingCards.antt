-- Where the level is linear, what its card says at any vector is the level there.
use mathlib.Core.Bool.{Bool, ◌&&◌, ◌||◌, cond, false, not, true}
use mathlib.Core.List.{List, [], ◌∷◌, map}
use mathlib.Core.Logic.{◌⊎◌, inl, inr}
use mathlib.Core.Path.{◌∙◌, ◌≡◌, ap, refl, subst, subst⁻¹, sym}
use lib.Dec.{T, eqb, eqb→eq, lit≤}
use lib.ListN.{get_or}
use native.Mathlib.Decide.{dec_lt}
use native.Mathlib.Omega.{arith}
use Prim.Native.Nat.{◌<◌, ◌≤◌, ℕ}
use Rattle.limits.specs.Limits.{max_arity}
use Rattle.theory.proofs.CardBytes.{byte_at, pair-byte, taken-byte, weighted-byte}
use Rattle.theory.proofs.LabelCards.{adds, base-apart, clash-makes-4, clash-set, clash₂, taken₁, weight₁}
use Rattle.theory.proofs.Labels.{Label, act}
use Rattle.theory.proofs.Lattice.{below_right, below_then, higher-lowest, highest-lowest, highest-upper, lattice}
use Rattle.theory.proofs.Linear.{Linear, added-level}
use Rattle.theory.proofs.LinearProbes.{above, clashes-two, linear-level, takes_one, weighs-one, zero-probe}
use Rattle.theory.proofs.Lists.{and_both, and_parts, get_d-all, map_of}
use Rattle.theory.proofs.Numbers.{any-map, any_some, map_each, numbers-all, some-any}
use Rattle.theory.specs.Card.{card_of, is_pair, is_taken, is_weighted, read_card, some_not_taken, some_pair, weighted}
use Rattle.theory.specs.ExactCards.{Vector}
use Rattle.theory.specs.Lattice.{Below, higher}
use Rattle.theory.specs.Level.{IsLevel, highest, mixes, top, verdict}
use Rattle.theory.specs.Lists.{All, any, numbers_from}

double : (a : Bool) → T (not (not a)) → T a
double true t = tt
double false t = absurd t

module _ (n : ℕ) (f : List ℕ → ℕ) (fits : n ≤ max_arity) (lin : Linear n (λ v m. Below (f v) m)) (v : List ℕ) (q : Vector n v) where
  abbrev b : ℕ
  b = lin.base

  abbrev w : ℕ → Label
  w = lin.labels

  abbrev at : ℕ → ℕ
  at i = get_or v i 0

  abbrev byte : ℕ → ℕ
  byte = byte_at n f

  level-at : (i : ℕ) → IsLevel (at i)
  level-at i = get_d-all IsLevel v i 0 q.1 (lit≤ tt)

  -- what the bytes tell of a parameter and of two
  told-taken : (i : ℕ) → i < n → is_taken byte i (at i) ≡ taken₁ b (w i) (at i)
  told-taken i h = taken-byte n f fits i (at i) h (level-at i) ∙ takes_one n f lin i (at i) h (level-at i)

  told-weight : (i : ℕ) → i < n → is_weighted byte i ≡ weight₁ b (w i)
  told-weight i h = weighted-byte n f fits i h ∙ weighs-one n f lin i h

  told-pair : (i j : ℕ) → i < j → j < n → is_pair byte i j ≡ clash₂ b (w i) (w j)
  told-pair i j h k = pair-byte n f fits i j h k ∙ clashes-two n f lin i j h k

  -- "4 if a level is not taken",
  base-and : (i : ℕ) → i < n → Below (higher b (act (w i) (at i))) (f v)
  base-and i h = higher-lowest b (act (w i) (at i)) (f v) (above n f lin v q).0 ((above n f lin v q).1 i h)

  four : (x : ℕ) → 4 ≡ x → Below x (f v) → 4 ≡ f v
  four x e c = let h = linear-level n f lin v q in omega (arith, e, c.0, h)

  not_taken : T (some_not_taken byte v) → 4 ≡ f v
  unfolding card_of
  not_taken t =
      let r = any_some (λ i. not (is_taken byte i (at i))) 0 n t in
      let i = r.which in
      let h : i < n = omega (arith, r.below) in
      let x = higher b (act (w i) (at i)) in
      four x (eqb→eq 4 x (double (verdict x) (subst (λ (c : Bool). T (not c)) (told-taken i h) r.passes))) (base-and i h)

  -- "or a set pair holds a 2 and a 3";
  pair_set : T (some_pair byte v) → 4 ≡ f v
  unfolding card_of
  pair_set t =
      let r = any_some (λ j. any (λ i. is_pair byte i j && mixes (at i ∷ at j ∷ [])) (numbers_from 0 j)) 0 n t in
      let j = r.which in
      let s = any_some (λ i. is_pair byte i j && mixes (at i ∷ at j ∷ [])) 0 j r.passes in
      let i = s.which in
      let h : i < j = omega (arith, s.below) in
      let k : j < n = omega (arith, r.below) in
      let p = and_parts (is_pair byte i j) (mixes (at i ∷ at j ∷ [])) s.passes in
      four (higher (higher b (act (w i) (at i))) (act (w j) (at j)))
      (clash-makes-4 b (w i) (w j) (at i) (at j) lin.base-level (level-at i) (level-at j) p.1 (subst T (told-pair i j h k) p.0))
      (higher-lowest (higher b (act (w i) (at i))) (act (w j) (at j)) (f v) (base-and i (omega arith)) ((above n f lin v q).1 j k))

  -- "else the highest of byte 1 and the weighted levels"
  abbrev adding : ℕ → ℕ
  adding i = cond (is_weighted byte i) (at i) 0

  abbrev added : List ℕ
  added = map adding (numbers_from 0 n)

  adding-level : (i : ℕ) → IsLevel (adding i)
  adding-level i = go (is_weighted byte i)
    where
      go : (c : Bool) → IsLevel (cond c (at i) 0)
      go true = level-at i
      go false = lit≤ tt

  module _ (all-taken : some_not_taken byte v ≡ false) (no-pair : some_pair byte v ≡ false) where
    taken : (i : ℕ) → i < n → T (taken₁ b (w i) (at i))
    unfolding card_of
    taken i h = subst T (told-taken i h) (go (is_taken byte i (at i)) refl)
      where
        go : (c : Bool) → is_taken byte i (at i) ≡ c → T c
        go true e = tt
        go false e = subst T all-taken (some-any (λ i. not (is_taken byte i (at i))) 0 n i (omega arith) (omega arith) (subst⁻¹ (λ (c : Bool). T (not c)) e tt))

    adds-at : (i : ℕ) → i < n → higher b (act (w i) (at i)) ≡ higher b (adding i)
    adds-at i h =
        adds b (w i) (at i) lin.base-level (level-at i) (taken i h) ∙ ap (λ (c : Bool). higher b (cond c (at i) 0)) (sym (told-weight i h))

    joined : f v ≡ highest (b ∷ added)
    joined =
        let levels : All IsLevel added = map_of IsLevel adding (numbers_from 0 n) (numbers-all (λ i. IsLevel (adding i)) 0 n (λ i h k. adding-level i)) in
        let m = highest (b ∷ added) in
        let up = highest-upper (b ∷ added) (lin.base-level, levels) in
        lattice.antisymmetric (f v) m
        ((lin.bounds v q m).1 (
          up.0,
          λ i h.
              below_then (act (w i) (at i)) (higher b (act (w i) (at i))) m (below_right b (act (w i) (at i)) lin.base-level (added-level n v q (w i) i))
              (subst⁻¹ (λ (x : ℕ). Below x m) (adds-at i h) (higher-lowest b (adding i) m up.0 (map_each (λ l. Below l m) adding 0 n up.1 i (omega arith) (omega arith)))),
        ))
        (highest-lowest (b ∷ added) (f v) (
          (above n f lin v q).0,
          map_of (λ l. Below l (f v)) adding (numbers_from 0 n) (numbers-all (λ i. Below (adding i) (f v)) 0 n (λ i h k.
              let here : i < n = omega arith in
              below_then (adding i) (higher b (adding i)) (f v) (below_right b (adding i) lin.base-level (adding-level i)) (subst (λ (x : ℕ). Below x (f v)) (adds-at i here) (base-and i here)))),
        ))

    -- No 2 stands beside a 3 there: a weighted level is apart from the base, and from another by its pair.

    -- a weighted parameter is at l
    record Weighted (l : ℕ) : Type 0 where
      which : ℕ
      below : which < n
      weight : T (weight₁ b (w which))
      is : l ≡ at which

    found : (l : ℕ) → 0 < l → T (any (eqb l) (b ∷ added)) → (l ≡ b) ⊎ Weighted l
    found l some t = go (eqb l b) (eqb→eq l b) t
      where
        heeded : (i : ℕ) → i < n → (c : Bool) → is_weighted byte i ≡ c → l ≡ cond c (at i) 0 → Weighted l
        heeded i h true e d = record { which = i; below = h; weight = subst T (told-weight i h) (subst⁻¹ T e tt); is = d }
        heeded i h false e d = absurd (omega arith)

        go : (c : Bool) → (T c → l ≡ b) → T (c || any (eqb l) added) → (l ≡ b) ⊎ Weighted l
        go true e t = inl (e tt)
        go false e t =
            let r = any_some (λ i. eqb l (adding i)) 0 n (subst T (any-map (eqb l) adding (numbers_from 0 n)) t) in
            let i = r.which in
            inr (heeded i (omega (arith, r.below)) (is_weighted byte i) refl (eqb→eq l (adding i) r.passes))

    base-beside : (l : ℕ) → (x : Weighted l) → T (not (mixes (b ∷ l ∷ [])))
    base-beside l x =
        let i = x.which in
        subst⁻¹ (λ (k : ℕ). T (not (mixes (b ∷ k ∷ [])))) x.is (base-apart b (w i) (at i) lin.base-level (level-at i) (taken i x.below) x.weight)

    beside : (i j : ℕ) → i < j → j < n → T (weight₁ b (w i)) → T (weight₁ b (w j)) → T (mixes (at i ∷ at j ∷ [])) → ⊥
    unfolding card_of
    beside i j h k x y m =
        let heeds : (i : ℕ) → i < n → T (weight₁ b (w i)) → T (taken₁ b (w i) (at i) && weight₁ b (w i)) = λ i h x. and_both (taken₁ b (w i) (at i)) (weight₁ b (w i)) (taken i h) x in
        let both = and_both (taken₁ b (w i) (at i) && weight₁ b (w i)) (taken₁ b (w j) (at j) && weight₁ b (w j)) (heeds i (omega arith) x) (heeds j k y) in
        let clash = clash-set b (w i) (w j) (at i) (at j) lin.base-level (level-at i) (level-at j) m both in
        subst T no-pair
        (some-any (λ j. any (λ i. is_pair byte i j && mixes (at i ∷ at j ∷ [])) (numbers_from 0 j)) 0 n j (omega arith) (omega arith)
        (some-any (λ i. is_pair byte i j && mixes (at i ∷ at j ∷ [])) 0 j i (omega arith) (omega arith)
        (and_both (is_pair byte i j) (mixes (at i ∷ at j ∷ [])) (subst⁻¹ T (told-pair i j h k) clash) m)))

    unmixed : mixes (b ∷ added) ≡ false
    unmixed = go (mixes (b ∷ added)) refl
      where
        pair : Weighted 2 → Weighted 3 → ⊥
        pair x y = order (dec_lt x.which y.which) (dec_lt y.which x.which)
          where
            order : Dec (x.which < y.which) → Dec (y.which < x.which) → ⊥
            order (yes h) k = beside x.which y.which h y.below x.weight y.weight (rw (← x.is, ← y.is) tt)
            order (no h) (yes k) = beside y.which x.which k x.below y.weight x.weight (rw (← x.is, ← y.is) tt)
            order (no h) (no k) =
                let e : x.which ≡ y.which = omega arith in
                omega (arith, x.is ∙ ap at e, y.is)

        apart : ((2 ≡ b) ⊎ Weighted 2) → ((3 ≡ b) ⊎ Weighted 3) → ⊥
        apart (inl d) (inl e) = omega (arith, d, e)
        apart (inl d) (inr y) = subst⁻¹ (λ (b : ℕ). T (not (mixes (b ∷ 3 ∷ [])))) d (base-beside 3 y)
        apart (inr x) (inl e) = subst⁻¹ (λ (b : ℕ). T (not (mixes (b ∷ 2 ∷ [])))) e (base-beside 2 x)
        apart (inr x) (inr y) = pair x y

        go : (c : Bool) → mixes (b ∷ added) ≡ c → c ≡ false
        go true e =
            let p = and_parts (any (eqb 2) (b ∷ added)) (any (eqb 3) (b ∷ added)) (subst⁻¹ T e tt) in
            absurd (apart (found 2 (omega arith) p.0) (found 3 (omega arith) p.1))
        go false e = refl

  pub card-reads : read_card (card_of n f) v ≡ f v
  unfolding card_of
  card-reads = go (some_not_taken byte v) (some_pair byte v) refl refl
    where
      go : (c d : Bool) → some_not_taken byte v ≡ c → some_pair byte v ≡ d → cond (c || d) 4 (top (byte 1 ∷ weighted byte v)) ≡ f v
      go true d e g = not_taken (subst⁻¹ T e tt)
      go false true e g = pair_set (subst⁻¹ T g tt)
      go false false e g =
          ap (λ (x : ℕ). top (x ∷ added)) (zero-probe n f lin) ∙ ap (λ (c : Bool). cond c 4 (top (b ∷ added))) (sym (unmixed e g)) ∙ sym (joined e g)
