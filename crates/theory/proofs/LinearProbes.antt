-- What a card finds where the level is linear: of each parameter, and of each two, only the base and their labels count.
use mathlib.Core.List.{List, [], ◌∷◌}
use mathlib.Core.Path.{◌∙◌, ◌≡◌, ap, refl, subst, subst⁻¹, sym}
use lib.ListN.{get_or, length, length-set, replicate, set}
use lib.Seq.{get_or-set_other, get_or-set_same}
use native.Mathlib.Decide.{ℕ_discrete}
use native.Mathlib.Omega.{arith}
use Prim.Native.Nat.{◌<◌, ℕ}
use Rattle.theory.proofs.Cards.{set-vector, zeros}
use Rattle.theory.proofs.Labels.{Label, act, act-level, act-zero}
use Rattle.theory.proofs.Lattice.{below-incorrect, below_left, below_right, below-same, below_then, below-zero, higher-lowest, lattice}
use Rattle.theory.proofs.Levels.{highest-level}
use Rattle.theory.proofs.Linear.{Above, Linear, added-level}
use Rattle.theory.proofs.Lists.{get_d-all, replicate-all}
use Rattle.theory.proofs.NearestMask.{to-zero}
use Rattle.theory.proofs.Probes.{clashes-same, mask-same, takes_same, weighs-same}
use Rattle.theory.specs.Card.{alone, at_zero, clashes, mask_of, takes, together, weighs}
use Rattle.theory.specs.ExactCards.{Vector}
use Rattle.theory.specs.Lattice.{Below, higher}
use Rattle.theory.specs.Level.{IsLevel}

-- the level of one parameter, and of two, by a base and labels
abbrev pub one : ℕ → Label → List ℕ → ℕ
one b w v = higher b (act w (get_or v 0 0))

abbrev pub two : ℕ → Label → Label → List ℕ → ℕ
two b w u v = higher (higher b (act w (get_or v 0 0))) (act u (get_or v 1 0))

abbrev noughts : ℕ → List ℕ
noughts n = replicate n 0

zero-at : (n i : ℕ) → get_or (noughts n) i 0 ≡ 0
zero-at n i = get_d-all (λ (x : ℕ). x ≡ 0) (noughts n) i 0 (replicate-all (λ (x : ℕ). x ≡ 0) n 0 refl) refl

module _ (n : ℕ) (f : List ℕ → ℕ) (lin : Linear n (λ v m. Below (f v) m)) where
  abbrev b : ℕ
  b = lin.base

  abbrev w : ℕ → Label
  w = lin.labels

  -- the level is above the base and what each parameter adds, and below whatever is
  pub above : (v : List ℕ) → Vector n v → Above n b w v (f v)
  above v q = (lin.bounds v q (f v)).0 (below-same (f v))

  pub linear-level : (v : List ℕ) → Vector n v → IsLevel (f v)
  linear-level v q = ((lin.bounds v q 4).1 (below-incorrect b lin.base-level, λ i h. below-incorrect _ (added-level n v q (w i) i))).0

  -- levels that add the same give the same
  pub same-added : (u v : List ℕ) → Vector n u → Vector n v → ((i : ℕ) → i < n → act (w i) (get_or u i 0) ≡ act (w i) (get_or v i 0)) → f u ≡ f v
  same-added u v p q e =
      lattice.antisymmetric (f u) (f v) ((lin.bounds u p (f v)).1 ((above v q).0, λ i h. subst⁻¹ (λ (x : ℕ). Below x (f v)) (e i h) ((above v q).1 i h)))
      ((lin.bounds v q (f u)).1 ((above u p).0, λ i h. subst (λ (x : ℕ). Below x (f u)) (e i h) ((above u p).1 i h)))

  -- where all but two parameters, or one, are at 0
  probe : (v : List ℕ) → Vector n v → (i k m : ℕ) → ((j : ℕ) → ¬ (j ≡ i) → ¬ (j ≡ k) → get_or v j 0 ≡ 0)
      → Below b m → Below (act (w i) (get_or v i 0)) m → Below (act (w k) (get_or v k 0)) m → Below (f v) m
  probe v q i k m rest base first second = (lin.bounds v q m).1 (base, λ j h. go j (ℕ_discrete j i) (ℕ_discrete j k))
    where
      go : (j : ℕ) → Dec (j ≡ i) → Dec (j ≡ k) → Below (act (w j) (get_or v j 0)) m
      go j (yes e) d = subst⁻¹ (λ (j : ℕ). Below (act (w j) (get_or v j 0)) m) e first
      go j (no e) (yes d) = subst⁻¹ (λ (j : ℕ). Below (act (w j) (get_or v j 0)) m) d second
      go j (no e) (no d) = subst⁻¹ (λ (l : ℕ). Below l m) (ap (act (w j)) (rest j e d) ∙ act-zero (w j)) (below-zero m)

  there : (i : ℕ) → i < n → i < length (noughts n)
  there i h = omega (arith, (zeros n).0)

  pub zero-probe : at_zero n f ≡ b
  zero-probe =
      lattice.antisymmetric (f (noughts n)) b
      ((lin.bounds (noughts n) (zeros n) b).1 (below-same b, λ i h. subst⁻¹ (λ (l : ℕ). Below l b) (ap (act (w i)) (zero-at n i) ∙ act-zero (w i)) (below-zero b)))
      (above (noughts n) (zeros n)).0

  pub alone-probe : (i l : ℕ) → i < n → IsLevel l → alone n f i l ≡ higher b (act (w i) l)
  alone-probe i l h k =
      let v = set (noughts n) i l in
      let q = set-vector n (noughts n) i l (zeros n) k in
      let x = act (w i) l in
      let here : get_or v i 0 ≡ l = get_or-set_same (noughts n) i l 0 (there i h) in
      let up = subst⁻¹ (λ (y : ℕ). Below (act (w i) y) (higher b x)) here (below_right b x lin.base-level (act-level (w i) l k)) in
      lattice.antisymmetric (f v) (higher b x)
      (probe v q i i (higher b x) (λ j d e. get_or-set_other (noughts n) i j l 0 d ∙ zero-at n j) (below_left b x lin.base-level (act-level (w i) l k)) up up)
      (higher-lowest b x (f v) (above v q).0 (subst (λ (y : ℕ). Below (act (w i) y) (f v)) here ((above v q).1 i h)))

  together-probe : (i j l k : ℕ) → i < j → j < n → IsLevel l → IsLevel k → together n f i l j k ≡ higher (higher b (act (w i) l)) (act (w j) k)
  together-probe i j l k h below p r =
      let u = set (noughts n) i l in
      let v = set u j k in
      let q = set-vector n u j k (set-vector n (noughts n) i l (zeros n) p) r in
      let x = act (w i) l in
      let y = act (w j) k in
      let a = act-level (w i) l p in
      let c = act-level (w j) k r in
      let d = highest-level (b ∷ x ∷ []) (lin.base-level, (a, tt)) in
      let m = higher (higher b x) y in
      let first : get_or v i 0 ≡ l = get_or-set_other u j i k 0 (λ e. omega arith) ∙ get_or-set_same (noughts n) i l 0 (there i (omega arith)) in
      let second : get_or v j 0 ≡ k = get_or-set_same u j k 0 (subst⁻¹ (λ (m : ℕ). j < m) (length-set (noughts n) i l) (there j below)) in
      lattice.antisymmetric (f v) m
      (probe v q i j m (λ t e g. get_or-set_other u j t k 0 g ∙ get_or-set_other (noughts n) i t l 0 e ∙ zero-at n t)
      (below_then b (higher b x) m (below_left b x lin.base-level a) (below_left (higher b x) y d c))
      (subst⁻¹ (λ (z : ℕ). Below (act (w i) z) m) first (below_then x (higher b x) m (below_right b x lin.base-level a) (below_left (higher b x) y d c)))
      (subst⁻¹ (λ (z : ℕ). Below (act (w j) z) m) second (below_right (higher b x) y d c)))
      (higher-lowest (higher b x) y (f v)
      (higher-lowest b x (f v) (above v q).0 (subst (λ (z : ℕ). Below (act (w i) z) (f v)) first ((above v q).1 i (omega arith))))
      (subst (λ (z : ℕ). Below (act (w j) z) (f v)) second ((above v q).1 j below)))

  -- so what the card says of a parameter is what it would say of that one alone,
  pub takes_one : (i l : ℕ) → i < n → IsLevel l → takes n f i l ≡ takes 1 (one b (w i)) 0 l
  takes_one i l h k = takes_same n 1 f (one b (w i)) i 0 (λ l k. alone-probe i l h k) l k

  pub mask_one : (i : ℕ) → i < n → mask_of n f i ≡ mask_of 1 (one b (w i)) 0
  mask_one i h = mask-same n 1 f (one b (w i)) i 0 (λ l k. alone-probe i l h k)

  pub weighs-one : (i : ℕ) → i < n → weighs n f i ≡ weighs 1 (one b (w i)) 0
  weighs-one i h =
      weighs-same n 1 f (one b (w i)) i 0 (λ l k. alone-probe i l h k) (zero-probe ∙ sym (ap (higher b) (act-zero (w i)) ∙ to-zero b lin.base-level))

  -- and of two what it would say of those two
  pub clashes-two : (i j : ℕ) → i < j → j < n → clashes n f i j ≡ clashes 2 (two b (w i) (w j)) 0 1
  clashes-two i j h k =
      clashes-same n 2 f (two b (w i) (w j)) i j 0 1
      (λ l p.
      let x = act-level (w i) l p in
      alone-probe i l (omega arith) p ∙ sym (ap (higher (higher b (act (w i) l))) (act-zero (w j)) ∙ to-zero (higher b (act (w i) l)) (highest-level (b ∷ act (w i) l ∷ []) (lin.base-level, (x, tt)))))
      (λ l p. alone-probe j l k p ∙ sym (ap (λ (x : ℕ). higher x (act (w j) l)) (ap (higher b) (act-zero (w i)) ∙ to-zero b lin.base-level)))
      (λ l m p q. together-probe i j l m h k p q)
