-- The level of a term as a function of its parameters' levels: a base, joined with what each parameter's label makes of its level. It is said by upper bounds, so a join of two such
-- functions needs no law of joins.
use mathlib.Core.Bool.{Bool, cond, false, true}
use mathlib.Core.List.{List, [], ◌++◌, ◌∷◌}
use mathlib.Core.Logic.{◌↔◌}
use mathlib.Core.Option.{Option, none}
use mathlib.Core.Path.{◌∙◌, ◌≡◌, ap, refl, subst, subst⁻¹}
use borrow.Author.Tests.{eq-eqb, eqb-true}
use lib.Dec.{eqb, lit≤}
use lib.ListN.{get_or-eq_default, get_or, length, replicate}
use native.Mathlib.Decide.{dec_lt}
use native.Mathlib.Omega.{arith}
use Prim.Native.Nat.{◌<◌, suc, zero, ℕ}
use Rattle.theory.proofs.Labels.{Label, act, act-level, act-or, label_of, nowhere, or}
use Rattle.theory.proofs.Lattice.{below-incorrect, below_left, below_right, below_then, below-zero, higher-lowest, highest-lowest, highest-upper}
use Rattle.theory.proofs.Levels.{highest-level}
use Rattle.theory.proofs.Lists.{append-all, get_d-all, map-all, replicate-all, split-all}
use Rattle.theory.proofs.NearestMask.{Leads, PlaceKeeps, behind-level, binder-level, leads-masks, nearest-mask, none-keeps, own-level}
use Rattle.theory.specs.ExactCards.{Vector}
use Rattle.theory.specs.Lattice.{Below, higher}
use Rattle.theory.specs.Level.{IsLevel, Mask, binds_in, highest, row, variable_level}
use Rattle.theory.specs.Lists.{All}
use Rattle.theory.specs.NearestMask.{argument_levels, behind, masks, nearest, node_levels, own_level, row_own}
use Rattle.theory.specs.Term.{Head, Term, Terms, binder, bound, builtin, declared, declared_level, defined, leaf, leaf_level, level, long_way, param}
use Rattle.theory.specs.Tree.{◌▹◌, count, node, ⟨⟩}

-- m is above base b and above what each of n parameters, so labelled, adds at the levels v
abbrev pub Above : ℕ → ℕ → (ℕ → Label) → List ℕ → ℕ → Type 0
Above n b w v m = Below b m × ((i : ℕ) → i < n → Below (act (w i) (get_or v i 0)) m)

there : (xs : List ℕ) (i a b : ℕ) → i < length xs → get_or xs i a ≡ get_or xs i b
there [] i a b h = absurd (omega arith)
there (x ∷ xs) zero a b h = refl
there (x ∷ xs) (suc i) a b h = there xs i a b (omega arith)

higher-parts : (k l m : ℕ) → IsLevel k → IsLevel l → Below (higher k l) m → Below k m × Below l m
higher-parts k l m h i b = (below_then k (higher k l) m (below_left k l h i) b, below_then l (higher k l) m (below_right k l h i) b)

-- B v m: m is above something that depends on n levels v. It is linear if that is a base and what the parameters add.
pub record Linear (n : ℕ) (B : List ℕ → ℕ → Type 0) : Type 0 where
  pub base : ℕ
  pub base-level : IsLevel base
  pub labels : ℕ → Label
  pub bounds : (v : List ℕ) → Vector n v → (m : ℕ) → B v m ↔ Above n base labels v m

-- m is above all of some levels
abbrev AboveAll : (List ℕ → List ℕ) → List ℕ → ℕ → Type 0
AboveAll F v m = All (λ l. Below l m) (F v)

pub added-level : (n : ℕ) (v : List ℕ) → Vector n v → (w : Label) (i : ℕ) → IsLevel (act w (get_or v i 0))
added-level n v q w i = act-level w (get_or v i 0) (get_d-all IsLevel v i 0 q.1 (lit≤ tt))

module _ (n : ℕ) where
  constant-level : (l : ℕ) → IsLevel l → Linear n (AboveAll (λ v. l ∷ []))
  constant-level l h = record { base = l; base-level = h; labels = λ i. nowhere; bounds = λ v q m. (λ a. (a.0, λ i k. below-zero m), λ a. (a.0, tt)) }

  no-level : Linear n (AboveAll (λ v. []))
  no-level = record { base = 0; base-level = lit≤ tt; labels = λ i. nowhere; bounds = λ v q m. (λ a. (below-zero m, λ i k. below-zero m), λ a. tt) }

  labelled-level : (w : Label) (i : ℕ) → i < n → Linear n (AboveAll (λ v. act w (get_or v i 0) ∷ []))
  labelled-level w i h =
      record {
        base = 0;
        base-level = lit≤ tt;
        labels = λ j. cond (eqb i j) w nowhere;
        bounds = λ v q m. (λ a. (below-zero m, λ j k. to v m a.0 j (eqb i j) refl), λ a. (subst (λ (b : Bool). Below (act (cond b w nowhere) (get_or v i 0)) m) (eq-eqb i i refl) (a.1 i h), tt));
      }
    where
      to : (v : List ℕ) (m : ℕ) → Below (act w (get_or v i 0)) m → (j : ℕ) (b : Bool) → eqb i j ≡ b → Below (act (cond b w nowhere) (get_or v j 0)) m
      to v m a j true e = subst (λ (j : ℕ). Below (act w (get_or v j 0)) m) (eqb-true i j e) a
      to v m a j false e = below-zero m

  same-levels : (F G : List ℕ → List ℕ) → ((v : List ℕ) → Vector n v → F v ≡ G v) → Linear n (AboveAll G) → Linear n (AboveAll F)
  same-levels F G e g =
      record {
        base = g.base;
        base-level = g.base-level;
        labels = g.labels;
        bounds = λ v q m. subst⁻¹ (λ (ls : List ℕ). All (λ l. Below l m) ls ↔ Above n g.base g.labels v m) (e v q) (g.bounds v q m);
      }

  -- a parameter at a place that keeps joins; one that there is not is 4
  parameter : (p : Option Mask) → PlaceKeeps p → (i : ℕ) → Linear n (AboveAll (λ v. behind p (get_or v i 4) ∷ []))
  parameter p keeps i = go (dec_lt i n)
    where
      go : Dec (i < n) → Linear n (AboveAll (λ v. behind p (get_or v i 4) ∷ []))
      go (yes h) =
          same-levels _ (λ v. act (label_of p) (get_or v i 0) ∷ [])
          (λ v q. ap (λ (l : ℕ). l ∷ []) (ap (behind p) (there v i 4 0 (omega (arith, q.0))) ∙ keeps.labelled (get_or v i 0) (get_d-all IsLevel v i 0 q.1 (lit≤ tt))))
          (labelled-level (label_of p) i h)
      go (no h) =
          same-levels _ (λ v. behind p 4 ∷ []) (λ v q. ap (λ (l : ℕ). behind p l ∷ []) (get_or-eq_default v 4 {n = i} (omega (arith, q.0))))
          (constant-level (behind p 4) (behind-level p 4 (lit≤ tt)))

  both : (F G : List ℕ → List ℕ) → Linear n (AboveAll F) → Linear n (AboveAll G) → Linear n (AboveAll (λ v. F v ++ G v))
  both F G f g =
      record {
        base = higher f.base g.base;
        base-level = highest-level (f.base ∷ g.base ∷ []) (f.base-level, (g.base-level, tt));
        labels = λ i. or (f.labels i) (g.labels i);
        bounds = λ v q m. (up v q m, down v q m);
      }
    where
      added : (v : List ℕ) → Vector n v → (i : ℕ) → act (or (f.labels i) (g.labels i)) (get_or v i 0) ≡ higher (act (f.labels i) (get_or v i 0)) (act (g.labels i) (get_or v i 0))
      added v q i = act-or (f.labels i) (g.labels i) (get_or v i 0) (get_d-all IsLevel v i 0 q.1 (lit≤ tt))

      up : (v : List ℕ) (q : Vector n v) (m : ℕ) → All (λ l. Below l m) (F v ++ G v) → Above n (higher f.base g.base) (λ i. or (f.labels i) (g.labels i)) v m
      up v q m a =
          let s = split-all (λ l. Below l m) (F v) (G v) a in
          let x = (f.bounds v q m).0 s.0 in
          let y = (g.bounds v q m).0 s.1 in
          (higher-lowest _ _ m x.0 y.0, λ i k. subst⁻¹ (λ (l : ℕ). Below l m) (added v q i) (higher-lowest _ _ m (x.1 i k) (y.1 i k)))

      down : (v : List ℕ) (q : Vector n v) (m : ℕ) → Above n (higher f.base g.base) (λ i. or (f.labels i) (g.labels i)) v m → All (λ l. Below l m) (F v ++ G v)
      down v q m a =
          let b = higher-parts f.base g.base m f.base-level g.base-level a.0 in
          append-all (λ l. Below l m) (F v) (G v) ((f.bounds v q m).1 (b.0, λ i k. (parts i (a.1 i k)).0)) ((g.bounds v q m).1 (b.1, λ i k. (parts i (a.1 i k)).1))
        where
          parts : (i : ℕ) → Below (act (or (f.labels i) (g.labels i)) (get_or v i 0)) m → Below (act (f.labels i) (get_or v i 0)) m × Below (act (g.labels i) (get_or v i 0)) m
          parts i c = higher-parts _ _ m (added-level n v q (f.labels i) i) (added-level n v q (g.labels i) i) (subst (λ (l : ℕ). Below l m) (added v q i) c)

  -- Terms

  head : (h : Head) (k : ℕ) (β : List ℕ) (p : Option Mask) → All IsLevel β → PlaceKeeps p → Linear n (AboveAll (λ v. behind p (own_level v β h k) ∷ []))
  head (param i) k β p b keeps = parameter p keeps i
  head (bound j) k β p b keeps = constant-level (behind p (get_or β j 4)) (behind-level p _ (own-level [] β (bound j) k tt b))
  head (declared d x) k β p b keeps = constant-level (behind p (declared_level d x [])) (behind-level p _ (own-level [] β (declared d x) k tt b))
  head (defined g) k β p b keeps = constant-level (behind p 4) (behind-level p _ (lit≤ tt))
  head (builtin c) k β p b keeps = constant-level (behind p (row_own (row c) k)) (behind-level p _ (own-level [] β (builtin c) k tt b))
  head (leaf l) k β p b keeps = constant-level (behind p (leaf_level l)) (behind-level p _ (own-level [] β (leaf l) k tt b))

  mutual
    at-term : (t : Term) (β : List ℕ) (p : Option Mask) → All IsLevel β → PlaceKeeps p → Linear n (AboveAll (λ v. node_levels v β p t))
    at-term (node h ts) β p b keeps =
        let w = variable_level (binder h) in
        let s = binds_in (binder h) in
        let ms = masks h (count ts) in
        both (λ v. behind p (own_level v β h (count ts)) ∷ []) (λ v. argument_levels v β w s p ts ms) (head h (count ts) β p b keeps)
        (at-terms ts ms β w s p b (binder-level h) (leads-masks h (count ts)) keeps)

    at-terms : (ts : Terms) (ms : List Mask) (β : List ℕ) (w : ℕ) (s : ℕ → ℕ) (p : Option Mask) → All IsLevel β → IsLevel w → All Leads ms → PlaceKeeps p
        → Linear n (AboveAll (λ v. argument_levels v β w s p ts ms))
    at-terms ⟨⟩ ms β w s p b i leads keeps = no-level
    at-terms (t ▹ ts) [] β w s p b i leads keeps = no-level
    at-terms (t ▹ ts) (m ∷ ms) β w s p b i leads keeps =
        let β' = replicate (s 0) w ++ β in
        both (λ v. node_levels v β' (nearest p m) t) (λ v. argument_levels v β w (λ i. s (suc i)) p ts ms)
        (at-term t β' (nearest p m) (append-all IsLevel (replicate (s 0) w) β (replicate-all IsLevel (s 0) w i) b) (leads.0 p keeps))
        (at-terms ts ms β w (λ i. s (suc i)) p b i leads.1 keeps)

-- The level of every term is linear in any number of parameters.
pub level-linear : (n : ℕ) (t : Term) → Linear n (λ v m. Below (level long_way v t) m)
level-linear n t =
    record {
      base = f.base;
      base-level = f.base-level;
      labels = f.labels;
      bounds = λ v q m. subst⁻¹ (λ (x : ℕ). Below x m ↔ Above n f.base f.labels v m) (nearest-mask.nearest_masks v t q.1) (up v q m, λ a. highest-lowest (ls v) m ((f.bounds v q m).1 a));
    }
  where
    ls : List ℕ → List ℕ
    ls v = node_levels v [] none t

    f : Linear n (AboveAll ls)
    f = at-term n t [] none tt none-keeps

    levels : (v : List ℕ) → Vector n v → All IsLevel (ls v)
    levels v q =
        map-all (λ l. Below l 4) IsLevel (λ l b. b.0) (ls v)
        ((f.bounds v q 4).1 (below-incorrect f.base f.base-level, λ i k. below-incorrect _ (added-level n v q (f.labels i) i)))

    up : (v : List ℕ) → Vector n v → (m : ℕ) → Below (highest (ls v)) m → Above n f.base f.labels v m
    up v q m b = (f.bounds v q m).0 (map-all (λ l. Below l (highest (ls v))) (λ l. Below l m) (λ l r. below_then l _ m r b) (ls v) (highest-upper (ls v) (levels v q)))
