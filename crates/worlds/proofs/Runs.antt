-- Lists of definitions are made of whole runs: the numbers that one field added stand together, in their order, in every module that has one
-- of them.
use borrow.Author.Tests.{eq-eqb, ne_eqb}
use mathlib.Core.List.{List, [], ◌++◌, ◌∷◌, append_assoc, append-nil}
use mathlib.Core.Logic.{◌⊎◌, inl, inr}
use mathlib.Core.Path.{◌∙◌, ◌≡◌, ap, ap₂, refl, subst, sym}
use lib.Dec.{eqb}
use lib.ListN.{length, length-append}
use native.Mathlib.Decide.{dec_le, dec_lt}
use native.Mathlib.Omega.{arith}
use Prim.Native.Nat.{◌+◌, ◌-◌, ◌<◌, ◌≤◌, suc, zero, ℕ}
use Rattle.laws.proofs.Origins.{Some, some_left, some_right}
use Rattle.theory.proofs.Lists.{append-all, map-all}
use Rattle.theory.specs.Lists.{All, numbers_from, union}
use Rattle.worlds.proofs.Places.{Once, case, in_left, in_right, insert-in, insert-out, place-left, place-next, place-right, union-append}
use Rattle.worlds.specs.World.{In, place}

-- the first number of a run, and how many there are
abbrev pub Run : Type 0
Run = ℕ × ℕ

abbrev pub InRun : Run → ℕ → Type 0
InRun r g = (r.0 ≤ g) × (g < r.0 + r.1)

in-run? : (r : Run) (g : ℕ) → InRun r g ⊎ (InRun r g → ⊥)
in-run? r g = at (dec_le r.0 g) (dec_lt g (r.0 + r.1))
  where
    at : Dec (r.0 ≤ g) → Dec (g < r.0 + r.1) → InRun r g ⊎ (InRun r g → ⊥)
    at (yes a) (yes b) = inl (a, b)
    at (yes a) (no b) = inr (λ h. b h.1)
    at (no a) (yes b) = inr (λ h. a h.0)
    at (no a) (no b) = inr (λ h. a h.0)

pub length_run : (f n : ℕ) → length (numbers_from f n) ≡ n
length_run f zero = refl
length_run f (suc n) = ap suc (length_run (suc f) n)

pub place-run : (f n g : ℕ) → f ≤ g → g < f + n → place g (numbers_from f n) ≡ g - f
place-run f zero g h k = absurd (omega arith)
place-run f (suc n) g h k =
    case g f (λ e. rw (eq-eqb g f e) (omega arith))
    (λ (d : g ≡ f → ⊥). let l : suc f ≤ g = omega arith in
    rw (ne_eqb g f d, place-run (suc f) n g l (omega arith)) (omega arith))

place-not : (f n g : ℕ) → (InRun (f, n) g → ⊥) → place g (numbers_from f n) ≡ n
place-not f zero g h = refl
place-not f (suc n) g h =
    case g f (λ e. absurd (h (omega arith, omega arith)))
    (λ d. rw (ne_eqb g f d) (ap suc (place-not (suc f) n g (λ k. h (omega (arith, k.0), omega (arith, k.1))))))

-- a list of runs, one after the other
abbrev pub flat : List Run → List ℕ
flat [] = []
flat (r ∷ rs) = numbers_from r.0 r.1 ++ flat rs

flat_append : (rs ss : List Run) → flat (rs ++ ss) ≡ flat rs ++ flat ss
flat_append [] ss = refl
flat_append (r ∷ rs) ss = ap (λ (l : List ℕ). numbers_from r.0 r.1 ++ l) (flat_append rs ss) ∙ sym (append_assoc (numbers_from r.0 r.1) (flat rs) (flat ss))

abbrev pub Has : Run → List Run → Type 0
Has r rs = Some (λ s. r ≡ s) rs

-- two runs of the file that share a number are one
abbrev pub Disjoint : List Run → Type 0
Disjoint bs = (r s : Run) (g : ℕ) → Has r bs → Has s bs → InRun r g → InRun s g → r ≡ s

-- a list made of whole runs of the file
pub record Whole (bs : List Run) (gs : List ℕ) : Type 0 where
  pub runs : List Run
  pub made : gs ≡ flat runs
  pub there : All (λ r. Has r bs) runs

has_all : (bs rs : List Run) (r : Run) → All (λ r. Has r bs) rs → Has r rs → Has r bs
has_all bs [] r h k = absurd k
has_all bs (s ∷ rs) r h (inl e) = subst (λ (z : Run). Has z bs) (sym e) h.0
has_all bs (s ∷ rs) r h (inr k) = has_all bs rs r h.1 k

-- what stands in such a list stands in one of its runs,
in-flat : (rs : List Run) (g : ℕ) → In g (flat rs) → (r : Run) × Has r rs × InRun r g
in-flat [] g h = absurd (omega arith)
in-flat (r ∷ rs) g h = at (in-run? r g) (λ k. in-flat rs g k)
  where
    at : InRun r g ⊎ (InRun r g → ⊥) → (In g (flat rs) → (s : Run) × Has s rs × InRun s g) → (s : Run) × Has s (r ∷ rs) × InRun s g
    at (inl w) below = (r, inl refl, w)
    at (inr w) below =
        let q = place-not r.0 r.1 g w in
        let n = length_run r.0 r.1 in
        let m = length-append (numbers_from r.0 r.1) (flat rs) in
        let p = place-right g (numbers_from r.0 r.1) (flat rs) (omega arith) in
        let k = below (omega arith) in
        (k.0, inr k.1, k.2)

-- with the whole run
run_in : (rs : List Run) (r : Run) (g : ℕ) → Has r rs → InRun r g → In g (flat rs)
run_in [] r g h w = absurd h
run_in (s ∷ rs) r g (inl e) w =
    subst (λ (z : Run). In g (numbers_from z.0 z.1 ++ flat rs)) e
    (in_left g (numbers_from r.0 r.1) (flat rs) (rw (place-run r.0 r.1 g w.0 w.1, length_run r.0 r.1) (omega (arith, w.0, w.1))))
run_in (s ∷ rs) r g (inr h) w = in_right g (numbers_from s.0 s.1) (flat rs) (run_in rs r g h w)

module _ (bs : List Run) (disjoint : Disjoint bs) where
  -- a run of the file of which one number stands in a list of whole runs
  pub whole_run : (gs : List ℕ) → Whole bs gs → (r : Run) → Has r bs → (g h : ℕ) → InRun r g → In g gs → InRun r h → In h gs
  whole_run gs w r k g h a i b =
      let f = in-flat w.runs g (subst (In g) w.made i) in
      let e = disjoint r f.0 g k (has_all bs w.runs f.0 w.there f.1) a f.2 in
      subst (In h) (sym w.made) (run_in w.runs f.0 h f.1 (subst (λ (z : Run). InRun z h) e b))

  place-flat : (rs : List Run) → All (λ r. Has r bs) rs → (r : Run) → Has r bs → (g : ℕ) → InRun r g → In g (flat rs) → place g (flat rs) ≡ place r.0 (flat rs) + (g - r.0)
  place-flat [] a r k g w i = absurd (omega arith)
  place-flat (s ∷ rs) a r k g w i = at (in-run? s g) (λ j. place-flat rs a.1 r k g w j)
    where
      at : InRun s g ⊎ (InRun s g → ⊥) → (In g (flat rs) → place g (flat rs) ≡ place r.0 (flat rs) + (g - r.0))
          → place g (flat (s ∷ rs)) ≡ place r.0 (flat (s ∷ rs)) + (g - r.0)
      at (inl v) below =
          let e = disjoint r s g k a.0 w v in
          let p = place-run r.0 r.1 g w.0 w.1 in
          let q = place-run r.0 r.1 r.0 (omega arith) (omega (arith, w.0, w.1)) in
          let n = length_run r.0 r.1 in
          let x = place-left g (numbers_from r.0 r.1) (flat rs) (omega (arith, w.0, w.1)) in
          let y = place-left r.0 (numbers_from r.0 r.1) (flat rs) (omega (arith, w.0, w.1)) in
          subst (λ (z : Run). place g (numbers_from z.0 z.1 ++ flat rs) ≡ place r.0 (numbers_from z.0 z.1 ++ flat rs) + (g - r.0)) e
          (omega arith)
      at (inr v) below =
          let other : InRun s r.0 → ⊥ = λ u. v (subst (λ (z : Run). InRun z g) (disjoint r s r.0 k a.0 (omega arith, omega (arith, w.0, w.1)) u) w) in
          let p = place-not s.0 s.1 g v in
          let q = place-not s.0 s.1 r.0 other in
          let n = length_run s.0 s.1 in
          let m = length-append (numbers_from s.0 s.1) (flat rs) in
          let x = place-right g (numbers_from s.0 s.1) (flat rs) (omega arith) in
          let y = place-right r.0 (numbers_from s.0 s.1) (flat rs) (omega arith) in
          let b = below (omega arith) in
          omega arith

  -- Runs are contiguous: in every list of whole runs a number stands as far behind the first of its run as it is above it.
  pub contiguous : (gs : List ℕ) → Whole bs gs → (r : Run) → Has r bs → (g : ℕ) → InRun r g → In g gs → place g gs ≡ place r.0 gs + (g - r.0)
  contiguous gs w r k g a i =
      subst (λ (l : List ℕ). place g l ≡ place r.0 l + (g - r.0)) (sym w.made) (place-flat w.runs w.there r k g a (subst (In g) w.made i))

  union-same : (xs : List ℕ) (f n : ℕ) → ((g : ℕ) → InRun (f, n) g → In g xs) → union eqb xs (numbers_from f n) ≡ xs
  union-same xs f zero h = refl
  union-same xs f (suc n) h =
      ap (λ (l : List ℕ). union eqb l (numbers_from (suc f) n)) (insert-in xs f (h f (omega arith, omega arith)))
      ∙ union-same xs (suc f) n (λ g w. h g (omega (arith, w.0), omega (arith, w.1)))

  union-fresh : (xs : List ℕ) (f n : ℕ) → ((g : ℕ) → InRun (f, n) g → length xs ≤ place g xs) → union eqb xs (numbers_from f n) ≡ xs ++ numbers_from f n
  union-fresh xs f zero h = sym (append-nil xs)
  union-fresh xs f (suc n) h =
      ap (λ (l : List ℕ). union eqb l (numbers_from (suc f) n)) (insert-out xs f (h f (omega arith, omega arith)))
      ∙ union-fresh (xs ++ (f ∷ [])) (suc f) n
      (λ g w.
      let p = h g (omega (arith, w.0), omega (arith, w.1)) in
      let d : g ≡ f → ⊥ = λ (e : g ≡ f). omega (arith, w.0) in
      let q = place-right g xs (f ∷ []) p in
      let u = place-next g f [] d in
      let m = length-append xs (f ∷ []) in
      omega arith)
      ∙ append_assoc xs (f ∷ []) (numbers_from (suc f) n)

  whole-run-union : (xs : List ℕ) → Whole bs xs → (r : Run) → Has r bs → Whole bs (union eqb xs (numbers_from r.0 r.1))
  whole-run-union xs w r k = at (dec_lt (place r.0 xs) (length xs)) (dec_lt 0 r.1)
    where
      fresh : ((g : ℕ) → InRun r g → length xs ≤ place g xs) → Whole bs (union eqb xs (numbers_from r.0 r.1))
      fresh h =
          record {
            runs = w.runs ++ (r ∷ []);
            made =
                union-fresh xs r.0 r.1 h ∙ ap₂ ◌++◌ w.made (sym (append-nil (numbers_from r.0 r.1))) ∙ sym (flat_append w.runs (r ∷ []));
            there = append-all (λ r. Has r bs) w.runs (r ∷ []) w.there (k, tt);
          }

      at : Dec (place r.0 xs < length xs) → Dec (0 < r.1) → Whole bs (union eqb xs (numbers_from r.0 r.1))
      at (yes i) (yes p) =
          subst (Whole bs) (sym (union-same xs r.0 r.1 (λ g a. whole_run xs w r k r.0 g (omega arith, omega arith) i a))) w
      at (yes i) (no p) = fresh (λ g a. absurd (omega (arith, a.0, a.1)))
      at (no i) (yes p) =
          fresh λ g a. not_in g a (dec_lt (place g xs) (length xs))
        where
          not_in : (g : ℕ) → InRun r g → Dec (place g xs < length xs) → length xs ≤ place g xs
          not_in g a (yes j) = absurd (i (whole_run xs w r k g r.0 a j (omega arith, omega arith)))
          not_in g a (no j) = omega arith
      at (no i) (no p) = fresh (λ g a. absurd (omega (arith, a.0, a.1)))

  -- EXTENDS keeps runs whole
  pub whole-union : (xs : List ℕ) → Whole bs xs → (ys : List ℕ) → Whole bs ys → Whole bs (union eqb xs ys)
  whole-union xs w ys v = subst (λ (l : List ℕ). Whole bs (union eqb xs l)) (sym v.made) (go v.runs xs w v.there)
    where
      go : (rs : List Run) (xs : List ℕ) → Whole bs xs → All (λ r. Has r bs) rs → Whole bs (union eqb xs (flat rs))
      go [] xs w a = w
      go (r ∷ rs) xs w a =
          subst (Whole bs) (sym (union-append xs (numbers_from r.0 r.1) (flat rs)))
          (go rs (union eqb xs (numbers_from r.0 r.1)) (whole-run-union xs w r a.0) a.1)

pub once-run : (f n : ℕ) → Once (numbers_from f n)
once-run f zero = tt
once-run f (suc n) = (rw (place-not (suc f) n f (λ w. omega (arith, w.0)), length_run (suc f) n) (omega arith), once-run (suc f) n)

pub in-run : (f n g : ℕ) → In g (numbers_from f n) → InRun (f, n) g
in-run f n g h = at (in-run? (f, n) g)
  where
    at : InRun (f, n) g ⊎ (InRun (f, n) g → ⊥) → InRun (f, n) g
    at (inl w) = w
    at (inr w) = let q = place-not f n g w in let l = length_run f n in absurd (omega arith)

-- More runs known

pub has_left : (r : Run) (bs cs : List Run) → Has r bs → Has r (bs ++ cs)
has_left r bs cs h = some_left (λ s. r ≡ s) bs cs h

pub has_last : (r : Run) (bs : List Run) → Has r (bs ++ (r ∷ []))
has_last r bs = some_right (λ s. r ≡ s) bs (r ∷ []) (inl refl)

pub has-snoc : (r : Run) (bs : List Run) (b : Run) → Has r (bs ++ (b ∷ [])) → Has r bs ⊎ (r ≡ b)
has-snoc r [] b (inl e) = inr e
has-snoc r [] b (inr h) = absurd h
has-snoc r (c ∷ bs) b (inl e) = inl (inl e)
has-snoc r (c ∷ bs) b (inr h) = at (has-snoc r bs b h)
  where
    at : Has r bs ⊎ (r ≡ b) → Has r (c ∷ bs) ⊎ (r ≡ b)
    at (inl k) = inl (inr k)
    at (inr e) = inr e

pub whole-more : (bs cs : List Run) (gs : List ℕ) → Whole bs gs → Whole (bs ++ cs) gs
whole-more bs cs gs w = record { runs = w.runs; made = w.made; there = map-all (λ r. Has r bs) (λ r. Has r (bs ++ cs)) (λ r h. has_left r bs cs h) w.runs w.there }

pub whole-snoc : (bs : List Run) (gs : List ℕ) (r : Run) → Whole bs gs → Has r bs → Whole bs (gs ++ numbers_from r.0 r.1)
whole-snoc bs gs r w h =
    record {
      runs = w.runs ++ (r ∷ []);
      made = ap₂ ◌++◌ w.made (sym (append-nil (numbers_from r.0 r.1))) ∙ sym (flat_append w.runs (r ∷ []));
      there = append-all (λ r. Has r bs) w.runs (r ∷ []) w.there (h, tt);
    }
