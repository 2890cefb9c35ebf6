-- Places of numbers in lists, and what unions do to them.
use borrow.Author.Tests.{eq-eqb, eqb-false, eqb-true, ne_eqb}
use mathlib.Core.Bool.{Bool, cond, false, true}
use mathlib.Core.List.{List, [], ◌++◌, ◌∷◌}
use mathlib.Core.Logic.{◌⊎◌, inl, inr}
use mathlib.Core.Path.{◌∙◌, ◌≡◌, ap, refl, subst, sym}
use lib.Dec.{eqb}
use lib.ListN.{get_or, length, length-append}
use native.Mathlib.Decide.{dec_lt}
use native.Mathlib.Omega.{arith}
use Prim.Native.Nat.{◌+◌, ◌<◌, ◌≤◌, suc, zero, ℕ}
use Rattle.theory.specs.Lists.{All, any, union}
use Rattle.worlds.specs.World.{In, place}

pub case : {P : Type 0} (g x : ℕ) → ((g ≡ x) → P) → ((g ≡ x → ⊥) → P) → P
case {P} g x y n = at (eqb g x) refl
  where
    at : (b : Bool) → eqb g x ≡ b → P
    at true e = y (eqb-true g x e)
    at false e = n (eqb-false g x e)

pub place_here : (g : ℕ) (xs : List ℕ) → place g (g ∷ xs) ≡ 0
place_here g xs = rw (eq-eqb g g refl)

pub place-next : (g x : ℕ) (xs : List ℕ) → (g ≡ x → ⊥) → place g (x ∷ xs) ≡ suc (place g xs)
place-next g x xs n = rw (ne_eqb g x n)

pub place-le : (g : ℕ) (xs : List ℕ) → place g xs ≤ length xs
place-le g [] = omega arith
place-le g (x ∷ xs) = case g x (λ e. rw (eq-eqb g x e) (omega arith)) (λ n. rw (ne_eqb g x n) (omega (arith, place-le g xs)))

pub place-left : (g : ℕ) (xs ys : List ℕ) → In g xs → place g (xs ++ ys) ≡ place g xs
place-left g [] ys h = absurd (omega arith)
place-left g (x ∷ xs) ys h =
    case g x (λ e. rw (eq-eqb g x e))
    (λ n. let q = place-next g x xs n in
    place-next g x (xs ++ ys) n ∙ ap suc (place-left g xs ys (omega arith)) ∙ sym q)

pub place-right : (g : ℕ) (xs ys : List ℕ) → length xs ≤ place g xs → place g (xs ++ ys) ≡ length xs + place g ys
place-right g [] ys h = omega arith
place-right g (x ∷ xs) ys h =
    case g x (λ e. absurd (omega (arith, subst (λ (z : ℕ). place g (z ∷ xs) ≡ 0) e (place_here g xs))))
    (λ n. let q = place-next g x xs n in
    place-next g x (xs ++ ys) n ∙ ap suc (place-right g xs ys (omega arith)) ∙ omega arith)

pub in_left : (g : ℕ) (xs ys : List ℕ) → In g xs → In g (xs ++ ys)
in_left g xs ys h = rw (place-left g xs ys h, length-append xs ys) (omega arith)

pub in_split : (g : ℕ) (xs ys : List ℕ) → In g (xs ++ ys) → In g xs ⊎ In g ys
in_split g xs ys h = at (dec_lt (place g xs) (length xs))
  where
    at : Dec (place g xs < length xs) → In g xs ⊎ In g ys
    at (yes k) = inl k
    at (no k) =
        let q = place-right g xs ys (omega arith) in
        let n = length-append xs ys in
        inr (omega arith)

pub in_right : (g : ℕ) (xs ys : List ℕ) → In g ys → In g (xs ++ ys)
in_right g xs ys h = at (dec_lt (place g xs) (length xs))
  where
    at : Dec (place g xs < length xs) → In g (xs ++ ys)
    at (yes k) = in_left g xs ys k
    at (no k) =
        let q = place-right g xs ys (omega arith) in
        let n = length-append xs ys in
        omega arith

pub in-here : (g : ℕ) (xs : List ℕ) → In g (g ∷ xs)
in-here g xs = rw (place_here g xs) (omega arith)

pub get_d-place : (g : ℕ) (xs : List ℕ) (d : ℕ) → In g xs → get_or xs (place g xs) d ≡ g
get_d-place g [] d h = absurd (omega arith)
get_d-place g (x ∷ xs) d h =
    case g x (λ e. rw (eq-eqb g x e) (sym e))
    (λ n. let q = place-next g x xs n in
    rw (ne_eqb g x n) (get_d-place g xs d (omega arith)))

pub in_tail : (g x : ℕ) (xs : List ℕ) → In g xs → In g (x ∷ xs)
in_tail g x xs h = case g x (λ e. rw (eq-eqb g x e) (omega arith)) (λ n. let q = place-next g x xs n in omega arith)

pub in-at : (xs : List ℕ) (i d : ℕ) → i < length xs → In (get_or xs i d) xs
in-at [] i d h = absurd (omega arith)
in-at (x ∷ xs) zero d h = in-here x xs
in-at (x ∷ xs) (suc i) d h = in_tail (get_or xs i d) x xs (in-at xs i d (omega arith))

pub all_in : (P : ℕ → Type 0) (xs : List ℕ) → All P xs → (g : ℕ) → In g xs → P g
all_in P [] a g h = absurd (omega arith)
all_in P (x ∷ xs) a g h =
    case g x (λ e. subst P (sym e) a.0) (λ n. let q = place-next g x xs n in all_in P xs a.1 g (omega arith))

pub in_all : (P : ℕ → Type 0) (xs : List ℕ) → ((g : ℕ) → In g xs → P g) → All P xs
in_all P [] f = tt
in_all P (x ∷ xs) f = (f x (in-here x xs), in_all P xs (λ g h. f g (in_tail g x xs h)))

-- Unions

any-in : (y : ℕ) (xs : List ℕ) → In y xs → any (eqb y) xs ≡ true
any-in y [] h = absurd (omega arith)
any-in y (x ∷ xs) h =
    case y x (λ e. rw (eq-eqb y x e))
    (λ n. let q = place-next y x xs n in
    rw (ne_eqb y x n) (any-in y xs (omega arith)))

any_out : (y : ℕ) (xs : List ℕ) → length xs ≤ place y xs → any (eqb y) xs ≡ false
any_out y [] h = refl
any_out y (x ∷ xs) h =
    case y x (λ e. absurd (omega (arith, subst (λ (z : ℕ). place y (z ∷ xs) ≡ 0) e (place_here y xs))))
    (λ n. let q = place-next y x xs n in
    rw (ne_eqb y x n) (any_out y xs (omega arith)))

abbrev pub insert : List ℕ → ℕ → List ℕ
insert xs y = cond (any (eqb y) xs) xs (xs ++ (y ∷ []))

pub insert-in : (xs : List ℕ) (y : ℕ) → In y xs → insert xs y ≡ xs
insert-in xs y h = rw (any-in y xs h)

pub insert-out : (xs : List ℕ) (y : ℕ) → length xs ≤ place y xs → insert xs y ≡ xs ++ (y ∷ [])
insert-out xs y h = rw (any_out y xs h)

pub insert-old : (xs : List ℕ) (y g : ℕ) → In g xs → In g (insert xs y)
insert-old xs y g h = at (dec_lt (place y xs) (length xs))
  where
    at : Dec (place y xs < length xs) → In g (insert xs y)
    at (yes k) = rw (insert-in xs y k) h
    at (no k) = rw (insert-out xs y (omega arith)) (in_left g xs (y ∷ []) h)

pub insert-new : (xs : List ℕ) (y : ℕ) → In y (insert xs y)
insert-new xs y = at (dec_lt (place y xs) (length xs))
  where
    at : Dec (place y xs < length xs) → In y (insert xs y)
    at (yes k) = rw (insert-in xs y k) k
    at (no k) = rw (insert-out xs y (omega arith)) (in_right y xs (y ∷ []) (in-here y []))

pub union_left : (xs ys : List ℕ) (g : ℕ) → In g xs → In g (union eqb xs ys)
union_left xs [] g h = h
union_left xs (y ∷ ys) g h = union_left (insert xs y) ys g (insert-old xs y g h)

pub union_right : (xs ys : List ℕ) (g : ℕ) → In g ys → In g (union eqb xs ys)
union_right xs [] g h = absurd (omega arith)
union_right xs (y ∷ ys) g h =
    case g y (λ e. union_left (insert xs y) ys g (subst (λ (z : ℕ). In z (insert xs y)) (sym e) (insert-new xs y)))
    (λ n. let q = place-next g y ys n in
    union_right (insert xs y) ys g (omega arith))

pub union-append : (xs vs ws : List ℕ) → union eqb xs (vs ++ ws) ≡ union eqb (union eqb xs vs) ws
union-append xs [] ws = refl
union-append xs (v ∷ vs) ws = union-append (insert xs v) vs ws

-- Each number once

abbrev pub Once : List ℕ → Type 0
Once [] = Unit {0}
Once (x ∷ xs) = (length xs ≤ place x xs) × Once xs

pub once-place : (xs : List ℕ) → Once xs → (i d : ℕ) → i < length xs → place (get_or xs i d) xs ≡ i
once-place [] o i d h = absurd (omega arith)
once-place (x ∷ xs) o zero d h = place_here x xs
once-place (x ∷ xs) o (suc i) d h =
    let q = once-place xs o.1 i d (omega arith) in
    let n : get_or xs i d ≡ x → ⊥ = λ (e : get_or xs i d ≡ x). omega (arith, o.0, subst (λ (z : ℕ). place z xs ≡ i) e q) in
    place-next (get_or xs i d) x xs n ∙ ap suc q

pub once-append : (xs ys : List ℕ) → Once xs → Once ys → ((g : ℕ) → In g xs → In g ys → ⊥) → Once (xs ++ ys)
once-append [] ys o u f = u
once-append (x ∷ xs) ys o u f =
    let q = place-right x xs ys o.0 in
    let n = length-append xs ys in
    (at q n (dec_lt (place x ys) (length ys)), once-append xs ys o.1 u (λ g i. f g (in_tail g x xs i)))
  where
    at : place x (xs ++ ys) ≡ length xs + place x ys → length (xs ++ ys) ≡ length xs + length ys → Dec (place x ys < length ys) → length (xs ++ ys) ≤ place x (xs ++ ys)
    at q n (yes k) = absurd (f x (in-here x xs) k)
    at q n (no k) = omega arith

once-insert : (xs : List ℕ) (y : ℕ) → Once xs → Once (insert xs y)
once-insert xs y o = at (dec_lt (place y xs) (length xs))
  where
    at : Dec (place y xs < length xs) → Once (insert xs y)
    at (yes k) = subst Once (sym (insert-in xs y k)) o
    at (no k) =
        subst Once (sym (insert-out xs y (omega arith)))
        (once-append xs (y ∷ []) o (omega arith, tt) (λ g i j. case g y (λ e. k (subst (λ (z : ℕ). In z xs) e i)) (λ n. let q = place-next g y [] n in omega arith)))

pub once-union : (xs ys : List ℕ) → Once xs → Once (union eqb xs ys)
once-union xs [] o = o
once-union xs (y ∷ ys) o = once-union (insert xs y) ys (once-insert xs y o)
