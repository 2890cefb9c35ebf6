-- Lists in which each definition names only those before it; EXTENDS keeps them so.
use mathlib.Core.List.{List, [], ◌++◌, ◌∷◌, append_assoc, append-nil}
use mathlib.Core.Logic.{◌⊎◌, inl, inr}
use mathlib.Core.Path.{subst, sym}
use lib.Dec.{eqb}
use lib.ListN.{get_or-append, length, length-append}
use native.Mathlib.Decide.{dec_lt}
use native.Mathlib.Omega.{arith}
use Prim.Native.Nat.{◌<◌, ◌≤◌, ℕ}
use Rattle.theory.specs.Expand.{Definition}
use Rattle.theory.specs.Lists.{All, union}
use Rattle.worlds.proofs.Places.{case, in_split, insert, insert-in, insert-new, insert-old, insert-out, place-left, place-next, place-right}
use Rattle.worlds.proofs.Uses.{absent, definition_in, uses-only-more}
use Rattle.worlds.specs.World.{In, UsesOnly, place}

-- Each definition of a list names only those before it in the list, or in seen.
abbrev pub Ordered : List Definition → List ℕ → List ℕ → Type 0
Ordered ds seen [] = Unit {0}
Ordered ds seen (g ∷ gs) = UsesOnly (λ h. In h seen) (definition_in ds g) × Ordered ds (seen ++ (g ∷ [])) gs

pub ordered-append : (ds : List Definition) (seen xs ys : List ℕ) → Ordered ds seen xs → Ordered ds (seen ++ xs) ys → Ordered ds seen (xs ++ ys)
ordered-append ds seen [] ys a b = subst (λ (l : List ℕ). Ordered ds l ys) (append-nil seen) b
ordered-append ds seen (x ∷ xs) ys a b =
    (a.0, ordered-append ds (seen ++ (x ∷ [])) xs ys a.1 (subst (λ (l : List ℕ). Ordered ds l ys) (sym (append_assoc seen (x ∷ []) xs)) b))

-- EXTENDS keeps the order
pub ordered-union : (ds : List Definition) (seen xs ys : List ℕ) → Ordered ds [] xs → Ordered ds seen ys → ((h : ℕ) → In h seen → In h xs) → Ordered ds [] (union eqb xs ys)
ordered-union ds seen xs [] a b f = a
ordered-union ds seen xs (y ∷ ys) a b f =
    ordered-union ds (seen ++ (y ∷ [])) (insert xs y) ys (at (dec_lt (place y xs) (length xs))) b.1 (λ h i. both h (in_split h seen (y ∷ []) i))
  where
    at : Dec (place y xs < length xs) → Ordered ds [] (insert xs y)
    at (yes k) = subst (Ordered ds []) (sym (insert-in xs y k)) a
    at (no k) =
        subst (Ordered ds []) (sym (insert-out xs y (omega arith)))
        (ordered-append ds [] xs (y ∷ []) a (uses-only-more (λ h. In h seen) (λ h. In h xs) f (definition_in ds y) b.0, tt))

    both : (h : ℕ) → In h seen ⊎ In h (y ∷ []) → In h (insert xs y)
    both h (inl i) = insert-old xs y h (f h i)
    both h (inr i) =
        case h y (λ e. subst (λ (z : ℕ). In z (insert xs y)) (sym e) (insert-new xs y))
        (λ n. let q = place-next h y [] n in absurd (omega arith))

pub ordered-more : (ds es : List Definition) (seen gs : List ℕ) → All (λ g. g < length ds) gs → Ordered ds seen gs → Ordered (ds ++ es) seen gs
ordered-more ds es seen [] k a = tt
ordered-more ds es seen (g ∷ gs) k a =
    (subst (UsesOnly (λ h. In h seen)) (sym (get_or-append ds es absent g k.0)) a.0, ordered-more ds es (seen ++ (g ∷ [])) gs k.1 a.1)

-- what a definition of such a list names stands before it
pub ordered-before : (ds : List Definition) (seen gs : List ℕ) → Ordered ds seen gs → (D : ℕ) → In D gs → length seen ≤ place D seen
    → UsesOnly (λ h. place h (seen ++ gs) < place D (seen ++ gs)) (definition_in ds D)
ordered-before ds seen [] a D i n = absurd (omega arith)
ordered-before ds seen (g ∷ gs) a D i n =
    case D g
    (λ e. uses-only-more (λ h. In h seen) (λ h. place h (seen ++ (g ∷ gs)) < place D (seen ++ (g ∷ gs)))
    (λ h j. let p = place-left h seen (g ∷ gs) j in let q = place-right D seen (g ∷ gs) n in omega arith) (definition_in ds D)
    (subst (λ (z : ℕ). UsesOnly (λ h. In h seen) (definition_in ds z)) (sym e) a.0))
    (λ d.
    let q = place-next D g gs d in
    let r = place-next D g [] d in
    let u = place-right D seen (g ∷ []) n in
    let l = length-append seen (g ∷ []) in
    subst (λ (l : List ℕ). UsesOnly (λ h. place h l < place D l) (definition_in ds D)) (append_assoc seen (g ∷ []) gs)
    (ordered-before ds (seen ++ (g ∷ [])) gs a.1 D (omega arith) (omega arith)))
