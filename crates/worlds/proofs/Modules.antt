-- EXTENDS and added definitions keep a module's list made of whole runs, its names in order, its context within its list.
use mathlib.Core.List.{List, [], ◌++◌, ◌∷◌, append_assoc, append-nil}
use mathlib.Core.Logic.{◌⊎◌, inl, inr}
use mathlib.Core.Option.{Option, none, some}
use mathlib.Core.Path.{◌∙◌, ◌≡◌, ap, refl, subst, sym}
use lib.Dec.{eqb}
use lib.ListN.{length, length-append}
use lib.Seq.{get_or-append-add}
use native.Mathlib.Omega.{arith}
use Prim.Native.Nat.{◌<◌, suc, zero, ℕ}
use Rattle.laws.proofs.Resolved.{Brings, brings-more}
use Rattle.rules.specs.Add.{extended_definitions, with_more}
use Rattle.rules.specs.Instance.{source}
use Rattle.rules.specs.Judge.{extended_context}
use Rattle.rules.specs.State.{Context, Entry, Module, State, module_named, no_module, same_origin}
use Rattle.theory.proofs.Lists.{append-all, find-has, map-all, union-all}
use Rattle.theory.specs.Expand.{Definition}
use Rattle.theory.specs.Lists.{All, numbers_from, or_else, union}
use Rattle.worlds.proofs.Invariant.{IsOk, ModuleOk, module-more}
use Rattle.worlds.proofs.Ordered.{Ordered, ordered-append, ordered-union}
use Rattle.worlds.proofs.Places.{all_in, in_all, in_left, in_split, once-append, once-union, union_left, union_right}
use Rattle.worlds.proofs.Runs.{Disjoint, Run, has_last, in-run, once-run, whole-snoc, whole-union}
use Rattle.worlds.proofs.Uses.{absent, definition_in, uses-only-more}
use Rattle.worlds.specs.World.{In, UsesOnly}

pub none-ok : (ds : List Definition) (bs : List Run) → ModuleOk ds bs [] []
none-ok ds bs = record { whole = record { runs = []; made = refl; there = tt }; ordered = tt; once = tt; known = λ g i. absurd (omega arith); names = tt }

pub source_ok : (ds : List Definition) (bs : List Run) (s : State) (m : ℕ) → All (IsOk ds bs) s.ended → IsOk ds bs (source s m)
source_ok ds bs s m h = at (module_named s m) refl
  where
    at : (o : Option Module) → module_named s m ≡ o → IsOk ds bs (or_else no_module o)
    at none e = none-ok ds bs
    at (some M) e = (find-has (IsOk ds bs) (λ (x : Module). eqb m x.name) s.ended M h e).0

-- EXTENDS

union-known : (P : ℕ → Type 0) (xs ys : List ℕ) → ((g : ℕ) → In g xs → P g) → ((g : ℕ) → In g ys → P g) → (g : ℕ) → In g (union eqb xs ys) → P g
union-known P xs ys f h = all_in P (union eqb xs ys) (union-all P eqb xs ys (in_all P xs f) (in_all P ys h))

union-ok : (ds : List Definition) (bs : List Run) → Disjoint bs → (Γ Δ : Context) (gs hs : List ℕ) → ModuleOk ds bs Γ gs → ModuleOk ds bs Δ hs
    → ModuleOk ds bs (union same_origin Γ Δ) (union eqb gs hs)
union-ok ds bs d Γ Δ gs hs a b =
    record {
      whole = whole-union bs d gs a.whole hs b.whole;
      ordered = ordered-union ds [] gs hs a.ordered b.ordered (λ h i. absurd (omega arith));
      once = once-union gs hs a.once;
      known = union-known (λ g. g < length ds) gs hs a.known b.known;
      names =
          union-all (Brings (λ g. In g (union eqb gs hs))) same_origin Γ Δ
          (map-all (Brings (λ g. In g gs)) (Brings (λ g. In g (union eqb gs hs))) (brings-more (λ g. In g gs) (λ g. In g (union eqb gs hs)) (union_left gs hs)) Γ a.names)
          (map-all (Brings (λ g. In g hs)) (Brings (λ g. In g (union eqb gs hs))) (brings-more (λ g. In g hs) (λ g. In g (union eqb gs hs)) (union_right gs hs)) Δ b.names);
    }

pub extended-ok : (ds : List Definition) (bs : List Run) → Disjoint bs → (s : State) → All (IsOk ds bs) s.ended → (ms : List ℕ) (Γ : Context) (gs : List ℕ) → ModuleOk ds bs Γ gs
    → ModuleOk ds bs (extended_context s ms Γ) (extended_definitions s ms gs)
extended-ok ds bs d s h [] Γ gs a = a
extended-ok ds bs d s h (m ∷ ms) Γ gs a =
    extended-ok ds bs d s h ms (union same_origin Γ (source s m).context) (union eqb gs (source s m).definitions)
    (union-ok ds bs d Γ (source s m).context gs (source s m).definitions a (source_ok ds bs s m h))

-- Definitions added at the end, numbered from N on, n of them

ordered-run : (ds es : List Definition) (gs seen : List ℕ) (N n : ℕ) → N ≡ length ds → n ≡ length es → ((g : ℕ) → In g gs → In g seen) → All (UsesOnly (λ h. In h gs)) es
    → Ordered (ds ++ es) seen (numbers_from N n)
ordered-run ds [] gs seen N zero e_n en f u = tt
ordered-run ds [] gs seen N (suc n) e_n en f u = absurd (omega arith)
ordered-run ds (e ∷ es) gs seen N zero e_n en f u = absurd (omega arith)
ordered-run ds (e ∷ es) gs seen N (suc n) e_n en f u = (
  subst (UsesOnly (λ h. In h seen)) (sym (get_or-append-add ds (e ∷ es) 0 absent) ∙ ap (definition_in (ds ++ (e ∷ es))) (omega arith)) (uses-only-more (λ h. In h gs) (λ h. In h seen) f e u.0),
  subst (λ (l : List Definition). Ordered l (seen ++ (N ∷ [])) (numbers_from (suc N) n)) (append_assoc ds (e ∷ []) es)
      (ordered-run (ds ++ (e ∷ [])) es gs (seen ++ (N ∷ [])) (suc N) n (rw (length-append ds (e ∷ [])) (omega arith)) (omega arith) (λ g i. in_left g seen (N ∷ []) (f g i)) u.1),
)

pub run_ok : (ds es : List Definition) (bs : List Run) (Γ Δ : Context) (gs : List ℕ) (N n : ℕ) → N ≡ length ds → n ≡ length es → ModuleOk ds bs Γ gs
    → All (UsesOnly (λ h. In h gs)) es → All (Brings (λ g. In g (gs ++ numbers_from N n))) Δ → ModuleOk (ds ++ es) (bs ++ ((N, n) ∷ [])) (Γ ++ Δ) (gs ++ numbers_from N n)
run_ok ds es bs Γ Δ gs N n e_n en a u new =
    let b = module-more ds es bs ((N, n) ∷ []) Γ gs a in
    record {
      whole = whole-snoc (bs ++ ((N, n) ∷ [])) gs (N, n) b.whole (has_last (N, n) bs);
      ordered = ordered-append (ds ++ es) [] gs (numbers_from N n) b.ordered (ordered-run ds es gs gs N n e_n en (λ g i. i) u);
      once =
          once-append gs (numbers_from N n) a.once (once-run N n)
          (λ g i j. let k = a.known g i in let w = in-run N n g j in omega (arith, w.0));
      known = λ g i. at g (in_split g gs (numbers_from N n) i);
      names =
          append-all (Brings (λ g. In g (gs ++ numbers_from N n))) Γ Δ
          (map-all (Brings (λ g. In g gs)) (Brings (λ g. In g (gs ++ numbers_from N n))) (brings-more (λ g. In g gs) (λ g. In g (gs ++ numbers_from N n)) (λ g i. in_left g gs (numbers_from N n) i)) Γ a.names) new;
    }
  where
    at : (g : ℕ) → In g gs ⊎ In g (numbers_from N n) → g < length (ds ++ es)
    at g (inl i) = let k = a.known g i in rw (length-append ds es) (omega arith)
    at g (inr i) = let w = in-run N n g i in rw (length-append ds es) (omega (arith, w.1))

-- a declaration
pub declared-ok : (ds : List Definition) (bs : List Run) (M : Module) (e : Entry) → IsOk ds bs M → ((gs : List ℕ) → Brings (λ g. In g gs) e) → IsOk ds bs (with_more M (e ∷ []) [])
declared-ok ds bs M e h k =
    subst (λ (gs : List ℕ). ModuleOk ds bs (M.context ++ (e ∷ [])) gs) (sym (append-nil M.definitions))
    (record {
      whole = h.whole;
      ordered = h.ordered;
      once = h.once;
      known = h.known;
      names = append-all (Brings (λ g. In g M.definitions)) M.context (e ∷ []) h.names (k M.definitions, tt);
    })
