-- A text read in its world means what its template does, for any reading and any chain of instances.
use borrow.Fn.PlainCycle.{is}
use mathlib.Core.List.{List, [], ◌++◌, ◌∷◌, append_assoc}
use mathlib.Core.Option.{Option, some}
use mathlib.Core.Path.{◌∙◌, ◌≡◌, ap, ap₂, subst, sym}
use lib.ListN.{drop, length, length-append, length-drop, length-take, take, take-append-drop}
use lib.Seq.{drop_at, take_at}
use native.Mathlib.Omega.{arith}
use Prim.Native.Nat.{◌+◌, suc, zero, ℕ}
use Rattle.theory.proofs.ExpandFirst.{Keeps, eval-good, expand-first, no-defined}
use Rattle.theory.proofs.Formed.{AllExpanded, expand-formed, instantiate-formed}
use Rattle.theory.proofs.Fusion.{everywhere}
use Rattle.theory.proofs.Lists.{append-all, none-some}
use Rattle.theory.proofs.Substitution.{instantiation, substituted}
use Rattle.theory.specs.Expand.{expand, instantiate}
use Rattle.theory.specs.Lists.{All}
use Rattle.theory.specs.Term.{Arities, Head, Kind, Reading, Term, WellFormed, bound, builtin, declared, defined, eval, kind_arity, leaf, no_definitions, param}
use Rattle.worlds.proofs.Fit.{Fit, FitLink, arities_in, instanced, names-known, number-copied, number-known}
use Rattle.worlds.proofs.SameNames.{same_names}
use Rattle.worlds.specs.World.{AnyDefinition, AnyName, HeadMentions, Link, World, in_world, meaning_in, number_in, params_in, read_declared, read_defined, with_names}

module _ {A : Type 0} where
  pub all_take : (P : A → Type 0) (n : ℕ) (xs : List A) → All P xs → All P (take n xs)
  all_take P zero xs a = tt
  all_take P (suc n) [] a = tt
  all_take P (suc n) (x ∷ xs) a = (a.0, all_take P n xs a.1)

  pub all_drop : (P : A → Type 0) (n : ℕ) (xs : List A) → All P xs → All P (drop n xs)
  all_drop P zero xs a = a
  all_drop P (suc n) [] a = tt
  all_drop P (suc n) (x ∷ xs) a = all_drop P n xs a.1

-- every head names something
any_name : (k : ℕ) (h : Head) (m : ℕ) → HeadMentions AnyName AnyDefinition k h m
any_name k (param i) m = tt
any_name k (bound j) m = tt
any_name k (declared d x) m = tt
any_name k (defined g) m = tt
any_name k (builtin c) m = tt
any_name k (leaf l) m = tt

-- What definitions mean, by number: G keeps what is good, and is exact at those of base.
pub record Means {A : Type 0} (M : Reading A) (Good : A → Type 0) (base : Arities) (bodies : ℕ → Term) (G : ℕ → List A → A) : Type 0 where
  pub keeps : Keeps M Good
  pub good : (g : ℕ) (vs : List A) → All Good vs → Good (G g vs)
  pub exact : (g : ℕ) (vs : List A) → base g ≡ some (length vs) → All Good vs → G g vs ≡ eval M vs [] (bodies g)

module _ {A : Type 0} (M : Reading A) (Good : A → Type 0) (ar : Arities) (bodies : ℕ → Term) (base : Arities) (closed : AllExpanded ar bodies)
    (G : ℕ → List A → A) (means : Means M Good base bodies G) where
  keeps-names : (D : Kind → ℕ → List A → A) (H : ℕ → List A → A) → ((k : Kind) (x : ℕ) (vs : List A) → All Good vs → Good (D k x vs))
      → ((g : ℕ) (vs : List A) → All Good vs → Good (H g vs)) → Keeps (with_names M D H) Good
  keeps-names D H d h =
      record {
        on_declared = d;
        on_defined = h;
        on_builtin = means.keeps.on_builtin;
        on_leaf = means.keeps.on_leaf;
        looks = record { unknown = means.keeps.looks.unknown; on_builtin = means.keeps.looks.on_builtin };
      }

  pub keeps-in : (w : World) (pre : List A) → All Good pre → Keeps (in_world M G w pre) Good
  keeps-in [] pre a =
      keeps-names (read_declared M G [] pre) (read_defined G [] pre) means.keeps.on_declared (λ g vs b. means.good g (pre ++ vs) (append-all Good pre vs a b))
  keeps-in (l ∷ w) pre a =
      keeps-names (read_declared M G (l ∷ w) pre) (read_defined G (l ∷ w) pre)
      (λ k x vs b.
      let c = append-all Good pre vs a b in
      eval-good (in_world M G w (take (params_in w) (pre ++ vs))) Good (keeps-in w (take (params_in w) (pre ++ vs)) (all_take Good (params_in w) (pre ++ vs) c))
      (drop (params_in w) (pre ++ vs)) (all_drop Good (params_in w) (pre ++ vs) c) (l.substitutes k x) [] tt)
      (λ g vs b. means.good (number_in (l ∷ w) g) (pre ++ vs) (append-all Good pre vs a b))

  -- definitions known in a world are expanded
  closed_in : (w : World) (is : List Arities) → Fit ar bodies base w is → AllExpanded (arities_in base is) bodies
  closed_in w is f g m e = closed g m (names-known ar bodies base w is f g m e)

  -- an expanded text means, with the chain carried out, what it means in the world
  abbrev Expanded : World → Type 0
  Expanded w = (pre post : List A) (n : ℕ) (u : Term) → length pre ≡ params_in w → All Good pre → All Good post → WellFormed no_definitions n 0 u
      → eval M (pre ++ post) [] (instanced bodies w u) ≡ eval (in_world M G w pre) post [] u

  -- a text whose names are defined in the world means what its expansion does
  expand-in : (w : World) (is : List Arities) → Fit ar bodies base w is → Expanded w → (pre post : List A) (n : ℕ) (t : Term) → length pre ≡ params_in w → All Good pre → All Good post
      → WellFormed (arities_in base is) n 0 t → eval (in_world M G w pre) post [] (expand bodies t) ≡ eval (in_world M G w pre) post [] t
  expand-in w is f below pre post n t q a b =
      expand-first (in_world M G w pre) Good (keeps-in w pre a) (arities_in base is) bodies (closed_in w is f) agree n 0 post [] t b tt
    where
      agree : (g : ℕ) (vs : List A) → arities_in base is g ≡ some (length vs) → All Good vs → read_defined G w pre g vs ≡ eval (in_world M G w pre) vs [] (bodies g)
      agree g vs e c =
          means.exact (number_in w g) (pre ++ vs) (number-known ar bodies base w is f g (length vs) e ∙ ap {B = Option ℕ} some (sym (length-append pre vs ∙ ap (λ (m : ℕ). m + length vs) q)))
          (append-all Good pre vs a c)
          ∙ ap (λ (u : Term). eval M (pre ++ vs) [] u) (number-copied ar bodies base w is f g (length vs) e)
          ∙ below pre vs (length vs) (bodies g) q a c (closed_in w is f g (length vs) e)

  -- one instance more, at the parameters b of that instance
  inner : (l : Link) (w : World) (i : Arities) (is : List Arities) → FitLink ar bodies (arities_in base is) i l → Fit ar bodies base w is → Expanded w → (a b post : List A) (n : ℕ) (u : Term) → length a ≡ params_in w
      → length b ≡ l.params → All Good a → All Good b → All Good post → WellFormed no_definitions n 0 u
      → eval M ((a ++ b) ++ post) [] (instanced bodies (l ∷ w) u) ≡ eval (in_world M G (l ∷ w) (a ++ b)) post [] u
  inner l w i is fl f below a b post n u qa qb ga gb gpost wu =
      ap (λ (vs : List A). eval M vs [] (instanced bodies (l ∷ w) u)) (append_assoc a b post)
      ∙ below a (b ++ post) (l.params + n) (instantiate σ l.params u) qa ga (append-all Good b post gb gpost) (instantiate-formed σ l.params n 0 u formed wu)
      ∙ ap (λ (m : ℕ). eval N (b ++ post) [] (instantiate σ m u)) (sym qb)
      ∙ instantiation N σ no_definitions no_definitions b post n 0 [] u (subst (λ (m : ℕ). (c : Kind) (x : ℕ) → WellFormed no_definitions (m + kind_arity c) 0 (σ c x)) (sym qb) formed) wu
      ∙ same_names M Good (substituted N σ b).on_declared (read_declared M G (l ∷ w) (a ++ b)) (read_defined G w a) (read_defined G (l ∷ w) (a ++ b)) keeps no_definitions AnyName (λ k x a. agree k x)
      (λ g vs e c. none-some (length vs) e) n post u gpost wu (everywhere (HeadMentions AnyName AnyDefinition) any_name 0 u)
    where
      σ : Kind → ℕ → Term
      σ k x = expand bodies (l.substitutes k x)

      N : Reading A
      N = in_world M G w a

      formed : (c : Kind) (x : ℕ) → WellFormed no_definitions (l.params + kind_arity c) 0 (σ c x)
      formed c x = expand-formed (arities_in base is) bodies (l.params + kind_arity c) 0 (l.substitutes c x) (closed_in w is f) (fl.formed c x)

      keeps : Keeps (with_names M (substituted N σ b).on_declared (read_defined G w a)) Good
      keeps =
          keeps-names (substituted N σ b).on_declared (read_defined G w a)
          (λ k x vs c. eval-good N Good (keeps-in w a ga) (b ++ vs) (append-all Good b vs gb c) (σ k x) [] tt)
          (λ g vs c. means.good (number_in w g) (a ++ vs) (append-all Good a vs ga c))

      agree : (k : Kind) (x : ℕ) (vs : List A) → length vs ≡ kind_arity k → All Good vs → eval N (b ++ vs) [] (σ k x) ≡ read_declared M G (l ∷ w) (a ++ b) k x vs
      agree k x vs q c =
          expand-in w is f below a (b ++ vs) (l.params + kind_arity k) (l.substitutes k x) qa ga (append-all Good b vs gb c) (fl.formed k x)
          ∙ ap₂ (λ (s r : List A). eval (in_world M G w s) r [] (l.substitutes k x))
          (sym (ap (take (params_in w)) (append_assoc a b vs) ∙ take_at a (b ++ vs) (params_in w) qa))
          (sym (ap (drop (params_in w)) (append_assoc a b vs) ∙ drop_at a (b ++ vs) (params_in w) qa))

  -- An expanded text with the chain of instances carried out means what it means in the world.
  pub expanded-in : (w : World) (is : List Arities) → Fit ar bodies base w is → Expanded w
  expanded-in [] [] f [] post n u q ga gpost wu = sym (no-defined M G n 0 post [] u wu)
  expanded-in [] [] f (a ∷ pre) post n u q ga gpost wu = absurd (omega arith)
  expanded-in [] (i ∷ is) f pre post n u q ga gpost wu = absurd f
  expanded-in (l ∷ w) [] f pre post n u q ga gpost wu = absurd f
  expanded-in (l ∷ w) (i ∷ is) f pre post n u q ga gpost wu =
      let a = take (params_in w) pre in
      let b = drop (params_in w) pre in
      let la : length a ≡ params_in w = length-take (params_in w) pre ∙ omega arith in
      let lb : length b ≡ l.params = length-drop (params_in w) pre ∙ omega arith in
      subst (λ (p : List A). eval M (p ++ post) [] (instanced bodies (l ∷ w) u) ≡ eval (in_world M G (l ∷ w) p) post [] u) (take-append-drop (params_in w) pre)
      (inner l w i is f.0 f.1 (expanded-in w is f.1) a b post n u la lb (all_take Good (params_in w) pre ga) (all_drop Good (params_in w) pre ga) gpost wu)

  -- A text: its expansion, with the chain of instances carried out, means what the text itself means in the world.
  pub text_in : (w : World) (is : List Arities) → Fit ar bodies base w is → (pre post : List A) (n : ℕ) (t : Term) → length pre ≡ params_in w → All Good pre → All Good post
      → WellFormed (arities_in base is) n 0 t → eval M (pre ++ post) [] (instanced bodies w (expand bodies t)) ≡ eval (in_world M G w pre) post [] t
  text_in w is f pre post n t q ga gpost wt =
      expanded-in w is f pre post n (expand bodies t) q ga gpost (expand-formed (arities_in base is) bodies n 0 t (closed_in w is f) wt)
      ∙ expand-in w is f (expanded-in w is f) pre post n t q ga gpost wt

  -- The same at all values at once: those of the instances' parameters, outermost first, and then those of the text's own.
  pub text-meaning : (w : World) (is : List Arities) → Fit ar bodies base w is → (n : ℕ) (t : Term) → WellFormed (arities_in base is) n 0 t → (us : List A) → length us ≡ params_in w + n → All Good us
      → eval M us [] (instanced bodies w (expand bodies t)) ≡ meaning_in M G w t us
  text-meaning w is f n t wt us q g =
      ap (λ (vs : List A). eval M vs [] (instanced bodies w (expand bodies t))) (sym (take-append-drop (params_in w) us))
      ∙ text_in w is f (take (params_in w) us) (drop (params_in w) us) n t (length-take (params_in w) us ∙ omega arith) (all_take Good (params_in w) us g) (all_drop Good (params_in w) us g) wt
