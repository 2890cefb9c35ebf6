-- Every definition is its original text read in its world: the worlds of definitions lawfully added.
use borrow.Author.Tests.{lt-ltb, ltb-true}
use mathlib.Core.Bool.{Bool, true}
use mathlib.Core.List.{List, [], ◌∷◌}
use mathlib.Core.Option.{Option, some}
use mathlib.Core.Path.{◌∙◌, ◌≡◌, ap, refl, subst, sym}
use lib.Dec.{ltb}
use lib.ListN.{length}
use native.Mathlib.Omega.{arith}
use Prim.Native.Nat.{◌+◌, ◌<◌, ◌≤◌, ℕ}
use Rattle.theory.proofs.Demand3.{template-formed}
use Rattle.theory.proofs.Summary.{AllFormed}
use Rattle.theory.specs.Expand.{Definition, Template, arities_of, body_in, brought, own, templates}
use Rattle.theory.specs.Lists.{All}
use Rattle.theory.specs.Term.{Arities, Reading, Term, WellFormed, eval, kind_arity}
use Rattle.worlds.proofs.Fit.{Fit, arities_in, instanced, number-known}
use Rattle.worlds.proofs.Ordered.{Ordered, ordered-before}
use Rattle.worlds.proofs.Reading.{Means, text-meaning}
use Rattle.worlds.proofs.Runs.{Disjoint, Has, InRun, Run, Whole, contiguous, whole_run}
use Rattle.worlds.proofs.Settled.{Settled, settled}
use Rattle.worlds.proofs.Tables.{by-tables}
use Rattle.worlds.proofs.Uses.{definition_in, restrict, restricted, restricted-some, restricted-true, uses-all, uses-only-more}
use Rattle.worlds.specs.Tables.{Right, Table, by_tables}
use Rattle.worlds.specs.World.{AllDeclared, AnyName, In, Link, SubstitutesBelow, Uses, UsesOnly, World, brings, eval_at, meaning_in, number_in, params_in, place}

-- An instance of the file: what it brought is a run; the list of the module that it instances is made of whole runs, and names are defined
-- before they are used.
pub record LinkOk (ds : List Definition) (bs : List Run) (l : Link) : Type 0 where
  pub run : Has (l.first, length l.names) bs
  pub room : l.first + length l.names ≤ length ds
  pub known : (g : ℕ) → In g l.names → g < length ds
  pub brought-at : (g : ℕ) → In g l.names → definition_in ds (brings l g) ≡ brought l.params l.substitutes g
  pub whole : Whole bs l.names
  pub ordered : Ordered ds [] l.names

-- definition D is definition g in the world w
abbrev pub Comes : List Definition → List Run → World → ℕ → ℕ → Type 0
Comes ds bs [] g D = g ≡ D
Comes ds bs (l ∷ w) g D = LinkOk ds bs l × In g l.names × Comes ds bs w (brings l g) D

-- Definition D is the text t, over n parameters of its own, in the world w.
pub record IsText (ds : List Definition) (bs : List Run) (w : World) (D n : ℕ) (t : Term) : Type 0 where
  pub source : ℕ
  pub comes : Comes ds bs w source D
  pub known : source < length ds
  pub there : D < length ds
  pub text : definition_in ds source ≡ own n t

-- what the text of g may name, when D is g in the world w: what stands before g in the module; at the end, the numbers below D
abbrev pub may_name : World → ℕ → ℕ → ℕ → Bool
may_name [] g D h = ltb h D
may_name (l ∷ w) g D h = ltb (place h l.names) (place g l.names)

abbrev pub insides_of : Arities → World → ℕ → ℕ → List Arities
insides_of ar [] g D = []
insides_of ar (l ∷ w) g D = restricted (may_name (l ∷ w) g D) ar ∷ insides_of ar w (brings l g) D

abbrev pub arities_below : Arities → ℕ → Arities
arities_below ar D = restricted (λ h. ltb h D) ar

arities-there : (ar : Arities) (w : World) (g D : ℕ) → arities_in (arities_below ar D) (insides_of ar w g D) ≡ restricted (may_name w g D) ar
arities-there ar [] g D = refl
arities-there ar (l ∷ w) g D = refl

settled-uses : (ts : List Template) (D : ℕ) (d : Definition) → Settled ts D d → UsesOnly (λ h. h < D) d
settled-uses ts D (own n t) s = s.uses
settled-uses ts D (brought p σ g) s = s.uses

module _ (ds : List Definition) (lawful : AllFormed [] ds) (bs : List Run) (disjoint : Disjoint bs) where
  uses-there : (w : World) (g D : ℕ) → Comes ds bs w g D → D < length ds → UsesOnly (λ h. may_name w g D h ≡ true) (definition_in ds g)
  uses-there [] g D e l =
      subst (λ (i : ℕ). UsesOnly (λ h. ltb h D ≡ true) (definition_in ds i)) (sym e)
      (uses-only-more (λ h. h < D) (λ h. ltb h D ≡ true) (λ h k. lt-ltb h D k) (definition_in ds D) (settled-uses (templates ds) D (definition_in ds D) (settled ds lawful D l)))
  uses-there (k ∷ w) g D c l =
      uses-only-more (λ h. place h k.names < place g k.names) (λ h. may_name (k ∷ w) g D h ≡ true) (λ h i. lt-ltb (place h k.names) (place g k.names) i) (definition_in ds g)
      (ordered-before ds [] k.names c.0.ordered g c.1 (omega arith))

  -- what stands before g in the module is brought before what is brought from g
  onward-there : (l : Link) (w : World) (g D : ℕ) → LinkOk ds bs l → In g l.names → Comes ds bs w (brings l g) D → (h : ℕ) → place h l.names < place g l.names
      → may_name w (brings l g) D (brings l h) ≡ true
  onward-there l [] g D o i e h k = lt-ltb (brings l h) D (omega arith)
  onward-there l (l' ∷ w) g D o i c h k =
      let r : Run = (l.first, length l.names) in
      let a : InRun r (brings l g) = (omega arith, omega arith) in
      let b : InRun r (brings l h) = (omega arith, omega arith) in
      let p = contiguous bs disjoint l'.names c.0.whole r o.run (brings l g) a c.1 in
      let j = whole_run bs disjoint l'.names c.0.whole r o.run (brings l g) (brings l h) a c.1 b in
      let q = contiguous bs disjoint l'.names c.0.whole r o.run (brings l h) b j in
      lt-ltb (place (brings l h) l'.names) (place (brings l g) l'.names) (omega arith)

  brought-settled : (l : Link) → LinkOk ds bs l → (g : ℕ) → In g l.names → Settled (templates ds) (brings l g) (brought l.params l.substitutes g)
  brought-settled l o g i = subst (Settled (templates ds) (brings l g)) (o.brought-at g i) (settled ds lawful (brings l g) (omega (arith, o.room)))

  pub fit : (w : World) (g D : ℕ) → Comes ds bs w g D → D < length ds
      → Fit (arities_of (templates ds)) (body_in (templates ds)) (arities_below (arities_of (templates ds)) D) w (insides_of (arities_of (templates ds)) w g D)
  fit [] g D e l = λ h m q. (restricted-some (λ h. ltb h D) (arities_of (templates ds)) h m q).1
  fit (k ∷ w) g D c l =
      let ar = arities_of (templates ds) in
      let s = brought-settled k c.0 g c.1 in
      let u = subst (UsesOnly (λ h. may_name w (brings k g) D h ≡ true)) (c.0.brought-at g c.1) (uses-there w (brings k g) D c.2 l) in (
        record {
          formed =
              λ d x. subst (λ (a : Arities). WellFormed a (k.params + kind_arity d) 0 (k.substitutes d x)) (sym (arities-there ar w (brings k g) D))
              (restrict (may_name w (brings k g) D) ar (k.params + kind_arity d) (k.substitutes d x) (s.formed d x) (u d x));
          known = λ h m q. (restricted-some (may_name (k ∷ w) g D) ar h m q).1;
          onward =
              λ h m q.
              let e = restricted-some (may_name (k ∷ w) g D) ar h m q in
              let b = ltb-true (place h k.names) (place g k.names) e.0 in
              let t = brought-settled k c.0 h (omega (arith, c.1)) in
              subst (λ (a : Arities). a (brings k h) ≡ some (k.params + m)) (sym (arities-there ar w (brings k g) D))
              (restricted-true (may_name w (brings k g) D) ar (brings k h) (some (k.params + m)) (onward-there k w g D c.0 c.1 c.2 h b) (t.arity m e.1));
          copied =
              λ h m q.
              let e = restricted-some (may_name (k ∷ w) g D) ar h m q in
              let b = ltb-true (place h k.names) (place g k.names) e.0 in
              (brought-settled k c.0 h (omega (arith, c.1))).expands;
        },
        fit w (brings k g) D c.2 l,
      )

  -- the template of D is that of its original with the chain of instances carried out, and so its parameter count
  chain-copied : (w : World) (g D : ℕ) → Comes ds bs w g D → body_in (templates ds) D ≡ instanced (body_in (templates ds)) w (body_in (templates ds) g)
  chain-copied [] g D e = ap (body_in (templates ds)) (sym e)
  chain-copied (k ∷ w) g D c =
      chain-copied w (brings k g) D c.2 ∙ ap (instanced (body_in (templates ds)) w) (brought-settled k c.0 g c.1).expands

  chain-params : (w : World) (g D m : ℕ) → Comes ds bs w g D → arities_of (templates ds) g ≡ some m → arities_of (templates ds) D ≡ some (params_in w + m)
  chain-params [] g D m e q = subst (λ (i : ℕ). arities_of (templates ds) i ≡ some m) e q ∙ ap {B = Option ℕ} some (omega arith)
  chain-params (k ∷ w) g D m c q =
      chain-params w (brings k g) D (k.params + m) c.2 ((brought-settled k c.0 g c.1).arity m q) ∙ ap {B = Option ℕ} some (omega arith)

  module _ {w : World} {D n : ℕ} {t : Term} (x : IsText ds bs w D n t) where
    text-settled : Settled (templates ds) x.source (own n t)
    text-settled = subst (Settled (templates ds) x.source) x.text (settled ds lawful x.source x.known)

    text-formed : WellFormed (arities_in (arities_below (arities_of (templates ds)) D) (insides_of (arities_of (templates ds)) w x.source D)) n 0 t
    text-formed =
        subst (λ (a : Arities). WellFormed a n 0 t) (sym (arities-there (arities_of (templates ds)) w x.source D))
        (restrict (may_name w x.source D) (arities_of (templates ds)) n t text-settled.formed (subst (UsesOnly (λ h. may_name w x.source D h ≡ true)) x.text (uses-there w x.source D x.comes x.there)))

    -- its parameters are those of the instances and then the text's own
    pub params-in-world : arities_of (templates ds) D ≡ some (params_in w + n)
    params-in-world = chain-params w x.source D n x.comes text-settled.arity

    -- The template of D means what the original text means in the world, given only what the definitions below D mean.
    pub in-world : {A : Type 0} (M : Reading A) (Good : A → Type 0) (G : ℕ → List A → A) → Means M Good (arities_below (arities_of (templates ds)) D) (body_in (templates ds)) G
        → (us : List A) → length us ≡ params_in w + n → All Good us → eval M us [] (body_in (templates ds) D) ≡ meaning_in M G w t us
    in-world M Good G means us q a =
        ap (λ (u : Term). eval M us [] u) (chain-copied w x.source D x.comes ∙ ap (instanced (body_in (templates ds)) w) text-settled.expands)
        ∙ text-meaning M Good (arities_of (templates ds)) (body_in (templates ds)) (arities_below (arities_of (templates ds)) D) (template-formed ds lawful) G means w
        (insides_of (arities_of (templates ds)) w x.source D) (fit w x.source D x.comes x.there) n t text-formed us q a

    -- The same with each substitute along the chain summed up once.
    pub in-world-tables : {A : Type 0} (M : Reading A) (Good : A → Type 0) (G : ℕ → List A → A) → Means M Good (arities_below (arities_of (templates ds)) D) (body_in (templates ds)) G
        → (Ss : List (Table A)) → Right M Good G w Ss → AllDeclared AnyName w t
        → (us : List A) → length us ≡ params_in w + n → All Good us → eval M us [] (body_in (templates ds) D) ≡ eval_at (by_tables M G w Ss) (params_in w) t us
    in-world-tables M Good G means Ss r d us q a =
        in-world M Good G means us q a
        ∙ by-tables M Good (arities_of (templates ds)) (body_in (templates ds)) (arities_below (arities_of (templates ds)) D) (template-formed ds lawful) G means w
        (insides_of (arities_of (templates ds)) w x.source D) Ss (fit w x.source D x.comes x.there) r n t text-formed d us q a

    -- what a text may name in a world along the chain is below D
    number-below : (v : World) (h : ℕ) → Comes ds bs v h D → (i m : ℕ) → arities_in (arities_below (arities_of (templates ds)) D) (insides_of (arities_of (templates ds)) v h D) i ≡ some m
        → number_in v i < D
    number-below v h c i m q =
        let k = number-known (arities_of (templates ds)) (body_in (templates ds)) (arities_below (arities_of (templates ds)) D) v (insides_of (arities_of (templates ds)) v h D) (fit v h D c x.there) i m q in
        ltb-true (number_in v i) D (restricted-some (λ j. ltb j D) (arities_of (templates ds)) (number_in v i) (params_in v + m) k).0

    -- every definition number that the text uses is below D,
    pub text-below : Uses (λ h. number_in w h < D) t
    text-below =
        uses-all (λ h. number_in w h < D) (arities_in (arities_below (arities_of (templates ds)) D) (insides_of (arities_of (templates ds)) w x.source D)) n t
        (number-below w x.source x.comes) text-formed

    -- and so is every one that a substitute of the chain uses
    substitutes-below : (v : World) (h : ℕ) → Comes ds bs v h D → SubstitutesBelow D v
    substitutes-below [] h e = tt
    substitutes-below (k ∷ v) h e = (
      λ c y.
          uses-all (λ j. number_in v j < D) (arities_in (arities_below (arities_of (templates ds)) D) (insides_of (arities_of (templates ds)) v (brings k h) D)) (k.params + kind_arity c) (k.substitutes c y)
          (number-below v (brings k h) e.2) ((fit (k ∷ v) h D e x.there).0.formed c y),
      substitutes-below v (brings k h) e.2,
    )

    pub all-below : SubstitutesBelow D w
    all-below = substitutes-below w x.source x.comes
