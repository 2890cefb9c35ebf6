-- `link`: what fits, and what a link that fits gives.
use borrow.Author.Tests.{le-ltb, ltb-false}
use mathlib.Core.Bool.{Bool, cond, false, true}
use mathlib.Core.List.{List}
use mathlib.Core.Path.{◌∙◌, ◌≡◌, ap, refl, subst, sym}
use lib.Dec.{ltb}
use lib.ListN.{length}
use native.Mathlib.Omega.{arith}
use Prim.Native.Nat.{◌+◌, ◌-◌, ◌/◌, ◌≤◌, ℕ}
use Rattle.limits.specs.Limits.{max_arity, max_definitions, max_modules}
use Rattle.context.specs.Entries.{context_codes, instance_kind, order_of}
use Rattle.store.specs.Store.{first_at, kind_at, link_at, source_at, via_at}
use Rattle.store.specs.declared.Store.{Store}
use Rattle.store.specs.declared.Facts.{Facts}
use Rattle.standing.specs.Shown.{owner_shift}
use Rattle.entering.specs.Substitutes.{Around, Fitting, Substituted}
use Rattle.entering.specs.declared.substitutes.Site.{Site}
use Rattle.entering.specs.Numbering.{Entered}
use Rattle.entering.specs.Replaced.{Replaced}
use Rattle.chains.specs.Walk.{LinkEntered, NumbersEntered, SiteMade, around_link, columns_fit, link_fits, site_by, site_of}

pub record Within (facts : List Facts) (outer o : ℕ) : Type 0 where
  pub kind : instance_kind ≤ kind_at facts o
  pub params : outer + (kind_at facts o - instance_kind) ≤ max_arity
  pub owner : link_at facts o / owner_shift ≤ max_modules
  pub via : via_at facts o ≤ max_modules
  pub first : first_at facts o ≤ max_definitions

-- a test that fails leads on
passes : (b x : Bool) → cond b false x ≡ true → (b ≡ false) × (x ≡ true)
passes true x e = absurd (let z : ◌≡◌ {A = ℕ} 0 1 = cc in omega arith)
passes false x e = (refl, e)

pub fits-within : (facts : List Facts) (outer o : ℕ) → link_fits facts outer o ≡ true → Within facts outer o
unfolding columns_fit
fits-within facts outer o e =
    let a = passes (ltb (kind_at facts o) instance_kind) _ e in
    let b = passes (ltb max_arity (outer + (kind_at facts o - instance_kind))) _ a.1 in
    let c = passes (ltb max_definitions (first_at facts o)) _ b.1 in
    let d = passes (ltb max_modules (via_at facts o)) _ c.1 in
    let f = passes (ltb max_modules (link_at facts o / owner_shift)) _ d.1 in
    record {
      kind = ltb-false (kind_at facts o) instance_kind a.0;
      params = ltb-false max_arity (outer + (kind_at facts o - instance_kind)) b.0;
      owner = ltb-false max_modules (link_at facts o / owner_shift) f.0;
      via = ltb-false max_modules (via_at facts o) d.0;
      first = ltb-false max_definitions (first_at facts o) c.0;
    }

pub within-fits : (facts : List Facts) (outer o : ℕ) → Within facts outer o → link_fits facts outer o ≡ true
unfolding columns_fit
within-fits facts outer o w =
    rw (
      le-ltb (kind_at facts o) instance_kind w.kind,
      le-ltb max_arity (outer + (kind_at facts o - instance_kind)) w.params,
      le-ltb max_definitions (first_at facts o) w.first,
      le-ltb max_modules (via_at facts o) w.via,
      le-ltb max_modules (link_at facts o / owner_shift) w.owner,
    ) refl

pub fits_via : (facts : List Facts) (outer o q : ℕ) → link_fits facts outer o ≡ true → q ≡ via_at facts o → q ≤ max_modules
fits_via facts outer o q e p = omega (arith, (fits-within facts outer o e).via, p)

pub fits-first : (facts : List Facts) (outer o q : ℕ) → link_fits facts outer o ≡ true → q ≡ first_at facts o → q ≤ max_definitions
fits-first facts outer o q e p = omega (arith, (fits-within facts outer o e).first, p)

pub fits-kind : (facts : List Facts) (outer o k : ℕ) → link_fits facts outer o ≡ true → k ≡ kind_at facts o → instance_kind ≤ k
fits-kind facts outer o k e p = omega (arith, (fits-within facts outer o e).kind, p)

pub site-fitting : (facts : List Facts) (outer o : ℕ) → link_fits facts outer o ≡ true → Fitting (site_of facts outer o)
site-fitting facts outer o e = let w = fits-within facts outer o e in record { params = w.params; owner = w.owner }

pub numbers-entered : (facts : List Facts) (orders heads : List ℕ) (o : ℕ) (numbers old after numbers' : List ℕ)
    → Entered (order_of orders heads (via_at facts o)) (first_at facts o) numbers old after → numbers' ≡ after → length old ≡ max_definitions
    → NumbersEntered facts orders heads o numbers numbers'
numbers-entered facts orders heads o numbers old after numbers' e q l =
    record {
      old = old;
      old_size = l;
      size = ap (length {A = ℕ}) q ∙ e.size ∙ l;
      entered = subst (Entered (order_of orders heads (via_at facts o)) (first_at facts o) numbers old) (sym q) e;
    }

pub link-entered : (file refs : List ℕ) (v : Store) (declared : List ℕ) (n outer o : ℕ) (numbers numbers' inner inner' empty next : List ℕ)
    → Substituted (around_link file refs v numbers inner) (site_of v.facts outer o) (context_codes v.contexts v.heads (via_at v.facts o)) declared n empty next
    → NumbersEntered v.facts v.orders v.heads o numbers numbers' → Replaced next inner inner'
    → LinkEntered file refs v declared n outer o numbers numbers' inner inner'
link-entered file refs v declared n outer o numbers numbers' inner inner' empty next s e r =
    record { next = next; empty = empty; substituted = s; numbering = e; replaced = r }

-- what the code reads is the fact

pub columns-read : (facts : List Facts) (outer o k f w l : ℕ) (r : Bool) → r ≡ columns_fit outer k f w l → k ≡ kind_at facts o → f ≡ first_at facts o → w ≡ via_at facts o
    → l ≡ link_at facts o → r ≡ link_fits facts outer o
columns-read facts outer o k f w l r e a b c d = e ∙ (λ i. columns_fit outer (a i) (b i) (c i) (d i))

pub site-made : (facts : List Facts) (outer o k a l : ℕ) (r : Site) → r ≡ site_by outer k a l → k ≡ kind_at facts o → a ≡ source_at facts o → l ≡ link_at facts o
    → link_fits facts outer o ≡ true → SiteMade facts outer o r
site-made facts outer o k a l r e p q s h =
    let same : r ≡ site_of facts outer o = e ∙ (λ i. site_by outer (p i) (q i) (s i)) in
    record { same = same; fitting = subst Fitting (sym same) (site-fitting facts outer o h) }

pub substituted-link : (a : Around) (facts : List Facts) (contexts heads : List ℕ) (outer o q : ℕ) (site : Site) (declared : List ℕ) (n : ℕ) (before after : List ℕ)
    → Substituted a site (context_codes contexts heads q) declared n before after → SiteMade facts outer o site → q ≡ via_at facts o
    → Substituted a (site_of facts outer o) (context_codes contexts heads (via_at facts o)) declared n before after
substituted-link a facts contexts heads outer o q site declared n before after s m e =
    subst (λ (p : ℕ). Substituted a (site_of facts outer o) (context_codes contexts heads p) declared n before after) e
    (subst (λ (y : Site). Substituted a y (context_codes contexts heads q) declared n before after) m.same s)

pub entered-link : (facts : List Facts) (orders heads : List ℕ) (o q f : ℕ) (numbers before after : List ℕ) → Entered (order_of orders heads q) f numbers before after → q ≡ via_at facts o
    → f ≡ first_at facts o → Entered (order_of orders heads (via_at facts o)) (first_at facts o) numbers before after
entered-link facts orders heads o q f numbers before after s e p =
    subst (λ (y : ℕ). Entered (order_of orders heads (via_at facts o)) y numbers before after) p
    (subst (λ (y : ℕ). Entered (order_of orders heads y) f numbers before after) e s)
