-- The walk along a chain, whatever stands: what the loop keeps.
use borrow.Author.Tests.{eq-eqb, eqb-false, le-ltb, lt-ltb, ltb-true, ne_eqb}
use mathlib.Core.Bool.{Bool, cond, false, true}
use mathlib.Core.List.{List}
use mathlib.Core.Logic.{◌⊎◌, ◌≢◌, inl, inr}
use mathlib.Core.Path.{◌∙◌, ◌≡◌, ap, refl, subst, sym}
use lib.Dec.{eqb, ltb}
use lib.ListN.{get_or}
use native.Mathlib.Omega.{arith}
use Prim.Native.Nat.{◌+◌, ◌-◌, ◌<◌, ◌≤◌, ℕ}
use Rattle.limits.specs.Limits.{max_arity, max_declarations, max_definitions}
use Rattle.rules.specs.State.{State}
use Rattle.texts.specs.Text.{Declarations}
use Rattle.levels.specs.Tables.{names_of}
use Rattle.levels.specs.Walk.{TextForm}
use Rattle.context.specs.Entries.{field_code, instance_kind}
use Rattle.store.specs.Store.{first_at, kind_at, link_at, source_at}
use Rattle.store.specs.declared.Store.{Store}
use Rattle.store.specs.declared.Facts.{Facts}
use Rattle.context.specs.declared.Counts.{Counts}
use Rattle.worlds.proofs.Invariant.{length-meanings}
use Rattle.worlds.specs.Rows.{Row, no_row}
use Rattle.standing.specs.Chained.{Own, Through}
use Rattle.chains.specs.Ready.{DeclaredForms, FormsBelow, Ready}
use Rattle.chains.specs.Results.{FormOf, Itselves, WorldForm}
use Rattle.chains.specs.Walk.{LinkEntered, code_at, link_fits, outer_after, step_fits}
use Rattle.chains.proofs.Chain.{Walked, few-params, ok, walked_on, walked_start, walked_whole}
use Rattle.chains.proofs.Linking.{Within, fits-within, within-fits}

pub record Along (file refs words : List ℕ) (v : Store) (declared : List ℕ) (n d : ℕ) (numbers inner : List ℕ) (outer cur : ℕ) : Type 0 where
  pub outer-few : outer ≤ max_arity
  pub cur-few : cur < max_definitions
  pub room : n ≤ max_declarations
  pub walked : (c : Counts) (s : State) (rs : List Row) (decls : Declarations) (end : ℕ) (ready : Ready file refs v declared n c s rs decls end) → d < c.definitions
      → DeclaredForms words decls → Walked words s rs ready.worlds.runs decls d numbers inner outer cur

pub along-start : (file refs words : List ℕ) (v : Store) (declared : List ℕ) (n d : ℕ) (numbers : List ℕ) → Itselves numbers
    → n ≤ max_declarations → d < max_definitions → Along file refs words v declared n d numbers words 0 d
along-start file refs words v declared n d numbers i room h =
    record {
      outer-few = omega arith;
      cur-few = h;
      room = room;
      walked = λ c s rs decls end ready there own.
          walked_start file refs words v declared n d c s rs decls end ready there room numbers i.each own;
    }

-- what a step that fits has
pub record Fitted (facts : List Facts) (outer cur : ℕ) : Type 0 where
  pub linked : 0 < link_at facts cur
  pub below : source_at facts cur < cur
  pub link : link_fits facts outer (code_at facts cur) ≡ true

fitted : (facts : List Facts) (outer cur : ℕ) → step_fits facts outer cur ≡ true → Fitted facts outer cur
unfolding step_fits
fitted facts outer cur e = go (eqb (link_at facts cur) 0) refl (ltb (source_at facts cur) cur) refl e
  where
    go : (a : Bool) → eqb (link_at facts cur) 0 ≡ a → (b : Bool) → ltb (source_at facts cur) cur ≡ b
        → cond a false (cond b (link_fits facts outer (code_at facts cur)) false) ≡ true → Fitted facts outer cur
    go true o b p q = absurd (let z : ◌≡◌ {A = ℕ} 0 1 = cc in omega arith)
    go false o true p q =
        record { linked = let n : link_at facts cur ≢ 0 = eqb-false (link_at facts cur) 0 o in omega arith; below = ltb-true (source_at facts cur) cur p; link = q }
    go false o false p q = absurd (let z : ◌≡◌ {A = ℕ} 0 1 = cc in omega arith)

fits : (facts : List Facts) (outer cur : ℕ) → 0 < link_at facts cur → source_at facts cur < cur → link_fits facts outer (code_at facts cur) ≡ true
    → step_fits facts outer cur ≡ true
unfolding step_fits
fits facts outer cur l h e =
    let n : link_at facts cur ≢ 0 = λ (z : link_at facts cur ≡ 0). omega arith in
    rw (ne_eqb (link_at facts cur) 0 n, lt-ltb (source_at facts cur) cur h) e

module _ (file refs words : List ℕ) (v : Store) (declared : List ℕ) (n d : ℕ) (numbers inner : List ℕ) (outer cur : ℕ)
    (along : Along file refs words v declared n d numbers inner outer cur) where
  module _ (c : Counts) (s : State) (rs : List Row) (decls : Declarations) (end : ℕ) (ready : Ready file refs v declared n c s rs decls end) (there : d < c.definitions)
      (own : DeclaredForms words decls) where
    now-walked : Walked words s rs ready.worlds.runs decls d numbers inner outer cur
    now-walked = along.walked c s rs decls end ready there own

    step : Own v file refs decls s end (get_or rs cur no_row) cur ⊎ Through v c file refs decls rs end (get_or rs cur no_row) cur
    step = ready.chained.each cur (omega (arith, now-walked.before))

    code-there : (t : Through v c file refs decls rs end (get_or rs cur no_row) cur) → code_at v.facts cur ≡ field_code t.field
    code-there t = omega (arith, t.linked)

    fits-there : (t : Through v c file refs decls rs end (get_or rs cur no_row) cur) → step_fits v.facts outer cur ≡ true
    fits-there t =
        let sh = t.shown in
        let p = few-params file refs words v declared n d c s rs decls end ready there along.room numbers inner outer cur now-walked t in
        let k = ok file refs words v declared n d c s rs decls end ready there along.room numbers inner outer cur now-walked t in
        let w : Within v.facts outer (field_code t.field) =
        record {
          kind = omega (arith, sh.params);
          params = omega (arith, sh.params, p, now-walked.around);
          owner = omega (arith, sh.link, sh.few, sh.stood.1, ready.modules);
          via = omega (arith, sh.via, sh.ended, ready.modules);
          first = omega (arith, sh.first, k.room, ready.counted, ready.few, length-meanings s);
        } in
        fits v.facts outer cur (omega (arith, t.linked)) (omega (arith, t.source, t.below))
        (subst (λ (o : ℕ). link_fits v.facts outer o ≡ true) (sym (code-there t)) (within-fits v.facts outer (field_code t.field) w))

  pub along-turn : (numbers' inner' : List ℕ) (outer' cur' : ℕ) → LinkEntered file refs v declared n outer (code_at v.facts cur) numbers numbers' inner inner'
      → step_fits v.facts outer cur ≡ true → outer' ≡ outer_after v.facts outer cur → cur' ≡ source_at v.facts cur
      → Along file refs words v declared n d numbers' inner' outer' cur'
  along-turn numbers' inner' outer' cur' x e po pc =
      let f = fitted v.facts outer cur e in
      record {
        outer-few = omega (arith, po, (fits-within v.facts outer (code_at v.facts cur) f.link).params);
        cur-few = omega (arith, pc, f.below, along.cur-few);
        room = along.room;
        walked = λ c s rs decls end ready there own. onward c s rs decls end ready there own (step c s rs decls end ready there own);
      }
    where
      onward : (c : Counts) (s : State) (rs : List Row) (decls : Declarations) (end : ℕ) (ready : Ready file refs v declared n c s rs decls end) (there : d < c.definitions)
          (own : DeclaredForms words decls) → Own v file refs decls s end (get_or rs cur no_row) cur ⊎ Through v c file refs decls rs end (get_or rs cur no_row) cur
          → Walked words s rs ready.worlds.runs decls d numbers' inner' outer' cur'
      onward c s rs decls end ready there own (inl o) = absurd (omega (arith, o.unlinked, (fitted v.facts outer cur e).linked))
      onward c s rs decls end ready there own (inr t) =
          let q = code-there c s rs decls end ready there own t in
          let eo : outer + (kind_at v.facts (field_code t.field) - instance_kind) ≡ outer' =
          ap (λ (o : ℕ). outer + (kind_at v.facts o - instance_kind)) (sym q) ∙ sym po in
          let ec : t.from ≡ cur' = sym t.source ∙ sym pc in
          subst (λ (y : ℕ). Walked words s rs ready.worlds.runs decls d numbers' inner' outer' y) ec
          (subst (λ (y : ℕ). Walked words s rs ready.worlds.runs decls d numbers' inner' y t.from) eo
          (walked_on file refs words v declared n d c s rs decls end ready there along.room numbers inner outer cur (now-walked c s rs decls end ready there own) t numbers' inner'
          (subst (λ (o : ℕ). LinkEntered file refs v declared n outer o numbers numbers' inner inner') q x)))

  pub along-whole : (r : ℕ) (at : ℕ) → step_fits v.facts outer cur ≡ false → TextForm (names_of refs numbers inner outer) file at r → at ≡ first_at v.facts cur
      → WorldForm file refs words v declared n d r
  along-whole r at h form here =
      record {
        right = λ c s rs decls end ready there below own. ends c s rs decls end ready there own below (step c s rs decls end ready there own);
      }
    where
      f : TextForm (names_of refs numbers inner outer) file (first_at v.facts cur) r
      f = subst (λ (m : ℕ). TextForm (names_of refs numbers inner outer) file m r) here form

      ends : (c : Counts) (s : State) (rs : List Row) (decls : Declarations) (end : ℕ) (ready : Ready file refs v declared n c s rs decls end) (there : d < c.definitions)
          (own : DeclaredForms words decls) → FormsBelow words s d → Own v file refs decls s end (get_or rs cur no_row) cur ⊎ Through v c file refs decls rs end (get_or rs cur no_row) cur
          → FormOf s d r
      ends c s rs decls end ready there own below (inl o) =
          walked_whole file refs words v declared n d c s rs decls end ready there along.room numbers inner outer cur (now-walked c s rs decls end ready there own) o below r f
      ends c s rs decls end ready there own below (inr t) =
          absurd
          (let y = fits-there c s rs decls end ready there own t in
          let z : ◌≡◌ {A = ℕ} 0 1 = cc in
          omega arith)

-- What the code reads

pub step-unlinked : (facts : List Facts) (outer cur l : ℕ) → l ≡ link_at facts cur → l ≡ 0 → false ≡ step_fits facts outer cur
unfolding step_fits
step-unlinked facts outer cur l e z = rw (eq-eqb (link_at facts cur) 0 (sym e ∙ z)) refl

pub step-linked : (facts : List Facts) (outer cur l f o : ℕ) (r : Bool) → r ≡ link_fits facts outer o → o ≡ code_at facts cur → l ≡ link_at facts cur → l ≢ 0
    → f ≡ source_at facts cur → f < cur → r ≡ step_fits facts outer cur
unfolding step_fits
step-linked facts outer cur l f o r e q i n p h =
    rw (ne_eqb (link_at facts cur) 0 (λ (z : link_at facts cur ≡ 0). n (i ∙ z)), lt-ltb (source_at facts cur) cur (omega arith)) (e ∙ ap (link_fits facts outer) q)

pub step-up : (facts : List Facts) (outer cur l f : ℕ) → l ≡ link_at facts cur → l ≢ 0 → f ≡ source_at facts cur → cur ≤ f → false ≡ step_fits facts outer cur
unfolding step_fits
step-up facts outer cur l f i n p h =
    rw (ne_eqb (link_at facts cur) 0 (λ (z : link_at facts cur ≡ 0). n (i ∙ z)), le-ltb (source_at facts cur) cur (omega arith)) refl

pub has-link : (facts : List Facts) (outer cur : ℕ) → step_fits facts outer cur ≡ true → 0 < link_at facts cur
has-link facts outer cur e = (fitted facts outer cur e).linked

pub step-kind : (facts : List Facts) (outer cur o k : ℕ) → k ≡ kind_at facts o → o ≡ code_at facts cur → step_fits facts outer cur ≡ true → instance_kind ≤ k
step-kind facts outer cur o k p q e =
    omega (arith, (fits-within facts outer (code_at facts cur) (fitted facts outer cur e).link).kind, p ∙ ap (kind_at facts) q)

pub outer-read : (facts : List Facts) (outer cur o k r : ℕ) → k ≡ kind_at facts o → o ≡ code_at facts cur → r ≡ outer + (k - instance_kind) → r ≡ outer_after facts outer cur
outer-read facts outer cur o k r p q e = e ∙ ap (λ (m : ℕ). outer + (m - instance_kind)) (p ∙ ap (kind_at facts) q)

pub step-link : (facts : List Facts) (outer cur o : ℕ) → o ≡ code_at facts cur → step_fits facts outer cur ≡ true → link_fits facts outer o ≡ true
step-link facts outer cur o q e = ap (link_fits facts outer) q ∙ (fitted facts outer cur e).link

pub step_less : (facts : List Facts) (outer cur m : ℕ) → m ≡ source_at facts cur → step_fits facts outer cur ≡ true → m < cur
step_less facts outer cur m p e = omega (arith, (fitted facts outer cur e).below)

pub link-at : (file refs : List ℕ) (v : Store) (declared : List ℕ) (n outer o cur : ℕ) (numbers numbers' inner inner' : List ℕ)
    → LinkEntered file refs v declared n outer o numbers numbers' inner inner' → o ≡ code_at v.facts cur
    → LinkEntered file refs v declared n outer (code_at v.facts cur) numbers numbers' inner inner'
link-at file refs v declared n outer o cur numbers numbers' inner inner' x q =
    subst (λ (y : ℕ). LinkEntered file refs v declared n outer y numbers numbers' inner inner') q x

pub form-copied : (file refs words inner : List ℕ) (v : Store) (declared : List ℕ) (n d : ℕ) (r : ℕ) → WorldForm file refs inner v declared n d r → inner ≡ words
    → WorldForm file refs words v declared n d r
form-copied file refs words inner v declared n d r f e = subst (λ (y : List ℕ). WorldForm file refs y v declared n d r) e f
