-- What holds of each definition when all are added.
use mathlib.Core.List.{List, [], ◌++◌, ◌∷◌, append_assoc}
use mathlib.Core.Option.{Option, some}
use mathlib.Core.Path.{◌∙◌, ◌≡◌, ap, ap₂, fun_ext, refl, subst, sym}
use lib.ListN.{get_or-append, get_or, length, length-append}
use lib.Seq.{get_or-append-add}
use native.Mathlib.Nat.{suc-add, zero-add}
use native.Mathlib.Omega.{arith}
use Prim.Native.Nat.{◌+◌, ◌<◌, suc, zero, ℕ}
use Rattle.laws.proofs.Formats.{some-injective}
use Rattle.laws.proofs.Sound.{arities-more}
use Rattle.theory.proofs.Later.{expand-later, formed-later, templates-later}
use Rattle.theory.proofs.Lists.{none-some}
use Rattle.theory.proofs.Summary.{AllFormed, FormedDefinition}
use Rattle.theory.specs.Expand.{Definition, Template, arities_of, body_in, brought, expand, instantiate, no_template, own, template_of, templates, templates_from}
use Rattle.theory.specs.Term.{Kind, Term, WellFormed, kind_arity}
use Rattle.worlds.proofs.Uses.{definition_in, uses-all}
use Rattle.worlds.specs.World.{Uses}

-- What holds in the end, when all are added, of definition D: ts are the templates of all. For an own one,
pub record SettledOwn (ts : List Template) (D n : ℕ) (t : Term) : Type 0 where
  pub formed : WellFormed (arities_of ts) n 0 t
  pub arity : arities_of ts D ≡ some n
  pub expands : body_in ts D ≡ expand (body_in ts) t
  pub uses : Uses (λ h. h < D) t

-- and for a brought one
pub record SettledBrought (ts : List Template) (D p : ℕ) (σ : Kind → ℕ → Term) (g : ℕ) : Type 0 where
  pub formed : (c : Kind) (x : ℕ) → WellFormed (arities_of ts) (p + kind_arity c) 0 (σ c x)
  pub arity : (m : ℕ) → arities_of ts g ≡ some m → arities_of ts D ≡ some (p + m)
  pub expands : body_in ts D ≡ instantiate (λ k x. expand (body_in ts) (σ k x)) p (body_in ts g)
  pub uses : (c : Kind) (x : ℕ) → Uses (λ h. h < D) (σ c x)

abbrev pub Settled : List Template → ℕ → Definition → Type 0
Settled ts D (own n t) = SettledOwn ts D n t
Settled ts D (brought p σ g) = SettledBrought ts D p σ g

arity-below : (ts : List Template) (g m : ℕ) → arities_of ts g ≡ some m → g < length ts
arity-below [] g m e = none-some m e
arity-below (t ∷ ts) zero m e = omega arith
arity-below (t ∷ ts) (suc g) m e = omega (arith, arity-below ts g m e)

arity-seam : (ts : List Template) (t : Template) (us : List Template) → arities_of ((ts ++ (t ∷ [])) ++ us) (length ts + 0) ≡ some t.params
arity-seam [] t us = refl
arity-seam (u ∷ ts) t us = rw (suc-add (length ts) 0) (arity-seam ts t us)

body-seam : (ts : List Template) (t : Template) (us : List Template) → body_in ((ts ++ (t ∷ [])) ++ us) (length ts + 0) ≡ t.body
body-seam ts t us = ap (λ (l : List Template). body_in l (length ts + 0)) (append_assoc ts (t ∷ []) us) ∙ ap (λ (x : Template). x.body) (get_or-append-add ts (t ∷ us) 0 no_template)

template-stays : (ts us : List Template) (g m : ℕ) → arities_of ts g ≡ some m → get_or (ts ++ us) g no_template ≡ get_or ts g no_template
template-stays ts us g m e = get_or-append ts us no_template g (arity-below ts g m e)

settled-first : (known : List Template) (d : Definition) (us : List Template) → FormedDefinition known d → Settled ((known ++ (template_of known d ∷ [])) ++ us) (length known + 0) d
settled-first known (own n t) us w =
    let e = append_assoc known (template_of known (own n t) ∷ []) us in
    let r = template_of known (own n t) ∷ us in
    record {
      formed = subst (λ (l : List Template). WellFormed (arities_of l) n 0 t) (sym e) (formed-later known r n 0 t w);
      arity = arity-seam known (template_of known (own n t)) us;
      expands = body-seam known (template_of known (own n t)) us ∙ expand-later known r n 0 t w ∙ ap (λ (l : List Template). expand (body_in l) t) (sym e);
      uses = uses-all (λ h. h < length known + 0) (arities_of known) n t (λ h m e. omega (arith, arity-below known h m e)) w;
    }
settled-first known (brought p σ g) us w =
    let d = template_of known (brought p σ g) in
    let e = append_assoc known (d ∷ []) us in
    let r = d ∷ us in
    let m = (get_or known g no_template).params in
    record {
      formed = λ c x. subst (λ (l : List Template). WellFormed (arities_of l) (p + kind_arity c) 0 (σ c x)) (sym e) (formed-later known r (p + kind_arity c) 0 (σ c x) (w.0 c x));
      arity =
          λ i q.
          let known-there = arities-more known r g m w.1 in
          let same : m ≡ i = some-injective (sym (subst (λ (l : List Template). arities_of l g ≡ some m) (sym e) known-there) ∙ q) in
          arity-seam known d us ∙ ap {B = Option ℕ} (λ (x : ℕ). some (p + x)) same;
      expands =
          body-seam known d us
          ∙ ap₂ (λ (τ : Kind → ℕ → Term) (b : Term). instantiate τ p b)
          (fun_ext λ c. fun_ext λ x. expand-later known r (p + kind_arity c) 0 (σ c x) (w.0 c x) ∙ ap (λ (l : List Template). expand (body_in l) (σ c x)) (sym e))
          (ap (λ (z : Template). z.body) (sym (template-stays known r g m w.1)) ∙ ap (λ (l : List Template). body_in l g) (sym e));
      uses = λ c x. uses-all (λ h. h < length known + 0) (arities_of known) (p + kind_arity c) (σ c x) (λ h m e. omega (arith, arity-below known h m e)) (w.0 c x);
    }

settled-from : (known : List Template) (ds : List Definition) → AllFormed known ds → (D : ℕ) → D < length ds → Settled (templates_from known ds) (length known + D) (definition_in ds D)
settled-from known [] w D l = absurd (omega arith)
settled-from known (d ∷ ds) w zero l =
    let r = templates-later (known ++ (template_of known d ∷ [])) ds in
    subst (λ (ts : List Template). Settled ts (length known + 0) d) (sym r.1) (settled-first known d r.0 w.0)
settled-from known (d ∷ ds) w (suc D) l =
    subst (λ (i : ℕ). Settled (templates_from known (d ∷ ds)) i (definition_in ds D)) (rw length-append (omega arith))
    (settled-from (known ++ (template_of known d ∷ [])) ds w.1 D (omega arith))

pub settled : (ds : List Definition) → AllFormed [] ds → (D : ℕ) → D < length ds → Settled (templates ds) D (definition_in ds D)
settled ds w D l = subst (λ (i : ℕ). Settled (templates ds) i (definition_in ds D)) (zero-add D) (settled-from [] ds w D l)
