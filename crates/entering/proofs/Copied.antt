-- `sharing`: the test, the search, the copy; and what stands for one declaration stands for those of its kind and name.
use mathlib.Core.Path.{◌≡◌, refl, sym, ap, ap₂, subst, ◌∙◌}
use mathlib.Core.Bool.{Bool, true, false, cond, ◌&&◌}
use mathlib.Core.List.{List}
use mathlib.Core.Option.{none, some}
use Prim.Native.Nat.{ℕ, ◌+◌, ◌<◌}
use native.Mathlib.Omega.{arith}
use borrow.Author.Tests.{eq-eqb, ne_eqb, eqb-true}
use lib.Dec.{eqb}
use lib.ListN.{get_or, length}
use Rattle.limits.specs.Limits.{max_declarations}
use Rattle.theory.specs.Lists.{bind_option}
use Rattle.forms.specs.Forms.{form_at, stored}
use Rattle.forms.proofs.Tables.{load-other, load_same, stored-length}
use Rattle.store.specs.Store.{kind_at}
use Rattle.store.specs.declared.Facts.{Facts}
use Rattle.context.specs.Lookup.{declared_named}
use Rattle.entering.specs.declared.substitutes.Site.{Site}
use Rattle.entering.specs.Substitutes.{Around, Stands, Substituted, next_words, of_kind, same_declared}
use Rattle.entering.specs.Shared.{Again, same_kind}
use Rattle.entering.proofs.Substituting.{substituted-turn}

-- the test
module _ (names : List ℕ) (facts : List Facts) (e o m n : ℕ) (em : m ≡ get_or names e 0) (en : n ≡ get_or names o 0) where
  pub kinds-told : (k l : ℕ) (r : Bool) → m ≡ n → k ≡ kind_at facts e → l ≡ kind_at facts o → r ≡ eqb k l
      → r ≡ same_kind names facts e o
  unfolding same_kind
  kinds-told k l r h ek el er =
      er ∙ ap₂ eqb ek el ∙ sym (ap (λ (b : Bool). b && eqb (kind_at facts e) (kind_at facts o)) (eq-eqb (get_or names e 0) (get_or names o 0) (sym em ∙ h ∙ en)))

  pub names-differ : (m ≡ n → ⊥) → false ≡ same_kind names facts e o
  unfolding same_kind
  names-differ h =
      sym (ap (λ (b : Bool). b && eqb (kind_at facts e) (kind_at facts o))
      (ne_eqb (get_or names e 0) (get_or names o 0) (λ (q : get_or names e 0 ≡ get_or names o 0). h (em ∙ q ∙ sym en))))

-- the search
module _ (names : List ℕ) (facts : List Facts) (declared : List ℕ) (d : ℕ) where
  pub same_here : (i e o : ℕ) (r : Bool) → o ≡ get_or declared d 0 → e ≡ get_or declared i 0 → r ≡ same_kind names facts e o → r ≡ true
      → same_kind names facts (get_or declared i 0) (get_or declared d 0) ≡ true
  same_here i e o r eo ee er h = ap₂ (same_kind names facts) (sym ee) (sym eo) ∙ sym er ∙ h

  pub same-itself : same_kind names facts (get_or declared d 0) (get_or declared d 0) ≡ true
  unfolding same_kind
  same-itself =
      rw (
        eq-eqb (get_or names (get_or declared d 0) 0) (get_or names (get_or declared d 0) 0) refl,
        eq-eqb (kind_at facts (get_or declared d 0)) (kind_at facts (get_or declared d 0)) refl,
      )
      refl

-- the copy
pub again : (i d f : ℕ) (before : List ℕ) → d < max_declarations → length before ≡ next_words → f ≡ form_at before i → Again i d before (stored before d f)
again i d f before small l ei =
    record { size = stored-length before d f; here = load_same before d f (omega arith) ∙ ei; others = λ g n. load-other before d g f n }

-- one name and one kind: one declaration among the codes
both : (a b : Bool) → a && b ≡ true → (a ≡ true) × (b ≡ true)
both true b h = (refl, h)
both false b h = let z : ◌≡◌ {A = ℕ} 0 1 = cc in absurd (omega arith)

pub same-declared : (names : List ℕ) (facts : List Facts) (codes : List ℕ) (e o : ℕ) → same_kind names facts e o ≡ true → same_declared names facts codes e ≡ same_declared names facts codes o
unfolding same_kind same_declared of_kind
same-declared names facts codes e o h =
    let t = both (eqb (get_or names e 0) (get_or names o 0)) (eqb (kind_at facts e) (kind_at facts o)) h in
    let n : get_or names e 0 ≡ get_or names o 0 = eqb-true (get_or names e 0) (get_or names o 0) t.0 in
    let k : kind_at facts e ≡ kind_at facts o = eqb-true (kind_at facts e) (kind_at facts o) t.1 in
    ap₂ (λ (x y : ℕ). bind_option (declared_named names facts x codes) (λ (p : ℕ). cond (eqb (kind_at facts p) y) (some p) none)) n k

module _ (a : Around) (site : Site) (codes declared : List ℕ) where
  -- the form of a declaration before d is that of d
  pub substituted-copy : (before after : List ℕ) (i d : ℕ) → Substituted a site codes declared d before before → i < d
      → same_kind a.names a.facts (get_or declared i 0) (get_or declared d 0) ≡ true → Again i d before after
      → Substituted a site codes declared (d + 1) before after
  substituted-copy before after i d inv h k new =
      substituted-turn a site codes declared before before after d (get_or declared d 0) inv refl
      (record {
        size = new.size;
        here = λ o q. subst (Stands a site o) (sym new.here)
            (inv.each i h o (same-declared a.names a.facts codes (get_or declared i 0) (get_or declared d 0) k ∙ q));
        others = new.others;
      })

  pub substituted-now : (before table : List ℕ) (d : ℕ) → Substituted a site codes declared d before table → Substituted a site codes declared d table table
  substituted-now before table d inv = record { size = refl; each = inv.each }

  pub substituted-next : (before table after : List ℕ) (d : ℕ) → Substituted a site codes declared d before table
      → Substituted a site codes declared (d + 1) table after → Substituted a site codes declared (d + 1) before after
  substituted-next before table after d inv new = record { size = new.size ∙ inv.size; each = new.each }
