-- `substitutes`: what stands for one declaration, and the table turn by turn.
use mathlib.Core.Path.{◌≡◌, refl, sym, ap, subst, ◌∙◌}
use mathlib.Core.List.{List}
use mathlib.Core.Option.{Option, none, some}
use Prim.Native.Nat.{ℕ, ◌+◌, ◌-◌, ◌*◌, ◌≤◌, ◌<◌}
use native.Mathlib.Decide.{ℕ_discrete}
use native.Mathlib.Omega.{arith}
use borrow.Author.Tests.{eq-eqb, ne_eqb}
use lib.ListN.{get_or, length}
use Rattle.limits.specs.Limits.{max_declarations}
use Rattle.limits.specs.Sizes.{context_length}
use Rattle.theory.specs.Lists.{bind_option}
use Rattle.forms.specs.Forms.{form_at, Gives, stored}
use Rattle.forms.proofs.Tables.{load-other, load_same, stored-length}
use Rattle.levels.specs.Tables.{names_of}
use Rattle.levels.specs.Walk.{TextForm}
use Rattle.context.specs.Parts.{part}
use Rattle.context.specs.Entries.{context_codes}
use Rattle.store.specs.Store.{context_slot, kind_at}
use Rattle.store.specs.declared.Facts.{Facts}
use Rattle.context.specs.Lookup.{as_code, declared_named}
use Rattle.std.specs.Prelude.{Option as Answer, Some, None}
use Rattle.context.proofs.Answers.{declared-there}
use Rattle.entering.specs.declared.substitutes.Site.{Site}
use Rattle.entering.specs.Written.{written_at}
use Rattle.entering.specs.Implied.{arguments_of, implied_level, implied_ref}
use Rattle.entering.specs.Substitutes.{Added, Around, Stands, StandsAt, StandsBy, Substituted, next_words, of_kind, same_declared}

module _ (a : Around) (site : Site) (o : ℕ) (f : ℕ) (x : ℕ) (w : Answer ℕ) (ex : x ≡ get_or a.names o 0)
    (ew : w ≡ written_at site.count a.file site.start x) where
  there : (k : Answer ℕ) → w ≡ k → written_at site.count a.file site.start (get_or a.names o 0) ≡ k
  there k e = ap (written_at site.count a.file site.start) (sym ex) ∙ sym ew ∙ e

  pub stands-written : (at : ℕ) → w ≡ Some at → TextForm (names_of a.refs a.numbers a.words site.outer) a.file at f → Stands a site o f
  stands-written at e t = record { means = subst (λ (k : Answer ℕ). StandsBy a site o k f) (sym (there (Some at) e)) t }

  pub stands-implied : (r n k : ℕ) → w ≡ None → r ≡ implied_ref a.names a.facts a.contexts a.heads site.owner x
      → n ≡ kind_at a.facts o → k ≡ arguments_of n → Gives f (implied_level a.numbers a.words r site.outer site.params k) → Stands a site o f
  stands-implied r n k e er en ek g =
      record {
        means = subst (λ (k : Answer ℕ). StandsBy a site o k f) (sym (there None e))
            (subst (λ (j : ℕ). Gives f (implied_level a.numbers a.words (implied_ref a.names a.facts a.contexts a.heads site.owner (get_or a.names o 0)) site.outer site.params j)) (ek ∙ ap arguments_of en)
            (subst (λ (j : ℕ). Gives f (implied_level a.numbers a.words j site.outer site.params k)) (er ∙ ap (implied_ref a.names a.facts a.contexts a.heads site.owner) ex) g));
      }

pub placed : (a : Around) (site : Site) (o d f : ℕ) (before : List ℕ) → d < max_declarations → length before ≡ next_words → Stands a site o f
    → StandsAt a site o d before (stored before d f)
placed a site o d f before small l s =
    record { size = stored-length before d f; here = subst (Stands a site o) (sym (load_same before d f (omega arith))) s; others = λ g n. load-other before d g f n }

-- the code that was found, or none
module _ (facts : List Facts) (e o : ℕ) (k l : ℕ) (ek : k ≡ kind_at facts o) (el : l ≡ kind_at facts e) where
  pub kind-same : k ≡ l → Some o ≡ as_code (of_kind facts e o)
  unfolding of_kind as_code
  kind-same h = let z : kind_at facts o ≡ kind_at facts e = sym ek ∙ h ∙ el in rw (eq-eqb (kind_at facts o) (kind_at facts e) z) refl

  pub kind-other : (k ≡ l → ⊥) → None ≡ as_code (of_kind facts e o)
  unfolding of_kind as_code
  kind-other h =
      let z : kind_at facts o ≡ kind_at facts e → ⊥ = λ (y : kind_at facts o ≡ kind_at facts e). h (ek ∙ y ∙ sym el) in
      rw (ne_eqb (kind_at facts o) (kind_at facts e) z) refl

at_some : (x : Option ℕ) (o : ℕ) → Some o ≡ as_code x → x ≡ some o
unfolding as_code
at_some none o h = cc
at_some (some p) o h = cc

at_none : (x : Option ℕ) → None ≡ as_code x → x ≡ none
unfolding as_code
at_none none h = refl
at_none (some p) h = cc

module _ (names : List ℕ) (facts : List Facts) (contexts heads : List ℕ) (m e name count : ℕ) (q : Answer ℕ) (en : name ≡ get_or names e 0) (ec : count ≡ get_or heads (context_slot m) 0)
    (f : q ≡ as_code (declared_named names facts name (part contexts (m * context_length) (m * context_length + count - m * context_length)))) where
  there-code : q ≡ as_code (declared_named names facts (get_or names e 0) (context_codes contexts heads m))
  there-code =
      declared-there names facts contexts heads m name count q ec f
      ∙ ap (λ (x : ℕ). as_code (declared_named names facts x (context_codes contexts heads m))) en

  pub same-found : (o : ℕ) (r : Answer ℕ) → q ≡ Some o → r ≡ as_code (of_kind facts e o) → r ≡ as_code (same_declared names facts (context_codes contexts heads m) e)
  unfolding same_declared
  same-found o r h g =
      let z : declared_named names facts (get_or names e 0) (context_codes contexts heads m) ≡ some o
      = at_some (declared_named names facts (get_or names e 0) (context_codes contexts heads m)) o (sym h ∙ there-code) in
      g ∙ ap (λ (x : Option ℕ). as_code (bind_option x (of_kind facts e))) (sym z)

  pub same_none : (r : Answer ℕ) → q ≡ None → r ≡ None → r ≡ as_code (same_declared names facts (context_codes contexts heads m) e)
  unfolding same_declared as_code
  same_none r h k =
      let z : declared_named names facts (get_or names e 0) (context_codes contexts heads m) ≡ none
      = at_none (declared_named names facts (get_or names e 0) (context_codes contexts heads m)) (sym h ∙ there-code) in
      k ∙ ap (λ (x : Option ℕ). as_code (bind_option x (of_kind facts e))) (sym z)

module _ (a : Around) (site : Site) (codes : List ℕ) (e d : ℕ) (q : Answer ℕ) (same : q ≡ as_code (same_declared a.names a.facts codes e)) where
  pub added_none : (table : List ℕ) → q ≡ None → Added a site codes e d table table
  added_none table h =
      let z : same_declared a.names a.facts codes e ≡ none = at_none (same_declared a.names a.facts codes e) (sym h ∙ same) in
      record { size = refl; here = λ o k. absurd (clash o (sym z ∙ k)); others = λ g n. refl }
    where
      clash : (o : ℕ) → none ≡ some o → ⊥
      clash o h = let z : ◌≡◌ {A = ℕ} 0 1 = cc in absurd (omega arith)

  pub added-one : (o : ℕ) (before after : List ℕ) → q ≡ Some o → StandsAt a site o d before after → Added a site codes e d before after
  added-one o before after h new =
      let z : same_declared a.names a.facts codes e ≡ some o = at_some (same_declared a.names a.facts codes e) o (sym h ∙ same) in
      record {
        size = new.size;
        here = λ p k. subst (λ (j : ℕ). Stands a site j (form_at after d)) (one o p (sym z ∙ k)) new.here;
        others = new.others;
      }
    where
      one : (o p : ℕ) → some o ≡ some p → o ≡ p
      one o p h = cc

-- the first d declarations are done
module _ (a : Around) (site : Site) (codes declared : List ℕ) where
  pub substituted-start : (table : List ℕ) → Substituted a site codes declared 0 table table
  substituted-start table = record { size = refl; each = λ (d : ℕ) (h : d < 0). absurd (omega arith) }

  pub substituted-turn : (before table after : List ℕ) (d e : ℕ) → Substituted a site codes declared d before table → e ≡ get_or declared d 0
      → Added a site codes e d table after → Substituted a site codes declared (d + 1) before after
  substituted-turn before table after d e inv ee new =
      record { size = new.size ∙ inv.size; each = λ g h o k. by g h o k (ℕ_discrete g d) }
    where
      by : (g : ℕ) → g < d + 1 → (o : ℕ) → same_declared a.names a.facts codes (get_or declared g 0) ≡ some o → Dec (g ≡ d) → Stands a site o (form_at after g)
      by g h o k (yes q) =
          subst (λ (j : ℕ). Stands a site o (form_at after j)) (sym q)
          (new.here o (ap (same_declared a.names a.facts codes) (ee ∙ ap (λ (j : ℕ). get_or declared j 0) (sym q)) ∙ k))
      by g h o k (no q) =
          let z : g < d = omega arith in
          subst (Stands a site o) (sym (new.others g q)) (inv.each g z o k)

  pub substituted-whole : (before after : List ℕ) (d n : ℕ) → d ≤ n → n ≤ d → Substituted a site codes declared d before after
      → Substituted a site codes declared n before after
  substituted-whole before after d n h k inv = let e : d ≡ n = omega arith in subst (λ (m : ℕ). Substituted a site codes declared m before after) e inv
