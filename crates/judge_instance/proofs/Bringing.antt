-- What the rows of the store hold after an INSTANCE field.
use mathlib.Core.List.{List, [], ◌∷◌}
use mathlib.Core.Path.{◌∙◌, ◌≡◌, ap, refl}
use lib.ListN.{get_or, length, length-set}
use lib.Seq.{get_or-set_other}
use native.Mathlib.Nat.{add-zero}
use native.Mathlib.Omega.{arith}
use Prim.Native.Nat.{◌+◌, ◌<◌, ◌≤◌, suc, zero, ℕ}
use Rattle.context.proofs.Change.{fact-other, fact-same}
use Rattle.store.specs.Store.{first_at, kind_at, link_at, no_facts, source_at, via_at}
use Rattle.store.specs.declared.Store.{Store}
use Rattle.store.specs.declared.Facts.{Facts}
use Rattle.instancing.specs.Bringing.{bring_all, bring_one, brought_row, instance_noted, instancing}
use Rattle.context.specs.Entries.{order_of}
use Rattle.context.specs.declared.Counts.{Counts}

module _ (m p name link : ℕ) where
  abbrev pub all : Store → ℕ → List ℕ → Store
  all v o gs = bring_all m p name link v o gs

  abbrev one : Store → ℕ → ℕ → Store
  one v o g = bring_one m p name link v o g

  -- the codes of the declarations stay
  pub all-declared : (gs : List ℕ) (v : Store) (o : ℕ) → (all v o gs).declared ≡ v.declared
  unfolding bring_all bring_one
  all-declared [] v o = refl
  all-declared (g ∷ gs) v o = all-declared gs (one v o g) (suc o)

  -- Codes that it does not store keep their names and facts,

  pub all-names : (gs : List ℕ) (v : Store) (o x : ℕ) → ((i : ℕ) → i < length gs → x ≡ o + i → ⊥) → get_or (all v o gs).names x 0 ≡ get_or v.names x 0
  unfolding bring_all bring_one
  all-names [] v o x out = refl
  all-names (g ∷ gs) v o x out =
      all-names gs (one v o g) (suc o) x (λ i l e. out (suc i) (omega arith) (omega arith))
      ∙ get_or-set_other v.names o x (get_or v.names g 0) 0 (λ e. out 0 (omega arith) (omega arith))

  pub all-facts : (gs : List ℕ) (v : Store) (o x : ℕ) → ((i : ℕ) → i < length gs → x ≡ o + i → ⊥) → get_or (all v o gs).facts x no_facts ≡ get_or v.facts x no_facts
  unfolding bring_all bring_one
  all-facts [] v o x out = refl
  all-facts (g ∷ gs) v o x out =
      all-facts gs (one v o g) (suc o) x (λ i l e. out (suc i) (omega arith) (omega arith))
      ∙ fact-other v.facts o (brought_row v.facts g p name link) x (λ e. out 0 (omega arith) (omega arith))

  pub all-facts-size : (gs : List ℕ) (v : Store) (o : ℕ) → length (all v o gs).facts ≡ length v.facts
  unfolding bring_all bring_one
  all-facts-size [] v o = refl
  all-facts-size (g ∷ gs) v o = all-facts-size gs (one v o g) (suc o) ∙ length-set v.facts o (brought_row v.facts g p name link)

  -- and each that it does says where it comes from.

  pub all-source : (gs : List ℕ) (v : Store) (o i : ℕ) → i < length gs → o + length gs ≤ length v.facts
      → source_at (all v o gs).facts (o + i) ≡ get_or gs i 0
  unfolding bring_all bring_one brought_row
  all-source [] v o i l fits = absurd (omega arith)
  all-source (g ∷ gs) v o zero l fits =
      ap (source_at (all (one v o g) (suc o) gs).facts) (add-zero o)
      ∙ ap (λ (f : Facts). f.source) (all-facts gs (one v o g) (suc o) o (λ i l e. omega arith) ∙ fact-same v.facts o (brought_row v.facts g p name link) (omega arith))
  all-source (g ∷ gs) v o (suc i) l fits =
      let e : o + suc i ≡ suc o + i = omega arith in
      let z : length (one v o g).facts ≡ length v.facts = length-set v.facts o (brought_row v.facts g p name link) in
      ap (source_at (all (one v o g) (suc o) gs).facts) e ∙ all-source gs (one v o g) (suc o) i (omega arith) (omega arith)

  pub all-link : (gs : List ℕ) (v : Store) (o i : ℕ) → i < length gs → o + length gs ≤ length v.facts
      → link_at (all v o gs).facts (o + i) ≡ link
  unfolding bring_all bring_one brought_row
  all-link [] v o i l fits = absurd (omega arith)
  all-link (g ∷ gs) v o zero l fits =
      ap (link_at (all (one v o g) (suc o) gs).facts) (add-zero o)
      ∙ ap (λ (f : Facts). f.link) (all-facts gs (one v o g) (suc o) o (λ i l e. omega arith) ∙ fact-same v.facts o (brought_row v.facts g p name link) (omega arith))
  all-link (g ∷ gs) v o (suc i) l fits =
      let e : o + suc i ≡ suc o + i = omega arith in
      let z : length (one v o g).facts ≡ length v.facts = length-set v.facts o (brought_row v.facts g p name link) in
      ap (link_at (all (one v o g) (suc o) gs).facts) e ∙ all-link gs (one v o g) (suc o) i (omega arith) (omega arith)

-- what is kept of the field
module _ (m o name : ℕ) (r : Facts) (v : Store) where
  abbrev noted : Store
  noted = instance_noted m o name r v

  pub noted-names : (x : ℕ) → (x ≡ o → ⊥) → get_or noted.names x 0 ≡ get_or v.names x 0
  unfolding instance_noted
  noted-names x n = get_or-set_other v.names o x name 0 n

  pub noted-facts : (x : ℕ) → (x ≡ o → ⊥) → get_or noted.facts x no_facts ≡ get_or v.facts x no_facts
  unfolding instance_noted
  noted-facts x n = fact-other v.facts o r x n

  module _ (fits : o < length v.facts) where
    pub noted-kind : kind_at noted.facts o ≡ r.kind
    unfolding instance_noted
    noted-kind = ap (λ (f : Facts). f.kind) (fact-same v.facts o r fits)

    pub noted-first : first_at noted.facts o ≡ r.first
    unfolding instance_noted
    noted-first = ap (λ (f : Facts). f.first) (fact-same v.facts o r fits)

    pub noted-via : via_at noted.facts o ≡ r.via
    unfolding instance_noted
    noted-via = ap (λ (f : Facts). f.via) (fact-same v.facts o r fits)

    pub noted-source : source_at noted.facts o ≡ r.source
    unfolding instance_noted
    noted-source = ap (λ (f : Facts). f.source) (fact-same v.facts o r fits)

    pub noted-link : link_at noted.facts o ≡ r.link
    unfolding instance_noted
    noted-link = ap (λ (f : Facts). f.link) (fact-same v.facts o r fits)

pub declared-kept : (c : Counts) (n p q at w : ℕ) (v : Store) → (instancing c n p q at w v).declared ≡ v.declared
unfolding instancing instance_noted
declared-kept c n p q at w v = all-declared c.modules p n (c.fields + 1) (order_of v.orders v.heads q) v c.definitions
