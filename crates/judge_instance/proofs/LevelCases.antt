-- One lemma for each way through the functions that judge what comes after the names.
use borrow.Author.Tests.{eq-eqb, eqb-true, ne_eqb}
use mathlib.Core.Bool.{Bool, ◌&&◌, ◌||◌, cond, false, not, or_assoc, or-false, true}
use mathlib.Core.List.{List, ◌∷◌}
use mathlib.Core.Path.{◌∙◌, ◌≡◌, ap, ap₂, refl, subst, sym}
use lib.Dec.{eqb, leb}
use lib.ListN.{get_or, replicate}
use native.Mathlib.Omega.{arith}
use Prim.Native.Nat.{◌*◌, ◌+◌, ◌-◌, ◌<◌, ◌≤◌, suc, zero, ℕ}
use Rattle.context.proofs.Judging.{kind_answered, kind_of}
use Rattle.context.proofs.Parts.{part_end, part-turn}
use Rattle.context.specs.Lookup.{as_code, declared_named, is_declared, operator_in}
use Rattle.context.specs.Parts.{part}
use Rattle.context.specs.Entries.{context_codes}
use Rattle.store.specs.Store.{context_slot, kind_at}
use Rattle.store.specs.declared.Facts.{Facts}
use Rattle.std.specs.Prelude.{Option as Answer, Some, None}
use Rattle.context.specs.declared.Operator.{Operator}
use Rattle.context.specs.declared.Operator.TheVariants.{Constant, Variable, Defined}
use Rattle.entering.specs.Substitutes.{Around, Stands, around}
use Rattle.entering.specs.declared.substitutes.Site.{Site}
use Rattle.forms.specs.Forms.{level_at}
use Rattle.limits.specs.Limits.{max_definitions}
use Rattle.limits.specs.Sizes.{context_length}
use Rattle.rules.specs.Instance.{is_kind, lawful}
use Rattle.standing.specs.Standing.{itselves}
use Rattle.theory.proofs.Lists.{never}
use Rattle.theory.specs.Lists.{numbers_from}
use Rattle.theory.specs.Term.{Kind, constant, variable}
use Rattle.instance_names.specs.Causes.{first_number}
use Rattle.judge_instance.specs.Levels.{LaterJudged, LevelFound, LevelsSeen, Tested, answers, is_at, is_free, is_incorrect, is_mixed, is_unlawful, later_causes, own_kind, seen_with}
use Rattle.judge_instance.specs.declared.lawful.Seen.{Seen}

pub eqb-turn : (a b : ℕ) → eqb a b ≡ eqb b a
eqb-turn a b = go (eqb a b) refl
  where
    go : (t : Bool) → eqb a b ≡ t → t ≡ eqb b a
    go true e = sym (eq-eqb b a (sym (eqb-true a b e)))
    go false e = sym (ne_eqb b a (λ (z : b ≡ a). never (sym (eq-eqb a b (sym z)) ∙ e)))

-- is_free, is_lawful
module _ (b : Bool) (kind : ℕ) where
  pub free-zero : kind ≡ 0 → b ≡ is_free b kind
  unfolding is_free
  free-zero e = rw e refl

  pub free_other : (kind ≡ 0 → ⊥) → eqb kind 0 ≡ is_free b kind
  unfolding is_free
  free_other n = rw (ne_eqb kind 0 n) refl

  module _ (level : ℕ) where
    pub lawful-variable : kind ≡ 256 → leb level 1 ≡ lawful b (kind_of kind) level
    lawful-variable e = rw e refl

    pub lawful-free : (f : Bool) → f ≡ is_free b kind → f ≡ true → not (eqb level 4) ≡ lawful b (kind_of kind) level
    unfolding is_free
    lawful-free f e t = go (eqb kind 0) refl b refl (sym e ∙ t)
      where
        go : (x : Bool) → eqb kind 0 ≡ x → (y : Bool) → b ≡ y → x && y ≡ true → not (eqb level 4) ≡ lawful b (kind_of kind) level
        go true p true q z = rw (eqb-true kind 0 p, q) (ap not (eqb-turn level 4))
        go true p false q z = never (sym z)
        go false p y q z = never (sym z)

    pub lawful-bound : (f : Bool) → (kind ≡ 256 → ⊥) → f ≡ is_free b kind → f ≡ false → eqb level 0 ≡ lawful b (kind_of kind) level
    unfolding is_free
    lawful-bound f n e t = rw (ne_eqb kind 256 n) (go kind b (sym e ∙ t))
      where
        go : (k : ℕ) (y : Bool) → eqb k 0 && y ≡ false → eqb level 0 ≡ lawful y (constant k) level
        go zero true z = never z
        go zero false z = refl
        go (suc k) y z = refl

-- with_level
pub with-level : (b : Bool) (seen : Seen) (kind level : ℕ) (x u t m lawfully : Bool) → lawfully ≡ lawful b (kind_of kind) level → x ≡ (seen.incorrect || eqb level 4)
    → u ≡ (seen.unlawful || not lawfully) → t ≡ (seen.transition || eqb level 2) → m ≡ (seen.temporal || eqb level 3)
    → record { incorrect = x; unlawful = u; transition = t; temporal = m } ≡ seen_with b seen (kind_of kind) level
unfolding seen_with
with-level b seen kind level x u t m lawfully e ex eu et em =
    rw (ex, eu, et, em, e, eqb-turn level 4, eqb-turn level 2, eqb-turn level 3) refl

-- cause_seen
module _ (b : Bool) (seen : Seen) where
  module _ (named : Bool) where
    pub seen-12 : seen.incorrect ≡ true → 12 ≡ first_number (later_causes b seen named)
    unfolding later_causes
    seen-12 e = rw e refl

    pub seen-14 : seen.incorrect ≡ false → seen.unlawful ≡ true → 14 ≡ first_number (later_causes b seen named)
    unfolding later_causes
    seen-14 e f = rw (e, f) refl

    module _ (r : Bool) (h : r ≡ is_mixed b seen) where
      pub seen-21 : seen.incorrect ≡ false → seen.unlawful ≡ false → r ≡ true → 21 ≡ first_number (later_causes b seen named)
      unfolding later_causes
      seen-21 e f g = rw (sym h, g, e, f) refl

      pub seen-16 : seen.incorrect ≡ false → seen.unlawful ≡ false → r ≡ false → named ≡ true → 16 ≡ first_number (later_causes b seen named)
      unfolding later_causes
      seen-16 e f g i = rw (sym h, g, e, f, i) refl

      pub seen-0 : seen.incorrect ≡ false → seen.unlawful ≡ false → r ≡ false → named ≡ false → 0 ≡ first_number (later_causes b seen named)
      unfolding later_causes
      seen-0 e f g i = rw (sym h, g, e, f, i) refl

-- is_answer
module _ (kind : ℕ) (x : Answer Operator) where
  pub answer-not-variable : (o k : ℕ) (y : Operator) → x ≡ Some y → y ≡ Constant o k → kind ≡ 256 → not (eqb kind 256) ≡ answers kind x
  unfolding answers
  answer-not-variable o k y e i z = rw (e, i, z) refl

  pub answer-constant : (o k : ℕ) (y : Operator) → x ≡ Some y → y ≡ Constant o k → (kind ≡ 256 → ⊥) → eqb kind k ≡ answers kind x
  unfolding answers
  answer-constant o k y e i n = rw (e, i, ne_eqb kind 256 n) refl

  pub answer-variable : (o : ℕ) (y : Operator) → x ≡ Some y → y ≡ Variable o → eqb kind 256 ≡ answers kind x
  unfolding answers
  answer-variable o y e i = rw (e, i) (go (eqb kind 256))
    where
      go : (t : Bool) → t ≡ is_kind (cond t variable (constant kind)) (kind_answered (Some (Variable o)))
      go true = refl
      go false = refl

  pub answer-defined : (o : ℕ) (y : Operator) → x ≡ Some y → y ≡ Defined o → false ≡ answers kind x
  unfolding answers
  answer-defined o y e i = rw (e, i) refl

  pub answer-unknown : x ≡ None → false ≡ answers kind x
  unfolding answers
  answer-unknown e = rw e refl

-- is_own
module _ (names : List ℕ) (facts : List Facts) (codes : List ℕ) (o : ℕ) (d : Bool) (e : d ≡ is_declared facts o) where
  pub own-declared : (name kind : ℕ) (x : Answer Operator) (r : Bool) → d ≡ true → name ≡ get_or names o 0 → kind ≡ kind_at facts o
      → x ≡ operator_in facts (as_code (declared_named names facts name codes)) → r ≡ answers kind x → r ≡ own_kind names facts codes o
  unfolding own_kind
  own-declared name kind x r t n k q a =
      a ∙ ap₂ answers k (q ∙ ap (λ (y : ℕ). operator_in facts (as_code (declared_named names facts y codes))) n)
      ∙ ap (λ (b : Bool). b && answers (kind_at facts o) (operator_in facts (as_code (declared_named names facts (get_or names o 0) codes)))) (sym (sym e ∙ t))

  pub own-other : d ≡ false → false ≡ own_kind names facts codes o
  unfolding own_kind
  own-other t = ap (λ (b : Bool). b && answers (kind_at facts o) (operator_in facts (as_code (declared_named names facts (get_or names o 0) codes)))) (sym (sym e ∙ t))

-- level_found
module _ (a : Around) (site : Site) (codes : List ℕ) (o : ℕ) (b : Bool) (e : b ≡ own_kind a.names a.facts codes o) where
  pub level-stood : (f : ℕ) (l : ℕ) → b ≡ true → Stands a site o f → ((n : ℕ) → l ≡ level_at f (replicate n 0)) → LevelFound a site codes o l
  level-stood f l t s h =
      record { own = λ _. record { form = f; stands = s; level = h }; other = λ z. never (sym t ∙ e ∙ z) }

  pub level-none : b ≡ false → LevelFound a site codes o 0
  level-none t = record { own = λ z. never (sym z ∙ sym e ∙ t); other = λ _. refl }

-- seen_among: what was seen, and what is left tested, are the whole
module _ (a : Around) (site : Site) (codes : List ℕ) where
  record SoFar (p : Kind → ℕ → Bool) (before : Bool) (cs ds : List ℕ) : Type 0 where
    later : (r : Bool) → Tested a site codes p cs r → Tested a site codes p ds (before || r)

  left-all : (p : Kind → ℕ → Bool) (cs : List ℕ) → SoFar p false cs cs
  left-all p cs = record { later = λ r t. t }

  module _ (xs : List ℕ) (i end : ℕ) (ds : List ℕ) where
    left-next : (p : Kind → ℕ → Bool) (before : Bool) (l : ℕ) → i < end → LevelFound a site codes (get_or xs i 0) l → SoFar p before (part xs i (end - i)) ds
        → SoFar p (before || p (kind_of (kind_at a.facts (get_or xs i 0))) l) (part xs (i + 1) (end - (i + 1))) ds
    left-next p before l h f left =
        record { later = λ r t. subst (Tested a site codes p ds) (sym (or_assoc before this r)) (left.later (this || r) (subst (λ (cs : List ℕ). Tested a site codes p cs (this || r)) (sym (part-turn xs i end h)) (one r t))) }
      where
        this : Bool
        this = p (kind_of (kind_at a.facts (get_or xs i 0))) l

        one : (r : Bool) → Tested a site codes p (part xs (i + 1) (end - (i + 1))) r → Tested a site codes p (get_or xs i 0 ∷ part xs (i + 1) (end - (i + 1))) (this || r)
        one r t = record { says = λ u w. ap₂ ◌||◌ (sym (w.0 l f)) (t.says u w.1) }

    left_end : (p : Kind → ℕ → Bool) (before : Bool) → end ≤ i → SoFar p before (part xs i (end - i)) ds → Tested a site codes p ds before
    left_end p before h left =
        subst (Tested a site codes p ds) (or-false before)
        (left.later false (subst (λ (cs : List ℕ). Tested a site codes p cs false) (sym (part_end xs i end h)) (record { says = λ t w. refl })))

  module _ (b : Bool) where
    pub record SeenLeft (seen : Seen) (cs ds : List ℕ) : Type 0 where
      incorrect : SoFar is_incorrect seen.incorrect cs ds
      unlawful : SoFar (is_unlawful b) seen.unlawful cs ds
      transition : SoFar (is_at 2) seen.transition cs ds
      temporal : SoFar (is_at 3) seen.temporal cs ds

    pub seen_start : (cs : List ℕ) → SeenLeft (record { incorrect = false; unlawful = false; transition = false; temporal = false }) cs cs
    seen_start cs =
        record { incorrect = left-all is_incorrect cs; unlawful = left-all (is_unlawful b) cs; transition = left-all (is_at 2) cs; temporal = left-all (is_at 3) cs }

    module _ (xs : List ℕ) (i end : ℕ) (ds : List ℕ) (seen : Seen) (left : SeenLeft seen (part xs i (end - i)) ds) where
      pub seen_next : (o l kind : ℕ) (after : Seen) → i < end → o ≡ get_or xs i 0 → LevelFound a site codes o l → kind ≡ kind_at a.facts o
          → after ≡ seen_with b seen (kind_of kind) l → SeenLeft after (part xs (i + 1) (end - (i + 1))) ds
      unfolding seen_with
      seen_next o l kind after h e f k r =
          let g : LevelFound a site codes (get_or xs i 0) l = subst (λ (o : ℕ). LevelFound a site codes o l) e f in
          subst (λ (s : Seen). SeenLeft s (part xs (i + 1) (end - (i + 1))) ds) (ap (λ (n : ℕ). seen_with b seen (kind_of n) l) (sym (k ∙ ap (kind_at a.facts) e)) ∙ sym r)
          (record {
            incorrect = left-next xs i end ds is_incorrect seen.incorrect l h g left.incorrect;
            unlawful = left-next xs i end ds (is_unlawful b) seen.unlawful l h g left.unlawful;
            transition = left-next xs i end ds (is_at 2) seen.transition l h g left.transition;
            temporal = left-next xs i end ds (is_at 3) seen.temporal l h g left.temporal;
          })

      pub seen_end : end ≤ i → LevelsSeen a site codes b ds seen
      seen_end h =
          record {
            incorrect = left_end xs i end ds is_incorrect seen.incorrect h left.incorrect;
            unlawful = left_end xs i end ds (is_unlawful b) seen.unlawful h left.unlawful;
            transition = left_end xs i end ds (is_at 2) seen.transition h left.transition;
            temporal = left_end xs i end ds (is_at 3) seen.temporal h left.temporal;
          }

-- levels_seen
pub seen-whole : (a : Around) (site : Site) (codes : List ℕ) (b : Bool) (r : Seen) (contexts heads : List ℕ) (q count : ℕ) → count ≡ get_or heads (context_slot q) 0
    → LevelsSeen a site codes b (part contexts (q * context_length) (q * context_length + count - q * context_length)) r
    → LevelsSeen a site codes b (context_codes contexts heads q) r
seen-whole a site codes b r contexts heads q count e t =
    let z : q * context_length + count - q * context_length ≡ count = omega arith in
    subst (λ (n : ℕ). LevelsSeen a site codes b (part contexts (q * context_length) n) r) (z ∙ e) t

-- later_cause
pub later-own : (s refs numbers words names : List ℕ) (facts : List Facts) (contexts heads : List ℕ) (site : Site) (codes gs : List ℕ) (r : ℕ) → numbers ≡ numbers_from 0 max_definitions
    → LaterJudged (around s refs numbers words names facts contexts heads) site codes gs r → LaterJudged (around s refs itselves words names facts contexts heads) site codes gs r
later-own s refs numbers words names facts contexts heads site codes gs r e j =
    subst (λ (l : List ℕ). LaterJudged (around s refs l words names facts contexts heads) site codes gs r) e j
