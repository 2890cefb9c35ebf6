-- "Lawful instances stay lawful" (paper 02, L6), of an INSTANCE field in a good state: "with parameters at 0, every brought definition of an instance that clears 14 and
-- 21 has a level no higher than in its own module, or, if the module is constant, no higher than the highest substitute. Outside constant modules a 3 never becomes a 2."
-- A name that the module does not declare stands for itself and is lawful, so nothing is asked of the names in a body.
use borrow.Author.Tests.{eq-eqb, eqb-false}
use mathlib.Core.Bool.{Bool, ◌&&◌, cond, false, not, true}
use mathlib.Core.List.{List, [], ◌∷◌, map}
use mathlib.Core.Option.{Option, none, some}
use mathlib.Core.Path.{◌∙◌, ◌≡◌, ap, refl, subst, subst⁻¹, sym}
use lib.Dec.{T, eqb, eqb→eq, leb→le}
use lib.ListN.{get_or-replicate, length, length-replicate, replicate-append-replicate}
use native.Mathlib.Omega.{arith}
use Prim.Native.Nat.{◌+◌, ◌<◌, ◌≤◌, suc, zero, ℕ}
use Rattle.laws.proofs.Causes.{free-cause, not-true}
use Rattle.laws.proofs.Invariant.{Good, arity-known, expressions-read, same_kind_lem, source_known, substitute-formed}
use Rattle.laws.proofs.Obeying.{field-obeys}
use Rattle.laws.proofs.Replacing.{card-template, cards-keep}
use Rattle.laws.proofs.Sound.{all-formed}
use Rattle.laws.specs.Lawful.{Free}
use Rattle.laws.specs.LawfulInstances.{LevelCorrect, StaysLawful, brought_level, highest_substitute, level_at_zero}
use Rattle.rules.specs.Expression.{expression}
use Rattle.rules.specs.Field.{FieldFits, Substitution, instance}
use Rattle.rules.specs.Instance.{bring, declared_in, is_constant, is_kind, is_variable, lawful, same_kind, source, substitute, substitute_level, substitute_or, substitution_for}
use Rattle.rules.specs.Judge.{causes, instance_miscounted, instance_unknown, judge, mixed_substitutes, unlawful_substitute}
use Rattle.rules.specs.State.{Module, State, card_level, level_of, meanings, params_of, templates_of, zeros}
use Rattle.theory.proofs.Demand3.{both_ways, expansion-formed, template-formed}
use Rattle.theory.proofs.ExpandFirst.{eval-good}
use Rattle.theory.proofs.Lattice.{below-zero, highest-lowest}
use Rattle.theory.proofs.LawfulInstances.{lawful-instances}
use Rattle.theory.proofs.Lists.{and_parts, any_false, both-all, every-all, find-has, map-all, map_of, never, not-false, or_left, or_right, replicate-all}
use Rattle.theory.specs.Expand.{arities_of, body_in, expand, itself, params_from, template_of}
use Rattle.theory.specs.Lattice.{Below}
use Rattle.theory.specs.LawfulInstances.{ConstantSubstitutes, Formed, substituted}
use Rattle.theory.specs.Level.{IsLevel, binds_in, incorrect, mixes, plain, verdict}
use Rattle.theory.specs.Lists.{All, any, every, find, map_option, none_of}
use Rattle.theory.specs.Term.{Kind, Term, WellFormed, by_cards, constant, declared, evals, kind_arity, level, long_way, no_definitions, variable}

-- A constant or an operator that stands for itself is 0, parameters at 0

params-zero : (G : ℕ → List ℕ → ℕ) (n i m : ℕ) → i + m ≤ n → All (λ l. Below l 0) (evals (by_cards G) (zeros n) [] incorrect (binds_in plain) (params_from i m))
params-zero G n i zero h = tt
params-zero G n i (suc m) h = (
  subst⁻¹ (λ (l : ℕ). Below l 0) (get_or-replicate n i 0 incorrect (omega arith)) (below-zero 0),
  params-zero G n (suc i) m (omega arith),
)

itself-zero : (s : State) (p n x : ℕ) → level_of s (zeros (p + n)) (itself p (constant n) (declared (constant n) x)) ≡ 0
itself-zero s p n x =
    let ls = evals (by_cards (card_level s)) (zeros (p + n)) [] incorrect (binds_in plain) (params_from p n) in
    omega (arith, (highest-lowest ls 0 (params-zero (card_level s) (p + n) p n (omega arith))).0)

-- what holds of the substitutes of all declared names, and of names that stand for themselves, holds of all
module _ (s : State) (p : ℕ) (M : Module) (ss : List Substitution) (P : Kind → ℕ → Type 0) (of-declared : All (λ d. P d.0 (substitute_level s p M ss d)) (declared_in M))
    (of-itself : (k : Kind) (x : ℕ) → P k (level_of s (zeros (p + kind_arity k)) (itself p k (declared k x)))) where
  every-substitute : (k : Kind) (x : ℕ) → P k (substitute_level s p M ss (k, x))
  every-substitute k x = by_name (find (λ (d : Kind × ℕ). eqb x d.1) (declared_in M)) refl
    where
      Q : Bool → Type 0
      Q b = P k (level_of s (zeros (p + kind_arity k)) (cond b (substitute_or s p k x (substitution_for ss x)) (itself p k (declared k x))))

      stands : (o : Option (Kind × ℕ)) → find (λ (d : Kind × ℕ). eqb x d.1) (declared_in M) ≡ o → is_kind k (map_option (λ d. d.0) o) ≡ false → P k (substitute_level s p M ss (k, x))
      stands o f e = subst⁻¹ Q (ap (λ (o : Option (Kind × ℕ)). is_kind k (map_option (λ d. d.0) o)) f ∙ e) (of-itself k x)

      by_kind : (b : Bool) (d : Kind × ℕ) → same_kind k d.0 ≡ b → find (λ (d : Kind × ℕ). eqb x d.1) (declared_in M) ≡ some d → P k (substitute_level s p M ss (k, x))
      by_kind true d e f =
          let r = find-has (λ d. P d.0 (substitute_level s p M ss d)) (λ (d : Kind × ℕ). eqb x d.1) (declared_in M) d of-declared f in
          subst⁻¹ (λ (c : Kind). P c (substitute_level s p M ss (c, x))) (same_kind_lem k d.0 e)
          (subst⁻¹ (λ (y : ℕ). P d.0 (substitute_level s p M ss (d.0, y))) (eqb→eq x d.1 r.1) r.0)
      by_kind false d e f = stands (some d) f e

      by_name : (o : Option (Kind × ℕ)) → find (λ (d : Kind × ℕ). eqb x d.1) (declared_in M) ≡ o → P k (substitute_level s p M ss (k, x))
      by_name none e = stands none e refl
      by_name (some d) e = by_kind (same_kind k d.0) d refl e

-- Lawful levels

zero_lawful : (b : Bool) (n : ℕ) → T (lawful b (constant n) 0)
zero_lawful true zero = tt
zero_lawful false zero = tt
zero_lawful b (suc n) = tt

itself-lawful : (s : State) (p : ℕ) (b : Bool) (k : Kind) (x : ℕ) → T (lawful b k (level_of s (zeros (p + kind_arity k)) (itself p k (declared k x))))
itself-lawful s p b (constant n) x = subst⁻¹ (λ (l : ℕ). T (lawful b (constant n) l)) (itself-zero s p n x) (zero_lawful b n)
itself-lawful s p b variable x = tt

lawful-zero : (n l : ℕ) → T (lawful false (constant n) l) → l ≡ 0
lawful-zero zero l t = eqb→eq l 0 t
lawful-zero (suc n) l t = eqb→eq l 0 t

pub verdict-low : (l : ℕ) → IsLevel l → verdict l ≡ false → l < incorrect
verdict-low l h e = let z : ¬ (incorrect ≡ l) = eqb-false incorrect l e in omega arith

lawful-low : (k : Kind) (l : ℕ) → IsLevel l → T (lawful true k l) → l < incorrect
lawful-low (constant zero) l h t = verdict-low l h (not-true (verdict l) t)
lawful-low (constant (suc n)) l h t = omega (arith, eqb→eq l 0 t)
lawful-low variable l h t = omega (arith, leb→le l 1 t)

-- Lists

-- each value is among the values
among : {A : Type 0} (f : A → ℕ) (xs : List A) (ls : List ℕ) → ((l : ℕ) → T (any (eqb l) (map f xs)) → T (any (eqb l) ls)) → All (λ x. T (any (eqb (f x)) ls)) xs
among f [] ls h = tt
among f (x ∷ xs) ls h = (
  h (f x) (or_left (eqb (f x) (f x)) (any (eqb (f x)) (map f xs)) (subst⁻¹ T (eq-eqb (f x) (f x) refl) tt)),
  among f xs ls (λ l t. h l (or_right (eqb l (f x)) (any (eqb l) (map f xs)) t)),
)

-- a constant module's definitions are 0
constant-definitions : (s : State) (M : Module) → is_constant s M ≡ true → All (λ g. level_at_zero s g ≡ 0) M.definitions
constant-definitions s M e =
    let zero-level : ℕ → Bool = λ g. eqb 0 (level_at_zero s g) in
    map-all (λ g. T (zero-level g)) (λ g. level_at_zero s g ≡ 0) (λ g t. sym (eqb→eq 0 (level_at_zero s g) t)) M.definitions
    (every-all zero-level M.definitions
    (and_parts (none_of (λ (d : Kind × ℕ). is_variable d.0) (declared_in M)) (every zero-level M.definitions) (subst⁻¹ T e tt)).1)

-- An INSTANCE field, its expressions read, that clears 9, 10, 14 and 21
pub record Cleared (s : State) (p m : ℕ) (ss : List Substitution) : Type 0 where
  pub read : All (λ y. expression.Fits y.1) ss
  pub known : instance_unknown s p (source s m) ss ≡ false
  pub counted : instance_miscounted s (source s m) ss ≡ false
  pub levels-lawful : unlawful_substitute s p (source s m) ss ≡ false
  pub not_mixed : mixed_substitutes s p (source s m) ss ≡ false

pub cleared : (s : State) (n p m : ℕ) (ss : List Substitution) → FieldFits (instance n p m ss) → Free s (instance n p m ss) 9 → Free s (instance n p m ss) 10
    → Free s (instance n p m ss) 14 → Free s (instance n p m ss) 21 → Cleared s p m ss
cleared s n p m ss h c₉ c₁₀ c₁₄ c₂₁ =
    let cs = causes s (instance n p m ss) in
    record {
      read = expressions-read n p m ss h;
      known = free-cause 9 cs c₉;
      counted = free-cause 10 cs c₁₀;
      levels-lawful = free-cause 14 cs c₁₄;
      not_mixed = free-cause 21 cs c₂₁;
    }

pub cleared-field : (s : State) (n p m : ℕ) (ss : List Substitution) → FieldFits (instance n p m ss) → judge s (instance n p m ss) ≡ none → Cleared s p m ss
cleared-field s n p m ss h j =
    let o = (field-obeys s (instance n p m ss)).0 j in
    cleared s n p m ss h o.names.3 o.arity o.instances.1 o.instances.2

module _ (s : State) (good : Good s) (p m : ℕ) (ss : List Substitution) (clear : Cleared s p m ss) where
  abbrev M : Module
  M = source s m

  -- the substitutes, expanded
  abbrev σ : Kind → ℕ → Term
  σ k x = expand (body_in (templates_of s)) (substitute s p M ss k x)

  pub substitutes-formed : (k : Kind) (x : ℕ) → WellFormed (arities_of (templates_of s)) (p + kind_arity k) 0 (substitute s p M ss k x)
  substitutes-formed = substitute-formed s good.sound good.current.0 p M ss clear.read clear.known clear.counted

  expanded : Formed σ p
  expanded k x = expansion-formed (meanings s) (all-formed [] s.definitions good.sound) (p + kind_arity k) (substitute s p M ss k x) (substitutes-formed k x)

  -- the level that is judged is the expansion's
  at_zero : (k : Kind) (x : ℕ) → substitute_level s p M ss (k, x) ≡ substituted σ p k x
  at_zero k x =
      both_ways (meanings s) (all-formed [] s.definitions good.sound) (p + kind_arity k) (zeros (p + kind_arity k)) (substitute s p M ss k x)
      (replicate-all IsLevel (p + kind_arity k) 0 (omega arith)) (substitutes-formed k x)

  is-level : (d : Kind × ℕ) → IsLevel (substitute_level s p M ss d)
  is-level d =
      eval-good (by_cards (card_level s)) IsLevel (cards-keep s good) (zeros (p + kind_arity d.0)) (replicate-all IsLevel (p + kind_arity d.0) 0 (omega arith))
      (substitute s p M ss d.0 d.1) [] tt

  declared-lawful : (b : Bool) → is_constant s M ≡ b → All (λ d. T (lawful b d.0 (substitute_level s p M ss d))) (declared_in M)
  declared-lawful b e =
      map-all (λ d. not (lawful (is_constant s M) d.0 (substitute_level s p M ss d)) ≡ false) (λ d. T (lawful b d.0 (substitute_level s p M ss d)))
      (λ d q. subst (λ (b : Bool). T (lawful b d.0 (substitute_level s p M ss d))) e (not-false (lawful (is_constant s M) d.0 (substitute_level s p M ss d)) q)) (declared_in M)
      (any_false (λ d. not (lawful (is_constant s M) d.0 (substitute_level s p M ss d))) (declared_in M) clear.levels-lawful)

  every-lawful : (b : Bool) → is_constant s M ≡ b → (k : Kind) (x : ℕ) → T (lawful b k (substitute_level s p M ss (k, x)))
  every-lawful b e = every-substitute s p M ss (λ k l. T (lawful b k l)) (declared-lawful b e) (itself-lawful s p b)

  module _ (g : ℕ) (there : g < length s.definitions) where
    template : WellFormed no_definitions (params_of s g) 0 (body_in (templates_of s) g)
    template = template-formed (meanings s) (all-formed [] s.definitions good.sound) g (params_of s g) (arity-known s good.sound g there)

    -- the level of a definition in its own module, by its card
    own-level : level_at_zero s g ≡ level long_way (zeros (params_of s g)) (body_in (templates_of s) g)
    own-level = card-template s good g (zeros (params_of s g)) there (length-replicate (params_of s g) 0) (replicate-all IsLevel (params_of s g) 0 (omega arith))

    brought-below : is_constant s M ≡ false → Below (brought_level s p M ss g) (level_at_zero s g)
    brought-below e =
        subst⁻¹ (Below (brought_level s p M ss g)) own-level
        (subst (λ (v : List ℕ). Below (level long_way v (template_of (templates_of s) (bring s p M ss g)).body) (level long_way (zeros (params_of s g)) (body_in (templates_of s) g)))
        (replicate-append-replicate p (params_of s g) 0)
        (lawful-instances.no_higher σ p (params_of s g) (zeros (params_of s g)) (body_in (templates_of s) g) expanded
        (record {
          constants = λ n x. sym (at_zero (constant n) x) ∙ lawful-zero n (substitute_level s p M ss (constant n, x)) (every-lawful false e (constant n) x);
          variables = λ x. subst (λ (l : ℕ). l ≤ 1) (at_zero variable x) (leb→le (substitute_level s p M ss (variable, x)) 1 (every-lawful false e variable x));
        }) template (replicate-all IsLevel (params_of s g) 0 (omega arith))))

  abbrev levels : List ℕ
  levels = map (substitute_level s p M ss) (declared_in M)

  constant-substitutes : is_constant s M ≡ true → ConstantSubstitutes σ p levels
  constant-substitutes e =
      record {
        operators = λ n x. sym (at_zero (constant (suc n)) x) ∙ eqb→eq (substitute_level s p M ss (constant (suc n), x)) 0 (every-lawful true e (constant (suc n)) x);
        constants = λ x. subst (λ (l : ℕ). T (any (eqb l) (0 ∷ levels))) (at_zero (constant 0) x) (every-substitute s p M ss Among of-declared of-itself (constant 0) x);
        not_incorrect =
            map_of (λ l. l < incorrect) (substitute_level s p M ss) (declared_in M)
            (map-all (λ d. T (lawful true d.0 (substitute_level s p M ss d))) (λ d. substitute_level s p M ss d < incorrect)
            (λ d t. lawful-low d.0 (substitute_level s p M ss d) (is-level d) t) (declared_in M) (declared-lawful true e));
        not_mixed = subst (λ (b : Bool). (b && mixes levels) ≡ false) e clear.not_mixed;
      }
    where
      Among : Kind → ℕ → Type 0
      Among (constant n) l = T (any (eqb l) (0 ∷ levels))
      Among variable l = Unit {0}

      of-kind : (k : Kind) (l : ℕ) → T (any (eqb l) (0 ∷ levels)) → Among k l
      of-kind (constant n) l t = t
      of-kind variable l t = tt

      of-declared : All (λ d. Among d.0 (substitute_level s p M ss d)) (declared_in M)
      of-declared =
          map-all (λ d. T (any (eqb (substitute_level s p M ss d)) (0 ∷ levels))) (λ d. Among d.0 (substitute_level s p M ss d)) (λ d t. of-kind d.0 (substitute_level s p M ss d) t)
          (declared_in M) (among (substitute_level s p M ss) (declared_in M) (0 ∷ levels) (λ l t. or_right (eqb l 0) (any (eqb l) levels) t))

      of-itself : (k : Kind) (x : ℕ) → Among k (level_of s (zeros (p + kind_arity k)) (itself p k (declared k x)))
      of-itself (constant n) x = subst⁻¹ (λ (l : ℕ). T (any (eqb l) (0 ∷ levels))) (itself-zero s p n x) tt
      of-itself variable x = tt

  -- a definition is there, and what it is brought as is below its own level, or the highest substitute's
  abbrev Bounded : Bool → ℕ → Type 0
  Bounded b g = (g < length s.definitions) × Below (brought_level s p M ss g) (cond b (highest_substitute s p M ss) (level_at_zero s g))

  all-bounded : (b : Bool) → is_constant s M ≡ b → All (Bounded b) M.definitions
  all-bounded true e =
      both-all (λ g. g < length s.definitions) (λ g. level_at_zero s g ≡ 0) (Bounded true)
      (λ g l z. (l, lawful-instances.constant-module σ p (params_of s g) levels (body_in (templates_of s) g) expanded (constant-substitutes e) (template g l) (sym (own-level g l) ∙ z)))
      M.definitions (source_known (length s.definitions) s m good.ended).1 (constant-definitions s M e)
  all-bounded false e =
      map-all (λ g. g < length s.definitions) (Bounded false) (λ g l. (l, brought-below g l e)) M.definitions (source_known (length s.definitions) s m good.ended).1

  -- L6's sentences, of every definition brought;
  pub brought-lawful : All (λ g. StaysLawful (is_constant s M) (level_at_zero s g) (brought_level s p M ss g) (highest_substitute s p M ss)) M.definitions
  brought-lawful = by-constancy (is_constant s M) refl
    where
      by-constancy : (b : Bool) → is_constant s M ≡ b → All (λ g. StaysLawful (is_constant s M) (level_at_zero s g) (brought_level s p M ss g) (highest_substitute s p M ss)) M.definitions
      by-constancy true e =
          map-all (Bounded true) _
          (λ g r. record {
            no_higher = λ q. never (sym e ∙ q);
            no_higher_than_substitutes = λ q. r.1.0;
            substitute_lawful = λ q. lawful-instances.substitutes_lawful σ p levels (constant-substitutes e);
            three_never_two = λ q. never (sym e ∙ q);
          }) M.definitions (all-bounded true e)
      by-constancy false e =
          map-all (Bounded false) _
          (λ g r. record {
            no_higher = λ q. r.1.0;
            no_higher_than_substitutes = λ q. never (sym q ∙ e);
            substitute_lawful = λ q. never (sym q ∙ e);
            three_never_two = λ q three two. r.1.1 two three;
          }) M.definitions (all-bounded false e)

  -- and where no definition is 4, none that is brought is.
  pub brought-correct : LevelCorrect s → All (λ g. brought_level s p M ss g < incorrect) M.definitions
  brought-correct low = by-constancy (is_constant s M) refl
    where
      by-constancy : (b : Bool) → is_constant s M ≡ b → All (λ g. brought_level s p M ss g < incorrect) M.definitions
      by-constancy true e =
          let substitutes = lawful-instances.substitutes_lawful σ p levels (constant-substitutes e) in
          map-all (Bounded true) (λ g. brought_level s p M ss g < incorrect) (λ g r. omega (arith, r.1.0, substitutes)) M.definitions (all-bounded true e)
      by-constancy false e =
          map-all (Bounded false) (λ g. brought_level s p M ss g < incorrect) (λ g r. omega (arith, r.1.0, low g r.0)) M.definitions (all-bounded false e)
