-- What the tests of the codes say is what the causes after the names ask.
use borrow.Author.Tests.{eqb-true, le-leb, leb-true, lt-leb, lt-ltb, ltb-false, ltb-true}
use mathlib.Core.Bool.{Bool, ◌&&◌, ◌||◌, cond, false, not, true}
use mathlib.Core.List.{List, [], ◌∷◌, map}
use mathlib.Core.Option.{Option, none, some}
use mathlib.Core.Path.{◌∙◌, ◌≡◌, ap, ap₂, refl, subst, sym}
use lib.Dec.{eqb, leb, ltb}
use lib.ListN.{get_or, length}
use native.Mathlib.Nat.{zero-add}
use native.Mathlib.Omega.{arith}
use Prim.Native.Nat.{◌+◌, ◌-◌, ◌<◌, ◌≤◌, suc, zero, ℕ}
use Rattle.context.proofs.Judging.{any-declared-law, any-each, any-map, kind-law, kind_answered, kind_of, named-instance-law}
use Rattle.context.specs.Holds.{Holds, module_no}
use Rattle.context.specs.Lookup.{as_code, declared_named, instance_among, is_declared, operator_in}
use Rattle.context.specs.Entries.{codes_of, entry_at, field_code, order_of, variable_kind}
use Rattle.store.specs.Store.{count_at, first_at, kind_at}
use Rattle.store.specs.declared.Store.{Store}
use Rattle.store.specs.declared.Facts.{Facts}
use Rattle.context.specs.declared.Counts.{Counts}
use Rattle.entering.specs.Implied.{arguments_of, implied_level, implied_ref}
use Rattle.entering.specs.Substitutes.{Around, StandsBy, around}
use Rattle.entering.specs.Written.{written_at}
use Rattle.entering.specs.declared.substitutes.Site.{Site}
use Rattle.std.specs.Prelude.{Option as Answer, Some, None}
use Rattle.forms.proofs.Reading.{level-pad}
use Rattle.forms.specs.Forms.{form_at, Gives, level_at}
use Rattle.laws.proofs.Invariant.{Good, source_known}
use Rattle.laws.proofs.Origins.{Origins}
use Rattle.levels.proofs.Numbered.{numbers-at}
use Rattle.levels.specs.Tables.{scene_of}
use Rattle.limits.specs.Limits.{max_arity, max_definitions}
use Rattle.resolve.proofs.Numbers.{Declares, declarations_of, numbered-context}
use Rattle.resolve.specs.Meaning.{Numbered}
use Rattle.rules.specs.Expression.{Expression}
use Rattle.rules.specs.Field.{Field, Substitution}
use Rattle.rules.specs.Instance.{declared_in, is_constant, is_kind, is_variable, kind_in, lawful, same_kind, source, substitute, substitute_level, substitute_or, substitution_for}
use Rattle.rules.specs.Judge.{has_named_instance, instance_unknown, mixed_substitutes, substitute_not_level_correct, unlawful_substitute}
use Rattle.rules.specs.State.{Module, State, card_level, declares, defines, here, instances, level_of, operator_named, params_of, templates_of, zeros}
use Rattle.standing.specs.Standing.{itselves}
use Rattle.text_levels.proofs.OwnWorld.{Shows}
use Rattle.texts.specs.Text.{Declarations, no_declaration, ref_head}
use Rattle.theory.proofs.Lists.{never}
use Rattle.theory.proofs.Substitution.{count-params}
use Rattle.theory.specs.Expand.{arities_of, itself}
use Rattle.theory.specs.Lists.{All, any, numbers_from, or_else}
use Rattle.theory.specs.Term.{Fits, Head, Kind, WellFormed, constant, declared, declared_level, kind_arity, leaf, literal, variable}
use Rattle.judge_instance.proofs.Implied.{implied-found}
use Rattle.judge_instance.proofs.SubstituteLevels.{highest-zero, implied-zero, itself-zero, written-zero, zeros-length, zeros-low}
use Rattle.judge_instance.proofs.Linking.{itself-known, substitute-declared}
use Rattle.instance_names.specs.Names.{Agrees}
use Rattle.judge_instance.specs.Constancy.{constant_codes, is_variable_code, uneven_among, uneven_form, variable_among}
use Rattle.instance_names.proofs.InOrder.{Same}
use Rattle.judge_instance.specs.Levels.{LevelFound, LevelsSeen, Tested, answers, is_at, is_incorrect, is_mixed, is_unlawful, later_causes, own_kind}
use Rattle.judge_instance.specs.declared.lawful.Seen.{Seen}

-- kinds

kinds-same : (k k' : Kind) → same_kind k k' ≡ true → k' ≡ k
kinds-same (constant n) (constant m) e = ap constant (sym (eqb-true n m e))
kinds-same (constant n) variable e = never (sym e)
kinds-same variable (constant m) e = never (sym e)
kinds-same variable variable e = refl

is-kind : (k : Kind) (o : Option Kind) → is_kind k o ≡ true → o ≡ some k
is-kind k none e = never (sym e)
is-kind k (some d) e = ap some (kinds-same k d e)

-- what is asked of a level does not hold at 0, nor at the level of a name that stands for itself: 0 or, of a variable, 1
record Fine (t : Kind → ℕ → Bool) : Type 0 where
  nought : (k : Kind) → t k 0 ≡ false
  state : t variable 1 ≡ false

itself-fine : (t : Kind → ℕ → Bool) → Fine t → (k : Kind) (x : ℕ) → t k (declared_level k x (zeros (kind_arity k))) ≡ false
itself-fine t fine (constant n) x = ap (t (constant n)) (highest-zero n) ∙ fine.nought (constant n)
itself-fine t fine variable x = fine.state

incorrect-fine : Fine is_incorrect
incorrect-fine = record { nought = λ k. refl; state = refl }

-- level 0 is always lawful
lawful-zero : (b : Bool) (k : Kind) → lawful b k 0 ≡ true
lawful-zero true (constant zero) = refl
lawful-zero false (constant zero) = refl
lawful-zero b (constant (suc n)) = refl
lawful-zero b variable = refl

unlawful-fine : (b : Bool) → Fine (is_unlawful b)
unlawful-fine b = record { nought = λ k. ap not (lawful-zero b k); state = refl }

two-fine : Fine (is_at 2)
two-fine = record { nought = λ k. refl; state = refl }

three-fine : Fine (is_at 3)
three-fine = record { nought = λ k. refl; state = refl }

-- a constant's kind is its argument count
arguments-kind : (kind : ℕ) → kind_arity (kind_of kind) ≤ max_arity → arguments_of kind ≡ kind_arity (kind_of kind)
unfolding arguments_of
arguments-kind kind l = go (eqb kind variable_kind) refl l
  where
    go : (b : Bool) → eqb kind variable_kind ≡ b → kind_arity (cond b variable (constant kind)) ≤ max_arity → cond (leb kind max_arity) kind 0 ≡ kind_arity (cond b variable (constant kind))
    go true e h = let z : kind ≡ variable_kind = eqb-true kind variable_kind e in rw (lt-leb kind max_arity (omega arith)) refl
    go false e h = rw (le-leb kind max_arity h) refl

both : (a b : Bool) → a && b ≡ true → (a ≡ true) × (b ≡ true)
both true b e = (refl, e)
both false b e = never (sym e)

-- a declaration has its number, so it takes few arguments
few-arguments : (names : List ℕ) (facts : List Facts) (decls : Declarations) → ((d : ℕ) → d < length decls → kind_arity (get_or decls d no_declaration).0 ≤ max_arity) → (o : ℕ)
    → is_declared facts o ≡ true → Numbered facts decls (entry_at names facts o) → kind_arity (kind_of (kind_at facts o)) ≤ max_arity
unfolding entry_at
few-arguments names facts decls few o e n = go (ltb o max_definitions) refl (ltb (kind_at facts o) variable_kind) refl (eqb (kind_at facts o) variable_kind) refl n
  where
    parts : (leb max_definitions o ≡ true) × (leb (kind_at facts o) variable_kind ≡ true)
    parts = both (leb max_definitions o) (leb (kind_at facts o) variable_kind) e

    go : (a : Bool) → ltb o max_definitions ≡ a → (b : Bool) → ltb (kind_at facts o) variable_kind ≡ b → (c : Bool) → eqb (kind_at facts o) variable_kind ≡ c
        → Numbered facts decls
        (cond a (defines (get_or names o 0) o) (cond b (declares (get_or names o 0) (constant (kind_at facts o)) (o - max_definitions))
        (cond c (declares (get_or names o 0) variable (o - max_definitions)) (instances (get_or names o 0) (o - max_definitions) (numbers_from (first_at facts o) (count_at facts o))))))
        → kind_arity (cond c variable (constant (kind_at facts o))) ≤ max_arity
    go true p b i c j w = absurd (omega (arith, ltb-true o max_definitions p, leb-true max_definitions o parts.0))
    go false p true i true j w = omega arith
    go false p true i false j w =
        subst (λ (d : Kind × ℕ). kind_arity d.0 ≤ max_arity) w.1 (few (first_at facts (field_code (o - max_definitions))) w.0)
    go false p false i true j w = omega arith
    go false p false i false j w =
        absurd (let l : variable_kind ≤ kind_at facts o = ltb-false (kind_at facts o) variable_kind i in
        let m : kind_at facts o ≤ variable_kind = leb-true (kind_at facts o) variable_kind parts.1 in
        let z : kind_at facts o ≡ variable_kind = omega arith in
        never (sym (ap (λ (n : ℕ). eqb n variable_kind) z) ∙ j))

all_map : {A B : Type 0} (P : B → Type 0) (f : A → B) (xs : List A) → All P (map f xs) → All (λ a. P (f a)) xs
all_map P f [] h = tt
all_map P f (x ∷ xs) h = (h.0, all_map P f xs h.1)

module _ (v : Store) (c : Counts) (s : State) (holds : Holds v c s) (fs : List Field) (declares-there : Declares v.facts c fs) (origins : Origins fs s) (good : Good s)
    (words : List ℕ) (forms : Shows (scene_of itselves words) (declarations_of fs) s)
    (few : (d : ℕ) → d < length (declarations_of fs) → kind_arity (get_or (declarations_of fs) d no_declaration).0 ≤ max_arity)
    (p m q at k : ℕ) (ss : List Substitution) (earlier : q < c.modules) (found : source s m ≡ module_no s q) (small : p ≤ max_arity)
    (known : instance_unknown s p (source s m) ss ≡ false)
    (formed : (d : Kind) (x : ℕ) → WellFormed (arities_of (templates_of s)) (p + kind_arity d) 0 (substitute s p (source s m) ss d x))
    (file refs : List ℕ) (end : ℕ) (agrees : (x : ℕ) → Agrees file refs (declarations_of fs) end s (written_at k file at x) (substitution_for ss x)) where
  abbrev decls : Declarations
  decls = declarations_of fs

  abbrev M : Module
  M = source s m

  abbrev names : List ℕ
  names = v.names

  abbrev facts : List Facts
  facts = v.facts

  abbrev codes : List ℕ
  codes = codes_of v q

  -- the field, no instance around it
  abbrev pub site_here : Site
  site_here = record { outer = 0; params = p; owner = c.modules; start = at; count = k }

  abbrev pub around_here : Around
  around_here = around file refs itselves words v.names v.facts v.contexts v.heads

  stands-level : (d : Kind) (x o : ℕ) (f : ℕ) → get_or names o 0 ≡ x → kind_of (kind_at facts o) ≡ d → kind_arity d ≤ max_arity → kind_in M x ≡ some d
      → (w : Answer ℕ) (y : Option Expression) → substitution_for ss x ≡ y → Agrees file refs decls end s w y → StandsBy around_here site_here o w f
      → WellFormed (arities_of (templates_of s)) (p + kind_arity d) 0 (substitute_or s p d x y)
      → level_at f (zeros (p + kind_arity d)) ≡ level_of s (zeros (p + kind_arity d)) (substitute_or s p d x y)
  stands-level d x o f en ek l kin (Some a) (some y) z t st w = written-zero words decls s good forms file refs end a (p + kind_arity d) _ f t st w (omega arith)
  stands-level d x o f en ek l kin (Some a) none z t st w = absurd t
  stands-level d x o f en ek l kin None (some y) z t st w = absurd t
  stands-level d x o f en ek l kin None none z t st w =
      let h = itself-known s p M ss known d x kin z in
      let r = implied-found v c s holds fs declares-there origins good x h.0 h.1 in
      let ref = implied_ref names facts v.contexts v.heads c.modules x in
      let e : ref_head decls ref ≡ or_else (leaf (literal 0)) (some h.0) = r.1 in
      let head = ap (or_else (leaf (literal 0))) h.1 in
      let args : arguments_of (kind_at facts o) ≡ kind_arity d =
      arguments-kind (kind_at facts o) (subst (λ (d : Kind). kind_arity d ≤ max_arity) (sym ek) l) ∙ ap kind_arity ek in
      implied-zero words decls s good forms ref p d f
      (subst (λ (y : ℕ). Gives f (implied_level itselves words (implied_ref names facts v.contexts v.heads c.modules y) 0 p (kind_arity d))) en
      (subst (λ (n : ℕ). Gives f (implied_level itselves words (implied_ref names facts v.contexts v.heads c.modules (get_or names o 0)) 0 p n)) args st)) r.0
      (subst (λ (g : Head). Fits (arities_of (templates_of s)) (p + kind_arity d) 0 g (kind_arity d)) (head ∙ sym e)
      (subst (Fits (arities_of (templates_of s)) (p + kind_arity d) 0 (or_else (leaf (literal 0)) (operator_named (here s) x))) (count-params p (kind_arity d)) w.0)) (omega arith)
      ∙ ap (λ (g : Head). level_of s (zeros (p + kind_arity d)) (itself p d g)) (e ∙ sym head)

  -- what the module instanced declares the name of a code as
  kind-here : (o : ℕ) → kind_answered (operator_in facts (as_code (declared_named names facts (get_or names o 0) codes))) ≡ kind_in M (get_or names o 0)
  kind-here o = kind-law v c s holds q (get_or names o 0) (omega arith) ∙ ap (λ (N : Module). kind_in N (get_or names o 0)) (sym found)

  abbrev level_of_code : ℕ → ℕ
  level_of_code o = substitute_level s p M ss (kind_of (kind_at facts o), get_or names o 0)

  -- a declaration whose name the module declares as what it is
  level-own : (o l : ℕ) → kind_arity (kind_of (kind_at facts o)) ≤ max_arity → LevelFound around_here site_here codes o l → own_kind names facts codes o ≡ true
      → is_kind (kind_of (kind_at facts o)) (kind_in M (get_or names o 0)) ≡ true → l ≡ level_of_code o
  level-own o l low h e ik =
      let d = kind_of (kind_at facts o) in
      let x = get_or names o 0 in
      let kin = is-kind d (kind_in M x) ik in
      let z = substitute-declared s p M ss d x kin in
      (h.own e).level (p + kind_arity d)
      ∙ stands-level d x o (h.own e).form refl refl low kin (written_at k file at x) (substitution_for ss x) refl (agrees x) (h.own e).stands.means
      (subst (WellFormed (arities_of (templates_of s)) (p + kind_arity d) 0) z (formed d x))
      ∙ ap (level_of s (zeros (p + kind_arity d))) (sym z)

  -- another one is left as it is
  level-other : (o : ℕ) → is_kind (kind_of (kind_at facts o)) (kind_in M (get_or names o 0)) ≡ false
      → level_of_code o ≡ declared_level (kind_of (kind_at facts o)) (get_or names o 0) (zeros (kind_arity (kind_of (kind_at facts o))))
  level-other o ik =
      let d = kind_of (kind_at facts o) in
      let x = get_or names o 0 in
      ap (λ (b : Bool). level_of s (zeros (p + kind_arity d)) (cond b (substitute_or s p d x (substitution_for ss x)) (itself p d (declared d x)))) ik
      ∙ itself-zero words decls s good forms p d x

  -- the test of a code says what the rules ask of its declaration
  code-tested : (t : Kind → ℕ → Bool) → Fine t → (o l : ℕ) → (is_declared facts o ≡ true → kind_arity (kind_of (kind_at facts o)) ≤ max_arity)
      → LevelFound around_here site_here codes o l → is_declared facts o && t (kind_of (kind_at facts o)) (level_of_code o) ≡ t (kind_of (kind_at facts o)) l
  unfolding own_kind answers
  code-tested t fine o l low h =
      go (is_declared facts o) refl (is_kind d (kind_answered (operator_in facts (as_code (declared_named names facts (get_or names o 0) codes))))) refl
    where
      d : Kind
      d = kind_of (kind_at facts o)

      none-there : l ≡ 0 → false ≡ t d l
      none-there e = sym (ap (t d) e ∙ fine.nought d)

      go : (x : Bool) → is_declared facts o ≡ x → (y : Bool)
          → is_kind d (kind_answered (operator_in facts (as_code (declared_named names facts (get_or names o 0) codes)))) ≡ y → x && t d (level_of_code o) ≡ t d l
      go false e y f = none-there (h.other (ap₂ ◌&&◌ e f))
      go true e true f = ap (t d) (sym (level-own o l (low e) h (ap₂ ◌&&◌ e f) (ap (is_kind d) (sym (kind-here o)) ∙ f)))
      go true e false f =
          ap (t d) (level-other o (ap (is_kind d) (sym (kind-here o)) ∙ f)) ∙ itself-fine t fine d (get_or names o 0) ∙ none-there (h.other (ap₂ ◌&&◌ e f))

  -- every declaration of the module takes few arguments
  all-few : All (λ o. is_declared facts o ≡ true → kind_arity (kind_of (kind_at facts o)) ≤ max_arity) codes
  all-few = to codes (all_map (Numbered facts decls) (entry_at names facts) codes (subst (All (Numbered facts decls)) (sym shown) numbered))
    where
      shown : map (entry_at names facts) codes ≡ (module_no s q).context
      shown = ap (λ (N : Module). N.context) (holds.shown q (omega arith))

      numbered : All (Numbered facts decls) (module_no s q).context
      numbered = numbered-context s q (omega (arith, holds.modules)) facts c fs declares-there origins

      to : (cs : List ℕ) → All (λ o. Numbered facts decls (entry_at names facts o)) cs → All (λ o. is_declared facts o ≡ true → kind_arity (kind_of (kind_at facts o)) ≤ max_arity) cs
      to [] h = tt
      to (o ∷ cs) h = ((λ e. few-arguments names facts decls few o e h.0), to cs h.1)

  all_tested : (t : Kind → ℕ → Bool) → Fine t → (cs : List ℕ) → All (λ o. is_declared facts o ≡ true → kind_arity (kind_of (kind_at facts o)) ≤ max_arity) cs
      → All (λ o. (l : ℕ) → LevelFound around_here site_here codes o l → is_declared facts o && t (kind_of (kind_at facts o)) (level_of_code o) ≡ t (kind_of (kind_at facts o)) l) cs
  all_tested t fine [] h = tt
  all_tested t fine (o ∷ cs) h = ((λ l w. code-tested t fine o l h.0 w), all_tested t fine cs h.1)

  any-tested : (t : Kind → ℕ → Bool) → Fine t → (r : Bool) → Tested around_here site_here codes t codes r
      → r ≡ any (λ (d : Kind × ℕ). t d.0 (substitute_level s p M ss d)) (declared_in M)
  any-tested t fine r h =
      h.says (λ o. is_declared facts o && t (kind_of (kind_at facts o)) (level_of_code o)) (all_tested t fine codes all-few)
      ∙ any-declared-law v c s holds (λ (d : Kind × ℕ). t d.0 (substitute_level s p M ss d)) q (omega arith)
      ∙ ap (λ (N : Module). any (λ (d : Kind × ℕ). t d.0 (substitute_level s p M ss d)) (declared_in N)) (sym found)

  -- A module is constant.
  variable-kind : (kind : ℕ) → eqb kind variable_kind ≡ is_variable (kind_of kind)
  variable-kind kind = go (eqb kind variable_kind)
    where
      go : (b : Bool) → b ≡ is_variable (cond b variable (constant kind))
      go true = refl
      go false = refl

  no-variable : variable_among facts codes ≡ any (λ (d : Kind × ℕ). is_variable d.0) (declared_in M)
  unfolding variable_among
  no-variable =
      any-each (is_variable_code facts) (λ o. is_declared facts o && is_variable (kind_of (kind_at facts o))) (λ o. ap (λ (b : Bool). is_declared facts o && b) (variable-kind (kind_at facts o))) codes
      ∙ any-declared-law v c s holds (λ (d : Kind × ℕ). is_variable d.0) q (omega arith)
      ∙ ap (λ (N : Module). any (λ (d : Kind × ℕ). is_variable d.0) (declared_in N)) (sym found)

  form-level : (g : ℕ) → g < length s.definitions → level_at (form_at words g) (zeros 0) ≡ card_level s g (zeros (params_of s g))
  form-level g l =
      let n : g < max_definitions = omega (arith, holds.definitions, holds.sized.definitions) in
      let e : get_or itselves g 0 ≡ g = sym (numbers-at 0 max_definitions g n) ∙ zero-add g in
      sym (level-pad (form_at words g) (zeros 0) (params_of s g)) ∙ ap (λ (h : ℕ). level_at (form_at words h) (zeros (params_of s g))) (sym e)
      ∙ forms.definitions g (zeros (params_of s g)) l (zeros-length (params_of s g)) (zeros-low (params_of s g))

  all-even : (gs : List ℕ) → All (λ g. g < length s.definitions) gs → any (uneven_form words) gs ≡ any (λ g. not (eqb 0 (card_level s g (zeros (params_of s g))))) gs
  all-even [] h = refl
  all-even (g ∷ gs) h =
      let n : g < max_definitions = omega (arith, h.0, holds.definitions, holds.sized.definitions) in
      ap₂ ◌||◌ (ap₂ (λ (b : Bool) (l : ℕ). b && not (eqb 0 l)) (lt-ltb g max_definitions n) (form-level g h.0)) (all-even gs h.1)

  constant-law : constant_codes words facts codes (order_of v.orders v.heads q) ≡ is_constant s (source s m)
  unfolding constant_codes uneven_among
  constant-law =
      ap₂ (λ (a b : Bool). not a && not b) no-variable
      (ap (any (uneven_form words)) (ap (λ (N : Module). N.definitions) (holds.shown q (omega arith) ∙ sym found))
      ∙ all-even M.definitions (source_known (length s.definitions) s m good.ended).1)

  -- What was seen decides these causes.
  pub later-law : (b : Bool) → b ≡ constant_codes words facts codes (order_of v.orders v.heads q) → (seen : Seen) → LevelsSeen around_here site_here codes b codes seen
      → (instanced : Bool) → instanced ≡ instance_among facts codes
      → Same (later_causes b seen instanced)
      ((12, substitute_not_level_correct s p (source s m) ss) ∷ (14, unlawful_substitute s p (source s m) ss) ∷ (21, mixed_substitutes s p (source s m) ss)
      ∷ (16, has_named_instance (source s m)) ∷ [])
  unfolding later_causes is_mixed
  later-law b e seen l instanced i = (
    refl,
    any-tested is_incorrect incorrect-fine seen.incorrect l.incorrect,
    λ _. (
      refl,
      unlawfully,
      λ _. (
        refl,
        ap₂ ◌&&◌ same (ap₂ ◌&&◌ two three),
        λ _.
            (refl, i ∙ sixteen, λ _. tt),
      ),
    ),
  )
    where
      same : b ≡ is_constant s M
      same = e ∙ constant-law

      unlawfully : seen.unlawful ≡ unlawful_substitute s p M ss
      unlawfully =
          any-tested (is_unlawful b) (unlawful-fine b) seen.unlawful l.unlawful
          ∙ ap (λ (b : Bool). any (λ (d : Kind × ℕ). not (lawful b d.0 (substitute_level s p M ss d))) (declared_in M)) same

      two : seen.transition ≡ any (eqb 2) (map (substitute_level s p M ss) (declared_in M))
      two = any-tested (is_at 2) two-fine seen.transition l.transition ∙ sym (any-map (substitute_level s p M ss) (eqb 2) (declared_in M))

      three : seen.temporal ≡ any (eqb 3) (map (substitute_level s p M ss) (declared_in M))
      three = any-tested (is_at 3) three-fine seen.temporal l.temporal ∙ sym (any-map (substitute_level s p M ss) (eqb 3) (declared_in M))

      sixteen : instance_among facts codes ≡ has_named_instance (source s m)
      sixteen = named-instance-law v c s holds q (omega arith) ∙ ap has_named_instance (sym found)
