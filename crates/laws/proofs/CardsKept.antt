-- A card does not change by what is defined later; and what is defined has a card that is read over those before it.
use mathlib.Core.List.{List, [], ◌++◌, ◌∷◌, append_assoc, append-nil, map, map-append}
use mathlib.Core.Path.{◌∙◌, ◌≡◌, ap, ap₂, fun_ext, refl, sym}
use lib.ListN.{get_or-append, get_or, length, length-append, length-map}
use lib.Seq.{get_or-append-add}
use native.Mathlib.Omega.{arith}
use Prim.Native.Nat.{◌+◌, ◌<◌, suc, zero, ℕ}
use Rattle.laws.proofs.Invariant.{Good, source_known}
use Rattle.laws.proofs.Sound.{length-templates}
use Rattle.laws.specs.LawfulInstances.{brought_level, level_at_zero}
use Rattle.rules.specs.Add.{add, own_one}
use Rattle.rules.specs.Expression.{Expression}
use Rattle.rules.specs.Field.{Substitution, definition, instance}
use Rattle.rules.specs.Instance.{bring, brought_all, brought_one, source, substitute}
use Rattle.rules.specs.State.{Added, Module, State, card_level, definition_at, here, level_of, meanings, no_definition, params_of, resolve, templates_of, zeros}
use Rattle.theory.proofs.Later.{expand-later}
use Rattle.theory.specs.Expand.{Definition, Template, arities_of, cards, instantiate, no_template, own, summaries_from, summary_in, summary_of, template_of, templates_from}
use Rattle.theory.specs.Lists.{All}
use Rattle.theory.specs.Term.{Kind, Term, WellFormed, kind_arity, level, long_way}

-- summaries of more definitions are those before, and others
pub summaries-later : (ts : List Template) (ss : List (List ℕ → ℕ)) (ds : List Definition) → (us : List (List ℕ → ℕ)) × (summaries_from long_way ts ss ds ≡ ss ++ us)
summaries-later ts ss [] = ([], sym (append-nil ss))
summaries-later ts ss (d ∷ ds) =
    let (us, e) = summaries-later (ts ++ (template_of ts d ∷ [])) (ss ++ (summary_of long_way ts ss d ∷ [])) ds in
    (summary_of long_way ts ss d ∷ us, e ∙ append_assoc ss (summary_of long_way ts ss d ∷ []) us)

pub summaries-append : (ts : List Template) (ss : List (List ℕ → ℕ)) (ds es : List Definition)
    → summaries_from long_way ts ss (ds ++ es) ≡ summaries_from long_way (templates_from ts ds) (summaries_from long_way ts ss ds) es
summaries-append ts ss [] es = refl
summaries-append ts ss (d ∷ ds) es = summaries-append (ts ++ (template_of ts d ∷ [])) (ss ++ (summary_of long_way ts ss d ∷ [])) ds es

pub summaries-length : (ts : List Template) (ss : List (List ℕ → ℕ)) (ds : List Definition) → length (summaries_from long_way ts ss ds) ≡ length ss + length ds
summaries-length ts ss [] = omega arith
summaries-length ts ss (d ∷ ds) =
    summaries-length (ts ++ (template_of ts d ∷ [])) (ss ++ (summary_of long_way ts ss d ∷ [])) ds
    ∙ rw (length-append ss (summary_of long_way ts ss d ∷ [])) (omega arith)

-- the first that is added
pub summary-first : (ts : List Template) (ss : List (List ℕ → ℕ)) (d : Definition) (ds : List Definition)
    → summary_in long_way (summaries_from long_way ts ss (d ∷ ds)) (length ss + 0) ≡ summary_of long_way ts ss d
summary-first ts ss d ds =
    let new = summary_of long_way ts ss d in
    let (us, e) = summaries-later (ts ++ (template_of ts d ∷ [])) (ss ++ (new ∷ [])) ds in
    ap (λ (l : List (List ℕ → ℕ)). summary_in long_way l (length ss + 0)) (e ∙ append_assoc ss (new ∷ []) us) ∙ get_or-append-add ss (new ∷ us) 0 (λ vs. long_way.unknown)

pub cards-later : (ds es : List Definition) (g : ℕ) → g < length ds → cards (ds ++ es) g ≡ cards ds g
cards-later ds es g l =
    let (us, e) = summaries-later (templates_from [] ds) (summaries_from long_way [] [] ds) es in
    ap (λ (ss : List (List ℕ → ℕ)). summary_in long_way ss g) (summaries-append [] [] ds es ∙ e)
    ∙ get_or-append (summaries_from long_way [] [] ds) us (λ vs. long_way.unknown) g (omega (arith, summaries-length [] [] ds))

-- a state with the definitions of another, and perhaps more
module _ (s s' : State) (ds : List Added) (added : s'.definitions ≡ s.definitions ++ ds) where
  meanings-more : meanings s' ≡ meanings s ++ map (λ (d : Added). d.meaning) ds
  meanings-more = ap (map (λ (d : Added). d.meaning)) added ∙ map-append (λ (d : Added). d.meaning) s.definitions ds

  pub definition-kept : (g : ℕ) → g < length s.definitions → definition_at s' g ≡ definition_at s g
  definition-kept g l = ap (λ (l : List Added). get_or l g no_definition) added ∙ get_or-append s.definitions ds no_definition g l

  pub params-kept : (g : ℕ) → g < length s.definitions → params_of s' g ≡ params_of s g
  params-kept g l = ap (λ (d : Added). d.params) (definition-kept g l)

  pub card-kept : (g : ℕ) (us : List ℕ) → g < length s.definitions → card_level s' g us ≡ card_level s g us
  card-kept g us l =
      ap (λ (ds : List Definition). cards ds g us) meanings-more
      ∙ ap (λ (f : List ℕ → ℕ). f us)
      (cards-later (meanings s) (map (λ (d : Added). d.meaning) ds) g (omega (arith, length-map s.definitions (λ (d : Added). d.meaning))))

  pub level-kept : (g : ℕ) → g < length s.definitions → level_at_zero s' g ≡ level_at_zero s g
  level-kept g l = ap (λ (n : ℕ). card_level s' g (zeros n)) (params-kept g l) ∙ card-kept g (zeros (params_of s g)) l

  -- what is added
  pub definition-added : (i : ℕ) → definition_at s' (length s.definitions + i) ≡ get_or ds i no_definition
  definition-added i = ap (λ (l : List Added). get_or l (length s.definitions + i) no_definition) added ∙ get_or-append-add s.definitions ds i no_definition

  pub card-added : (i : ℕ) → cards (meanings s') (length s.definitions + i)
      ≡ summary_in long_way (summaries_from long_way (templates_of s) (summaries_from long_way [] [] (meanings s)) (map (λ (d : Added). d.meaning) ds))
      (length (summaries_from long_way [] [] (meanings s)) + i)
  card-added i =
      let n : length s.definitions + i ≡ length (summaries_from long_way [] [] (meanings s)) + i =
      omega (arith, summaries-length [] [] (meanings s), length-map s.definitions (λ (d : Added). d.meaning)) in
      ap (λ (l : List Definition). cards l (length s.definitions + i)) meanings-more
      ∙ ap (λ (ss : List (List ℕ → ℕ)). summary_in long_way ss (length s.definitions + i)) (summaries-append [] [] (meanings s) (map (λ (d : Added). d.meaning) ds))
      ∙ ap (summary_in long_way (summaries_from long_way (templates_of s) (summaries_from long_way [] [] (meanings s)) (map (λ (d : Added). d.meaning) ds))) n

-- The card of an own definition gives the level of its body, by the cards before it;
pub card-own : (s s' : State) (d : Added) (ds : List Added) (n : ℕ) (t : Term) → s'.definitions ≡ s.definitions ++ (d ∷ ds) → d.meaning ≡ own n t → (g : ℕ)
    → length s.definitions ≡ g → (us : List ℕ) → card_level s' g us ≡ level_of s us t
card-own s s' d ds n t added is g number us =
    let cs = summaries_from long_way [] [] (meanings s) in
    let here : g ≡ length s.definitions + 0 = omega (arith, number) in
    ap (λ (g : ℕ). card_level s' g us) here
    ∙ ap (λ (f : List ℕ → ℕ). f us)
    (card-added s s' (d ∷ ds) added 0 ∙ summary-first (templates_of s) cs d.meaning (map (λ (d : Added). d.meaning) ds) ∙ ap (summary_of long_way (templates_of s) cs) is)

-- with parameters at 0, what cause 12 looks at.
pub own-card : (s : State) (n p : ℕ) (e : Expression) → level_at_zero (add s (definition n p e)) (length s.definitions + 0) ≡ level_of s (zeros p) (resolve s (here s) e)
own-card s n p e =
    let s' = add s (definition n p e) in
    let d = own_one s n p e in
    ap (λ (a : Added). card_level s' (length s.definitions + 0) (zeros a.params)) (definition-added s s' (d ∷ []) refl 0)
    ∙ card-own s s' d [] p (resolve s (here s) e) refl refl (length s.definitions + 0) (omega arith) (zeros p)

-- The card of what an instance brings gives the level of its template, over the definitions before the instance;
module _ (s : State) (good : Good s) (n p m : ℕ) (ss : List Substitution)
    (formed : (k : Kind) (x : ℕ) → WellFormed (arities_of (templates_of s)) (p + kind_arity k) 0 (substitute s p (source s m) ss k x)) where
  abbrev M : Module
  M = source s m

  -- it is the same after those brought before it
  same-template : (g : ℕ) (us : List Template) → g < length s.definitions → template_of (templates_of s ++ us) (bring s p M ss g) ≡ template_of (templates_of s) (bring s p M ss g)
  same-template g us l =
      let K = templates_of s in
      sym (ap₂ (λ (τ : Kind → ℕ → Term) (o : Template). record { params = p + o.params; body = instantiate τ p o.body })
      (fun_ext λ k. fun_ext λ x. expand-later K us (p + kind_arity k) 0 (substitute s p M ss k x) (formed k x))
      (sym (get_or-append K us no_template g (rw (length-templates [] s.definitions) (omega arith)))))

  brought-summaries : (gs : List ℕ) (us : List Template) (cs : List (List ℕ → ℕ)) (i : ℕ) → All (λ g. g < length s.definitions) gs → i < length gs
      → summary_in long_way (summaries_from long_way (templates_of s ++ us) cs (map (λ (d : Added). d.meaning) (map (brought_one s n p M ss) gs))) (length cs + i)
      ≡ (λ vs. level long_way vs (template_of (templates_of s) (bring s p M ss (get_or gs i 0))).body)
  brought-summaries [] us cs i k l = absurd (omega arith)
  brought-summaries (g ∷ gs) us cs zero k l =
      summary-first (templates_of s ++ us) cs (bring s p M ss g) (map (λ (d : Added). d.meaning) (map (brought_one s n p M ss) gs))
      ∙ ap (λ (t : Template). λ vs. level long_way vs t.body) (same-template g us k.0)
  brought-summaries (g ∷ gs) us cs (suc i) k l =
      let t = template_of (templates_of s ++ us) (bring s p M ss g) in
      let c = summary_of long_way (templates_of s ++ us) cs (bring s p M ss g) in
      let q : length cs + suc i ≡ length (cs ++ (c ∷ [])) + i = rw length-append (omega arith) in
      ap₂ (λ (A : List Template) (j : ℕ). summary_in long_way (summaries_from long_way A (cs ++ (c ∷ [])) (map (λ (d : Added). d.meaning) (map (brought_one s n p M ss) gs))) j)
      (append_assoc (templates_of s) us (t ∷ [])) q
      ∙ brought-summaries gs (us ++ (t ∷ [])) (cs ++ (c ∷ [])) i k.1 (omega arith)

  brought-at : (gs : List ℕ) (i : ℕ) → i < length gs → get_or (map (brought_one s n p M ss) gs) i no_definition ≡ brought_one s n p M ss (get_or gs i 0)
  brought-at [] i l = absurd (omega arith)
  brought-at (g ∷ gs) zero l = refl
  brought-at (g ∷ gs) (suc i) l = brought-at gs i (omega arith)

  module _ (i : ℕ) (there : i < length M.definitions) where
    pub brought-definition : definition_at (add s (instance n p m ss)) (length s.definitions + i) ≡ brought_one s n p M ss (get_or M.definitions i 0)
    brought-definition = definition-added s (add s (instance n p m ss)) (brought_all s n p M ss) refl i ∙ brought-at M.definitions i there

    pub card-brought : (us : List ℕ)
        → card_level (add s (instance n p m ss)) (length s.definitions + i) us ≡ level long_way us (template_of (templates_of s) (bring s p M ss (get_or M.definitions i 0))).body
    card-brought us =
        let cs = summaries_from long_way [] [] (meanings s) in
        ap (λ (f : List ℕ → ℕ). f us)
        (card-added s (add s (instance n p m ss)) (brought_all s n p M ss) refl i
        ∙ ap (λ (A : List Template). summary_in long_way (summaries_from long_way A cs (map (λ (d : Added). d.meaning) (brought_all s n p M ss))) (length cs + i)) (sym (append-nil (templates_of s)))
        ∙ brought-summaries M.definitions [] cs i (source_known (length s.definitions) s m good.ended).1 there)

    -- with parameters at 0
    pub brought-card : level_at_zero (add s (instance n p m ss)) (length s.definitions + i) ≡ brought_level s p M ss (get_or M.definitions i 0)
    brought-card =
        ap (λ (a : Added). card_level (add s (instance n p m ss)) (length s.definitions + i) (zeros a.params)) brought-definition
        ∙ card-brought (zeros (p + params_of s (get_or M.definitions i 0)))
