-- From what the parts of `instance_field` promise to what it promises, and what it asks of them.
use borrow.Author.Tests.{eqb-false, eqb-true}
use lib.Dec.{eqb}
use mathlib.Core.Bool.{Bool, false, true}
use mathlib.Core.List.{List, [], ◌++◌, ◌∷◌}
use mathlib.Core.Path.{◌∙◌, ◌≡◌, ap, refl, subst, sym}
use lib.ListN.{get_or}
use native.Mathlib.Omega.{arith}
use Prim.Native.Nat.{◌+◌, ◌-◌, ◌*◌, ◌≤◌, ℕ}
use Rattle.chains.specs.Results.{BroughtForms}
use Rattle.context.specs.Parts.{part, place_of}
use Rattle.store.specs.Store.{order_slot}
use Rattle.store.specs.declared.Store.{Store}
use Rattle.context.specs.Entries.{after_definitions, codes_of, context_codes, order_of}
use Rattle.context.specs.declared.Counts.{Counts}
use Rattle.entering.specs.Substitutes.{around}
use Rattle.entering.specs.declared.substitutes.Site.{Site}
use Rattle.fields.specs.declared.Parts.TheVariants.{Instance}
use Rattle.instance_names.proofs.InOrder.{first_of}
use Rattle.instance_names.specs.Names.{NamesJudged}
use Rattle.instancing.specs.Bringing.{instancing}
use Rattle.judge_plain.proofs.Premises.{no-cause-left}
use Rattle.judge_plain.specs.Causes.{judged, refusal}
use Rattle.judge_plain.specs.Judges.{cause_number}
use Rattle.judge_plain.specs.declared.Judged.{Judged}
use Rattle.judge_plain.specs.declared.Phase.{Phase}
use Rattle.judge_plain.specs.declared.Phase.TheVariants.{Inside}
use Rattle.limits.specs.Limits.{max_definitions, max_modules}
use Rattle.rules.specs.Add.{add}
use Rattle.rules.specs.Field.{Field, Substitution, instance}
use Rattle.rules.specs.Judge.{causes, judge}
use Rattle.rules.specs.State.{State}
use Rattle.standing.proofs.Advancing.{roomy}
use Rattle.standing.proofs.Asking.{instance-inside}
use Rattle.standing.specs.Shown.{owner_shift}
use Rattle.standing.specs.Standing.{Advances, AtField, Judging, Standing, Underway, itselves, underway}
use Rattle.worlds.specs.Rows.{Row, rows_after}
use Rattle.judge_instance.proofs.Advances.{earlier, few, later-right, small-params, stands-brought}
use Rattle.judge_instance.specs.Brought.{Bringable, FieldBrought, FieldLawful}
use Rattle.judge_instance.specs.Levels.{LaterJudged}

-- the field that the parts tell of
module _ (file : List ℕ) (s : State) (n p m k at : ℕ) where
  told : (P : Field → Type 0) (f : Field) → AtField file s (Instance n p m k at) f
      → ((ss : List Substitution) → AtField file s (Instance n p m k at) (instance n p m ss) → P (instance n p m ss)) → P f
  told P f there h =
      let t = there.tells in
      subst P (sym t.3) (h t.0 (subst (AtField file s (Instance n p m k at)) t.3 there))

-- a field that is refused changes nothing that is promised
refused-advances : (file : List ℕ) (fs : List Field) (s : State) (rs : List Row) (f : Field) (r : Judged) (cause : ℕ) (ph : Phase) (c : Counts) (v : Store) (refs words : List ℕ)
    → r ≡ refusal cause ph c → (cause ≡ 0 → ⊥) → cause ≡ cause_number (judge s f) → Advances file fs s rs f r v refs words
refused-advances file fs s rs f r cause ph c v refs words e nz h =
    let z : r.cause ≡ cause = ap (λ (j : Judged). j.cause) e in
    record { cause = z ∙ h; stands = λ (w : r.cause ≡ 0). absurd (nz (sym z ∙ w)) }

module _ (file : List ℕ) (v : Store) (c : Counts) (ph : Phase) (n p m k at cause : ℕ) (refs refs' words : List ℕ)
    (names : (words : List ℕ) → NamesJudged file v c ph words n p m k at cause refs refs') where
  -- one of the first seven causes
  pub judging-names : (r : Judged) → (cause ≡ 0 → ⊥) → r ≡ refusal cause ph c → Judging file (Instance n p m k at) v v c ph r refs refs' words words
  judging-names r nz e =
      record {
        advances = λ fs s rs f stands there.
            told file s n p m k at (λ f. Advances file fs s rs f r v refs' words) f there
            (λ ss t.
            let right = (names words).right fs s rs ss stands t in
            refused-advances file fs s rs (instance n p m ss) r cause ph c v refs' words e nz
            (right.cause ∙ first_of 7 (causes s (instance n p m ss)) (λ z. nz (right.cause ∙ z))));
      }

  module _ (zr : cause ≡ 0) (q : ℕ) (eq : q ≡ place_of m (part v.heads 0 c.modules)) where
    module _ (later : ℕ)
        (judged-later : LaterJudged (around file refs' itselves words v.names v.facts v.contexts v.heads)
        (record { outer = 0; params = p; owner = c.modules; start = at; count = k }) (codes_of v q) (order_of v.orders v.heads q) later) where
      right-later : (fs : List Field) (s : State) (rs : List Row) (ss : List Substitution) → Standing file fs s rs v c ph refs words
          → AtField file s (Instance n p m k at) (instance n p m ss) → later ≡ cause_number (judge s (instance n p m ss))
      right-later fs s rs ss stands t =
          later-right file fs s rs v c ph refs words stands n p m k at ss t cause refs' ((names words).right fs s rs ss stands t) zr later
          (subst (λ (q : ℕ). LaterJudged (around file refs' itselves words v.names v.facts v.contexts v.heads)
          (record { outer = 0; params = p; owner = c.modules; start = at; count = k }) (codes_of v q) (order_of v.orders v.heads q) later) eq judged-later)

      -- one of those that are left
      judging-later : (r : Judged) (v' : Store) (words' : List ℕ) → (later ≡ 0 → ⊥) → r ≡ refusal later ph c
          → Judging file (Instance n p m k at) v v' c ph r refs refs' words words'
      judging-later r v' words' nz e =
          record {
            advances = λ fs s rs f stands there.
                told file s n p m k at (λ f. Advances file fs s rs f r v' refs' words') f there
                (λ ss t. refused-advances file fs s rs (instance n p m ss) r later ph c v' refs' words' e nz (right-later fs s rs ss stands t));
          }

      -- or none
      judging-brought : later ≡ 0 → (r : Judged) (v' : Store) (words' : List ℕ) → FieldBrought file refs' v v' c n p q k at words words' r
          → Judging file (Instance n p m k at) v v' c ph r refs refs' words words'
      judging-brought z r v' words' b =
          record { advances = λ fs s rs f stands there. told file s n p m k at (λ f. Advances file fs s rs f r v' refs' words') f there (advanced fs s rs stands) }
        where
          stored : v' ≡ instancing c n p (place_of m (part v.heads 0 c.modules)) at (k + owner_shift * c.modules) v
          stored = b.stored ∙ ap (λ (q : ℕ). instancing c n p q at (k + owner_shift * c.modules) v) eq

          answered : r ≡ judged 0 Inside (after_definitions (get_or v.heads (order_slot (place_of m (part v.heads 0 c.modules))) 0) c)
          answered = b.answered ∙ ap (λ (q : ℕ). judged 0 Inside (after_definitions (get_or v.heads (order_slot q) 0) c)) eq

          forms : BroughtForms file refs' (instancing c n p (place_of m (part v.heads 0 c.modules)) at (k + owner_shift * c.modules) v)
              (instancing c n p (place_of m (part v.heads 0 c.modules)) at (k + owner_shift * c.modules) v).declared c.declarations c.definitions
              (get_or v.heads (order_slot (place_of m (part v.heads 0 c.modules))) 0) words words'
          forms =
              subst (λ (w : Store). BroughtForms file refs' w w.declared c.declarations c.definitions
              (get_or v.heads (order_slot (place_of m (part v.heads 0 c.modules))) 0) words words') stored
              (subst (λ (q : ℕ). BroughtForms file refs' v' v'.declared c.declarations c.definitions (get_or v.heads (order_slot q) 0) words words') eq b.forms)

          advanced : (fs : List Field) (s : State) (rs : List Row) → Standing file fs s rs v c ph refs words → (ss : List Substitution)
              → AtField file s (Instance n p m k at) (instance n p m ss) → Advances file fs s rs (instance n p m ss) r v' refs' words'
          advanced fs s rs stands ss t =
              let none-holds : cause_number (judge s (instance n p m ss)) ≡ 0 = sym (right-later fs s rs ss stands t) ∙ z in
              let right = (names words).right fs s rs ss stands t in
              subst (λ (w : Store). Advances file fs s rs (instance n p m ss) r w refs' words') (sym stored)
              (record {
                cause = ap (λ (j : Judged). j.cause) answered ∙ sym none-holds;
                stands = λ _. subst (λ (j : Judged). Standing file (fs ++ (instance n p m ss ∷ [])) (add s (instance n p m ss)) (rows_after s rs (instance n p m ss))
                    (instancing c n p (place_of m (part v.heads 0 c.modules)) at (k + owner_shift * c.modules) v) j.counts j.phase refs' words') (sym answered)
                    (stands-brought file fs s rs v c ph refs words stands n p m k at ss t cause refs' right zr (no-cause-left s (instance n p m ss) none-holds) words' forms);
              })

    -- the causes that are left
    pub judging-lawful : (r : Judged) (v' : Store) (words' : List ℕ) → FieldLawful file refs' v v' c ph n p q k at words words' r
        → Judging file (Instance n p m k at) v v' c ph r refs refs' words words'
    judging-lawful r v' words' b = go (eqb b.cause 0) refl
      where
        go : (t : Bool) → eqb b.cause 0 ≡ t → Judging file (Instance n p m k at) v v' c ph r refs refs' words words'
        go true e = let z = eqb-true b.cause 0 e in judging-brought b.cause b.later z r v' words' (b.lawful z)
        go false e = let z = eqb-false b.cause 0 e in judging-later b.cause b.later r v' words' z (b.unlawful z)

-- what the parts ask
module _ (file : List ℕ) (v : Store) (c : Counts) (ph : Phase) (refs words : List ℕ) (n p m k at : ℕ)
    (now : Underway file v c ph refs words (Instance n p m k at)) where
  pub asks-names : (c.modules ≤ max_modules) × (c.definitions ≤ max_definitions)
  asks-names = go now
    where
      go : Underway file v c ph refs words (Instance n p m k at) → (c.modules ≤ max_modules) × (c.definitions ≤ max_definitions)
      go (underway fs s rs f stands there) = (stands.holds.sized.modules, stands.holds.sized.definitions)

  module _ (cause : ℕ) (refs' : List ℕ) (judged-names : (words : List ℕ) → NamesJudged file v c ph words n p m k at cause refs refs')
      (zr : cause ≡ 0) (q : ℕ) (eq : q ≡ place_of m (part v.heads 0 c.modules)) where
    pub bringable : Bringable v words c p q at
    bringable = go now
      where
        go : Underway file v c ph refs words (Instance n p m k at) → Bringable v words c p q at
        go (underway fs s rs f stands atf) =
            let room = roomy file fs s rs v c ph refs words stands (Instance n p m k at) f atf in
            told file s n p m k at (λ f. Bringable v words c p q at) f atf
            (λ ss t.
            let right = (judged-names words).right fs s rs ss stands t in
            let few-here = few file fs s rs v c ph refs words stands n p m k at ss t cause refs' right zr in
            subst (λ (q : ℕ). Bringable v words c p q at) (sym eq)
            (record {
              modules = room.modules;
              earlier = earlier file fs s rs v c ph refs words stands n p m k at ss t cause refs' right zr;
              fields = room.fields;
              declarations = room.declarations;
              params = small-params file fs s rs v c ph refs words stands n p m k at ss t cause refs' right zr;
              inside = instance-inside file v c ph refs words n p m k at now;
              definitions = few-here;
              context_room = room.context_room _ few-here;
              order_room = room.order_room _ few-here;
            }))

-- bring_field
pub brought-done : (file refs : List ℕ) (v v' : Store) (words words' : List ℕ) (c : Counts) (n p q k at : ℕ) (d : Counts)
    → d ≡ after_definitions (get_or v.heads (order_slot q) 0) c → v' ≡ instancing c n p q at (k + owner_shift * c.modules) v
    → BroughtForms file refs v' v'.declared c.declarations c.definitions (d.definitions - c.definitions) words words'
    → FieldBrought file refs v v' c n p q k at words words' (judged 0 Inside d)
brought-done file refs v v' words words' c n p q k at d ed es b =
    let z : d.definitions - c.definitions ≡ get_or v.heads (order_slot q) 0 = ap (λ (x : Counts). x.definitions - c.definitions) ed ∙ omega arith in
    record {
      stored = es;
      forms = subst (λ (i : ℕ). BroughtForms file refs v' v'.declared c.declarations c.definitions i words words') z b;
      answered = ap (judged 0 Inside) ed;
    }

-- forms_between: what it asks
pub more : (c d : Counts) (n : ℕ) → d ≡ after_definitions n c → c.definitions ≤ d.definitions
more c d n e = let y : d.definitions ≡ c.definitions + n = ap (λ (x : Counts). x.definitions) e in omega arith

pub still-few : (v : Store) (words : List ℕ) (c d : Counts) (p q at : ℕ) → Bringable v words c p q at → d ≡ after_definitions (get_or v.heads (order_slot q) 0) c
    → d.definitions ≤ max_definitions
still-few v words c d p q at b e =
    let y : d.definitions ≡ c.definitions + get_or v.heads (order_slot q) 0 = ap (λ (x : Counts). x.definitions) e in omega (arith, b.definitions)

-- lawful_field
module _ (file refs : List ℕ) (v : Store) (words : List ℕ) (c : Counts) (ph : Phase) (n p q k at cause : ℕ) (site : Site)
    (later : LaterJudged (around file refs itselves words v.names v.facts v.contexts v.heads) site (context_codes v.contexts v.heads q)
    (order_of v.orders v.heads q) cause) where
  judged-here : site ≡ record { outer = 0; params = p; owner = c.modules; start = at; count = k }
      → LaterJudged (around file refs itselves words v.names v.facts v.contexts v.heads) (record { outer = 0; params = p; owner = c.modules; start = at; count = k })
      (context_codes v.contexts v.heads q) (order_of v.orders v.heads q) cause
  judged-here here =
      subst (λ (x : Site). LaterJudged (around file refs itselves words v.names v.facts v.contexts v.heads) x (context_codes v.contexts v.heads q)
      (order_of v.orders v.heads q) cause) here later

  pub lawful-not : (r : Judged) → (cause ≡ 0 → ⊥) → r ≡ refusal cause ph c → site ≡ record { outer = 0; params = p; owner = c.modules; start = at; count = k }
      → FieldLawful file refs v v c ph n p q k at words words r
  lawful-not r nz e here = record { cause = cause; later = judged-here here; unlawful = λ _. e; lawful = λ z. absurd (nz z) }

  pub lawful-brought : (v' : Store) (words' : List ℕ) (r : Judged) → cause ≡ 0 → FieldBrought file refs v v' c n p q k at words words' r
      → site ≡ record { outer = 0; params = p; owner = c.modules; start = at; count = k } → FieldLawful file refs v v' c ph n p q k at words words' r
  lawful-brought v' words' r z b here = record { cause = cause; later = judged-here here; unlawful = λ nz. absurd (nz z); lawful = λ _. b }
