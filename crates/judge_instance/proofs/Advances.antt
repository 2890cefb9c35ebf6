-- An INSTANCE field whose first seven causes are clear is judged as the rules judge it, and if it is lawful all stands after it.
use mathlib.Core.List.{List, [], ◌++◌, ◌∷◌}
use mathlib.Core.Logic.{inl, inr}
use mathlib.Core.Option.{none}
use mathlib.Core.Path.{◌∙◌, ◌≡◌, ap, refl, subst⁻¹, sym}
use lib.ListN.{drop, get_or, length, take}
use native.Mathlib.Nat.{zero-add}
use native.Mathlib.Omega.{arith}
use Prim.Native.Nat.{◌+◌, ◌*◌, ◌<◌, ◌≤◌, ℕ}
use Rattle.chains.specs.Ready.{FormsBelow, Ready}
use Rattle.chains.specs.Results.{BroughtForms}
use Rattle.context.proofs.Extends.{source-law}
use Rattle.context.proofs.Parts.{part_length}
use Rattle.context.specs.Holds.{Holds, module_no}
use Rattle.context.specs.Parts.{part, place_of}
use Rattle.context.specs.Entries.{after_definitions, codes_of, order_of}
use Rattle.store.specs.Store.{order_slot}
use Rattle.store.specs.declared.Store.{Store}
use Rattle.context.specs.declared.Counts.{Counts}
use Rattle.entering.specs.Substitutes.{around}
use Rattle.entering.specs.Written.{written_at}
use Rattle.fields.specs.declared.Parts.TheVariants.{Instance}
use Rattle.forms.specs.Forms.{form_at, level_at}
use Rattle.instancing.specs.Bringing.{instancing}
use Rattle.instance_names.specs.Names.{Agrees, NamesRight}
use Rattle.judge_plain.specs.Judges.{cause_number}
use Rattle.judge_plain.specs.declared.Phase.{Phase}
use Rattle.judge_plain.specs.declared.Phase.TheVariants.{Inside}
use Rattle.laws.proofs.Causes.{clear-field}
use Rattle.laws.proofs.Invariant.{good-add}
use Rattle.laws.proofs.Within.{within-add}
use Rattle.levels.proofs.Numbered.{numbers-at}
use Rattle.limits.specs.Limits.{max_arity, max_definitions}
use Rattle.limits.specs.Sizes.{max_fields}
use Rattle.resolve.proofs.Numbers.{declarations_of}
use Rattle.rules.specs.Add.{add}
use Rattle.rules.specs.Field.{Field, Substitution, instance, write_field}
use Rattle.rules.specs.Instance.{brought_all, source, substitute, substitution_for}
use Rattle.rules.specs.Judge.{causes, first_cause, judge}
use Rattle.rules.specs.State.{Module, State, no_definition, templates_of}
use Rattle.standing.proofs.Adding.{stands-defined}
use Rattle.standing.proofs.Advancing.{room}
use Rattle.laws.proofs.CardsKept.{card-kept, params-kept}
use Rattle.standing.proofs.Forms.{codes-kept}
use Rattle.standing.proofs.Growth.{grows-add}
use Rattle.standing.specs.Shown.{owner_shift}
use Rattle.standing.specs.Chained.{Chained}
use Rattle.standing.specs.Grows.{RowsKept}
use Rattle.standing.specs.Standing.{AtField, DeclaredCodes, Standing, itselves}
use Rattle.texts.specs.Text.{Declarations}
use Rattle.theory.proofs.Lists.{at_all}
use Rattle.theory.specs.Expand.{arities_of}
use Rattle.theory.specs.Term.{Kind, WellFormed, kind_arity}
use Rattle.worlds.proofs.Declared.{covered-add}
use Rattle.worlds.proofs.Fields.{worlds-add}
use Rattle.worlds.proofs.Invariant.{length-meanings}
use Rattle.worlds.specs.Rows.{Row, rows_after}
use Rattle.judge_instance.proofs.Clearing.{few-new, few-params, formed}
use Rattle.judge_instance.proofs.Chaining.{chained-after}
use Rattle.instance_names.proofs.InOrder.{same_first}
use Rattle.judge_instance.proofs.Bringing.{declared-kept}
use Rattle.judge_instance.proofs.Deciding.{after-names, cleared}
use Rattle.judge_instance.proofs.Field.{rows-kept}
use Rattle.judge_instance.proofs.Holding.{holds_after}
use Rattle.judge_instance.proofs.LevelLaws.{later-law}
use Rattle.judge_instance.specs.Cleared.{Cleared}
use Rattle.judge_instance.specs.Levels.{LaterJudged, later_causes}

module _ (file : List ℕ) (fs : List Field) (s : State) (rs : List Row) (v : Store) (c : Counts) (ph : Phase) (refs words : List ℕ)
    (stands : Standing file fs s rs v c ph refs words) (n p m k at : ℕ) (ss : List Substitution)
    (there : AtField file s (Instance n p m k at) (instance n p m ss)) (r₁ : ℕ) (refs' : List ℕ)
    (names : NamesRight file fs s v c n p m k at ss r₁ refs refs') (zero₁ : r₁ ≡ 0) where
  abbrev f : Field
  f = instance n p m ss

  -- the module instanced
  abbrev pub q : ℕ
  q = place_of m (part v.heads 0 c.modules)

  pub earlier : q < c.modules
  earlier = names.found zero₁

  found : source s m ≡ module_no s q
  found = source-law v c s stands.holds m q refl earlier

  none_before : cause_number (first_cause (take 7 (causes s (instance n p m ss)))) ≡ 0
  none_before = sym names.cause ∙ zero₁

  pub clear : Cleared s p m ss
  clear = cleared s n p m ss none_before

  room-here : c.fields < max_fields
  room-here = room file fs s rs v c ph refs words stands (Instance n p m k at) f there

  pub small-params : p ≤ max_arity
  small-params = few-params s n p m ss clear

  small : k < owner_shift
  small =
      let t = there.tells in
      let e : t.0 ≡ ss = cc in
      let l : length t.0 ≡ length ss = ap length e in
      omega (arith, there.fits.0.0.1.1.1.0, t.1)

  order-length : get_or v.heads (order_slot q) 0 ≡ length (source s m).definitions
  order-length = sym (part_length v.orders _ (get_or v.heads (order_slot q) 0)) ∙ ap (λ (M : Module). length M.definitions) (stands.holds.shown q (omega (arith, earlier)) ∙ sym found)

  pub few : c.definitions + get_or v.heads (order_slot q) 0 ≤ max_definitions
  few = omega (arith, order-length, stands.holds.definitions, few-new s n p m ss clear)

  -- what the code of the causes that are left asks
  abbrev pub end : ℕ
  end = s.bytes + length (write_field (instance n p m ss))

  agrees : (x : ℕ) → Agrees file refs' (declarations_of fs) end s (written_at k file at x) (substitution_for ss x)
  agrees = names.written zero₁

  formed-here : (d : Kind) (x : ℕ) → WellFormed (arities_of (templates_of s)) (p + kind_arity d) 0 (substitute s p (source s m) ss d x)
  formed-here = formed s n p m ss clear stands.good there.fits

  -- the answer of that code is the rules'
  pub later-right : (r : ℕ)
      → LaterJudged (around file refs' itselves words v.names v.facts v.contexts v.heads)
      (record { outer = 0; params = p; owner = c.modules; start = at; count = k }) (codes_of v q) (order_of v.orders v.heads q) r
      → r ≡ cause_number (judge s (instance n p m ss))
  later-right r later =
      later.cause
      ∙ ap cause_number (same_first (later_causes later.constant later.seen later.named) (drop 7 (causes s (instance n p m ss)))
      (later-law v c s stands.holds fs stands.declares stands.origins stands.good words stands.forms stands.codes.few p m q at k ss earlier found
      small-params clear.known formed-here file refs' end agrees later.constant later.constancy later.seen later.levels later.named later.instances))
      ∙ sym (ap cause_number (after-names s n p m ss none_before))

  -- Bringing a lawful field

  module _ (lawful : judge s (instance n p m ss) ≡ none) where
    abbrev decls : Declarations
    decls = declarations_of fs

    abbrev v₁ : Store
    v₁ = instancing c n p q at (k + owner_shift * c.modules) v

    abbrev c₁ : Counts
    c₁ = after_definitions (get_or v.heads (order_slot q) 0) c

    abbrev s₁ : State
    s₁ = add s (instance n p m ss)

    abbrev rs₁ : List Row
    rs₁ = rows_after s rs (instance n p m ss)

    rows : RowsKept v c v₁
    rows = rows-kept v c stands.holds.sized room-here n p q at (k + owner_shift * c.modules) few

    holds₁ : Holds v₁ c₁ s₁
    holds₁ =
        holds_after v c s stands.holds stands.good stands.within room-here n p m q at (k + owner_shift * c.modules) ss earlier found few stands.paths small-params
        (clear-field s f lawful).1.1.1.1.1.1.1.1.1.1.0

    chained₁ : Chained v₁ c₁ file refs' decls s₁ rs₁ end
    chained₁ =
        chained-after v c s stands.holds fs stands.declares stands.origins stands.good room-here n p m q at k ss earlier found few small clear.known
        (grows-add v c s v₁ c₁ stands.holds rows stands.fresh f lawful holds₁) rs stands.worlds file refs refs' end agrees s.bytes stands.chained names.noted (omega arith)

    -- the codes of the declarations stay
    pub same_codes : v₁.declared ≡ v.declared
    same_codes = declared-kept c n p q at (k + owner_shift * c.modules) v

    ready : Ready file refs' v₁ v₁.declared c.declarations c₁ s₁ rs₁ decls end
    ready =
        let worlds₁ = worlds-add s rs f stands.worlds in
        record {
          counted = holds₁.definitions;
          few = few;
          modules = stands.holds.sized.modules;
          worlds = worlds₁;
          sound = (good-add s f there.fits lawful stands.good).sound;
          named = λ D l. (covered-add fs s rs f stands.origins lawful stands.worlds stands.covered).all D (omega (arith, worlds₁.book.counted, length-meanings s₁));
          chained = chained₁;
          codes = subst⁻¹ (DeclaredCodes v₁ decls) same_codes (codes-kept v c v₁ decls v.declared rows stands.early stands.codes);
          numbered = omega (arith, stands.declares.counted);
          params = λ g l. at_all (λ d. d.params ≤ max_arity) s₁.definitions g no_definition (within-add s f lawful stands.within).params l;
        }

    old-forms : FormsBelow words s₁ c.definitions
    old-forms g us l e a =
        let t : g < length s.definitions = omega (arith, stands.holds.definitions) in
        let i : get_or itselves g 0 ≡ g = sym (numbers-at 0 max_definitions g (omega (arith, stands.holds.sized.definitions))) ∙ zero-add g in
        ap (λ (h : ℕ). level_at (form_at words h) us) (sym i)
        ∙ stands.forms.definitions g us t (e ∙ params-kept s s₁ (brought_all s n p (source s m) ss) refl g t) a
        ∙ sym (card-kept s s₁ (brought_all s n p (source s m) ss) refl g us t)

    module _ (words' : List ℕ) (forms : BroughtForms file refs' v₁ v₁.declared c.declarations c.definitions (get_or v.heads (order_slot q) 0) words words') where
      new-forms : FormsBelow words' s₁ (c.definitions + get_or v.heads (order_slot q) 0)
      new-forms = forms.right c₁ s₁ rs₁ decls end ready (omega arith) old-forms (λ d us l e a. stands.forms.declarations d us l e a)

      -- All stands after it.
      pub stands-brought : Standing file (fs ++ (instance n p m ss ∷ [])) (add s (instance n p m ss)) (rows_after s rs (instance n p m ss))
          (instancing c n p q at (k + owner_shift * c.modules) v) (after_definitions (get_or v.heads (order_slot q) 0) c) Inside refs' words'
      stands-brought =
          stands-defined file fs s rs v c ph refs words stands (Instance n p m k at) f there lawful v₁ c₁ Inside refs' holds₁
          refl rows same_codes words' (brought_all s n p (source s m) ss) refl refl names.noted (names.size ∙ stands.refs_size) (forms.size ∙ stands.words_size)
          (λ g l. forms.others g (inl l)) (λ d l. forms.others (max_definitions + d) (inr (omega (arith, few)))) (λ g us a l e z. new-forms g us l e z) (λ D a l. chained₁.each D l)
