-- What stands before a field gives what its judge asks; and what stands after it, put together from what the judge leaves.
use mathlib.Core.List.{List, [], ◌++◌, ◌∷◌, append-nil}
use mathlib.Core.Option.{Option, none, some}
use mathlib.Core.Path.{◌∙◌, ◌≡◌, ap, refl, subst, subst⁻¹, sym}
use Prim.Native.Nat.{ℕ, ◌+◌, ◌*◌, ◌≤◌, ◌<◌}
use native.Mathlib.Omega.{arith}
use lib.ListN.{get_or, length, length-append}
use Rattle.limits.specs.Limits.{file_bytes, max_declarations, max_definitions}
use Rattle.limits.specs.Sizes.{max_fields, shortest_field_bytes, shortest_payload_bytes}
use Rattle.theory.specs.Lists.{◌∷?◌}
use Rattle.theory.specs.Term.{Kind, constant, variable}
use Rattle.theory.proofs.Lists.{none-some}
use Rattle.rules.specs.Add.{add}
use Rattle.rules.specs.Field.{Field, assume, begin_module, declare_constant, declare_variable, definition, end_module, extends, instance, theorem, write_field}
use Rattle.rules.specs.Judge.{judge}
use Rattle.rules.specs.State.{Added, State}
use Rattle.laws.proofs.Fields.{field-more, field-some}
use Rattle.laws.proofs.Invariant.{good-add}
use Rattle.laws.proofs.LevelCorrect.{level-correct-add}
use Rattle.laws.proofs.Origins.{declaration, origins-add}
use Rattle.laws.proofs.Paths.{paths-add}
use Rattle.laws.proofs.Within.{within-add}
use Rattle.fields.specs.declared.Parts.{Parts}
use Rattle.texts.specs.Text.{Declarations}
use Rattle.text_levels.proofs.OwnWorld.{Shows}
use Rattle.levels.specs.Tables.{scene_of, table_words}
use Rattle.resolve.proofs.Numbers.{Declares, declarations_of, declares-other, few-declarations}
use Rattle.context.specs.Holds.{Holds}
use Rattle.context.specs.Entries.{field_code}
use Rattle.store.specs.Store.{first_at}
use Rattle.store.specs.declared.Store.{Store}
use Rattle.context.specs.declared.Counts.{Counts}
use Rattle.context.proofs.Room.{context-space-for, order-space-for}
use Rattle.worlds.specs.Rows.{Row, new_rows, rows_after}
use Rattle.worlds.proofs.Declared.{covered-add}
use Rattle.worlds.proofs.Depth.{depths-add}
use Rattle.worlds.proofs.Fields.{worlds-add}
use Rattle.judge_plain.proofs.Premises.{fresh-add}
use Rattle.judge_plain.specs.Judges.{phase_of}
use Rattle.judge_plain.specs.declared.Phase.{Phase}
use Rattle.standing.specs.Chained.{Chained}
use Rattle.standing.specs.Grows.{Grows, RowsKept}
use Rattle.standing.specs.Standing.{AtField, DeclaredCodes, Roomy, Standing, itselves}
use Rattle.standing.proofs.Forms.{codes-kept, shows_same}
use Rattle.standing.proofs.Growth.{grows-add}
use Rattle.standing.proofs.Links.{all-chained, rows-counted}
use Rattle.standing.proofs.Names.{first-kept, known-field}
use Rattle.standing.proofs.Texts.{SameBelow}

-- where a field ends
pub bytes-more : (s : State) (f : Field) → (add s f).bytes ≡ s.bytes + length (write_field f)
bytes-more s (begin_module n) = refl
bytes-more s (extends m ms) = refl
bytes-more s (declare_constant n k) = refl
bytes-more s (declare_variable n) = refl
bytes-more s (definition n p e) = refl
bytes-more s (instance n p m ss) = refl
bytes-more s end_module = refl
bytes-more s (assume e) = refl
bytes-more s (theorem e) = refl

-- one declaration more, or none
pub declarations-more : (fs : List Field) (f : Field) → declarations_of (fs ++ (f ∷ [])) ≡ declarations_of fs ++ ◌∷?◌ (declaration f) []
declarations-more [] f = refl
declarations-more (x ∷ fs) f = go (declaration x) (declarations-more fs f)
  where
    go : (o : Option (Kind × ℕ)) → declarations_of (fs ++ (f ∷ [])) ≡ declarations_of fs ++ ◌∷?◌ (declaration f) []
        → ◌∷?◌ o (declarations_of (fs ++ (f ∷ []))) ≡ ◌∷?◌ o (declarations_of fs) ++ ◌∷?◌ (declaration f) []
    go none e = e
    go (some y) e = ap (◌∷◌ y) e

pub declarations-same : (fs : List Field) (f : Field) → declaration f ≡ none → declarations_of (fs ++ (f ∷ [])) ≡ declarations_of fs ++ []
declarations-same fs f e = declarations-more fs f ∙ ap (λ (o : Option (Kind × ℕ)). declarations_of fs ++ ◌∷?◌ o []) e

pub none-counted : (s : State) (f : Field) → declaration f ≡ none → (add s f).declarations ≡ s.declarations
none-counted s (begin_module n) e = omega arith
none-counted s (extends m ms) e = omega arith
none-counted s (declare_constant n k) e = none-some (constant k, n) (sym e)
none-counted s (declare_variable n) e = none-some (variable, n) (sym e)
none-counted s (definition n p b) e = omega arith
none-counted s (instance n p m ss) e = omega arith
none-counted s end_module e = omega arith
none-counted s (assume b) e = omega arith
none-counted s (theorem b) e = omega arith

module _ (file : List ℕ) (fs : List Field) (s : State) (rs : List Row) (v : Store) (c : Counts) (p : Phase) (refs words : List ℕ)
    (stands : Standing file fs s rs v c p refs words) where
  pub fields-counted : c.fields ≡ length fs
  fields-counted = stands.holds.fields ∙ stands.origins.counted

  pub few-declared : length (declarations_of fs) ≤ max_declarations
  few-declared = few-declarations v.facts c fs stands.declares

  -- the numbers of declarations stay
  pub numbers-kept : (v' : Store) → RowsKept v c v' → (i : ℕ) → i < length fs → first_at v'.facts (field_code i) ≡ first_at v.facts (field_code i)
  numbers-kept v' rows i l = first-kept v c v' rows (field_code i) (known-field c (field_code i) (omega arith) (omega (arith, fields-counted)))

  module _ (x : Parts) (f : Field) (at : AtField file s x f) where
    pub room : c.fields < max_fields
    room = omega (arith, fields-counted, stands.apart, stands.within.modules, at.ends, at.inside, at.short, field-some f)

    -- what the code asks
    pub roomy : Roomy v c
    roomy = record {
      modules = stands.holds.sized.modules;
      fields = room;
      declarations = omega (arith, stands.holds.declarations, stands.within.declarations);
      definitions = stands.holds.sized.definitions;
      context_room = λ n l. context-space-for v c s stands.holds n l room;
      order_room = λ n l. order-space-for v c s stands.holds n l;
    }

    pub bytes_inside : (add s f).bytes ≤ length file
    bytes_inside = omega (arith, bytes-more s f, at.ends, at.inside)

    pub bytes_apart : shortest_field_bytes * length (fs ++ (f ∷ [])) ≤ (add s f).bytes + shortest_payload_bytes * length (add s f).ended
    bytes_apart = omega (arith, bytes-more s f, length-append fs (f ∷ []), stands.apart, field-more s f)

    -- All stands after the field: what follows from the rules alone is put to what the judge leaves.
    module _ (lawful : judge s f ≡ none) (v' : Store) (c' : Counts) (p' : Phase) (refs' : List ℕ) (holds' : Holds v' c' (add s f))
        (phase' : phase_of p' ≡ (add s f).phase) where
      pub stands_after : (words' : List ℕ) → Declares v'.facts c' (fs ++ (f ∷ [])) → DeclaredCodes v' (declarations_of (fs ++ (f ∷ []))) v'.declared
          → ((d : ℕ) → d < length (declarations_of (fs ++ (f ∷ []))) → get_or v'.declared d 0 < max_definitions + c'.fields)
          → Shows (scene_of itselves words') (declarations_of (fs ++ (f ∷ []))) (add s f)
          → Chained v' c' file refs' (declarations_of (fs ++ (f ∷ []))) (add s f) (rows_after s rs f) (add s f).bytes → length refs' ≡ file_bytes → length words' ≡ table_words
          → Standing file (fs ++ (f ∷ [])) (add s f) (rows_after s rs f) v' c' p' refs' words'
      stands_after words' declares codes early forms chained refs_size words_size = record {
        holds = holds';
        phase = phase';
        declares = declares;
        codes = codes;
        early = early;
        forms = forms;
        chained = chained;
        refs_size = refs_size;
        words_size = words_size;
        inside = bytes_inside;
        apart = bytes_apart;
        origins = origins-add fs s f stands.origins;
        good = good-add s f at.fits lawful stands.good;
        level_correct = level-correct-add s f at.fits lawful stands.good stands.level_correct;
        within = within-add s f lawful stands.within;
        fresh = fresh-add s f;
        paths = paths-add fs s f stands.origins lawful stands.paths;
        worlds = worlds-add s rs f stands.worlds;
        covered = covered-add fs s rs f stands.origins lawful stands.worlds stands.covered;
        depths = depths-add s rs stands.worlds stands.depths f;
      }

      -- the codes of the declarations stay
      pub still-codes : RowsKept v c v' → v'.declared ≡ v.declared → DeclaredCodes v' (declarations_of fs) v'.declared
      still-codes rows same = subst⁻¹ (DeclaredCodes v' (declarations_of fs)) same (codes-kept v c v' (declarations_of fs) v.declared rows stands.early stands.codes)

      module _ (rows : RowsKept v c v') where
        pub grows : Grows v c v' c'
        grows = grows-add v c s v' c' stands.holds rows stands.fresh f lawful holds'

        -- A field that declares and defines nothing: only the table of names may have grown.
        pub stands-quiet : v'.declared ≡ v.declared → declaration f ≡ none → new_rows s rs f ≡ [] → (add s f).definitions ≡ s.definitions ++ [] → SameBelow s.bytes refs refs' → length refs' ≡ file_bytes
            → Standing file (fs ++ (f ∷ [])) (add s f) (rows_after s rs f) v' c' p' refs' words
        stands-quiet Codes-same none-declared no_rows none-defined same size =
            let more : declarations_of (fs ++ (f ∷ [])) ≡ declarations_of fs ++ [] = declarations-same fs f none-declared in
            let decls : declarations_of (fs ++ (f ∷ [])) ≡ declarations_of fs = more ∙ append-nil (declarations_of fs) in
            let count : c'.definitions ≡ c.definitions =
            holds'.definitions ∙ ap (λ (l : List Added). length l) (none-defined ∙ append-nil s.definitions) ∙ sym stands.holds.definitions in
            let kept = all-chained v c s v' c' stands.holds grows file refs refs' (declarations_of fs) [] s.bytes (add s f).bytes few-declared same
            (omega (arith, bytes-more s f)) (add s f) [] rs [] none-defined (rows-counted v c s rs stands.holds stands.worlds) count stands.chained in
            stands_after words
            (declares-other v.facts v'.facts c c' fs f stands.declares (numbers-kept v' rows) none-declared
            (holds'.declarations ∙ none-counted s f none-declared ∙ sym stands.holds.declarations))
            (subst (λ (d : Declarations). DeclaredCodes v' d v'.declared) (sym decls) (still-codes rows Codes-same))
            (λ d l. rw Codes-same (let k = stands.early d (subst (λ (e : Declarations). d < length e) decls l) in omega (arith, grows.fields)))
            (subst (λ (d : Declarations). Shows (scene_of itselves words) d (add s f)) (sym decls) (shows_same s (add s f) words (declarations_of fs) none-defined stands.forms))
            (subst (λ (d : Declarations). Chained v' c' file refs' d (add s f) (rows_after s rs f) (add s f).bytes) (sym more)
            (subst (λ (us : List Row). Chained v' c' file refs' (declarations_of fs ++ []) (add s f) (rs ++ us) (add s f).bytes) (sym no_rows) kept))
            size stands.words_size
