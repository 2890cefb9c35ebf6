-- All stands after a field that defines something.
use mathlib.Core.List.{List, [], ◌++◌, ◌∷◌, append-nil}
use mathlib.Core.Logic.{◌⊎◌}
use mathlib.Core.Option.{none}
use mathlib.Core.Path.{◌∙◌, ◌≡◌, ap, subst, sym}
use Prim.Native.Nat.{ℕ, ◌+◌, ◌≤◌, ◌<◌}
use native.Mathlib.Decide.{dec_lt}
use native.Mathlib.Nat.{zero-add}
use native.Mathlib.Omega.{arith}
use lib.ListN.{get_or, length}
use Rattle.limits.specs.Limits.{file_bytes, max_definitions}
use Rattle.theory.specs.Lists.{All}
use Rattle.theory.specs.Level.{IsLevel}
use Rattle.rules.specs.Add.{add}
use Rattle.rules.specs.Field.{Field}
use Rattle.rules.specs.Judge.{judge}
use Rattle.rules.specs.State.{Added, State, card_level, params_of}
use Rattle.laws.proofs.Origins.{declaration}
use Rattle.fields.specs.declared.Parts.{Parts}
use Rattle.forms.specs.Forms.{form_at, level_at}
use Rattle.levels.specs.Tables.{scene_of, table_words}
use Rattle.levels.proofs.Numbered.{numbers-at}
use Rattle.texts.specs.Text.{Declarations}
use Rattle.text_levels.proofs.OwnWorld.{Shows}
use Rattle.resolve.proofs.Numbers.{declarations_of, declares-other}
use Rattle.context.specs.Holds.{Holds}
use Rattle.store.specs.declared.Store.{Store}
use Rattle.context.specs.declared.Counts.{Counts}
use Rattle.worlds.specs.Rows.{Row, new_rows, no_row, rows_after}
use Rattle.judge_plain.specs.Judges.{phase_of}
use Rattle.judge_plain.specs.declared.Phase.{Phase}
use Rattle.standing.specs.Chained.{Chained, Own, Through}
use Rattle.standing.specs.Grows.{Grows, RowsKept}
use Rattle.standing.specs.Standing.{AtField, DeclaredCodes, Standing, itselves}
use Rattle.standing.proofs.Advancing.{bytes-more, declarations-same, few-declared, grows, none-counted, numbers-kept, stands_after, still-codes}
use Rattle.standing.proofs.Forms.{definition-form}
use Rattle.standing.proofs.Links.{chained-kept, rows-counted}
use Rattle.standing.proofs.Texts.{SameBelow}

module _ (file : List ℕ) (fs : List Field) (s : State) (rs : List Row) (v : Store) (c : Counts) (p : Phase) (refs words : List ℕ)
    (stands : Standing file fs s rs v c p refs words) (x : Parts) (f : Field) (at : AtField file s x f) (lawful : judge s f ≡ none) (v' : Store) (c' : Counts)
    (p' : Phase) (refs' : List ℕ) (holds' : Holds v' c' (add s f)) (phase' : phase_of p' ≡ (add s f).phase) where
  -- A field that defines: an own definition, or those that an instance brings. The forms before it stay; the new ones are right, and so are their chains.
  pub stands-defined : RowsKept v c v' → v'.declared ≡ v.declared → (words' : List ℕ) (ds : List Added) → declaration f ≡ none → (add s f).definitions ≡ s.definitions ++ ds → SameBelow s.bytes refs refs'
      → length refs' ≡ file_bytes → length words' ≡ table_words → ((g : ℕ) → g < c.definitions → form_at words' g ≡ form_at words g)
      → ((d : ℕ) → d < length (declarations_of fs) → form_at words' (max_definitions + d) ≡ form_at words (max_definitions + d))
      → ((g : ℕ) (us : List ℕ) → c.definitions ≤ g → g < c'.definitions → length us ≡ params_of (add s f) g → All IsLevel us → level_at (form_at words' g) us ≡ card_level (add s f) g us)
      → ((D : ℕ) → c.definitions ≤ D → D < c'.definitions
      → Own v' file refs' (declarations_of fs) (add s f) (add s f).bytes (get_or (rows_after s rs f) D no_row) D
      ⊎ Through v' c' file refs' (declarations_of fs) (rows_after s rs f) (add s f).bytes (get_or (rows_after s rs f) D no_row) D)
      → Standing file (fs ++ (f ∷ [])) (add s f) (rows_after s rs f) v' c' p' refs' words'
  stands-defined rows Codes-same words' ds none-declared added same size words_size old-forms old-declared new-forms new-chains =
      stands_after file fs s rs v c p refs words stands x f at lawful v' c' p' refs' holds' phase' words'
      (declares-other v.facts v'.facts c c' fs f stands.declares (numbers-kept file fs s rs v c p refs words stands v' rows) none-declared
      (holds'.declarations ∙ none-counted s f none-declared ∙ sym stands.holds.declarations))
      (subst (λ (d : Declarations). DeclaredCodes v' d v'.declared) (sym decls)
      (still-codes file fs s rs v c p refs words stands x f at lawful v' c' p' refs' holds' phase' rows Codes-same))
      (λ d l. rw Codes-same (let k = stands.early d (subst (λ (e : Declarations). d < length e) decls l) in omega (arith, more.fields)))
      (subst (λ (d : Declarations). Shows (scene_of itselves words') d (add s f)) (sym decls) forms)
      (subst (λ (d : Declarations). Chained v' c' file refs' d (add s f) (rows_after s rs f) (add s f).bytes) (sym decls) chains)
      size words_size
    where
      more : Grows v c v' c'
      more = grows file fs s rs v c p refs words stands x f at lawful v' c' p' refs' holds' phase' rows

      decls : declarations_of (fs ++ (f ∷ [])) ≡ declarations_of fs
      decls = declarations-same fs f none-declared ∙ append-nil (declarations_of fs)

      form : (g : ℕ) (us : List ℕ) → Dec (g < c.definitions) → g < length (add s f).definitions → length us ≡ params_of (add s f) g → All IsLevel us
          → (scene_of itselves words').definitions g us ≡ card_level (add s f) g us
      form g us (yes h) l e a =
          definition-form s (add s f) ds added words words' (declarations_of fs) stands.forms stands.within.definitions
          (λ i k. old-forms i (omega (arith, stands.holds.definitions))) g us (omega (arith, stands.holds.definitions)) e a
      form g us (no h) l e a =
          let k : g < c'.definitions = omega (arith, holds'.definitions) in
          let n : get_or itselves g 0 ≡ g = sym (numbers-at 0 max_definitions g (omega (arith, holds'.sized.definitions))) ∙ zero-add g in
          ap (λ (i : ℕ). level_at (form_at words' i) us) n ∙ new-forms g us (omega arith) k e a

      forms : Shows (scene_of itselves words') (declarations_of fs) (add s f)
      forms = record {
        definitions = λ g us l e a. form g us (dec_lt g c.definitions) l e a;
        declarations = λ d us l e a. ap (λ i. level_at i us) (old-declared d l) ∙ stands.forms.declarations d us l e a;
      }

      chain : (D : ℕ) → Dec (D < c.definitions) → D < c'.definitions
          → Own v' file refs' (declarations_of fs) (add s f) (add s f).bytes (get_or (rows_after s rs f) D no_row) D
          ⊎ Through v' c' file refs' (declarations_of fs) (rows_after s rs f) (add s f).bytes (get_or (rows_after s rs f) D no_row) D
      chain D (yes h) l =
          subst (λ (d : Declarations). Own v' file refs' d (add s f) (add s f).bytes (get_or (rows_after s rs f) D no_row) D
          ⊎ Through v' c' file refs' d (rows_after s rs f) (add s f).bytes (get_or (rows_after s rs f) D no_row) D) (append-nil (declarations_of fs))
          (chained-kept v c s v' c' stands.holds more file refs refs' (declarations_of fs) [] s.bytes (add s f).bytes
          (few-declared file fs s rs v c p refs words stands) same (omega (arith, bytes-more s f)) (add s f) ds rs (new_rows s rs f) added
          (rows-counted v c s rs stands.holds stands.worlds) stands.chained D h)
      chain D (no h) l = new-chains D (omega arith) l

      chains : Chained v' c' file refs' (declarations_of fs) (add s f) (rows_after s rs f) (add s f).bytes
      chains = record { each = λ D l. chain D (dec_lt D c.definitions) l }
