-- The forms of definitions and declarations stay right: a card does not change by what is defined later.
use mathlib.Core.List.{List, [], ◌++◌, append-nil}
use mathlib.Core.Path.{◌∙◌, ◌≡◌, ap, subst, sym}
use Prim.Native.Nat.{ℕ, ◌+◌, ◌≤◌, ◌<◌}
use native.Mathlib.Nat.{zero-add}
use native.Mathlib.Omega.{arith}
use lib.ListN.{get_or-append, get_or, length}
use Rattle.limits.specs.Limits.{max_definitions}
use Rattle.laws.proofs.CardsKept.{card-kept, params-kept}
use Rattle.theory.specs.Lists.{All}
use Rattle.theory.specs.Term.{Kind, declared_level, kind_arity}
use Rattle.theory.specs.Level.{IsLevel}
use Rattle.rules.specs.State.{Added, State, card_level, params_of}
use Rattle.forms.specs.Forms.{form_at, level_at}
use Rattle.levels.specs.Tables.{scene_of}
use Rattle.levels.proofs.Numbered.{numbers-at}
use Rattle.texts.specs.Text.{Declarations, no_declaration}
use Rattle.text_levels.proofs.OwnWorld.{Shows}
use Rattle.store.specs.declared.Store.{Store}
use Rattle.context.specs.declared.Counts.{Counts}
use Rattle.standing.specs.Grows.{RowsKept}
use Rattle.standing.specs.Standing.{DeclaredCodes, itselves}
use Rattle.standing.proofs.Names.{kind-kept, known-field}

module _ (s s' : State) (ds : List Added) (added : s'.definitions ≡ s.definitions ++ ds) where
  module _ (words words' : List ℕ) (decls : Declarations) (shows : Shows (scene_of itselves words) decls s) where
    -- the definitions there were,
    pub definition-form : length s.definitions ≤ max_definitions → ((g : ℕ) → g < length s.definitions → form_at words' g ≡ form_at words g) → (g : ℕ) (us : List ℕ)
        → g < length s.definitions → length us ≡ params_of s' g → All IsLevel us → (scene_of itselves words').definitions g us ≡ card_level s' g us
    definition-form few same g us l e a =
        let n : get_or itselves g 0 ≡ g = sym (numbers-at 0 max_definitions g (omega arith)) ∙ zero-add g in
        ap (λ (h : ℕ). level_at (form_at words' h) us) n ∙ ap (λ f. level_at f us) (same g l) ∙ sym (ap (λ (h : ℕ). level_at (form_at words h) us) n)
        ∙ shows.definitions g us l (e ∙ params-kept s s' ds added g l) a ∙ sym (card-kept s s' ds added g us l)

    -- and the declarations
    pub declaration-form : (more : Declarations) → ((d : ℕ) → d < length decls → form_at words' (max_definitions + d) ≡ form_at words (max_definitions + d)) → (d : ℕ) (us : List ℕ)
        → d < length decls → length us ≡ kind_arity (get_or (decls ++ more) d no_declaration).0 → All IsLevel us
        → (scene_of itselves words').declarations d us ≡ declared_level (get_or (decls ++ more) d no_declaration).0 (get_or (decls ++ more) d no_declaration).1 us
    declaration-form more same d us l e a =
        let n = get_or-append decls more no_declaration d l in
        ap (λ f. level_at f us) (same d l) ∙ shows.declarations d us l (e ∙ ap (λ (y : Kind × ℕ). kind_arity y.0) n) a
        ∙ sym (ap (λ (y : Kind × ℕ). declared_level y.0 y.1 us) n)

-- where none is added and no form changes
pub shows_same : (s s' : State) (words : List ℕ) (decls : Declarations) → s'.definitions ≡ s.definitions ++ [] → Shows (scene_of itselves words) decls s
    → Shows (scene_of itselves words) decls s'
shows_same s s' words decls added shows = record {
  definitions = λ g us l e a.
      let k : g < length s.definitions = subst (λ (l : List Added). g < length l) (added ∙ append-nil s.definitions) l in
      shows.definitions g us k (e ∙ params-kept s s' [] added g k) a ∙ sym (card-kept s s' [] added g us k);
  declarations = λ d us l e a. shows.declarations d us l e a;
}

-- the codes of the declarations, if they were given before
pub codes-kept : (v : Store) (c : Counts) (v' : Store) (decls : Declarations) (declared : List ℕ) → RowsKept v c v'
    → ((d : ℕ) → d < length decls → get_or declared d 0 < max_definitions + c.fields) → DeclaredCodes v decls declared → DeclaredCodes v' decls declared
codes-kept v c v' decls declared rows early x = record {
  named = λ d l. rows.names (get_or declared d 0) (known-field c (get_or declared d 0) (x.code d l).0 (early d l)) ∙ x.named d l;
  kind = λ d l. kind-kept v c v' rows (get_or declared d 0) (known-field c (get_or declared d 0) (x.code d l).0 (early d l)) ∙ x.kind d l;
  code = x.code;
  few = x.few;
}
